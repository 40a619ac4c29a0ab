-- The values of the 24 PCRs. Assumes nothing.
use Rattle.std.specs.Prelude.{ℕ, Bool, ◌&&◌, List, [], ◌++◌, leb, get_or, take, drop, set, replicate}
use Rattle.pcr.specs.declared.Pcr.{Pcr}

-- 'What the device record carries': 24 PCRs
abbrev pub pcrs : ℕ
pcrs = 24

-- 'What the device record carries': a PCR is twenty bytes
abbrev pub pcr : List ℕ → Pcr
pcr value = record { bytes = value }

-- all twenty of them b
abbrev pub all_bytes : ℕ → List ℕ
all_bytes b = replicate 20 b

-- what a list reads as past its end; no PCR of a bank is this
abbrev pub no_pcr : Pcr
no_pcr = pcr []

-- the value of PCR p
abbrev pub value_at : List Pcr → ℕ → List ℕ
value_at bank p = (get_or bank p no_pcr).bytes

-- PCR p replaced, the others kept
abbrev pub replaced : List Pcr → ℕ → List ℕ → List Pcr
replaced bank p value = set bank p (pcr value)

-- PCRs 17 to 22, the Dynamic RTM's
abbrev pub dynamic : ℕ → Bool
dynamic p = leb 17 p && leb p 22

-- 0 to 16 kept, 17 to 22 all b, 23 kept
unfoldable pub with_dynamic : List Pcr → ℕ → List Pcr
with_dynamic bank b = take 17 bank ++ replicate 6 (pcr (all_bytes b)) ++ drop 23 bank

-- 'What the device record carries', power-on: PCRs 0 to 16 and 23 all 00h, 17 to 22 all FFh (TIS Table 5)
unfoldable pub fresh : List Pcr
fresh = with_dynamic (replicate pcrs (pcr (all_bytes 0))) 255

-- 'The launch hash', start: PCRs 17 to 22 all 00h
abbrev pub launched : List Pcr → List Pcr
launched bank = with_dynamic bank 0
