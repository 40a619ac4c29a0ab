-- What ACCESS reads (document 01, 'Who holds the device'; document 02, W2; TIS 11.3.10). Assumes nothing.
use Rattle.std.specs.Prelude.{ℕ, zero, suc, ◌+◌, ◌<◌, ◌≡◌, Bool, true, false, not, ◌&&◌, ◌||◌, get_or, eqb}
use Rattle.bits.specs.Bits.{is_set, flag_at}
use Rattle.reg_layout.specs.AccessBits as access
use Rattle.arbiter.specs.State.{localities, waits, holds}
use Rattle.arbiter.specs.declared.Locality.{Locality}
use Rattle.arbiter.specs.declared.Arbiter.{Arbiter}

-- is y a locality other than x
abbrev pub other : ℕ → Locality → Bool
other y x = not (eqb y x.0)

-- does some locality below n, other than x, wait
abbrev pub other_waits_below : ℕ → Arbiter → Locality → Bool
other_waits_below zero s x = false
other_waits_below (suc y) s x = other_waits_below y s x || (waits s y && other y x)

-- pendingRequest of page x, by request W2 of document 02: "1 exactly while a locality other than x waits"
abbrev pub pending_request : Arbiter → Locality → Bool
pending_request s x = other_waits_below localities s x

-- "bit 7 always 1; 5 this locality active; 4 it was seized; 2 pendingRequest ..; 1 this locality waits; 0 the inverse of established.
-- Bits 6 and 3 read 0."
unfoldable pub access_bits : Bool → Bool → Bool → Bool → Bool → ℕ
access_bits active seized pending waiting established =
    flag_at access.tpm_reg_valid_sts true
    + (flag_at access.active_locality active + flag_at access.been_seized seized)
    + (flag_at access.pending_request pending + flag_at access.request_use waiting)
    + flag_at access.tpm_establishment (not established)

abbrev pub access_byte : Arbiter → Bool → Locality → ℕ
access_byte s established x =
    access_bits (holds s.active x) (get_or s.seized x.0 false) (pending_request s x) (waits s x.0) established

-- request W2 as a claim of the byte: "Bit 2 in page x is to be 1 exactly while a locality other than x waits." Each such locality sets the bit, and
-- where it is set there is one
pub record ShowsOthers (s : Arbiter) (established : Bool) (x : Locality) : Type 0 where
  pub shows : (y : ℕ) → y < 5 → (y ≡ x.0 → ⊥) → waits s y ≡ true → is_set 2 (access_byte s established x) ≡ true
  pub means : is_set 2 (access_byte s established x) ≡ true → (y : ℕ) × (y < 5) × (y ≡ x.0 → ⊥) × (waits s y ≡ true)
