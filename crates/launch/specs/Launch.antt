-- The launch hash (document 01, 'The launch hash'; TIS 8): what an accepted write leaves of the hash sequence and the PCRs. Assumes nothing.
use Rattle.std.specs.Prelude.{ℕ, Bool, true, false, List, ◌++◌, leb}
use Rattle.pcr.specs.Bank.{value_at, replaced, launched}
use Rattle.pcr.specs.declared.Pcr.{Pcr}
use Rattle.sha1_block.specs.Sha1.{sha1}
use Rattle.sha1_message.specs.Stream.{begin, join, finish}
use Rattle.record.specs.Limits.{hash_limit}
use Rattle.record.specs.Record.{closed_launch}
use Rattle.record.specs.declared.Launch.{Launch}
use Rattle.bus_resolve.specs.declared.WriteKind.{WriteKind}
use Rattle.bus_resolve.specs.declared.WriteKind.TheVariants.{HashStart, HashEnd, HashData, Ignored, Ordinary}

-- start, end or data; every other write leaves the sequence and the PCRs
abbrev pub hash_step : WriteKind → Bool
hash_step HashStart = true
hash_step HashEnd = true
hash_step HashData = true
hash_step Ignored = false
hash_step (Ordinary g) = false

-- 7: "hash byte number 1,048,577 or later"; count is how many bytes the sequence took
abbrev pub overlong : WriteKind → ℕ → Bool
overlong HashStart count = false
overlong HashEnd count = false
overlong HashData count = leb hash_limit count
overlong Ignored count = false
overlong (Ordinary g) count = false

-- "a new SHA-1 begun (also if one was open)"
abbrev pub begun_launch : Launch
begun_launch = record { sequence = true; stream = begin }

-- "Data bytes join it."
abbrev pub joined : Launch → ℕ → Launch
joined l v = record { sequence = l.sequence; stream = join l.stream v }

-- "End: .. the sequence closes and keeps nothing of the stream"
unfoldable pub launch_after : WriteKind → Launch → ℕ → Launch
launch_after HashStart l v = begun_launch
launch_after HashEnd l v = closed_launch
launch_after HashData l v = joined l v
launch_after Ignored l v = l
launch_after (Ordinary g) l v = l

-- the PCR that a launch is measured into
abbrev pub launch_pcr : ℕ
launch_pcr = 17

-- "PCR 17 becomes SHA-1 of its 20 bytes followed by the 20-byte digest"
abbrev pub measured : List Pcr → Launch → List Pcr
measured bank l = replaced bank launch_pcr (sha1 (value_at bank launch_pcr ++ finish l.stream))

-- start: "PCRs 17 to 22 all 00h"
unfoldable pub pcrs_after : WriteKind → Launch → List Pcr → List Pcr
pcrs_after HashStart l bank = launched bank
pcrs_after HashEnd l bank = measured bank l
pcrs_after HashData l bank = bank
pcrs_after Ignored l bank = bank
pcrs_after (Ordinary g) l bank = bank
