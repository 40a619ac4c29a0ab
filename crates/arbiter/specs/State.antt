-- The arbiter state (document 01, 'What the device record carries'): its fresh value, its parts set, and what is asked of it. Assumes nothing.
use Rattle.std.specs.Prelude.{ℕ, Bool, false, ◌||◌, List, get_or, set, replicate, eqb, Option, Some, None}
use Rattle.arbiter.specs.declared.Locality.{Locality}
use Rattle.arbiter.specs.declared.Arbiter.{Arbiter}

-- "none, or 0 to 4"
abbrev pub localities : ℕ
localities = 5

abbrev pub locality : ℕ → Locality
locality x = record { 0 = x }

-- "none active, nobody waits or was seized"
abbrev pub fresh_arbiter : Arbiter
fresh_arbiter = record { active = None; waiting = replicate 5 false; seized = replicate 5 false }

-- one part of the state set
abbrev pub with_active : Arbiter → Option Locality → Arbiter
with_active s o = record { active = o; waiting = s.waiting; seized = s.seized }

abbrev pub with_waiting : Arbiter → ℕ → Bool → Arbiter
with_waiting s x b = record { active = s.active; waiting = set s.waiting x b; seized = s.seized }

abbrev pub with_seized : Arbiter → ℕ → Bool → Arbiter
with_seized s x b = record { active = s.active; waiting = s.waiting; seized = set s.seized x b }

-- does x wait
abbrev pub waits : Arbiter → ℕ → Bool
waits s x = get_or s.waiting x false

-- does anybody wait
abbrev pub any_waits : List Bool → Bool
any_waits w = get_or w 0 false || get_or w 1 false || get_or w 2 false || get_or w 3 false || get_or w 4 false

-- is x the active locality
abbrev pub holds : Option Locality → Locality → Bool
holds None x = false
holds (Some y) x = eqb y.0 x.0
