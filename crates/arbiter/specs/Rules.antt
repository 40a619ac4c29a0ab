-- Who holds the device (document 01, 'Who holds the device' and 'The launch hash'; TIS 11.3.10): the rules on the arbiter state. Assumes
-- nothing.
use Rattle.std.specs.Prelude.{ℕ, zero, suc, ◌+◌, Bool, true, false, cond, List, get_or, eqb, ltb, Option, Some, None}
use Rattle.bits.specs.Bits.{bit}
use Rattle.reg_layout.specs.AccessBits as access
use Rattle.reg_layout.specs.Offsets.{hash_locality}
use Rattle.arbiter.specs.declared.Locality.{Locality}
use Rattle.arbiter.specs.declared.Arbiter.{Arbiter}
use Rattle.arbiter.specs.declared.Change.{Change}
use Rattle.arbiter.specs.declared.access.AccessCommand.{AccessCommand}
use Rattle.arbiter.specs.declared.access.AccessCommand.TheVariants.{RequestUse, ActiveLocality, Seize, BeenSeized}
use Rattle.arbiter.specs.State.{localities, locality, with_active, with_waiting, with_seized, waits, holds}

-- a state with what follows from the change: nothing; both FIFOs emptied and Idle; that, and localityChange set
abbrev pub keeps_command : Arbiter → Change
keeps_command s = record { arbiter = s; abort = false; locality_change = false }

abbrev pub aborts_command : Arbiter → Change
aborts_command s = record { arbiter = s; abort = true; locality_change = false }

abbrev pub serves_next : Arbiter → Change
serves_next s = record { arbiter = s; abort = true; locality_change = true }

-- the highest of the localities below n that waits
abbrev pub highest_below : ℕ → List Bool → Option Locality
highest_below zero w = None
highest_below (suc n) w = cond (get_or w n false) (Some (locality n)) (highest_below n w)

-- "the highest waiting locality"
abbrev pub next_owner : List Bool → Option Locality
next_owner w = highest_below localities w

-- y "becomes active and stops waiting"
abbrev pub serve : Arbiter → Locality → Arbiter
serve s y = with_active (with_waiting s y.0 false) (Some y)

-- "Handover: both FIFOs emptied, phase Idle; the highest waiting locality becomes active and stops waiting, and localityChange
-- status is set; with nobody waiting the device is free and that status stays."
abbrev pub hand_to : Option Locality → Arbiter → Change
hand_to None s = aborts_command (with_active s None)
hand_to (Some y) s = serves_next (serve s y)

unfoldable pub handover : Arbiter → Change
handover s = hand_to (next_owner s.waiting) s

-- "A write counts bits 5, 4, 3 and 1 only; with none or more than one of them set it does nothing."
unfoldable pub access_command : ℕ → Option AccessCommand
access_command v =
    cond (eqb (bit access.active_locality v + bit access.been_seized v + bit access.seize v + bit access.request_use v) 1)
    (Some (cond (eqb (bit access.request_use v) 1) RequestUse
    (cond (eqb (bit access.active_locality v) 1) ActiveLocality
    (cond (eqb (bit access.seize v) 1) Seize BeenSeized))))
    None

-- "else x waits"
abbrev pub queued : Arbiter → Locality → Arbiter
queued s x = with_waiting s x.0 true

-- "Bit 1, request: free device, x becomes active; x active already, nothing; else x waits."
abbrev pub request_from : Option Locality → Arbiter → Locality → Change
request_from None s x = keeps_command (with_active s (Some x))
request_from (Some y) s x = cond (eqb y.0 x.0) (keeps_command s) (keeps_command (queued s x))

unfoldable pub request : Arbiter → Locality → Change
request s x = request_from s.active s x

-- "Bit 5: x active, handover; x waiting, it withdraws; else nothing."
unfoldable pub release : Arbiter → Locality → Change
release s x =
    cond (holds s.active x) (handover s)
    (cond (waits s x.0) (keeps_command (with_waiting s x.0 false))
    (keeps_command s))

-- "Bit 3, seize: free device, as a request; active y below x, y is marked seized, x becomes active and no longer waits; else
-- nothing." "A seizure empties both FIFOs and sets Idle too."
abbrev pub seize_from : Option Locality → Arbiter → Locality → Change
seize_from None s x = request_from None s x
seize_from (Some y) s x =
    cond (ltb y.0 x.0)
    (aborts_command (with_seized (serve s x) y.0 true))
    (keeps_command s)

unfoldable pub seize : Arbiter → Locality → Change
seize s x = seize_from s.active s x

-- "Bit 4 clears x's seized mark."
unfoldable pub clear_seized : Arbiter → Locality → Change
clear_seized s x = keeps_command (with_seized s x.0 false)

-- a byte written to ACCESS of page x
abbrev pub commanded : Option AccessCommand → Arbiter → Locality → Change
commanded None s x = keeps_command s
commanded (Some RequestUse) s x = request s x
commanded (Some ActiveLocality) s x = release s x
commanded (Some Seize) s x = seize s x
commanded (Some BeenSeized) s x = clear_seized s x

unfoldable pub write_access : Arbiter → Locality → ℕ → Change
write_access s x v = commanded (access_command v) s x

-- The launch hash: "Start counts if the device is free or 4 is active, else it is ignored"
abbrev pub start_counts : Option Locality → Bool
start_counts None = true
start_counts (Some y) = eqb y.0 hash_locality

-- one that counts: "4 active"
abbrev pub hash_start : Arbiter → Arbiter
hash_start s = with_active s (Some (locality hash_locality))
