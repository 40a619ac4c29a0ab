-- What demand 3 counts over a list of events of the waiting book: handovers, requests, and the part of the list while a locality
-- waits. Assumes nothing.
use Rattle.std.specs.Prelude.{ℕ, ◌+◌, ◌-◌, ◌*◌, Bool, true, false, cond, not, ◌&&◌, List, [], ◌∷◌, eqb}
use Rattle.arbiter_model.specs.Model.{Model, Holder, free, held, Event, restart, hash_start, hash_end, access, nothing, AccessBit, request_use, active_locality, seize, been_seized, ignores_page, step}

unfoldable pub run : Model → List Event → Model
run m [] = m
run m (e ∷ es) = run (step m e) es

-- does a write to ACCESS of page x give the device up
abbrev pub relinquishes : AccessBit → Holder → ℕ → Bool
relinquishes request_use h x = false
relinquishes active_locality free x = false
relinquishes active_locality (held y) x = eqb y x
relinquishes seize h x = false
relinquishes been_seized h x = false

-- is the event a handover: bit 5 written by the active locality, or the end of an open sequence
abbrev pub hands_over : Model → Event → Bool
hands_over m restart = false
hands_over m hash_start = false
hands_over m hash_end = m.sequence
hands_over m (access x a) = cond (ignores_page m x) false (relinquishes a m.active x)
hands_over m nothing = false

-- a flag as a number
abbrev pub one : Bool → ℕ
one true = 1
one false = 0

unfoldable pub handovers : Model → List Event → ℕ
handovers m [] = 0
handovers m (e ∷ es) = one (hands_over m e) + handovers (step m e) es

-- an accepted write of y's request
abbrev pub is_request : ℕ → Event → Bool
is_request y restart = false
is_request y hash_start = false
is_request y hash_end = false
is_request y (access x request_use) = eqb y x
is_request y (access x active_locality) = false
is_request y (access x seize) = false
is_request y (access x been_seized) = false
is_request y nothing = false

-- an accepted write of y's bit 5: while y waits, its withdrawal
abbrev pub is_release : ℕ → Event → Bool
is_release y restart = false
is_release y hash_start = false
is_release y hash_end = false
is_release y (access x request_use) = false
is_release y (access x active_locality) = eqb y x
is_release y (access x seize) = false
is_release y (access x been_seized) = false
is_release y nothing = false

-- a power-on, refused or not, or an accepted reset
abbrev pub is_restart : Event → Bool
is_restart restart = true
is_restart hash_start = false
is_restart hash_end = false
is_restart (access x a) = false
is_restart nothing = false

-- how many events of the list pass a test
unfoldable pub tally : (Event → Bool) → List Event → ℕ
tally t [] = 0
tally t (e ∷ es) = one (t e) + tally t es

-- how often y writes its request in the list, whatever comes of it
abbrev pub written : ℕ → Model → List Event → ℕ
written y m es = tally (is_request y) es

-- does y begin to wait: it waits after the event and did not before, so a second request begins nothing anew
abbrev pub begins : ℕ → Model → Event → Bool
begins y m e = not (m.waiting y) && (step m e).waiting y

-- how often y begins to wait in the list
unfoldable pub beginnings : ℕ → Model → List Event → ℕ
beginnings y m [] = 0
beginnings y m (e ∷ es) = one (begins y m e) + beginnings y (step m e) es

-- "as long as it waits": the events while x waits, with the one that ends the wait
abbrev pub while : Bool → Event → List Event → List Event
while true e es = e ∷ es
while false e es = []

unfoldable pub during : ℕ → Model → List Event → List Event
during x m [] = []
during x m (e ∷ es) = while (m.waiting x) e (during x (step m e) es)

-- "handover number (4 - x)(k + 1) + 1"
abbrev pub bound : ℕ → ℕ → ℕ
bound x k = (4 - x) * (k + 1) + 1
