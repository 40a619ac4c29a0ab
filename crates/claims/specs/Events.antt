-- What a call is to the waiting book (document 01, 'The waiting book'). Assumes nothing.
use Rattle.std.specs.Prelude.{ℕ, zero, suc, Bool, List, [], ◌∷◌}
use Rattle.arbiter_model.specs.Model.{Model, Event, restart, nothing, write_event, fresh}
use Rattle.arbiter_model.specs.Waits.{run}
use Rattle.claims.specs.Calls.{Call, power_on, reset, read, write, respond, pcr_value, interrupt_line, may_reset, may_extend, window, State, Answer, refusal_of}

-- what a call enters in a book: a power-on, or an accepted reset, write of a byte at an offset, read at an offset or answer; or nothing
pub data Entry : Type 0 where
  powered_on : Bool → List ℕ → Entry
  restarted : Entry
  written : ℕ → ℕ → Entry
  read_at : ℕ → Entry
  answered : List ℕ → Entry
  none : Entry

-- "The book is fed which call it is, its arguments other than the record and the FIFOs, its refusal number, and nothing else." "Any other
-- refused call changes nothing in it."
abbrev pub entry_of : Call → ℕ → Entry
entry_of (power_on established identity) n = powered_on established identity
entry_of reset zero = restarted
entry_of reset (suc n) = none
entry_of (read o) zero = read_at o
entry_of (read o) (suc n) = none
entry_of (write o v) zero = written o v
entry_of (write o v) (suc n) = none
entry_of (respond run a) zero = answered a
entry_of (respond run a) (suc n) = none
entry_of (pcr_value i) n = none
entry_of interrupt_line n = none
entry_of (may_reset i x) n = none
entry_of (may_extend i x) n = none
entry_of window n = none

-- the waiting book's event: "A power-on, refused or not, and an accepted reset" start anew; "All else changes nothing."
abbrev pub event_for : Entry → Event
event_for (powered_on established identity) = restart
event_for restarted = restart
event_for (written o v) = write_event o v
event_for (read_at o) = nothing
event_for (answered a) = nothing
event_for none = nothing

abbrev pub event_of : Call → ℕ → Event
event_of c n = event_for (entry_of c n)

-- the event of a call that is handed s
abbrev pub happens : Call → State → Event
happens c s = event_of c (refusal_of c s)

unfoldable pub events : List (Call × Answer) → List Event
events [] = []
events (c ∷ cs) = event_of c.0 c.1.refusal ∷ events cs

-- the book after a list of calls
unfoldable pub model_after : List (Call × Answer) → Model
model_after cs = run fresh (events cs)
