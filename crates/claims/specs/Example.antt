-- Document 01's example x = 2, k = 1, as a run of calls, by computation: served by the fifth handover, and not before it. Assumes nothing.
use Rattle.std.specs.Prelude.{◌≡◌, true, false, List, [], ◌∷◌, ℕ, take, replicate}
use Rattle.record.specs.declared.Device.{Device}
use Rattle.arbiter_model.specs.Model.{Model, held, Event}
use Rattle.arbiter_model.specs.Waits.{handovers, is_request, is_release, is_restart, tally, during, bound}
use Rattle.claims.specs.Calls.{Call, power_on, reset, read, write, Lent, lent_after, lent_heard}
use Rattle.claims.specs.Events.{events, model_after}
use Rattle.claims.specs.Demand3.{active_in, waits_in}

-- a call with FIFOs of 1,024 bytes, a write, and a call with none, which is refused as 2
abbrev with1024 : Call → Lent
with1024 c = record { call = c; write_fifo = replicate 1024 0; read_fifo = replicate 1024 0 }

abbrev writes : ℕ → ℕ → Lent
writes o v = with1024 (write o v)

abbrev refused : Call → Lent
refused c = record { call = c; write_fifo = []; read_fifo = [] }

-- 1 is active; 0, 4 and 3 wait; 2 begins to wait
abbrev pub before : List Lent
before =
    with1024 (power_on false (replicate 5 0)) ∷ writes 0x1000 0x02 ∷ writes 0x0000 0x02 ∷ writes 0x4000 0x02 ∷ writes 0x3000 0x02
    ∷ writes 0x2000 0x02 ∷ []

-- 4 is served, and its hash sequence's end is a handover too; 4 and 3 ask once more and are served again; then 2. Between them stand
-- calls that count for nothing: a read, 2's second request, attempts to seize from an equal or a higher locality, cleared marks, refused calls
abbrev pub later : List Lent
later =
    writes 0x1000 0x20 ∷ writes 0x2000 0x02 ∷ with1024 (read 0x2000) ∷ writes 0x4028 0x00
    ∷ writes 0x3000 0x08 ∷ writes 0x4020 0x00 ∷ writes 0x4000 0x02 ∷ writes 0x5000 0x02
    ∷ refused reset ∷ refused (write 0x2000 0x20) ∷ writes 0x2000 0x08 ∷ writes 0x2000 0x10
    ∷ writes 0x3000 0x20 ∷ writes 0x3000 0x02 ∷ writes 0x4000 0x08 ∷ writes 0x4000 0x10
    ∷ writes 0x3000 0x10 ∷ writes 0x4000 0x20 ∷ writes 0x3000 0x20 ∷ []

-- the record and the model before the later calls, and what they are to the model; d is whatever was there
abbrev pub record₁ : Device → Device
record₁ d = lent_after d before

abbrev pub model₁ : Device → Model
model₁ d = model_after (lent_heard d before)

abbrev pub later_events : Device → List Event
later_events d = events (lent_heard (record₁ d) later)

pub record Example (d : Device) : Type 0 where
  pub waits : waits_in (record₁ d) 2 ≡ true
  -- the premises, with k = 1
  pub withdrawals : tally (is_release 2) (during 2 (model₁ d) (later_events d)) ≡ 0
  pub restarts : tally is_restart (during 2 (model₁ d) (later_events d)) ≡ 0
  pub requests_of3 : tally (is_request 3) (during 2 (model₁ d) (later_events d)) ≡ 1
  pub requests_of4 : tally (is_request 4) (during 2 (model₁ d) (later_events d)) ≡ 1
  -- the fifth handover serves 2
  pub fifth : bound 2 1 ≡ 5
  pub handed : handovers (model₁ d) (later_events d) ≡ 5
  pub served : active_in (lent_after (record₁ d) later) ≡ held 2
  -- after four it still waits
  pub handed_before : handovers (model₁ d) (events (lent_heard (record₁ d) (take 18 later))) ≡ 4
  pub waits_before : waits_in (lent_after (record₁ d) (take 18 later)) 2 ≡ true
