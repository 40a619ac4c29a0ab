-- The engine's answer (document 01, 'Commands'). Assumes nothing.
use Rattle.std.specs.Prelude.{ℕ, ◌≡◌, cond, List, length, Option, None}
use Rattle.refusal.specs.Refusal.{accepts}
use Rattle.refusal.specs.declared.Refusal.{Refusal}
use Rattle.record.specs.Record.{with_parts, hash_progress}
use Rattle.record.specs.declared.Control.{Control}
use Rattle.record.specs.declared.Device.{Device}
use Rattle.record.specs.declared.HashProgress.{HashProgress}
use Rattle.record.specs.declared.Phase.{Phase}
use Rattle.record_shape.specs.Shape.{shape_view, lengths_of}
use Rattle.reg_sts_write.specs.Completion.{enter_completion}
use Rattle.reg_fifo.specs.Fifo.{update_write_fifo, update_read_fifo}
use Rattle.reg_fifo.specs.declared.FifoAction.TheVariants.{Keep}
use Rattle.bus_write.specs.Effect.{apply_command}
use Rattle.bus_write.specs.declared.Effect.{Effect}
use Rattle.call_admission.specs.Refusals.{answer_refusal}
use Rattle.call_outcome.specs.Result.{Result, result}
use Rattle.call_respond.specs.declared.AnswerCycle.{AnswerCycle}

-- "A refusal changes nothing"
abbrev pub refused_answer : Option Refusal → Control → Phase → AnswerCycle
refused_answer n k p = record { refusal = n; control = k; phase = p; fifos = Keep }

abbrev pub done : Effect → AnswerCycle
done e = record { refusal = None; control = e.control; phase = e.phase; fifos = e.fifos }

-- k, p and h are the record's; w and r the FIFOs, run and a the answer's number and bytes
abbrev pub refusal_for : Control → Phase → HashProgress → List ℕ → List ℕ → ℕ → List ℕ → Option Refusal
refusal_for k p h w r run a = answer_refusal (shape_view k p h) (lengths_of w r) k.run run (length a)

-- "Entering Completion .. An accepted engine answer does that." n is its length
unfoldable pub accepted_answer : Control → ℕ → AnswerCycle
accepted_answer k n = done (apply_command k (enter_completion n k.run))

-- "2, 6, 3, 4 for engine answers"
unfoldable pub answer_cycle : Control → Phase → HashProgress → List ℕ → List ℕ → ℕ → List ℕ → AnswerCycle
answer_cycle k p h w r run a =
    cond (accepts (refusal_for k p h w r run a))
    (accepted_answer k (length a))
    (refused_answer (refusal_for k p h w r run a) k p)

-- the cycle t of an answer a, with w' and r' in the FIFOs afterwards, is u: the FIFOs are as its action says
pub record Answered (t : AnswerCycle) (w r a w' r' : List ℕ) (u : AnswerCycle) : Type 0 where
  pub cycle : t ≡ u
  pub write_fifo : w' ≡ update_write_fifo t.fifos 0 w
  pub read_fifo : r' ≡ update_read_fifo t.fifos a r

abbrev pub left_by : AnswerCycle → Device → List ℕ → List ℕ → List ℕ → Result
left_by t d w r a =
    result t.refusal
    (with_parts d t.control t.phase d.launch d.pcrs)
    (update_write_fifo t.fifos 0 w)
    (update_read_fifo t.fifos a r)

-- of a record and the lent FIFOs; identity, hash sequence and PCRs stay
unfoldable pub respond : Device → List ℕ → List ℕ → ℕ → List ℕ → Result
respond d w r run a = left_by (answer_cycle d.control d.phase (hash_progress d.launch) w r run a) d w r a
