-- What an engine's answer can come to. Assumes nothing.
use mathlib.Core.Path.{◌≡◌, refl}
use mathlib.Core.Bool.{Bool, true, false, cond}
use mathlib.Core.List.{List}
use Prim.Native.Nat.{ℕ}
use lib.ListN.{length}
use Rattle.std.specs.Prelude.{Option, None}
use Rattle.refusal.specs.Refusal.{accepts}
use Rattle.refusal.specs.declared.Refusal.{Refusal}
use Rattle.refusal.proofs.RefusalNumbers.{accepts_true, accepts_false}
use Rattle.record.specs.Record.{with_parts}
use Rattle.record.specs.declared.Device.{Device}
use Rattle.record.specs.declared.Phase.TheVariants.{Completion}
use Rattle.reg_sts_write.specs.Completion.{enter_completion}
use Rattle.reg_fifo.specs.Fifo.{clear_fifo, put_answer}
use Rattle.bus_write.specs.Effect.{commanded_control, apply_command}
use Rattle.call_admission.specs.Refusals.{answer_refusal_of}
use Rattle.call_outcome.specs.Result.{Result, result}
use Rattle.call_respond.specs.Respond.{refused_answer, accepted_answer, answer_cycle, left_by, respond}

-- the record of an accepted answer of n bytes
abbrev pub completed_device : Device → ℕ → Device
completed_device d n = with_parts d (commanded_control d.control (enter_completion n d.control.run)) (Completion n 0) d.launch d.pcrs

pub data RespondCase (d : Device) (w r : List ℕ) (run : ℕ) (a : List ℕ) : Result → Type 0 where
  refused : {n : Option Refusal} → n ≡ answer_refusal_of d w r run a → (n ≡ None → ⊥) → RespondCase d w r run a (result n d w r)
  completes : answer_refusal_of d w r run a ≡ None → RespondCase d w r run a (result None (completed_device d (length a)) (clear_fifo w) (put_answer a r))

pub respond_case : (d : Device) (w r : List ℕ) (run : ℕ) (a : List ℕ) → RespondCase d w r run a (respond d w r run a)
unfolding respond answer_cycle accepted_answer apply_command
respond_case d w r run a = by (accepts (answer_refusal_of d w r run a)) refl
  where
    by : (t : Bool) → accepts (answer_refusal_of d w r run a) ≡ t
        → RespondCase d w r run a
        (left_by (cond t (accepted_answer d.control (length a)) (refused_answer (answer_refusal_of d w r run a) d.control d.phase)) d w r a)
    by true e = completes (accepts_true (answer_refusal_of d w r run a) e)
    by false e = refused refl (accepts_false (answer_refusal_of d w r run a) e)
