-- What a power-on and a reset can come to. Assumes nothing.
use mathlib.Core.Path.{◌≡◌, refl}
use mathlib.Core.Bool.{Bool, true, false, cond}
use mathlib.Core.List.{List}
use Prim.Native.Nat.{ℕ}
use Rattle.std.specs.Prelude.{Option, None, Some}
use Rattle.refusal.specs.Refusal.{accepts}
use Rattle.refusal.specs.declared.Refusal.{Refusal}
use Rattle.refusal.specs.declared.Refusal.TheVariants.{FifoLength}
use Rattle.refusal.proofs.RefusalNumbers.{accepts_true, accepts_false}
use Rattle.record.specs.Record.{fresh_device}
use Rattle.record.specs.declared.Device.{Device}
use Rattle.record_shape.specs.Shape.{lengths_of, lengths_allowed}
use Rattle.reg_fifo.specs.Fifo.{clear_fifo}
use Rattle.call_admission.specs.Refusals.{lent_refusal_of}
use Rattle.call_outcome.specs.Result.{Result, result}
use Rattle.call_power.specs.Power.{power_on, reset_device, reset}

pub data PowerCase (established : Bool) (identity w r : List ℕ) : Result → Type 0 where
  refused : lengths_allowed (lengths_of w r) ≡ false → PowerCase established identity w r (result (Some FifoLength) (fresh_device established identity 0) w r)
  powered : lengths_allowed (lengths_of w r) ≡ true
      → PowerCase established identity w r (result None (fresh_device established identity 0) (clear_fifo w) (clear_fifo r))

pub power_case : (established : Bool) (identity w r : List ℕ) → PowerCase established identity w r (power_on established identity w r)
unfolding power_on
power_case established identity w r = by (lengths_allowed (lengths_of w r)) refl
  where
    by : (t : Bool) → lengths_allowed (lengths_of w r) ≡ t
        → PowerCase established identity w r
        (cond t (result None (fresh_device established identity 0) (clear_fifo w) (clear_fifo r)) (result (Some FifoLength) (fresh_device established identity 0) w r))
    by true e = powered e
    by false e = refused e

pub data ResetCase (d : Device) (w r : List ℕ) : Result → Type 0 where
  refused : {n : Option Refusal} → n ≡ lent_refusal_of d w r → (n ≡ None → ⊥) → ResetCase d w r (result n d w r)
  anew : lent_refusal_of d w r ≡ None → ResetCase d w r (result None (reset_device d) (clear_fifo w) (clear_fifo r))

pub reset_case : (d : Device) (w r : List ℕ) → ResetCase d w r (reset d w r)
unfolding reset
reset_case d w r = by (accepts (lent_refusal_of d w r)) refl
  where
    by : (t : Bool) → accepts (lent_refusal_of d w r) ≡ t
        → ResetCase d w r (cond t (result None (reset_device d) (clear_fifo w) (clear_fifo r)) (result (lent_refusal_of d w r) d w r))
    by true e = anew (accepts_true (lent_refusal_of d w r) e)
    by false e = refused refl (accepts_false (lent_refusal_of d w r) e)
