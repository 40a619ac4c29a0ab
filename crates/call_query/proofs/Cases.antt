-- What a question can come to. Assumes nothing.
use mathlib.Core.Path.{◌≡◌, refl}
use mathlib.Core.Bool.{Bool, true, false, cond, ◌||◌}
use mathlib.Core.List.{List}
use Prim.Native.Nat.{ℕ}
use lib.Dec.{leb}
use Rattle.std.specs.Prelude.{Option, None}
use Rattle.refusal.specs.Refusal.{accepts}
use Rattle.refusal.specs.declared.Refusal.{Refusal}
use Rattle.refusal.proofs.RefusalNumbers.{accepts_true, accepts_false}
use Rattle.arbiter.specs.State.{localities}
use Rattle.pcr.specs.Bank.{pcrs, all_bytes, value_at}
use Rattle.pcr.specs.Permission as table
use Rattle.pcr.specs.Permission.{permission}
use Rattle.pcr.specs.declared.Permission.{Permission}
use Rattle.record.specs.declared.Device.{Device}
use Rattle.call_admission.specs.Refusals.{lent_refusal_of, pcr_refusal_of}
use Rattle.call_query.specs.declared.PcrOutcome.{PcrOutcome}
use Rattle.call_query.specs.Query.{Span, pcr_outcome, pcr_value, no_span, span_in, window_span}

pub data PcrCase (d : Device) (i : ℕ) : PcrOutcome → Type 0 where
  refused : {n : Option Refusal} → (n ≡ None → ⊥) → PcrCase d i (pcr_outcome n (all_bytes 0))
  given : pcr_refusal_of d i ≡ None → PcrCase d i (pcr_outcome None (value_at d.pcrs i))

pub pcr_case : (d : Device) (i : ℕ) → PcrCase d i (pcr_value d i)
unfolding pcr_value
pcr_case d i = by (accepts (pcr_refusal_of d i)) refl
  where
    by : (t : Bool) → accepts (pcr_refusal_of d i) ≡ t
        → PcrCase d i (cond t (pcr_outcome None (value_at d.pcrs i)) (pcr_outcome (pcr_refusal_of d i) (all_bytes 0)))
    by true e = given (accepts_true (pcr_refusal_of d i) e)
    by false e = refused (accepts_false (pcr_refusal_of d i) e)

-- the refusal, and the part of a FIFO
pub data WindowCase (d : Device) (w r : List ℕ) : Option Refusal → Span → Type 0 where
  refused : {n : Option Refusal} → (n ≡ None → ⊥) → WindowCase d w r n no_span
  shows : {n : Option Refusal} → n ≡ None → WindowCase d w r n (span_in d.phase)

pub window_case : (d : Device) (w r : List ℕ) → WindowCase d w r (lent_refusal_of d w r) (window_span d w r)
unfolding window_span
window_case d w r = by (accepts (lent_refusal_of d w r)) refl
  where
    by : (t : Bool) → accepts (lent_refusal_of d w r) ≡ t → WindowCase d w r (lent_refusal_of d w r) (cond t (span_in d.phase) no_span)
    by true e = shows (accepts_true (lent_refusal_of d w r) e)
    by false e = refused (accepts_false (lent_refusal_of d w r) e)

pub data PermissionCase (rule : ℕ → ℕ → Bool) (i x : ℕ) : Permission → Type 0 where
  refused : PermissionCase rule i x table.refused
  given : PermissionCase rule i x (table.given (rule i x))

pub permission_case : (rule : ℕ → ℕ → Bool) (i x : ℕ) → PermissionCase rule i x (permission rule i x)
unfolding permission
permission_case rule i x = by (leb pcrs i || leb localities x)
  where
    by : (t : Bool) → PermissionCase rule i x (cond t table.refused (table.given (rule i x)))
    by true = refused
    by false = given
