-- What an accepted call may rely on. Assumes nothing.
use mathlib.Core.Path.{◌≡◌, refl, sym, ap, ◌∙◌}
use mathlib.Core.Bool.{Bool, true, false, cond, not, ◌&&◌, ◌||◌}
use mathlib.Core.List.{List}
use lib.ListN.{length}
use Prim.Native.Nat.{ℕ, ◌<◌, ◌≤◌}
use native.Mathlib.Omega.{arith}
use lib.Dec.{eqb, leb, ltb}
use borrow.Author.Tests.{leb-false, ltb-false, not-false}
use Rattle.std.specs.Prelude.{Option, None, Some}
use Rattle.std.specs.Option.{option_or}
use Rattle.refusal.specs.declared.Refusal.{Refusal}
use Rattle.refusal.specs.declared.Refusal.TheVariants.{Offset, FifoLength, Run, AnswerLength, Question, Shape}
use Rattle.refusal.proofs.RefusalNumbers.{some_refused}
use Rattle.reg_layout.specs.Offsets.{last_offset}
use Rattle.pcr.specs.Bank.{pcrs}
use Rattle.bits.proofs.TestLaws.{neither}
use Rattle.record.specs.Limits.{fifo_least, fifo_greatest, header}
use Rattle.record_shape.specs.Shape.{lengths_of, lengths_allowed, in_shape}
use Rattle.record_shape.specs.declared.Lengths.{Lengths}
use Rattle.record_shape.specs.declared.ShapeView.{ShapeView}
use Rattle.record_shape.proofs.Clauses.{Allowed, allowed}
use Rattle.call_admission.specs.Refusals.{lent_refusal, bus_refusal, executes, answer_refusal, pcr_refusal}

-- an allowed length fits the shape rule's argument
pub allowed_fits : (l : Lengths) (b : Bool) → b ≡ lengths_allowed l → not b ≡ false → l.write < 65536
allowed_fits l b e t = omega (arith, (allowed l (sym e ∙ not-false b t)).greatest)

-- ---- what an accepted call may rely on

module _ (v : ShapeView) (l : Lengths) where
  -- lengths allowed, record in shape
  pub lent_then : lent_refusal v l ≡ None → Allowed l × (in_shape v l.write ≡ true)
  unfolding lent_refusal
  lent_then e = by (lengths_allowed l) refl (in_shape v l.write) e
    where
      by : (a : Bool) → lengths_allowed l ≡ a → (b : Bool) → cond (not a) (Some FifoLength) (cond (not b) (Some Shape) None) ≡ None → Allowed l × (b ≡ true)
      by true i true q = (allowed l i, refl)
      by true i false q = absurd (some_refused _ q)
      by false i b q = absurd (some_refused _ q)

  module _ (o : ℕ) where
    pub bus_then : bus_refusal v l o ≡ None → (lent_refusal v l ≡ None) × (o ≤ last_offset)
    unfolding bus_refusal
    bus_then e = by (lent_refusal v l) (ltb last_offset o) refl e
      where
        by : (n : Option Refusal) (b : Bool) → ltb last_offset o ≡ b → option_or n (cond b (Some Offset) None) ≡ None → (n ≡ None) × (o ≤ last_offset)
        by None true j q = absurd (some_refused _ q)
        by None false j q = (refl, ltb-false last_offset o j)
        by (Some r) b j q = absurd (some_refused _ q)

  module _ (current answered k : ℕ) (is : answer_refusal v l current answered k ≡ None) where
    pub answer_then : (lent_refusal v l ≡ None) × ((executes v.phase && eqb current answered) ≡ true) × ((ltb k header || ltb l.write k) ≡ false)
    unfolding answer_refusal
    answer_then = by (lent_refusal v l) (executes v.phase && eqb current answered) (ltb k header || ltb l.write k) is
      where
        by : (n : Option Refusal) (b c : Bool) → option_or n (cond (not b) (Some Run) (cond c (Some AnswerLength) None)) ≡ None → (n ≡ None) × (b ≡ true) × (c ≡ false)
        by None true true q = absurd (some_refused _ q)
        by None true false q = (refl, refl, refl)
        by None false c q = absurd (some_refused _ q)
        by (Some r) b c q = absurd (some_refused _ q)

  -- what a later test is not asked, and another run's answer
  pub bus_lent : (o : ℕ) (f : Refusal) → lent_refusal v l ≡ Some f → bus_refusal v l o ≡ Some f
  unfolding bus_refusal
  bus_lent o f e = rw e refl

  pub answer_lent : (current answered k : ℕ) (f : Refusal) → lent_refusal v l ≡ Some f → answer_refusal v l current answered k ≡ Some f
  unfolding answer_refusal
  answer_lent current answered k f e = rw e refl

  pub answer_run : (current answered k : ℕ) → lent_refusal v l ≡ None → (executes v.phase && eqb current answered) ≡ false → answer_refusal v l current answered k ≡ Some Run
  unfolding answer_refusal
  answer_run current answered k e f = rw (e, f) refl

-- the same of lent FIFOs, whose lengths are l
module _ (v : ShapeView) (w r : List ℕ) (l : Lengths) (lent : l ≡ lengths_of w r) where
  lent_allowed : lent_refusal v l ≡ None → Allowed (lengths_of w r)
  lent_allowed e = (lent_then v (lengths_of w r) (rw lent at e)).0

  pub cycle_fits : (o : ℕ) → bus_refusal v l o ≡ None → (o ≤ last_offset) × (fifo_least ≤ length w) × (length w ≤ fifo_greatest) × (length r ≡ length w)
  cycle_fits o is =
      let b : _ = bus_then v l o is in
      let a : _ = lent_allowed b.0 in
      (b.1, a.least, a.greatest, sym a.equal)

  module _ (current answered k : ℕ) (is : answer_refusal v l current answered k ≡ None) where
    answering : Allowed (lengths_of w r)
    answering = lent_allowed (answer_then v l current answered k is).0

    pub answer_fits : k ≤ length r
    answer_fits =
        omega (arith, answering.equal, ltb-false l.write k (neither (ltb k header) (ltb l.write k) (answer_then v l current answered k is).2).1, ap (λ (z : Lengths). z.write) lent)

    pub answer_counts : k < 65536
    answer_counts = omega (arith, answering.equal, answering.greatest, answer_fits)

pub pcr_below : (v : ShapeView) (i : ℕ) → pcr_refusal v i ≡ None → i < pcrs
unfolding pcr_refusal
pcr_below v i is = by (in_shape v fifo_greatest) (leb pcrs i) refl is
  where
    by : (a b : Bool) → leb pcrs i ≡ b → cond (not a) (Some Shape) (cond b (Some Question) None) ≡ None → i < pcrs
    by true true j q = absurd (some_refused _ q)
    by true false j q = leb-false pcrs i j
    by false b j q = absurd (some_refused _ q)
