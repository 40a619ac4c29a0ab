-- What is known of lengths that are allowed, and the clauses of a record in shape, one by one. Assumes nothing.
use mathlib.Core.Path.{◌≡◌, refl, sym}
use mathlib.Core.Bool.{Bool, true, false, ◌&&◌, true≢false}
use Prim.Native.Nat.{ℕ, ◌≤◌}
use lib.Dec.{eqb, leb}
use borrow.Author.Tests.{eqb-true, leb-true}
use Rattle.bits.proofs.TestLaws.{both_true}
use Rattle.record.specs.Limits.{fifo_least, fifo_greatest}
use Rattle.record_shape.specs.declared.Lengths.{Lengths}
use Rattle.record_shape.specs.declared.ShapeView.{ShapeView}
use Rattle.record_shape.specs.Shape.{lengths_allowed, active_known, free_unasked, active_unasked, phase_placed, counts_fit, sequence_placed, hash_counted, in_shape}

pub record Allowed (l : Lengths) : Type 0 where
  pub least : fifo_least ≤ l.write
  pub greatest : l.write ≤ fifo_greatest
  pub equal : l.write ≡ l.read

pub allowed : (l : Lengths) → lengths_allowed l ≡ true → Allowed l
unfolding lengths_allowed
allowed l e =
    let p : _ = both_true (leb fifo_least l.write && leb l.write fifo_greatest) (eqb l.write l.read) e in
    let q : _ = both_true (leb fifo_least l.write) (leb l.write fifo_greatest) p.0 in
    record { least = leb-true fifo_least l.write q.0; greatest = leb-true l.write fifo_greatest q.1; equal = eqb-true l.write l.read p.1 }

pub record Clauses (v : ShapeView) (c : ℕ) : Type 0 where
  pub known : active_known v.arbiter.active ≡ true
  pub free : free_unasked v.arbiter.active v.arbiter.waiting ≡ true
  pub own : active_unasked v.arbiter.active v.arbiter.waiting ≡ true
  pub placed : phase_placed v.phase v.arbiter.active v.hash.sequence ≡ true
  pub counts : counts_fit v.phase c ≡ true
  pub opened : sequence_placed v.hash.sequence v.arbiter.active ≡ true
  pub hashed : hash_counted v.hash.sequence v.hash.count ≡ true

-- seven tests joined
seven : (a b c d e f g : Bool) → (a && b && c && d && e && f && g) ≡ true
    → (a ≡ true) × (b ≡ true) × (c ≡ true) × (d ≡ true) × (e ≡ true) × (f ≡ true) × (g ≡ true)
seven true true true true true true g h = (refl, refl, refl, refl, refl, refl, h)
seven true true true true true false g h = absurd (true≢false (sym h))
seven true true true true false f g h = absurd (true≢false (sym h))
seven true true true false e f g h = absurd (true≢false (sym h))
seven true true false d e f g h = absurd (true≢false (sym h))
seven true false c d e f g h = absurd (true≢false (sym h))
seven false b c d e f g h = absurd (true≢false (sym h))

pub clauses : (v : ShapeView) (c : ℕ) → in_shape v c ≡ true → Clauses v c
unfolding in_shape
clauses v c e =
    let h : _ = seven _ _ _ _ _ _ _ e in
    record { known = h.0; free = h.1; own = h.2; placed = h.3; counts = h.4; opened = h.5; hashed = h.6 }
