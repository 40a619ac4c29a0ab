-- The part of a FIFO that is in use lies within both FIFOs. Assumes nothing.
use mathlib.Core.Path.{◌≡◌}
use mathlib.Core.Bool.{true, ◌&&◌}
use mathlib.Core.List.{List}
use Prim.Native.Nat.{ℕ, ◌≤◌, zero-le}
use native.Mathlib.Omega.{arith}
use lib.ListN.{length}
use lib.Dec.{leb}
use borrow.Author.Tests.{leb-true}
use Rattle.std.specs.Prelude.{None}
use Rattle.record.specs.Limits.{header}
use Rattle.record_shape.specs.Shape.{view_of, lengths_of, counts_fit}
use Rattle.record.specs.declared.Device.{Device}
use Rattle.record.specs.declared.Phase.{Phase}
use Rattle.record.specs.declared.Phase.TheVariants.{Idle, Ready, Reception, Execution, Completion}
use Rattle.call_query.specs.Query.{span_in}
use Rattle.bits.proofs.TestLaws.{both_true}
use Rattle.record_shape.proofs.Clauses.{clauses}
use Rattle.call_admission.proofs.RefusalLaws.{lent_then}
use Rattle.call_admission.specs.Refusals.{lent_refusal_of}

span_within : (p : Phase) (c : ℕ) → counts_fit p c ≡ true → ((span_in p).start ≤ (span_in p).stop) × ((span_in p).stop ≤ c)
span_within Idle c e = (zero-le, zero-le)
span_within Ready c e = (zero-le, zero-le)
span_within (Reception n) c e = (zero-le, leb-true n c (both_true (leb 1 n) (leb n c) e).1)
span_within (Execution n) c e = (zero-le, leb-true n c (both_true (leb header n) (leb n c) e).1)
span_within (Completion n k) c e =
    let a : _ = both_true (leb header n && leb n c) (leb k n) e in
    (leb-true k n a.1, leb-true n c (both_true (leb header n) (leb n c) a.0).1)

module _ (d : Device) (w r : List ℕ) (is : lent_refusal_of d w r ≡ None) where
  pub span_fits : ((span_in d.phase).start ≤ (span_in d.phase).stop) × ((span_in d.phase).stop ≤ length w) × ((span_in d.phase).stop ≤ length r)
  span_fits =
      let l : _ = lent_then (view_of d) (lengths_of w r) is in
      let f : _ = span_within d.phase (length w) (clauses (view_of d) (length w) l.1).counts in
      (f.0, f.1, omega (arith, l.0.equal, f.1))
