-- What a write's call of `launch` relies on. Assumes nothing.
use mathlib.Core.Path.{◌≡◌, refl, sym, ap, ◌∙◌}
use mathlib.Core.Bool.{Bool, true, false, cond}
use mathlib.Core.List.{List}
use Prim.Native.Nat.{ℕ, ◌+◌, ◌<◌, ◌^◌}
use native.Mathlib.Omega.{arith}
use Rattle.std.specs.Prelude.{Some}
use Rattle.refusal.specs.Refusal.{accepts}
use Rattle.refusal.specs.declared.Refusal.TheVariants.{HashLength}
use Rattle.record.specs.Limits.{hash_limit}
use Rattle.record.specs.declared.Control.{Control}
use Rattle.record.specs.declared.HashProgress.{HashProgress}
use Rattle.record.specs.declared.Phase.{Phase}
use Rattle.record_shape.specs.Shape.{shape_view, lengths_of}
use Rattle.bus_resolve.specs.Resolve.{resolve}
use Rattle.bus_resolve.specs.declared.WriteKind.{WriteKind}
use Rattle.bus_resolve.specs.declared.WriteKind.TheVariants.{HashData}
use Rattle.launch.specs.Launch.{overlong}
use Rattle.launch.proofs.LaunchLaws.{not_overlong}
use Rattle.call_admission.specs.Refusals.{bus_refusal}
use Rattle.call_bus.specs.declared.writing.WriteCycle.{WriteCycle}
use Rattle.call_bus.specs.Bus.{refused_write, accepted_write, resolved_write, write_cycle}

-- a cycle that is a byte for the sequence comes before the limit
joins_below : (k : Control) (p : Phase) (h : HashProgress) (w r : List ℕ) (o v : ℕ) → (write_cycle k p h w r o v).kind ≡ HashData → h.count < hash_limit
unfolding write_cycle accepted_write
joins_below k p h w r o v = by (accepts (bus_refusal (shape_view k p h) (lengths_of w r) o)) (resolve o h.sequence k.arbiter.active)
  where
    on : (kind : WriteKind) (f : Bool) → overlong kind h.count ≡ f → (cond f (refused_write (Some HashLength) k p) (accepted_write kind o k p w v)).kind ≡ HashData → h.count < hash_limit
    on kind true e q = let z : ◌≡◌ {A = ℕ} 0 1 = cc in absurd (omega arith)
    on kind false e q = not_overlong kind h.count e q

    by : (b : Bool) (kind : WriteKind) → (cond b (resolved_write kind o k p h w v) (refused_write (bus_refusal (shape_view k p h) (lengths_of w r) o) k p)).kind ≡ HashData → h.count < hash_limit
    by true kind q = on kind (overlong kind h.count) refl q
    by false kind q = let z : ◌≡◌ {A = ℕ} 0 1 = cc in absurd (omega arith)

-- a byte that joins fits the count
pub data_counted : (k : Control) (p : Phase) (h : HashProgress) (w r : List ℕ) (o v : ℕ) (t : WriteCycle) → t ≡ write_cycle k p h w r o v → t.kind ≡ HashData → h.count + 1 < 2 ^ 32
data_counted k p h w r o v t e i = let l : h.count < hash_limit = joins_below k p h w r o v (ap (λ (z : WriteCycle). z.kind) (sym e) ∙ i) in omega arith
