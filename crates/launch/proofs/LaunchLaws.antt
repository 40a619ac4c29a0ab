-- The launch hash: what a byte that is not refused leaves room for, and the writes that leave sequence and PCRs. Assumes nothing.
use mathlib.Core.Path.{◌≡◌, refl, sym, ap, ◌∙◌}
use mathlib.Core.Bool.{false, true≢false}
use mathlib.Core.List.{List}
use Prim.Native.Nat.{ℕ, ◌<◌}
use borrow.Author.Tests.{leb-false}
use Rattle.pcr.specs.declared.Pcr.{Pcr}
use Rattle.record.specs.Limits.{hash_limit}
use Rattle.record.specs.declared.Launch.{Launch}
use Rattle.bus_resolve.specs.declared.WriteKind.{WriteKind}
use Rattle.bus_resolve.specs.declared.WriteKind.TheVariants.{HashStart, HashEnd, HashData, Ignored, Ordinary}
use Rattle.launch.specs.Launch.{hash_step, overlong, launch_after, pcrs_after}

pub not_overlong : (k : WriteKind) (count : ℕ) → overlong k count ≡ false → k ≡ HashData → count < hash_limit
not_overlong k count t e = leb-false hash_limit count (sym (ap (λ (z : WriteKind). overlong z count) e) ∙ t)

-- every other write leaves both
module _ (l : Launch) where
  pub launch_left : (k : WriteKind) (v : ℕ) → hash_step k ≡ false → launch_after k l v ≡ l
  unfolding launch_after
  launch_left HashStart v t = absurd (true≢false t)
  launch_left HashEnd v t = absurd (true≢false t)
  launch_left HashData v t = absurd (true≢false t)
  launch_left Ignored v t = refl
  launch_left (Ordinary g) v t = refl

  pub pcrs_left : (k : WriteKind) (bank : List Pcr) → hash_step k ≡ false → pcrs_after k l bank ≡ bank
  unfolding pcrs_after
  pcrs_left HashStart bank t = absurd (true≢false t)
  pcrs_left HashEnd bank t = absurd (true≢false t)
  pcrs_left HashData bank t = absurd (true≢false t)
  pcrs_left Ignored bank t = refl
  pcrs_left (Ordinary g) bank t = refl
