-- What it is to lie within two offsets. Assumes nothing.
use mathlib.Core.Path.{◌≡◌, refl, sym}
use mathlib.Core.Bool.{Bool, true, false, ◌&&◌, true≢false}
use Prim.Native.Nat.{ℕ, ◌≤◌}
use lib.Dec.{leb}
use borrow.Author.Tests.{leb-true, le-leb}
use Rattle.reg_layout.specs.Offsets.{within}

pub in_within : (a e o : ℕ) → a ≤ o → o ≤ e → within a e o ≡ true
in_within a e o l m = rw (le-leb a o l, le-leb o e m) refl

pub not_within : (a e o : ℕ) → (a ≤ o → o ≤ e → ⊥) → within a e o ≡ false
not_within a e o n = by (leb a o) refl (leb o e) refl
  where
    by : (t : Bool) → leb a o ≡ t → (u : Bool) → leb o e ≡ u → (t && u) ≡ false
    by true p true q = absurd (n (leb-true a o p) (leb-true o e q))
    by true p false q = refl
    by false p u q = refl

pub within_then : (a e o : ℕ) → within a e o ≡ true → (a ≤ o) × (o ≤ e)
within_then a e o t = by (leb a o) refl (leb o e) refl t
  where
    by : (u : Bool) → leb a o ≡ u → (v : Bool) → leb o e ≡ v → (u && v) ≡ true → (a ≤ o) × (o ≤ e)
    by true p true q z = (leb-true a o p, leb-true o e q)
    by true p false q z = absurd (true≢false (sym z))
    by false p v q z = absurd (true≢false (sym z))
