-- The leading zeros of the mask of the waiting flags tell the highest waiting locality: a test computed for each of the 32 masks, and the
-- law that makes the rule of it. Assumes nothing.
use mathlib.Core.Path.{◌≡◌, refl, ap, ◌∙◌}
use mathlib.Core.Bool.{Bool, true, false, ◌&&◌}
use mathlib.Core.List.{List, [], ◌∷◌}
use Prim.Native.Nat.{ℕ, zero, suc, ◌+◌, ◌-◌, ◌/◌, ◌≤◌}
use native.Mathlib.Nat.{le_refl, le_trans}
use native.Mathlib.Omega.{arith}
use lib.Dec.{eqb}
use lib.Count.{count_leading_zeros, leading_of_zero, leading_le}
use lib.ListN.{get_or, length}
use borrow.Author.Tests.{eqb-true}
use Rattle.bits.specs.Bits.{flag_at}
use Rattle.bits.proofs.TestLaws.{both_true}
use Rattle.arbiter.specs.declared.Locality.{Locality}
use Rattle.std.specs.Prelude.{Option, Some, None}
use Rattle.arbiter.specs.State.{locality}
use Rattle.arbiter.specs.Rules.{next_owner}

-- ---- a test that is computed true for each list of n flags holds of any such list

abbrev after : Bool → (List Bool → Bool) → List Bool → Bool
after b f l = f (b ∷ l)

abbrev each : ℕ → (List Bool → Bool) → Bool
each zero f = f []
each (suc n) f = each n (after true f) && each n (after false f)

of_each : (n : ℕ) (f : List Bool → Bool) → each n f ≡ true → (l : List Bool) → length l ≡ n → f l ≡ true
of_each zero f t [] e = t
of_each zero f t (b ∷ l) e = absurd (omega (arith, e))
of_each (suc n) f t [] e = absurd (omega (arith, e))
of_each (suc n) f t (true ∷ l) e = of_each n (after true f) (both_true (each n (after true f)) (each n (after false f)) t).0 l (omega (arith, e))
of_each (suc n) f t (false ∷ l) e = of_each n (after false f) (both_true (each n (after true f)) (each n (after false f)) t).1 l (omega (arith, e))

-- ---- an owner as a number, which a test can compare: 0 for nobody, else one more than the locality

abbrev place : Option Locality → ℕ
place None = 0
place (Some x) = suc x.0

abbrev owner : ℕ → Option Locality
owner zero = None
owner (suc x) = Some (locality x)

owner_place : (o : Option Locality) → owner (place o) ≡ o
owner_place None = refl
owner_place (Some x) = refl

-- ---- the mask, and its leading zeros

abbrev mask : List Bool → ℕ
mask w =
    flag_at 0 (get_or w 0 false) + flag_at 1 (get_or w 1 false) + flag_at 2 (get_or w 2 false) + flag_at 3 (get_or w 3 false) + flag_at 4 (get_or w 4 false)

zeros_and_place : (w : List Bool) → count_leading_zeros 8 (mask w) + place (next_owner w) ≡ 8
unfolding count_leading_zeros
zeros_and_place w =
    eqb-true _ 8
    (of_each 5 (λ l. eqb (count_leading_zeros 8 (mask l) + place (next_owner l)) 8) refl
    (get_or w 0 false ∷ get_or w 1 false ∷ get_or w 2 false ∷ get_or w 3 false ∷ get_or w 4 false ∷ []) refl)

-- at most seven where the mask is not 0; n, not 7, so that a wrong number in the code is judged by the owner that it gives
pub zeros_bounded : (m n : ℕ) → (m ≡ 0 → ⊥) → 7 ≤ n → count_leading_zeros 8 m ≤ n
unfolding count_leading_zeros
zeros_bounded zero n p l = absurd (p refl)
zeros_bounded (suc m) n p l = le_trans (leading_le 7 (suc m / 2)) l

-- ---- the returns of `next_owner`, whose five calls of `flag_at` give the parts of the mask

module _ (w : List Bool) (f0 f1 f2 f3 f4 : ℕ)
    (is0 : f0 ≡ flag_at 0 (get_or w 0 false)) (is1 : f1 ≡ flag_at 1 (get_or w 1 false)) (is2 : f2 ≡ flag_at 2 (get_or w 2 false))
    (is3 : f3 ≡ flag_at 3 (get_or w 3 false)) (is4 : f4 ≡ flag_at 4 (get_or w 4 false)) where
  abbrev m : ℕ
  m = f0 + f1 + f2 + f3 + f4

  told : count_leading_zeros 8 m + place (next_owner w) ≡ 8
  told = rw (is0, is1, is2, is3, is4) (zeros_and_place w)

  pub nobody_waits : m ≡ 0 → None ≡ next_owner w
  nobody_waits p = ap owner none ∙ owner_place (next_owner w)
    where
      none : 0 ≡ place (next_owner w)
      none = omega (arith, rw (p, leading_of_zero) at told)

  pub highest_waits : (m ≡ 0 → ⊥) → Some (locality (7 - count_leading_zeros 8 m)) ≡ next_owner w
  highest_waits p = ap owner some ∙ owner_place (next_owner w)
    where
      some : suc (7 - count_leading_zeros 8 m) ≡ place (next_owner w)
      some = omega (arith, told, zeros_bounded m 7 p (le_refl 7))
