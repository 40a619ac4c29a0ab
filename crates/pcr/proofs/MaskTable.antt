-- A table of masks that answers as a rule does, by one test that antt computes. Assumes nothing.
use mathlib.Core.Path.{◌≡◌, refl, sym, ap, subst, ◌∙◌}
use mathlib.Core.Logic.{⊎_elim}
use mathlib.Core.Bool.{Bool, true, false, beq, cond, ◌&&◌, ◌||◌}
use mathlib.Core.List.{List}
use Prim.Native.Nat.{ℕ, zero, suc, ◌<◌}
use native.Mathlib.Nat.{le_of_suc-le-suc, not-suc-le-zero, eq-or-lt_of_le}
use lib.Dec.{T, leb}
use mir.Facts.{and_yes}
use borrow.Author.Tests.{leb-false}
use Rattle.bits.proofs.TestLaws.{neither}
use Rattle.pcr.specs.declared.Permission.{Permission}
use Rattle.pcr.specs.Bank.{pcrs}
use Rattle.arbiter.specs.State.{localities}
use Rattle.pcr.specs.Permission.{refused, given, permission, by_mask}

beq_eq : (a b : Bool) → T (beq a b) → a ≡ b
beq_eq true true t = refl
beq_eq true false t = absurd t
beq_eq false true t = absurd t
beq_eq false false t = refl

abbrev all_below : ℕ → (ℕ → Bool) → Bool
all_below zero f = true
all_below (suc n) f = f n && all_below n f

at : (n : ℕ) (f : ℕ → Bool) → T (all_below n f) → (k : ℕ) → k < n → T (f k)
at zero f t k h = absurd (not-suc-le-zero h)
at (suc n) f t k h =
    let both : T (f n) × T (all_below n f) = and_yes (f n) (all_below n f) t in
    ⊎_elim (λ e. subst (λ (m : ℕ). T (f m)) (sym e) both.0) (λ l. at n f both.1 k l) (eq-or-lt_of_le (le_of_suc-le-suc h))

if_asked : (b : Bool) {u v : Bool} → (b ≡ false → u ≡ v) → cond b refused (given u) ≡ cond b refused (given v)
if_asked true f = refl
if_asked false f = ap given (f refl)

-- the test: bit x of PCR p's mask is what the rule says, for each of the 24 and of the 5
abbrev agree_at : (ℕ → ℕ → Bool) → List ℕ → ℕ → ℕ → Bool
agree_at rule masks p x = beq (by_mask masks p x) (rule p x)

abbrev agree_row : (ℕ → ℕ → Bool) → List ℕ → ℕ → Bool
agree_row rule masks p = all_below localities (agree_at rule masks p)

pub by_masks : (rule : ℕ → ℕ → Bool) (masks : List ℕ) (p x : ℕ) (r : Permission) → r ≡ permission (by_mask masks) p x → T (all_below pcrs (agree_row rule masks)) → r ≡ permission rule p x
unfolding permission
by_masks rule masks p x r e t = e ∙ if_asked (leb pcrs p || leb localities x) same
  where
    same : (leb pcrs p || leb localities x) ≡ false → by_mask masks p x ≡ rule p x
    same h =
        let both : _ = neither (leb pcrs p) (leb localities x) h in
        let row : _ = at pcrs (agree_row rule masks) t p (leb-false pcrs p both.0) in
        beq_eq (by_mask masks p x) (rule p x) (at localities (agree_at rule masks p) row x (leb-false localities x both.1))
