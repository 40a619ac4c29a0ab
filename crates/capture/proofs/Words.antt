-- Which word there is for what n records leave, as W1 says it. Assumes nothing.
use mathlib.Core.Path.{◌≡◌, refl}
use mathlib.Core.Bool.{Bool, true, false}
use Rattle.std.specs.Prelude.{Some, None}
use mathlib.Core.List.{List}
use mathlib.Core.Logic.{◌⊎◌, inl, inr}
use Prim.Native.Nat.{ℕ, ◌+◌, ◌*◌, ◌-◌, ◌≤◌, ◌<◌}
use native.Mathlib.Omega.{arith}
use lib.ListN.{length, length-drop}
use lib.Dec.{eqb, ltb}
use borrow.Author.Tests.{eqb-true, eqb-false, ltb-true, ltb-false, eq-eqb, ne_eqb, lt-ltb, le-ltb}
use Rattle.capture.specs.declared.Word.TheVariants.{Budget, BadKind, BadTail, BadHead}
use Rattle.capture.specs.Capture.{word_for, word_of, count_of}
use Rattle.capture.specs.Claims.{kind_of, Counted, Words}
use Rattle.capture.proofs.RecordLaws.{counted}

-- ---- the word by the tests that lead to it

module _ (limit n left : ℕ) where
  none_left : left ≡ 0 → word_for limit n left ≡ None
  unfolding word_for
  none_left z = rw (eq-eqb left 0 z)

  module _ (some : left ≡ 0 → ⊥) where
    limit_reached : n ≡ limit → word_for limit n left ≡ Some Budget
    unfolding word_for
    limit_reached m = rw (ne_eqb left 0 some, eq-eqb n limit m)

    module _ (below : n ≡ limit → ⊥) where
      no_record : left < 4 → word_for limit n left ≡ Some BadTail
      unfolding word_for
      no_record s = rw (ne_eqb left 0 some, ne_eqb n limit below, lt-ltb left 4 s)

      a_record : 4 ≤ left → word_for limit n left ≡ Some BadKind
      unfolding word_for
      a_record s = rw (ne_eqb left 0 some, ne_eqb n limit below, le-ltb left 4 s)

-- one of the four
data WordCase (limit n left : ℕ) : Type 0 where
  nothing : left ≡ 0 → WordCase limit n left
  budget : (left ≡ 0 → ⊥) → n ≡ limit → WordCase limit n left
  bad_tail : (left ≡ 0 → ⊥) → (n ≡ limit → ⊥) → left < 4 → WordCase limit n left
  bad_kind : (left ≡ 0 → ⊥) → (n ≡ limit → ⊥) → 4 ≤ left → WordCase limit n left

word_case : (limit n left : ℕ) → WordCase limit n left
word_case limit n left = by (eqb left 0) (eqb n limit) (ltb left 4) refl refl refl
  where
    by : (t u v : Bool) → eqb left 0 ≡ t → eqb n limit ≡ u → ltb left 4 ≡ v → WordCase limit n left
    by true u v e f g = nothing (eqb-true left 0 e)
    by false true v e f g = budget (eqb-false left 0 e) (eqb-true n limit f)
    by false false true e f g = bad_tail (eqb-false left 0 e) (eqb-false n limit f) (ltb-true left 4 g)
    by false false false e f g = bad_kind (eqb-false left 0 e) (eqb-false n limit f) (ltb-false left 4 g)

-- no word of a body is that of a bad head
pub no_head_word : (limit n left : ℕ) → word_for limit n left ≡ Some BadHead → ⊥
no_head_word limit n left q = by (word_case limit n left)
  where
    by : WordCase limit n left → ⊥
    by (nothing z) = cc (none_left limit n left z)
    by (budget z m) = cc (limit_reached limit n left z m)
    by (bad_tail z m s) = cc (no_record limit n left z m s)
    by (bad_kind z m s) = cc (a_record limit n left z m s)

-- ---- what each word means

module _ (limit : ℕ) (body : List ℕ) (n : ℕ) (c : Counted limit body n) where
  abbrev left : ℕ
  left = length body - 4 * n

  next_kind : n < limit → 4 * n + 4 ≤ length body → 3 < kind_of body n
  next_kind l w = by c.stops
    where
      by : (n ≡ limit) ⊎ ((length body < 4 * n + 4) ⊎ (3 < kind_of body n)) → 3 < kind_of body n
      by (inl e) = absurd (omega arith)
      by (inr (inl e)) = absurd (omega arith)
      by (inr (inr e)) = e

  words_for : WordCase limit n left → Words limit body n (word_for limit n left)
  words_for (nothing z) =
      let w : 4 * n ≤ length body = c.whole in
      rw (none_left limit n left z) (record {
        nothing = (λ q. omega arith, λ p. refl);
        budget = (λ q. cc, λ p. absurd (omega (arith, p.1)));
        bad_tail = (λ q. cc, λ p. absurd (omega (arith, p.1)));
        bad_kind = (λ q. cc, λ p. absurd (omega (arith, p.1)));
      })
  words_for (budget z m) =
      let w : 4 * n ≤ length body = c.whole in
      rw (limit_reached limit n left z m) (record {
        nothing = (λ q. cc, λ p. absurd (z (omega arith)));
        budget = (λ q. (m, omega arith), λ p. refl);
        bad_tail = (λ q. cc, λ p. absurd (omega (arith, p.0)));
        bad_kind = (λ q. cc, λ p. absurd (omega (arith, p.0)));
      })
  words_for (bad_tail z m s) =
      let w : 4 * n ≤ length body = c.whole in
      let l : n ≤ limit = c.within in
      rw (no_record limit n left z m s) (record {
        nothing = (λ q. cc, λ p. absurd (z (omega arith)));
        budget = (λ q. cc, λ p. absurd (m p.0));
        bad_tail = (λ q. (omega arith, omega arith, omega arith), λ p. refl);
        bad_kind = (λ q. cc, λ p. absurd (omega (arith, p.1)));
      })
  words_for (bad_kind z m s) =
      let w : 4 * n ≤ length body = c.whole in
      let l : n < limit = omega (arith, c.within) in
      rw (a_record limit n left z m s) (record {
        nothing = (λ q. cc, λ p. absurd (z (omega arith)));
        budget = (λ q. cc, λ p. absurd (m p.0));
        bad_tail = (λ q. cc, λ p. absurd (omega (arith, p.2)));
        bad_kind = (λ q. (l, omega arith, next_kind l (omega arith)), λ p. refl);
      })

pub words_of : (limit : ℕ) (body : List ℕ) → Words limit body (count_of limit body) (word_of limit body)
words_of limit body =
    let n : ℕ = count_of limit body in
    rw (length-drop (4 * n) body) (words_for limit body n (counted limit body) (word_case limit n (length body - 4 * n)))
