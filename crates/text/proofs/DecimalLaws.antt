-- The kit's decimal digits are those of the definition. Assumes nothing.
use mathlib.Core.Path.{◌≡◌, ap, ◌∙◌}
use mathlib.Core.List.{List, [], ◌∷◌, ◌++◌}
use Prim.Native.Nat.{ℕ, zero, suc, ◌+◌, ◌-◌, ◌*◌, ◌/◌, ◌%◌, ◌^◌, ◌≤◌, ◌<◌}
use native.Mathlib.Nat.{pow-succ', one-le-pow, pow-le-pow_right}
use native.Mathlib.Omega.{arith, by_contra}
use lib.ListN.{take}
use lib.Dec.{lit<}
use borrow.Author.Tests.{lt-ltb, le-ltb}
use Rattle.io.specs.Digits.{hex_digit_ascii, last_digits, IsDigitCount}
use Rattle.text.specs.Text.{decimal_in, decimal, Puts}

glyph_is : (d : ℕ) → d < 10 → hex_digit_ascii d ≡ 48 + d
glyph_is d l = rw (lt-ltb d 10 l)

last_glyph : (n : ℕ) → hex_digit_ascii (n % 10) ≡ 48 + n % 10
last_glyph n = glyph_is (n % 10) (omega arith)

-- of a number with two digits or more
module _ (k n : ℕ) (f : IsDigitCount 10 1 n (suc (suc k))) where
  most : n < 10 * (10 * 10 ^ k)
  most = rw (← pow-succ' 10 k, ← pow-succ' 10 (suc k)) f.1

  least : 10 * 10 ^ k ≤ n
  least =
      let e : suc (suc k) - 1 ≡ suc k = omega arith in
      let h : 10 ^ (suc (suc k) - 1) ≤ n = f.2 (omega arith) in
      rw (e, pow-succ' 10 k) at h

  ten : 10 ≤ n
  ten = omega (arith, least, one-le-pow k 10 (lit< tt))

  fewer : IsDigitCount 10 1 (n / 10) (suc k)
  fewer = (
    omega arith,
    rw (pow-succ' 10 k) (omega (arith, most)),
    λ l.
        let e : suc k - 1 ≡ k = omega arith in
        rw e (omega (arith, least)),
  )

-- as many digits as it takes, and room for them
same_digits : (room k n : ℕ) → k ≤ room → IsDigitCount 10 1 n k → last_digits 10 k n ≡ decimal_in room n
same_digits room zero n l f = absurd (omega (arith, f.0))
same_digits zero (suc k) n l f = absurd (omega arith)
same_digits (suc room) (suc zero) n l f =
    let one : n < 10 = f.1 in
    let e : n % 10 ≡ n = omega arith in
    rw (lt-ltb n 10 one, e) (ap (λ (g : ℕ). g ∷ []) (glyph_is n one))
same_digits (suc room) (suc (suc k)) n l f =
    rw (le-ltb n 10 (ten k n f), last_glyph n) (ap (λ (d : List ℕ). d ++ ((48 + n % 10) ∷ [])) (same_digits room (suc k) (n / 10) (omega arith) (fewer k n f)))

-- a number of 64 bits has room in 20
at_most_20 : (n k : ℕ) → n < 2 ^ 64 → IsDigitCount 10 1 n k → k ≤ 20
at_most_20 n k l f = by_contra k 20 (λ m.
    let h : 10 ^ (k - 1) ≤ n = f.2 (omega arith) in
    let q : 20 ≤ k - 1 = omega arith in
    let p : 10 ^ 20 ≤ 10 ^ (k - 1) = pow-le-pow_right {n = 10} (omega arith) q in
    omega arith)

pub puts_decimal : (lent : List ℕ) (at n k : ℕ) (ds held : List ℕ) (next : ℕ) → n < 2 ^ 64 → IsDigitCount 10 1 n k → take k ds ≡ last_digits 10 k n
    → Puts lent at (take k ds) held next → Puts lent at (decimal n) held next
unfolding decimal
puts_decimal lent at n k ds held next l f e p = rw (e ∙ same_digits 20 k n (at_most_20 n k l f) f) at p
