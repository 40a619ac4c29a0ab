-- The kit's table of digits gives the digits of `hex_of`. Assumes nothing.
use Rattle.std.proofs.Common.{◌≡◌, ℕ, zero, suc, ◌<◌, ◌/◌, ◌%◌, ◌==◌, Bool, true, ◌&&◌, List, [], ◌∷◌, length, slice_index, Result, Ok, Err, refl, ◌∙◌, inl, inr, arith, rules}
use Rattle.std.proofs.lemmas.Bool.{and_parts, cases_lt, eqb-true}
use Rattle.std.specs.Prelude.{IsOk, OnOk}
use Rattle.hex.specs.Hex.{encode_lower, encode_with, lower_digits, IsBytes}
use Rattle.sha1_text.specs.Text.{digit_of, hex_of}
use Rattle.sha1_text.proofs.hex.Goals as goal

-- the first n digits of the table, compared
abbrev same_digits : ℕ → Bool
same_digits zero = true
same_digits (suc n) = slice_index lower_digits n == digit_of n && same_digits n

same_digit : (n d : ℕ) → same_digits n ≡ true → d < n → slice_index lower_digits d ≡ digit_of d
same_digit zero d h lt = absurd (omega arith)
same_digit (suc n) d h lt =
    let parts = and_parts (slice_index lower_digits n == digit_of n) (same_digits n) h in
    elim (cases_lt d n) [
      | inl below ↦ same_digit n d parts.1 below
      | inr top ↦
          let e : d ≡ n = omega arith in
          rw e (eqb-true (slice_index lower_digits n) (digit_of n) parts.0)
    ]

same_text : (m : List ℕ) → IsBytes m → encode_lower m ≡ hex_of m
unfolding encode_with
same_text [] h = refl
same_text (b ∷ m) h =
    let byte = h 0 in
    rw (same_digit 16 (b / 16) refl (omega (arith, byte)), same_digit 16 (b % 16) refl (omega arith), same_text m (λ i. h (suc i))) refl

on_ok : {T E P : Type 0} (r : Result T E) → IsOk r → OnOk r P → P
on_ok (Ok x) ok p = p
on_ok (Err e) ok p = search (rules, ok)

pub returns : goal.returns
returns c =
    let n : length c.args.digest ≡ 20 = search rules in
    on_ok c.encode_to_slice.result (c.encode_to_slice.ensures.fits.1 (omega (arith, n))) c.encode_to_slice.ensures.written
    ∙ same_text c.args.digest (search rules)
