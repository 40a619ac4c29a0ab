-- pendingRequest: the walk over the localities, and that the bit shows the others' requests and nothing else. Assumes nothing.
use mathlib.Core.Path.{◌≡◌, refl, sym, ◌∙◌, ap}
use mathlib.Core.Bool.{Bool, true, false, cond, not, ◌&&◌, ◌||◌, or-true, true≢false}
use Prim.Native.Nat.{ℕ, zero, suc, ◌+◌, ◌*◌, ◌<◌, ◌≤◌}
use native.Mathlib.Numerals.{add-one}
use native.Mathlib.Omega.{arith}
use lib.Dec.{eqb}
use borrow.Author.Tests.{eqb-true, eqb-false, eq-eqb, ne_eqb, not-true}
use Rattle.bits.specs.Bits.{bit, is_set}
use Rattle.bits.proofs.TestLaws.{both_true}
use Rattle.arbiter.specs.State.{localities, waits}
use Rattle.arbiter.specs.declared.Locality.{Locality}
use Rattle.arbiter.specs.declared.Arbiter.{Arbiter}
use Rattle.reg_access.specs.Access.{other, other_waits_below, pending_request, access_bits, access_byte, ShowsOthers}

-- ---- the byte

scaled : (n : ℕ) (b : Bool) → cond b (8 * n) 0 ≡ 8 * cond b n 0
scaled n true = refl
scaled n false = refl

most : (n : ℕ) (b : Bool) → cond b n 0 ≤ n
most n true = omega arith
most n false = omega arith

bit_2 : (active seized pending waiting established : Bool) → is_set 2 (access_bits active seized pending waiting established) ≡ pending
unfolding access_bits
bit_2 a b true w e =
    let z : bit 2 (access_bits a b true w e) ≡ 1 = omega (arith, scaled 4 a, scaled 2 b, most 2 w, most 1 (not e)) in
    eq-eqb (bit 2 (access_bits a b true w e)) 1 z
bit_2 a b false w e =
    let z : bit 2 (access_bits a b false w e) ≡ 0 = omega (arith, scaled 4 a, scaled 2 b, most 2 w, most 1 (not e)) in
    ne_eqb (bit 2 (access_bits a b false w e)) 1 (λ q. omega arith)

module _ (s : Arbiter) (x : Locality) where
  -- ---- the walk up from locality 0

  pub walk_more : (y : ℕ) (p : Bool) → p ≡ other_waits_below y s x → (p || (waits s y && other y x)) ≡ other_waits_below (y + 1) s x
  walk_more y p e = rw (add-one, e)

  pub walk_end : (y : ℕ) (p : Bool) → p ≡ other_waits_below y s x → localities ≤ y → y ≤ localities → p ≡ pending_request s x
  walk_end y p e l m = let k : y ≡ localities = omega arith in e ∙ ap (λ (n : ℕ). other_waits_below n s x) k

  -- ---- what the bit says

  other_yes : (y : ℕ) → (y ≡ x.0 → ⊥) → other y x ≡ true
  other_yes y d = rw (ne_eqb y x.0 d)

  other_not : (y : ℕ) → other y x ≡ true → y ≡ x.0 → ⊥
  other_not y e = eqb-false y x.0 (not-true (eqb y x.0) e)

  shows_below : (n y : ℕ) → y < n → other y x ≡ true → waits s y ≡ true → other_waits_below n s x ≡ true
  shows_below zero y l d w = absurd (omega arith)
  shows_below (suc n) y l d w = at (eqb y n) refl (λ m. shows_below n y m d w)
    where
      at : (b : Bool) → eqb y n ≡ b → (y < n → other_waits_below n s x ≡ true) → other_waits_below (suc n) s x ≡ true
      at true e ih = rw (← eqb-true y n e, w, d, or-true)
      at false e ih = let k : y ≡ n → ⊥ = eqb-false y n e in rw (ih (omega arith))

  -- a locality below n that waits and is other than x
  abbrev Found : ℕ → Type 0
  Found n = (y : ℕ) × (y < n) × (other y x ≡ true) × (waits s y ≡ true)

  means_below : (n : ℕ) → other_waits_below n s x ≡ true → Found n
  means_below zero e = absurd (true≢false (sym e))
  means_below (suc n) e = at (other_waits_below n s x) refl (means_below n)
    where
      at : (b : Bool) → other_waits_below n s x ≡ b → (other_waits_below n s x ≡ true → Found n) → Found (suc n)
      at true q ih = let h : _ = ih q in (h.0, omega (arith, h.1), h.2, h.3)
      at false q ih = let h : _ = both_true (waits s n) (other n x) (rw q at e) in (n, omega arith, h.1, h.0)

  pub shows_others : (established : Bool) → ShowsOthers s established x
  shows_others e =
      let k : is_set 2 (access_byte s e x) ≡ pending_request s x = bit_2 _ _ _ _ _ in
      record {
        shows = λ y l d w. k ∙ shows_below localities y l (other_yes y d) w;
        means = λ q. let h : _ = means_below localities (sym k ∙ q) in (h.0, h.1, other_not h.0 h.2, h.3);
      }
