-- The twenty rounds from 20 q on have one function and one constant, and what becomes of a start in them; the function and the constant of each
-- twenty rounds, one round more, and rounds after rounds.
use Rattle.std.proofs.Common.{◌≡◌, ℕ, zero, suc, ◌+◌, ◌-◌, ◌*◌, ◌<◌, ◌≤◌, Bool, true, false, ltb, List, length, get_or, take, drop, sym, refl, add-one, add-zero, add_assoc, add-suc, arith, get_or-drop, get_or-take, ltb-false, ltb-true, le-ltb, lt-ltb, length-take}
use Rattle.sha1_block.specs.declared.rounds.Vars.{Vars}
use Rattle.sha1_block.specs.Sha1.{f, K, ch, parity, maj, round_by, rounds}

-- round t of those twenty
module _ (q t : ℕ) (l : 20 * q ≤ t) (u : t < 20 * q + 20) where
  alike : (n : ℕ) → ltb t (20 * n) ≡ ltb (20 * q) (20 * n)
  alike n = go (ltb t (20 * n)) refl
    where
      go : (b : Bool) → ltb t (20 * n) ≡ b → b ≡ ltb (20 * q) (20 * n)
      go true e = sym (lt-ltb (20 * q) (20 * n) (omega (arith, ltb-true t (20 * n) e)))
      go false e = sym (le-ltb (20 * q) (20 * n) (omega (arith, ltb-false t (20 * n) e)))

  f_of : (x y z : ℕ) → f t x y z ≡ f (20 * q) x y z
  unfolding f
  f_of x y z = rw (alike 1, alike 2, alike 3) refl

  K_of : K t ≡ K (20 * q)
  unfolding K
  K_of = rw (alike 1, alike 2, alike 3) refl

-- what each of the four twenties keeps: v is what v₀ has become before round t of the twenty from 20 q on
pub record Twenty (q : ℕ) (w : List ℕ) (v₀ v : Vars) (t : ℕ) : Type 0 where
  pub done : v ≡ rounds w (20 * q) (t - 20 * q) v₀
  pub from : 20 * q ≤ t
  pub to : t ≤ 20 * q + 20

pub twenty_begin : (q : ℕ) (w : List ℕ) (v : Vars) → Twenty q w v v (20 * q)
unfolding rounds
twenty_begin q w v = let e : 20 * q - 20 * q ≡ 0 = omega arith in record { done = rw e refl; from = omega arith; to = omega arith }

pub twenty_more : (q : ℕ) (w : List ℕ) (v₀ v r : Vars) (t x k : ℕ) → Twenty q w v₀ v t → t < 20 * q + 20 → x ≡ f (20 * q) v.b v.c v.d → k ≡ K (20 * q)
    → r ≡ round_by x k (get_or w t 0) v → Twenty q w v₀ r (t + 1)
unfolding rounds
twenty_more q w v₀ v r t x k i u p p' e =
    let l : 20 * q ≤ t = i.from in
    let n : t + 1 - 20 * q ≡ suc (t - 20 * q) = omega arith in
    let m : 20 * q + (t - 20 * q) ≡ t = omega arith in
    record { done = rw (n, m, f_of q t l u, K_of q t l u, ← i.done, ← p, ← p') e; from = omega arith; to = omega arith }

pub twenty_end : (q : ℕ) (w : List ℕ) (v₀ v : Vars) (t : ℕ) → Twenty q w v₀ v t → 20 * q + 20 ≤ t → v ≡ rounds w (20 * q) 20 v₀
twenty_end q w v₀ v t i u =
    let l : t ≤ 20 * q + 20 = i.to in
    let e : t - 20 * q ≡ 20 = omega arith in
    rw e at i.done

-- what the contract of the twenty asks of their function and of their constant
pub values_to_20 : (t x y z r : ℕ) → 0 ≤ t → t < 20 → r ≡ ch x y z → r ≡ f t x y z
unfolding f
values_to_20 t x y z r l u e = rw (lt-ltb t 20 u) e

pub constant_to_20 : (t : ℕ) → 0 ≤ t → t < 20 → 0x5a827999 ≡ K t
unfolding K
constant_to_20 t l u = rw (lt-ltb t 20 u) refl

pub values_to_40 : (t x y z r : ℕ) → 20 ≤ t → t < 40 → r ≡ parity x y z → r ≡ f t x y z
unfolding f
values_to_40 t x y z r l u e = rw (le-ltb t 20 l, lt-ltb t 40 u) e

pub constant_to_40 : (t : ℕ) → 20 ≤ t → t < 40 → 0x6ed9eba1 ≡ K t
unfolding K
constant_to_40 t l u = rw (le-ltb t 20 l, lt-ltb t 40 u) refl

pub values_to_60 : (t x y z r : ℕ) → 40 ≤ t → t < 60 → r ≡ maj x y z → r ≡ f t x y z
unfolding f
values_to_60 t x y z r l u e = rw (le-ltb t 20 (omega arith), le-ltb t 40 l, lt-ltb t 60 u) e

pub constant_to_60 : (t : ℕ) → 40 ≤ t → t < 60 → 0x8f1bbcdc ≡ K t
unfolding K
constant_to_60 t l u = rw (le-ltb t 20 (omega arith), le-ltb t 40 l, lt-ltb t 60 u) refl

pub values_to_80 : (t x y z r : ℕ) → 60 ≤ t → t < 80 → r ≡ parity x y z → r ≡ f t x y z
unfolding f
values_to_80 t x y z r l u e = rw (le-ltb t 20 (omega arith), le-ltb t 40 (omega arith), le-ltb t 60 l) e

pub constant_to_80 : (t : ℕ) → 60 ≤ t → t < 80 → 0xca62c1d6 ≡ K t
unfolding K
constant_to_80 t l u = rw (le-ltb t 20 (omega arith), le-ltb t 40 (omega arith), le-ltb t 60 l) refl

-- one more of the rounds from s on, by the word that stands at i in the part of the words from there
pub round_more : (w : List ℕ) (s n i x k : ℕ) (v₀ v r : Vars) → v ≡ rounds w s i v₀ → i < length (take n (drop s w)) → x ≡ f (s + i) v.b v.c v.d → k ≡ K (s + i)
    → r ≡ round_by x k (get_or (take n (drop s w)) i 0) v → r ≡ rounds w s (i + 1) v₀
unfolding rounds
round_more w s n i x k v₀ v r e u p q o =
    let l : i < n = omega (arith, length-take n (drop s w)) in
    rw (add-one, ← e, ← p, ← q, ← get_or-drop s w i 0, ← get_or-take n (drop s w) i 0 l) o

-- n rounds after k rounds are k + n rounds
pub rounds_after : (w : List ℕ) (s k n : ℕ) (v : Vars) → rounds w (s + k) n (rounds w s k v) ≡ rounds w s (k + n) v
unfolding rounds
rounds_after w s k zero v = rw add-zero refl
rounds_after w s k (suc n) v = rw (add-suc, rounds_after w s k n v, add_assoc) refl
