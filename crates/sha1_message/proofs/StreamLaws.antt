-- The stream: what a state stands for, that joining a byte keeps to it, and that finishing gives SHA-1 of the bytes that joined.
use mathlib.Core.Path.{◌≡◌, refl, sym, ap, ap₂, ◌∙◌}
use mathlib.Core.Bool.{Bool, true, false, cond}
use mathlib.Core.List.{List, [], ◌∷◌, ◌++◌, append_assoc, append-nil}
use Prim.Native.Nat.{ℕ, zero, suc, ◌+◌, ◌-◌, ◌*◌, ◌/◌, ◌%◌, ◌≤◌, ◌<◌}
use native.Mathlib.Omega.{arith}
use native.Mathlib.Nat.{mul-suc}
use lib.ListN.{length, set, take, drop, replicate, length-append, length-drop, length-replicate, drop_of_length-le, replicate-append-replicate}
use lib.Seq.{set_at, take_at, drop_at, take-append-le, drop-append-le, take_all, sets, sets-eq, drop-drop}
use lib.Dec.{ltb, eqb}
use borrow.Author.Tests.{eqb-true, eqb-false, ltb-true, ltb-false}
use Rattle.sha1_message.specs.declared.Stream.{Stream}
use Rattle.sha1_block.specs.Sha1.{compress_of, hashed, zeros, pad, padding, length_field, digest_of, sha1}
use Rattle.sha1_message.specs.Stream.{begin, join, join_all, with_length, mark, finish}

-- the bytes behind the whole blocks
abbrev pub rest : List ℕ → List ℕ
rest m = drop (64 * (length m / 64)) m

-- a state stands for the message m
pub record Holds (s : Stream) (m : List ℕ) : Type 0 where
  pub h : s.h ≡ hashed m (length m / 64)
  pub tail : s.tail ≡ rest m ++ replicate (64 - length m % 64) 0
  pub count : s.count ≡ length m

pub holds_begun : Holds begin []
unfolding hashed
holds_begun = record { h = refl; tail = refl; count = refl }

pub length_rest : (m : List ℕ) → length (rest m) ≡ length m % 64
length_rest m = length-drop (64 * (length m / 64)) m ∙ omega arith

-- the first k blocks don't depend on what stands behind them
hashed_front : (m x : List ℕ) (k : ℕ) → 64 * k ≤ length m → hashed (m ++ x) k ≡ hashed m k
unfolding hashed
hashed_front m x zero l = refl
hashed_front m x (suc k) l =
    ap₂ compress_of (hashed_front m x k (omega (arith, mul-suc 64 k)))
    (ap (λ (z : List ℕ). take 64 z) (drop-append-le (64 * k) m x (omega (arith, mul-suc 64 k)))
    ∙ take-append-le 64 (drop (64 * k) m) x (rw length-drop (omega (arith, mul-suc 64 k))))

-- the rest, with what stands behind the message
rest_append : (m x : List ℕ) → drop (64 * (length m / 64)) (m ++ x) ≡ rest m ++ x
rest_append m x = drop-append-le (64 * (length m / 64)) m x (omega arith)

module _ (s : Stream) (m : List ℕ) (b : ℕ) (r : Holds s m) where
  at_count : s.count % 64 ≡ length m % 64
  at_count = ap (λ (k : ℕ). k % 64) r.count

  length_behind : length (rest m ++ (b ∷ [])) ≡ length m % 64 + 1
  length_behind = length-append (rest m) (b ∷ []) ∙ ap (λ (k : ℕ). k + 1) (length_rest m)

  -- a byte goes behind the rest
  put : set s.tail (s.count % 64) b ≡ (rest m ++ (b ∷ [])) ++ replicate (63 - length m % 64) 0
  put =
      let e : 64 - length m % 64 ≡ suc (63 - length m % 64) = omega arith in
      rw (r.tail, r.count, e) (set_at (rest m) 0 (replicate (63 - length m % 64) 0) b (length m % 64) (length_rest m) ∙ sym (append_assoc (rest m) (b ∷ []) (replicate (63 - length m % 64) 0)))

  pub holds_join : Holds (join s b) (m ++ (b ∷ []))
  unfolding join hashed
  holds_join = go (eqb (s.count % 64) 63) refl
    where
      len : length (m ++ (b ∷ [])) ≡ length m + 1
      len = length-append m (b ∷ [])

      counted : s.count + 1 ≡ length (m ++ (b ∷ []))
      counted = ap (λ (k : ℕ). k + 1) r.count ∙ sym len

      go : (t : Bool) → eqb (s.count % 64) 63 ≡ t
          → Holds (record { h = cond t (compress_of s.h (set s.tail (s.count % 64) b)) s.h; tail = cond t (replicate 64 0) (set s.tail (s.count % 64) b); count = s.count + 1 }) (m ++ (b ∷ []))
      go true q =
          let f : length m % 64 ≡ 63 = sym at_count ∙ eqb-true (s.count % 64) 63 q in
          let e : length (m ++ (b ∷ [])) / 64 ≡ suc (length m / 64) = omega (arith, len) in
          let o : length (m ++ (b ∷ [])) % 64 ≡ 0 = omega (arith, len) in
          record {
            h = rw (e, hashed_front m (b ∷ []) (length m / 64) (omega arith), rest_append m (b ∷ []), take_all 64 (rest m ++ (b ∷ [])) (omega (arith, length_behind)), put, f, append-nil (rest m ++ (b ∷ [])), r.h) refl;
            tail = rw (o, drop_of_length-le (m ++ (b ∷ [])) {i = 64 * (length (m ++ (b ∷ [])) / 64)} (omega (arith, len))) refl;
            count = counted;
          }
      go false q =
          let f : length m % 64 ≡ 63 → ⊥ = λ p. eqb-false (s.count % 64) 63 q (at_count ∙ p) in
          let e : length (m ++ (b ∷ [])) / 64 ≡ length m / 64 = omega (arith, len, f) in
          let o : 64 - length (m ++ (b ∷ [])) % 64 ≡ 63 - length m % 64 = omega (arith, len, f) in
          record {
            h = rw (e, hashed_front m (b ∷ []) (length m / 64) (omega arith)) r.h;
            tail = rw (e, o, rest_append m (b ∷ [])) put;
            count = counted;
          }

pub holds_all : (bs : List ℕ) (s : Stream) (m : List ℕ) → Holds s m → Holds (join_all s bs) (m ++ bs)
unfolding join_all
holds_all [] s m r = rw append-nil r
holds_all (b ∷ bs) s m r = rw (← append_assoc m (b ∷ []) bs) (holds_all bs (join s b) (m ++ (b ∷ [])) (holds_join s m b r))

zeros_add : (a b : ℕ) → replicate (a + b) 0 ≡ replicate a 0 ++ replicate {A = ℕ} b 0
zeros_add a b = sym (replicate-append-replicate a b 0)

-- eight bytes at 56 take the place of the last eight zeros
field_at_end : (p : List ℕ) (z k : ℕ) (vs : List ℕ) → length p + z ≡ 56 → length vs ≡ 8 → k ≡ z + 8 → sets (p ++ replicate k 0) 56 vs ≡ (p ++ replicate z 0) ++ vs
field_at_end p z k vs l v e =
    let t : p ++ replicate k 0 ≡ (p ++ replicate z 0) ++ replicate 8 0 = ap (λ (j : ℕ). p ++ replicate j 0) e ∙ ap (λ (j : List ℕ). p ++ j) (zeros_add z 8) ∙ sym (append_assoc p (replicate z 0) (replicate 8 0)) in
    let w : length (p ++ replicate z 0) ≡ 56 = length-append p (replicate z 0) ∙ ap (λ (j : ℕ). length p + j) (length-replicate z 0) ∙ l in
    let u : length ((p ++ replicate z 0) ++ replicate 8 0) ≡ 64 = length-append (p ++ replicate z 0) (replicate 8 0) ∙ ap (λ (j : ℕ). j + 8) w in
    rw (
      t,
      sets-eq vs ((p ++ replicate z 0) ++ replicate 8 0) 56 (omega arith),
      take_at (p ++ replicate z 0) (replicate 8 0) 56 w,
      drop_of_length-le ((p ++ replicate z 0) ++ replicate 8 0) {i = 56 + length vs} (omega arith),
      append-nil,
    ) refl

-- the zeros of the padding leave eight bytes of a block, and are fewer than a block
pub zeros_least : (n : ℕ) → ((n + 1 + zeros n) % 64 ≡ 56) × (zeros n < 64)
zeros_least n = (omega arith, omega arith)

-- how many blocks the padded message has
blocks_padded : (m : List ℕ) → length (pad m) / 64 ≡ (length m + 72) / 64
unfolding pad
blocks_padded m = omega (arith, length-append m (padding (length m)), length-append (replicate ((119 - length m % 64) % 64) 0) (length_field (length m * 8)), length-replicate {A = ℕ} ((119 - length m % 64) % 64) 0)

-- finishing the hash value after the whole blocks of m, with the rest of m in front of the tail, gives SHA-1 of m
pub digest_from : (s : Stream) (m : List ℕ) → s.h ≡ hashed m (length m / 64) → take (s.count % 64) s.tail ≡ rest m → s.count ≡ length m → finish s ≡ sha1 m
unfolding finish mark sha1 pad hashed
digest_from s m h w n = go (ltb (s.count % 64) 56) refl ∙ ap (λ (k : ℕ). digest_of (hashed (pad m) k)) (sym (blocks_padded m))
  where
    q : ℕ
    q = length m / 64

    j : ℕ
    j = length m % 64

    p : List ℕ
    p = rest m ++ (0x80 ∷ [])

    len_p : length p ≡ j + 1
    len_p = length-append (rest m) (0x80 ∷ []) ∙ ap (λ (k : ℕ). k + 1) (length_rest m)

    at_n : s.count % 64 ≡ j
    at_n = ap (λ (k : ℕ). k % 64) n

    marked : mark s.tail (s.count % 64) ≡ p ++ replicate (63 - j) 0
    marked = rw (w, at_n) (sym (append_assoc (rest m) (0x80 ∷ []) (replicate (63 - j) 0)))

    front : hashed (pad m) q ≡ s.h
    front = hashed_front m (padding (length m)) q (omega arith) ∙ sym h

    -- what stands behind the whole blocks
    behind : drop (64 * q) (pad m) ≡ p ++ (replicate ((119 - j) % 64) 0 ++ length_field (length m * 8))
    behind = rest_append m (padding (length m)) ∙ sym (append_assoc (rest m) (0x80 ∷ []) (replicate ((119 - j) % 64) 0 ++ length_field (length m * 8)))

    go : (t : Bool) → ltb (s.count % 64) 56 ≡ t
        → cond t (digest_of (compress_of s.h (with_length (mark s.tail (s.count % 64)) s.count))) (digest_of (compress_of (compress_of s.h (mark s.tail (s.count % 64))) (with_length (replicate 64 0) s.count)))
        ≡ digest_of (hashed (pad m) ((length m + 72) / 64))
    go true e =
        let f : s.count % 64 < 56 = ltb-true (s.count % 64) 56 e in
        let i : (length m + 72) / 64 ≡ suc q = omega (arith, at_n) in
        let z : (119 - j) % 64 ≡ 55 - j = omega (arith, at_n) in
        let b : p ++ (replicate (55 - j) 0 ++ length_field (length m * 8)) ≡ (p ++ replicate (55 - j) 0) ++ length_field (length m * 8) = sym (append_assoc p (replicate (55 - j) 0) (length_field (length m * 8))) in
        let l : length ((p ++ replicate (55 - j) 0) ++ length_field (length m * 8)) ≡ 64 =
        length-append (p ++ replicate (55 - j) 0) (length_field (length m * 8)) ∙ omega (arith, length-append p (replicate (55 - j) 0), length-replicate {A = ℕ} (55 - j) 0, len_p, at_n) in
        rw (
          i,
          front,
          behind,
          z,
          b,
          take_all 64 ((p ++ replicate (55 - j) 0) ++ length_field (length m * 8)) (omega arith),
          marked,
          n,
          field_at_end p (55 - j) (63 - j) (length_field (length m * 8)) (omega (arith, len_p, at_n)) refl (omega (arith, at_n)),
        ) refl
    go false e =
        let f : 56 ≤ s.count % 64 = ltb-false (s.count % 64) 56 e in
        let i : (length m + 72) / 64 ≡ suc (suc q) = omega (arith, at_n) in
        let z : (119 - j) % 64 ≡ (63 - j) + 56 = omega (arith, at_n) in
        let c : List ℕ = p ++ replicate (63 - j) 0 in
        let d : List ℕ = replicate 56 0 ++ length_field (length m * 8) in
        let b : p ++ (replicate ((63 - j) + 56) 0 ++ length_field (length m * 8)) ≡ c ++ d =
        ap (λ (x : List ℕ). p ++ (x ++ length_field (length m * 8))) (zeros_add (63 - j) 56)
        ∙ ap (λ (x : List ℕ). p ++ x) (append_assoc (replicate (63 - j) 0) (replicate 56 0) (length_field (length m * 8)))
        ∙ sym (append_assoc p (replicate (63 - j) 0) d) in
        let l : length c ≡ 64 = length-append p (replicate (63 - j) 0) ∙ omega (arith, length-replicate {A = ℕ} (63 - j) 0, len_p, at_n) in
        let g : drop (64 * q) (pad m) ≡ c ++ d = behind ∙ ap (λ (k : ℕ). p ++ (replicate k 0 ++ length_field (length m * 8))) z ∙ b in
        let u : drop (64 * suc q) (pad m) ≡ d =
        ap (λ (k : ℕ). drop k (pad m)) (mul-suc 64 q) ∙ sym (drop-drop 64 (64 * q) (pad m)) ∙ ap (λ (x : List ℕ). drop 64 x) g ∙ drop_at c d 64 l in
        rw (i, u, front, g, take_at c d 64 l, marked, n) refl

-- finishing a state that stands for m gives SHA-1 of m
pub digest_of_lem : (s : Stream) (m : List ℕ) → Holds s m → finish s ≡ sha1 m
digest_of_lem s m r =
    let front : take (s.count % 64) s.tail ≡ rest m = rw (r.tail, r.count) (take_at (rest m) (replicate (64 - length m % 64) 0) (length m % 64) (length_rest m)) in
    digest_from s m r.h front r.count

-- a stream that is begun and that the bytes of m join, each in turn, gives SHA-1 of m
pub digest : (m : List ℕ) → finish (join_all begin m) ≡ sha1 m
digest m = digest_of_lem (join_all begin m) m (holds_all m begin [] holds_begun)

-- joining nothing, one message after another, and one byte more; and the count
pub all_none : (s : Stream) → join_all s [] ≡ s
unfolding join_all
all_none s = refl

pub all_append : (m x : List ℕ) (s : Stream) → join_all s (m ++ x) ≡ join_all (join_all s m) x
unfolding join_all
all_append [] x s = refl
all_append (b ∷ m) x s = all_append m x (join s b)

pub all_snoc : (m : List ℕ) (b : ℕ) (s : Stream) → join_all s (m ++ (b ∷ [])) ≡ join (join_all s m) b
unfolding join_all
all_snoc m b s = all_append m (b ∷ []) s

pub join_count : (s : Stream) (b : ℕ) → (join s b).count ≡ s.count + 1
unfolding join
join_count s b = refl

pub all_count : (m : List ℕ) (s : Stream) → (join_all s m).count ≡ s.count + length m
unfolding join_all
all_count [] s = omega arith
all_count (b ∷ m) s = all_count m (join s b) ∙ omega (arith, join_count s b)

-- the state that `join_lent` leaves, from the words that it gives and the tail that it leaves
pub join_parts : (s : Stream) (b : ℕ) (g t : List ℕ) → g ≡ (join s b).h → t ≡ (join s b).tail → record { h = g; tail = t; count = s.count + 1 } ≡ join s b
unfolding join
join_parts s b g t p q = rw (p, q) refl
