-- What a whole message comes to: its blocks one after the other, and the rest.
use Rattle.std.proofs.Common.{◌≡◌, ℕ, zero, suc, ◌*◌, ◌/◌, ◌%◌, List, [], ◌∷◌, ◌++◌, length, take, drop, refl, ap, ◌∙◌, add_comm, mul_comm, arith, take_all}
use Rattle.std.proofs.Math.Nat.{mul-zero, mul-suc}
use Rattle.std.proofs.lemmas.List.{drop-drop}
use Rattle.std.proofs.lemmas.List.Sums.{fold-append}
use Rattle.std.specs.List.{fold}
use Rattle.std.specs.Simd.{first_chunks}
use Rattle.sha1_block.specs.Sha1.{first, compress_of, hashed, sha1}
use Rattle.sha1_message.specs.Stream.{finish}
use Rattle.sha1_message.proofs.StreamLaws.{rest, length_rest, digest_from}

chunks_snoc : (n k : ℕ) (m : List ℕ) → first_chunks n (suc k) m ≡ first_chunks n k m ++ (take n (drop (n * k) m) ∷ [])
chunks_snoc n zero m = rw mul-zero refl
chunks_snoc n (suc k) m =
    rw (mul-suc n k, add_comm (n * k) n, ← drop-drop (n * k) n m) (ap (λ (x : List (List ℕ)). take n m ∷ x) (chunks_snoc n k (drop n m)))

blocks_hashed : (m : List ℕ) (k : ℕ) → fold compress_of first (first_chunks 64 k m) ≡ hashed m k
unfolding hashed
blocks_hashed m zero = refl
blocks_hashed m (suc k) =
    ap (fold compress_of first) (chunks_snoc 64 k m) ∙ fold-append compress_of first (first_chunks 64 k m) (take 64 (drop (64 * k) m) ∷ [])
    ∙ ap (λ (h : List ℕ). compress_of h (take 64 (drop (64 * k) m))) (blocks_hashed m k)

-- one block more in a fold
pub one_more : (ys : List (List ℕ)) (x a b : List ℕ) → a ≡ fold compress_of first ys → b ≡ compress_of a x → b ≡ fold compress_of first (ys ++ (x ∷ []))
one_more ys x a b i e = rw (fold-append compress_of first ys (x ∷ []), ← i) e

-- the hash value after the whole blocks, and the rest in the tail, finish to SHA-1
pub at_once : (m h r x : List ℕ) (w : List (List ℕ)) → w ≡ first_chunks 64 (length m / 64) m → h ≡ fold compress_of first w → x ≡ drop (length m / 64 * 64) m
    → r ≡ finish (record { h = h; tail = x; count = length m }) → r ≡ sha1 m
at_once m h r x w p q i e =
    let f : x ≡ rest m = i ∙ ap (λ (k : ℕ). drop k m) (mul_comm (length m / 64) 64) in
    let b : h ≡ hashed m (length m / 64) = q ∙ ap (fold compress_of first) p ∙ blocks_hashed m (length m / 64) in
    e ∙ digest_from (record { h = h; tail = x; count = length m }) m b (rw f (take_all (length m % 64) (rest m) (omega (arith, length_rest m)))) refl
