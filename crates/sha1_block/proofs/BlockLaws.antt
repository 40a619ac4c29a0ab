-- A block's words where they stand, and a schedule with one word more.
use Rattle.std.proofs.Common.{◌≡◌, ℕ, zero, suc, ◌+◌, ◌-◌, ◌*◌, ◌<◌, ◌≤◌, List, [], get_or, take, drop, set, refl, ◌∙◌, add_comm, add-one, add-zero, arith, get_or-drop, get_or-take, le-ltb, lt-ltb}
use Rattle.std.proofs.Math.Nat.{mul-zero, mul-suc}
use Rattle.std.proofs.lemmas.List.{drop-drop}
use Rattle.std.specs.Simd.{first_chunks}
use lib.Bits.{bit_xor}
use Rattle.sha1_block.specs.Sha1.{word_at, rotl, W, schedule}

-- the i-th of k parts of n bytes
pub chunk_at : (n k i : ℕ) (m : List ℕ) → i < k → get_or (first_chunks n k m) i [] ≡ take n (drop (n * i) m)
chunk_at n zero i m l = absurd (omega arith)
chunk_at n (suc k) zero m l = rw mul-zero refl
chunk_at n (suc k) (suc i) m l = rw (mul-suc n i, add_comm (n * i) n, ← drop-drop (n * i) n m) (chunk_at n k i (drop n m) (omega arith))

-- a byte of a part
in_part : (m : List ℕ) (n at i : ℕ) → i < n → get_or (take n (drop at m)) i 0 ≡ get_or m (at + i) 0
in_part m n at i l = get_or-take n (drop at m) i 0 l ∙ get_or-drop at m i 0

word_of_part : (m p : List ℕ) (at : ℕ) → p ≡ take 4 (drop at m) → word_at p 0 ≡ word_at m at
word_of_part m p at e = rw (e, in_part m 4 at 0 (omega arith), in_part m 4 at 1 (omega arith), in_part m 4 at 2 (omega arith), in_part m 4 at 3 (omega arith), add-zero) refl

-- one more word goes into the schedule
one_more : (block w : List ℕ) (t x : ℕ) → w ≡ schedule block t → x ≡ W block w t → set w t x ≡ schedule block (t + 1)
unfolding schedule
one_more block w t x i e = rw (e, i, add-one) refl

-- it is the t-th of the block's own
pub own_word : (block w p : List ℕ) (t x : ℕ) → w ≡ schedule block t → t < 16 → p ≡ take 4 (drop (4 * t) block) → x ≡ word_at p 0 → set w t x ≡ schedule block (t + 1)
unfolding W
own_word block w p t x i l q e = one_more block w t x i (simp (lt-ltb t 16 l) (e ∙ word_of_part block p (4 * t) q))

-- it comes from the words before it
pub later_word : (block w : List ℕ) (t x : ℕ) → w ≡ schedule block t → 16 ≤ t
    → x ≡ rotl 1 (bit_xor (bit_xor (bit_xor (get_or w (t - 3) 0) (get_or w (t - 8) 0)) (get_or w (t - 14) 0)) (get_or w (t - 16) 0)) → set w t x ≡ schedule block (t + 1)
unfolding W
later_word block w t x i l e = one_more block w t x i (simp (le-ltb t 16 l) e)
