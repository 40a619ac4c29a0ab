-- Bytes with 00h after them up to a length. Assumes nothing.
use mathlib.Core.Path.{◌≡◌, refl, ap}
use mathlib.Core.List.{List, [], ◌∷◌, ◌++◌}
use Prim.Native.Nat.{ℕ, zero, suc, ◌-◌, ◌≤◌, ◌<◌}
use native.Mathlib.Omega.{arith}
use lib.ListN.{length, get_or, set, replicate, length-append, length-replicate}
use lib.Seq.{set-append_seam}
use Rattle.reg_fifo.specs.Fifo.{clear_fifo, put_answer}
use Rattle.reg_sts_read.specs.Size.{declared_size}
use Rattle.claims.specs.Mailbox.{size_of, padded}

pub length_padded : (c : ℕ) (bs : List ℕ) → length bs ≤ c → length (padded c bs) ≡ c
length_padded c bs l = simp (length-append, length-replicate) (omega arith)

-- emptied
pub clear_padded : (c : ℕ) (bs : List ℕ) → length bs ≤ c → clear_fifo (padded c bs) ≡ padded c []
clear_padded c bs l = let z : c ≡ c - 0 = omega arith in rw (length_padded c bs l) (ap (λ (n : ℕ). replicate n 0) z)

-- an answer put at the front
pub put_padded : (c : ℕ) (a bs : List ℕ) → length bs ≤ c → put_answer a (padded c bs) ≡ padded c a
put_padded c a bs l = rw (length_padded c bs l) refl

-- a byte stored after the others
pub set_padded : (c : ℕ) (bs : List ℕ) (v : ℕ) → length bs < c → set (padded c bs) (length bs) v ≡ padded c (bs ++ (v ∷ []))
set_padded c bs v l = by (c - length bs) refl
  where
    rest : (n : ℕ) → c - length bs ≡ suc n → c - length (bs ++ (v ∷ [])) ≡ n
    rest n e = simp length-append (omega arith)

    append_assoc : (a b d : List ℕ) → (a ++ b) ++ d ≡ a ++ (b ++ d)
    append_assoc [] b d = refl
    append_assoc (x ∷ a) b d = ap (λ (l : List ℕ). x ∷ l) (append_assoc a b d)

    by : (n : ℕ) → c - length bs ≡ n → set (bs ++ replicate n 0) (length bs) v ≡ (bs ++ (v ∷ [])) ++ replicate (c - length (bs ++ (v ∷ []))) 0
    by zero e = absurd (omega arith)
    by (suc n) e = rw (rest n e, append_assoc bs (v ∷ []) (replicate n 0)) (set-append_seam bs 0 (replicate n 0) v)

get_or_zeros : (n i : ℕ) → ◌≡◌ {A = ℕ} (get_or (replicate n 0) i 0) 0
get_or_zeros zero i = refl
get_or_zeros (suc n) zero = refl
get_or_zeros (suc n) (suc i) = get_or_zeros n i

get_or_padded : (bs : List ℕ) (n i : ℕ) → get_or (bs ++ replicate n 0) i 0 ≡ get_or bs i 0
get_or_padded [] n i = get_or_zeros n i
get_or_padded (b ∷ bs) n zero = refl
get_or_padded (b ∷ bs) n (suc i) = get_or_padded bs n i

-- the size that a command declares is read from the FIFO
pub size_padded : (c : ℕ) (bs : List ℕ) → declared_size (padded c bs) ≡ size_of bs
unfolding declared_size
size_padded c bs =
    let n : ℕ = c - length bs in
    rw (get_or_padded bs n 2, get_or_padded bs n 3, get_or_padded bs n 4, get_or_padded bs n 5) refl

pub byte_padded : (c : ℕ) (bs : List ℕ) (i : ℕ) → get_or (padded c bs) i 0 ≡ get_or bs i 0
byte_padded c bs i = get_or_padded bs (c - length bs) i
