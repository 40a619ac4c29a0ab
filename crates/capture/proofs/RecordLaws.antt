-- The records behind the head: how many are played, and which. Assumes nothing.
use mathlib.Core.Path.{◌≡◌, refl, sym, ap, ◌∙◌}
use mathlib.Core.Bool.{Bool, true, false, cond}
use mathlib.Core.List.{List, [], ◌∷◌, ◌++◌}
use Rattle.std.specs.List.{prefix_len}
use mathlib.Core.Logic.{◌⊎◌, inl, inr}
use Prim.Native.Nat.{ℕ, zero, suc, ◌+◌, ◌*◌, ◌/◌, ◌≤◌, ◌<◌, min}
use native.Mathlib.Omega.{arith, min_cases}
use lib.ListN.{length, get_or, take, drop}
use lib.Seq.{take-take, take_all}
use Rattle.std.specs.Simd.{first_chunks}
use Rattle.std.proofs.Common.{get_or-take, eq-or-lt_of_le}
use Rattle.std.proofs.lemmas.List.{get_or-drop, drop-drop}
use lib.Dec.{leb}
use borrow.Author.Tests.{le-leb, lt-leb, leb-true, leb-false}
use Rattle.capture.specs.declared.Cycle.{Cycle}
use Rattle.capture.specs.Capture.{cycle_at, records, before_bad_kind, sound, known, count_of}
use Rattle.capture.specs.Claims.{kind_of, Counted}
use Rattle.capture.proofs.Chunks.{Cuts}

-- a place in a record is four on in the list with one record more in front
four_on : (n j : ℕ) → 4 * suc n + j ≡ suc (suc (suc (suc (4 * n + j))))
four_on n j = omega arith

four_on_0 : (n : ℕ) → 4 * suc n ≡ suc (suc (suc (suc (4 * n))))
four_on_0 n = omega arith

kind_on : (k h l v : ℕ) (rest : List ℕ) (n : ℕ) → kind_of (k ∷ h ∷ l ∷ v ∷ rest) (suc n) ≡ kind_of rest n
kind_on k h l v rest n =
    ap (λ (z : ℕ). get_or (k ∷ h ∷ l ∷ v ∷ rest) z 0) (four_on_0 n)

-- ---- how many are sound

-- as many as are whole and of a known kind
at_least : (n : ℕ) (body : List ℕ) → 4 * n ≤ length body → ((i : ℕ) → i < n → kind_of body i ≤ 3) → n ≤ length (sound body)
unfolding records before_bad_kind
at_least zero body w f = omega arith
at_least (suc n) [] w f = absurd (omega arith)
at_least (suc n) (k ∷ []) w f = absurd (omega arith)
at_least (suc n) (k ∷ h ∷ []) w f = absurd (omega arith)
at_least (suc n) (k ∷ h ∷ l ∷ []) w f = absurd (omega arith)
at_least (suc n) (k ∷ h ∷ l ∷ v ∷ rest) w f =
    let i : n ≤ length (sound rest) = at_least n rest (omega arith) (λ j p. rw (kind_on k h l v rest j) at (f (suc j) (omega arith))) in
    rw (le-leb k 3 (f 0 (omega arith))) (omega arith)

-- no more than there are bytes for
pub bytes_bound : (body : List ℕ) → 4 * length (sound body) ≤ length body
unfolding records before_bad_kind
bytes_bound [] = omega arith
bytes_bound (k ∷ []) = omega arith
bytes_bound (k ∷ h ∷ []) = omega arith
bytes_bound (k ∷ h ∷ l ∷ []) = omega arith
bytes_bound (k ∷ h ∷ l ∷ v ∷ rest) = by (leb k 3) (bytes_bound rest)
  where
    by : (t : Bool) → 4 * length (sound rest) ≤ length rest
        → 4 * length (cond t (record { kind = k; offset = 256 * h + l; byte = v } ∷ sound rest) []) ≤ length (k ∷ h ∷ l ∷ v ∷ rest)
    by true p = omega arith
    by false p = omega arith

-- nor more than stand before a bad kind
kind_bound : (n : ℕ) (body : List ℕ) → 3 < kind_of body n → length (sound body) ≤ n
unfolding records before_bad_kind
kind_bound n [] b = omega arith
kind_bound n (k ∷ []) b = omega arith
kind_bound n (k ∷ h ∷ []) b = omega arith
kind_bound n (k ∷ h ∷ l ∷ []) b = omega arith
kind_bound zero (k ∷ h ∷ l ∷ v ∷ rest) b = rw (lt-leb k 3 b) (omega arith)
kind_bound (suc n) (k ∷ h ∷ l ∷ v ∷ rest) b = by (leb k 3) (kind_bound n rest (rw (kind_on k h l v rest n) at b))
  where
    by : (t : Bool) → length (sound rest) ≤ n → length (cond t (record { kind = k; offset = 256 * h + l; byte = v } ∷ sound rest) []) ≤ suc n
    by true p = omega arith
    by false p = omega arith

-- each sound record is of a known kind
sound_known : (body : List ℕ) (i : ℕ) → i < length (sound body) → kind_of body i ≤ 3
unfolding records before_bad_kind
sound_known [] i p = absurd (omega arith)
sound_known (k ∷ []) i p = absurd (omega arith)
sound_known (k ∷ h ∷ []) i p = absurd (omega arith)
sound_known (k ∷ h ∷ l ∷ []) i p = absurd (omega arith)
sound_known (k ∷ h ∷ l ∷ v ∷ rest) i p = by (leb k 3) refl i (sound_known rest) p
  where
    by : (t : Bool) → leb k 3 ≡ t → (j : ℕ) → ((m : ℕ) → m < length (sound rest) → kind_of rest m ≤ 3)
        → j < length (cond t (record { kind = k; offset = 256 * h + l; byte = v } ∷ sound rest) []) → kind_of (k ∷ h ∷ l ∷ v ∷ rest) j ≤ 3
    by false e j f q = absurd (omega arith)
    by true e zero f q = leb-true k 3 e
    by true e (suc j) f q = rw (kind_on k h l v rest j) (f j (omega arith))

-- where they end, the bytes end or a bad kind stands
sound_stops : (body : List ℕ) → (length body < 4 * length (sound body) + 4) ⊎ (3 < kind_of body (length (sound body)))
unfolding records before_bad_kind
sound_stops [] = inl (omega arith)
sound_stops (k ∷ []) = inl (omega arith)
sound_stops (k ∷ h ∷ []) = inl (omega arith)
sound_stops (k ∷ h ∷ l ∷ []) = inl (omega arith)
sound_stops (k ∷ h ∷ l ∷ v ∷ rest) = by (leb k 3) refl (sound_stops rest)
  where
    by : (t : Bool) → leb k 3 ≡ t → (length rest < 4 * length (sound rest) + 4) ⊎ (3 < kind_of rest (length (sound rest)))
        → (length (k ∷ h ∷ l ∷ v ∷ rest) < 4 * length (cond t (record { kind = k; offset = 256 * h + l; byte = v } ∷ sound rest) []) + 4)
        ⊎ (3 < kind_of (k ∷ h ∷ l ∷ v ∷ rest) (length (cond t (record { kind = k; offset = 256 * h + l; byte = v } ∷ sound rest) [])))
    by false e s = inr (leb-false k 3 e)
    by true e (inl s) = inl (omega arith)
    by true e (inr s) = inr (rw (kind_on k h l v rest (length (sound rest))) s)

-- ---- how many are played

pub counted : (limit : ℕ) (body : List ℕ) → Counted limit body (count_of limit body)
counted limit body = record {
  within = omega arith;
  whole = omega (arith, bytes_bound body);
  known = λ i p. sound_known body i (omega arith);
  stops = by (sound_stops body);
}
  where
    s : ℕ
    s = length (sound body)

    by : (length body < 4 * s + 4) ⊎ (3 < kind_of body s) → (min limit s ≡ limit) ⊎ ((length body < 4 * min limit s + 4) ⊎ (3 < kind_of body (min limit s)))
    by e = min_cases limit s _ (λ l q. inl q) (λ l q. inr (rw q e))

-- there is one such number only
pub counted_once : (limit : ℕ) (body : List ℕ) (n : ℕ) → Counted limit body n → count_of limit body ≡ n
counted_once limit body n c = by c.stops
  where
    more : n ≤ length (sound body)
    more = at_least n body c.whole c.known

    by : (n ≡ limit) ⊎ ((length body < 4 * n + 4) ⊎ (3 < kind_of body n)) → count_of limit body ≡ n
    by (inl e) = omega (arith, more)
    by (inr (inl e)) = omega (arith, more, bytes_bound body, c.within)
    by (inr (inr e)) = omega (arith, more, kind_bound n body e, c.within)

-- n of at most so many records were looked at and are of known kinds: a bad kind comes, or no more records
module _ (limit : ℕ) (body : List ℕ) (n most : ℕ) (at_most : most ≡ min limit (length body / 4)) (known : (i : ℕ) → i < n → kind_of body i ≤ 3) where
  pub bad_kind_comes : n < most → 3 < kind_of body n → n ≡ count_of limit body
  bad_kind_comes l b = sym (counted_once limit body n (record { within = omega arith; whole = omega arith; known = known; stops = inr (inr b) }))

  pub no_more_records : n ≤ most → most ≤ n → n ≡ count_of limit body
  no_more_records l m = sym (counted_once limit body n (record { within = omega arith; whole = omega arith; known = known; stops = ends }))
    where
      ends : (n ≡ limit) ⊎ ((length body < 4 * n + 4) ⊎ (3 < kind_of body n))
      ends = min_cases limit (length body / 4) _ (λ a q. inl (omega arith)) (λ a q. inr (inl (omega arith)))

-- one known kind more
pub known_more : (body : List ℕ) (n : ℕ) → ((i : ℕ) → i < n → kind_of body i ≤ 3) → kind_of body n ≤ 3 → (i : ℕ) → i < n + 1 → kind_of body i ≤ 3
known_more body n f k i l = by (eq-or-lt_of_le {n = i} {m = n} (omega arith))
  where
    by : (i ≡ n) ⊎ (i < n) → kind_of body i ≤ 3
    by (inl e) = rw e k
    by (inr q) = f i q

-- the i-th of k records of four bytes
fours_at : (k i : ℕ) (l : List ℕ) → i < k → get_or (first_chunks 4 k l) i [] ≡ take 4 (drop (4 * i) l)
fours_at zero i l w = absurd (omega arith)
fours_at (suc k) zero l w = refl
fours_at (suc k) (suc i) l w = fours_at k i (drop 4 l) (omega arith) ∙ ap (take 4) (drop-drop (4 * i) 4 l ∙ ap (λ (n : ℕ). drop n l) (omega arith))

-- the first byte of the n-th of the first m is its kind
pub kind_in : (body : List ℕ) (m n : ℕ) (parts : List (List ℕ)) → parts ≡ first_chunks 4 (length body / 4) body → m ≤ length body / 4 → n < m
    → get_or (get_or (take m parts) n []) 0 0 ≡ kind_of body n
kind_in body m n parts e f l =
    let z : 4 * n + 0 ≡ 4 * n = omega arith in
    ap (λ (x : List ℕ). get_or x 0 0) (get_or-take m parts n [] l ∙ ap (λ (xs : List (List ℕ)). get_or xs n []) e ∙ fours_at (length body / 4) n body (omega arith))
    ∙ get_or-take 4 (drop (4 * n) body) 0 0 (omega arith)
    ∙ get_or-drop (4 * n) body 0 0
    ∙ ap (λ (k : ℕ). get_or body k 0) z

-- ---- which they are

-- record i is made of the four bytes at its place
pub record_at : (body : List ℕ) (i : ℕ) (d : Cycle) → 4 * i + 4 ≤ length body → get_or (records body) i d ≡ cycle_at body i
unfolding records cycle_at
record_at [] i d w = absurd (omega arith)
record_at (k ∷ []) i d w = absurd (omega arith)
record_at (k ∷ h ∷ []) i d w = absurd (omega arith)
record_at (k ∷ h ∷ l ∷ []) i d w = absurd (omega arith)
record_at (k ∷ h ∷ l ∷ v ∷ rest) zero d w = refl
record_at (k ∷ h ∷ l ∷ v ∷ rest) (suc i) d w = rw (four_on i 1, four_on i 2, four_on i 3, four_on_0 i) (record_at rest i d (omega arith))

-- the sound records are the first of all
sound_first : (body : List ℕ) → sound body ≡ take (length (sound body)) (records body)
unfolding records before_bad_kind
sound_first [] = refl
sound_first (k ∷ []) = refl
sound_first (k ∷ h ∷ []) = refl
sound_first (k ∷ h ∷ l ∷ []) = refl
sound_first (k ∷ h ∷ l ∷ v ∷ rest) = by (leb k 3) (sound_first rest)
  where
    c : Cycle
    c = record { kind = k; offset = 256 * h + l; byte = v }

    by : (t : Bool) → sound rest ≡ take (length (sound rest)) (records rest)
        → cond t (c ∷ sound rest) [] ≡ take (length (cond t (c ∷ sound rest) [])) (c ∷ records rest)
    by true e = ap (λ (cs : List Cycle). c ∷ cs) e
    by false e = refl

-- the records played are the first of all, as many as are counted
pub played_first : (limit : ℕ) (body : List ℕ) → take limit (sound body) ≡ take (count_of limit body) (records body)
played_first limit body = min_cases limit s _ less more
  where
    s : ℕ
    s = length (sound body)

    less : limit ≤ s → min limit s ≡ limit → take limit (sound body) ≡ take (min limit s) (records body)
    less l q = rw q (ap (take limit) (sound_first body) ∙ take-take limit s (records body) l)

    more : s ≤ limit → min limit s ≡ s → take limit (sound body) ≡ take (min limit s) (records body)
    more l q = rw q (take_all limit (sound body) l ∙ sound_first body)

-- what comes behind n whole records does not change them
pub records_extend : (n : ℕ) (body more : List ℕ) → 4 * n ≤ length body → take n (records (body ++ more)) ≡ take n (records body)
unfolding records
records_extend zero body more w = refl
records_extend (suc n) [] more w = absurd (omega arith)
records_extend (suc n) (k ∷ []) more w = absurd (omega arith)
records_extend (suc n) (k ∷ h ∷ []) more w = absurd (omega arith)
records_extend (suc n) (k ∷ h ∷ l ∷ []) more w = absurd (omega arith)
records_extend (suc n) (k ∷ h ∷ l ∷ v ∷ rest) more w =
    ap (λ (cs : List Cycle). record { kind = k; offset = 256 * h + l; byte = v } ∷ cs) (records_extend n rest more (omega arith))

-- there are as many as the bytes make up
pub records_whole : (n : ℕ) (body : List ℕ) → 4 * n ≤ length body → n ≤ length (records body)
unfolding records
records_whole zero body w = omega arith
records_whole (suc n) [] w = absurd (omega arith)
records_whole (suc n) (k ∷ []) w = absurd (omega arith)
records_whole (suc n) (k ∷ h ∷ []) w = absurd (omega arith)
records_whole (suc n) (k ∷ h ∷ l ∷ []) w = absurd (omega arith)
records_whole (suc n) (k ∷ h ∷ l ∷ v ∷ rest) w =
    let i : n ≤ length (records rest) = records_whole n rest (omega arith) in
    omega arith

-- ---- as chunks of four bytes

unfoldable pub fours : List ℕ → List (List ℕ)
fours [] = []
fours (k ∷ []) = []
fours (k ∷ h ∷ []) = []
fours (k ∷ h ∷ l ∷ []) = []
fours (k ∷ h ∷ l ∷ v ∷ rest) = (k ∷ h ∷ l ∷ v ∷ []) ∷ fours rest

pub cuts_fours : Cuts 4 fours
unfolding fours
cuts_fours = record { short = short; front = front }
  where
    short : (l : List ℕ) → length l < 4 → length (fours l) ≡ 0
    short [] s = refl
    short (k ∷ []) s = refl
    short (k ∷ h ∷ []) s = refl
    short (k ∷ h ∷ l ∷ []) s = refl
    short (k ∷ h ∷ l ∷ v ∷ rest) s = absurd (omega arith)

    front : (x l : List ℕ) → length x ≡ 4 → fours (x ++ l) ≡ x ∷ fours l
    front (k ∷ h ∷ l ∷ v ∷ []) rest e = refl
    front [] rest e = absurd (omega arith)
    front (k ∷ []) rest e = absurd (omega arith)
    front (k ∷ h ∷ []) rest e = absurd (omega arith)
    front (k ∷ h ∷ l ∷ []) rest e = absurd (omega arith)
    front (k ∷ h ∷ l ∷ v ∷ y ∷ x) rest e = absurd (omega arith)

-- those of known kinds, up to the first other one, within a limit
pub known_first : (limit : ℕ) (body : List ℕ) → prefix_len known (take limit (fours body)) ≡ count_of limit body
unfolding fours records before_bad_kind
known_first zero body = omega arith
known_first (suc n) [] = omega arith
known_first (suc n) (k ∷ []) = omega arith
known_first (suc n) (k ∷ h ∷ []) = omega arith
known_first (suc n) (k ∷ h ∷ l ∷ []) = omega arith
known_first (suc n) (k ∷ h ∷ l ∷ v ∷ rest) = by (leb k 3) (known_first n rest)
  where
    by : (t : Bool) → prefix_len known (take n (fours rest)) ≡ min n (length (sound rest))
        → cond t (1 + prefix_len known (take n (fours rest))) 0 ≡ min (suc n) (length (cond t (record { kind = k; offset = 256 * h + l; byte = v } ∷ sound rest) []))
    by true e = omega arith
    by false e = omega arith

-- record i of a body is the first of what stands behind the i before it: what `cycle_of` gives of those bytes
pub cycle_behind : (body : List ℕ) (i : ℕ) → cycle_at (drop (4 * i) body) 0 ≡ cycle_at body i
unfolding cycle_at
cycle_behind body i =
    let z : 4 * i + 0 ≡ 4 * i = omega arith in
    rw (get_or-drop (4 * i) body 0 0, get_or-drop (4 * i) body 1 0, get_or-drop (4 * i) body 2 0, get_or-drop (4 * i) body 3 0, z) refl
