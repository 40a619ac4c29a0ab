-- What W1 says of every capture and every limit holds of the definitions. Assumes nothing.
use mathlib.Core.Path.{◌≡◌, refl, sym, ap, ap₂, subst, ◌∙◌}
use mathlib.Core.Bool.{Bool, true, false, not, cond, ◌&&◌, and-false, true≢false, false≢true}
use mathlib.Core.List.{List, [], ◌∷◌, ◌++◌}
use mathlib.Core.Logic.{◌⊎◌, inl, inr}
use Rattle.std.specs.Prelude.{Option, Some, None}
use Prim.Native.Nat.{ℕ, ◌+◌, ◌*◌, ◌-◌, ◌≤◌, ◌<◌}
use native.Mathlib.Omega.{arith}
use lib.ListN.{length, get_or, take, drop, replicate, length-append, length-replicate, get_or-append, take-append-drop}
use lib.Seq.{get_or-take, length-take-le, take-nil, take_all}
use lib.Dec.{eqb, leb, ltb}
use borrow.Author.Tests.{eqb-true, leb-true, le-leb, lt-leb, ltb-true, ltb-false, not-true, not-false}
use Rattle.bits.proofs.TestLaws.{both_true}
use Rattle.capture.specs.declared.Cycle.{Cycle}
use Rattle.capture.specs.declared.Word.{Word}
use Rattle.capture.specs.declared.Word.TheVariants.{Budget, BadKind, BadTail, BadHead}
use Rattle.capture.specs.Capture.{head, agrees, head_good, body_of, cycle_at, records, before_bad_kind, count_of, word_of, played, count, word, ends, settled}
use Rattle.capture.specs.Claims.{headed, kind_of, Plays, Headless, CaptureClaim}
use Rattle.capture.proofs.RecordLaws.{counted, counted_once, record_at, records_whole, played_first, records_extend}
use Rattle.capture.proofs.Words.{no_head_word, words_of}

-- ---- a good head

good : (body : List ℕ) → head_good (headed body) ≡ true
unfolding head_good
good body = rw (le-leb 5 (length (headed body)) (omega arith))

body_is : (body : List ℕ) → body_of (headed body) ≡ body
unfolding body_of
body_is body = rw (good body)

pub count_is : (limit : ℕ) (body : List ℕ) → count limit (headed body) ≡ count_of limit body
unfolding count
count_is limit body = ap (count_of limit) (body_is body)

pub played_is : (limit : ℕ) (body : List ℕ) → played limit (headed body) ≡ take (count_of limit body) (records body)
unfolding played
played_is limit body = rw (body_is body) (played_first limit body)

pub word_is : (limit : ℕ) (body : List ℕ) → word limit (headed body) ≡ word_of limit body
unfolding word
word_is limit body = rw (good body, body_is body)

-- what agrees with a head is the head, as far as both go
agrees_take : (h bytes : List ℕ) → agrees h bytes ≡ true → take (length h) bytes ≡ take (length bytes) h
agrees_take [] bytes e = sym (take-nil (length bytes))
agrees_take (x ∷ h) [] e = refl
agrees_take (x ∷ h) (b ∷ bytes) e =
    let t : _ = both_true (eqb b x) (agrees h bytes) e in
    ap₂ (λ (z : ℕ) (l : List ℕ). z ∷ l) (eqb-true b x t.0) (agrees_take h bytes t.1)

-- a good head is those five bytes
headed_is : (capture : List ℕ) → head_good capture ≡ true → capture ≡ headed (drop 5 capture)
unfolding head_good
headed_is capture e =
    let t : _ = both_true (leb 5 (length capture)) (agrees head capture) e in
    let front : take 5 capture ≡ head = agrees_take head capture t.1 ∙ take_all (length capture) head (leb-true 5 (length capture) t.0) in
    sym (take-append-drop 5 capture) ∙ ap (λ (l : List ℕ). l ++ drop 5 capture) front

not_headed : (capture : List ℕ) → ((body : List ℕ) → capture ≡ headed body → ⊥) → head_good capture ≡ false
not_headed capture other = by (head_good capture) refl
  where
    by : (t : Bool) → head_good capture ≡ t → t ≡ false
    by true e = absurd (other (drop 5 capture) (headed_is capture e))
    by false e = refl

-- ---- a bad one

module _ (limit : ℕ) (capture : List ℕ) (bad : head_good capture ≡ false) where
  headless_of : Headless limit capture
  unfolding body_of played count word records before_bad_kind
  headless_of = record {
    none = rw bad (take-nil limit);
    number = rw bad (omega arith);
    bad_head = rw bad refl;
  }

-- what differs from the head differs whatever comes behind it
differs_on : (h bytes more : List ℕ) → agrees h bytes ≡ false → agrees h (bytes ++ more) ≡ false
differs_on [] bytes more e = absurd (true≢false e)
differs_on (x ∷ h) [] more e = absurd (true≢false e)
differs_on (x ∷ h) (b ∷ bytes) more e = by (eqb b x) e (differs_on h bytes more)
  where
    by : (t : Bool) → t && agrees h bytes ≡ false → (agrees h bytes ≡ false → agrees h (bytes ++ more) ≡ false) → t && agrees h (bytes ++ more) ≡ false
    by true q f = f q
    by false q f = refl

differs_bad : (capture : List ℕ) → agrees head capture ≡ false → head_good capture ≡ false
unfolding head_good
differs_bad capture e = rw e (and-false (leb 5 (length capture)))

-- ---- the records played

plays_of : (limit : ℕ) (body : List ℕ) → Plays body (count_of limit body) (take (count_of limit body) (records body))
unfolding cycle_at
plays_of limit body = record {
  number = length-take-le (count_of limit body) (records body) (records_whole (count_of limit body) body (counted limit body).whole);
  fields = λ i d l.
      let w : 4 * i + 4 ≤ length body = omega (arith, (counted limit body).whole) in
      let e : get_or (take (count_of limit body) (records body)) i d ≡ cycle_at body i = get_or-take (count_of limit body) (records body) i d l ∙ record_at body i d w in
      record { kind = ap (λ (c : Cycle). c.kind) e; offset = ap (λ (c : Cycle). c.offset) e; byte = ap (λ (c : Cycle). c.byte) e };
}

-- ---- more bytes behind a body

module _ (limit : ℕ) (body more : List ℕ) where
  abbrev n : ℕ
  n = count_of limit body

  kind_kept : (i : ℕ) → 4 * i < length body → kind_of (body ++ more) i ≡ kind_of body i
  kind_kept i l = get_or-append body more 0 (4 * i) l

  -- where n does not end for want of bytes, it ends there too
  count_kept : (n ≡ limit) ⊎ ((4 * n + 4 ≤ length body) × (3 < kind_of body n)) → count_of limit (body ++ more) ≡ n
  count_kept s = counted_once limit (body ++ more) n (record {
    within = (counted limit body).within;
    whole = simp length-append (omega (arith, (counted limit body).whole));
    known = λ i l. rw (kind_kept i (omega (arith, (counted limit body).whole))) ((counted limit body).known i l);
    stops = by s;
  })
    where
      by : (n ≡ limit) ⊎ ((4 * n + 4 ≤ length body) × (3 < kind_of body n)) → (n ≡ limit) ⊎ ((length (body ++ more) < 4 * n + 4) ⊎ (3 < kind_of (body ++ more) n))
      by (inl e) = inl e
      by (inr p) = inr (inr (rw (kind_kept n (omega (arith, p.0))) p.1))

  played_kept : count_of limit (body ++ more) ≡ n → take (count_of limit (body ++ more)) (records (body ++ more)) ≡ take n (records body)
  played_kept e = rw e (records_extend n body more (counted limit body).whole)

  budget_kept : word_of limit body ≡ Some Budget → (count_of limit (body ++ more) ≡ n) × (word_of limit (body ++ more) ≡ Some Budget)
  budget_kept w =
      let p : (n ≡ limit) × (4 * n < length body) = (words_of limit body).budget.0 w in
      let e : count_of limit (body ++ more) ≡ n = count_kept (inl p.0) in
      (e, (words_of limit (body ++ more)).budget.1 (e ∙ p.0, simp length-append (omega (arith, p.1, e))))

  bad_kind_kept : word_of limit body ≡ Some BadKind → (count_of limit (body ++ more) ≡ n) × (word_of limit (body ++ more) ≡ Some BadKind)
  bad_kind_kept w =
      let p : (n < limit) × (4 * n + 4 ≤ length body) × (3 < kind_of body n) = (words_of limit body).bad_kind.0 w in
      let e : count_of limit (body ++ more) ≡ n = count_kept (inr (p.1, p.2)) in
      (e, (words_of limit (body ++ more)).bad_kind.1 (rw e (p.0, simp length-append (omega (arith, p.1)), rw (kind_kept n (omega (arith, p.1))) p.2)))

-- ---- when reading on changes nothing

-- what is played of a capture and its word are the same with more bytes behind it
abbrev Kept : ℕ → List ℕ → List ℕ → Type 0
Kept limit more capture = (played limit (capture ++ more) ≡ played limit capture) × (word limit (capture ++ more) ≡ word limit capture)

-- behind a good head
kept_body : (limit : ℕ) (body more : List ℕ) → (w : Option Word) → word_of limit body ≡ w → ends w ≡ true → Kept limit more (headed body)
kept_body limit body more None e q = absurd (false≢true q)
kept_body limit body more (Some BadTail) e q = absurd (false≢true q)
kept_body limit body more (Some BadHead) e q = absurd (no_head_word limit (count_of limit body) _ e)
kept_body limit body more (Some Budget) e q =
    let k : _ = budget_kept limit body more e in
    (played_is limit (body ++ more) ∙ played_kept limit body more k.0 ∙ sym (played_is limit body), word_is limit (body ++ more) ∙ k.1 ∙ sym e ∙ sym (word_is limit body))
kept_body limit body more (Some BadKind) e q =
    let k : _ = bad_kind_kept limit body more e in
    (played_is limit (body ++ more) ∙ played_kept limit body more k.0 ∙ sym (played_is limit body), word_is limit (body ++ more) ∙ k.1 ∙ sym e ∙ sym (word_is limit body))

-- behind bytes that differ from the head
kept_bad : (limit : ℕ) (capture more : List ℕ) → agrees head capture ≡ false → Kept limit more capture
kept_bad limit capture more e =
    let b : Headless limit capture = headless_of limit capture (differs_bad capture e) in
    let c : Headless limit (capture ++ more) = headless_of limit (capture ++ more) (differs_bad (capture ++ more) (differs_on head capture more e)) in
    (c.none ∙ sym b.none, c.bad_head ∙ sym b.bad_head)

module _ (limit : ℕ) (capture : List ℕ) (long : 5 ≤ length capture) where
  differs_long : head_good capture ≡ false → agrees head capture ≡ false
  unfolding head_good
  differs_long e = rw (le-leb 5 (length capture) long) at e

  settles_long : (more : List ℕ) → (t : Bool) → head_good capture ≡ t → ends (word limit capture) ≡ true → Kept limit more capture
  settles_long more false e q = kept_bad limit capture more (differs_long e)
  settles_long more true e q =
      let body : List ℕ = drop 5 capture in
      let is : capture ≡ headed body = headed_is capture e in
      let w : word limit capture ≡ word_of limit body = ap (word limit) is ∙ word_is limit body in
      subst (Kept limit more) (sym is) (kept_body limit body more (word_of limit body) refl (sym (ap ends w) ∙ q))

settles_of : (limit : ℕ) (capture more : List ℕ) → settled limit capture ≡ true → Kept limit more capture
unfolding settled
settles_of limit capture more = by (ltb (length capture) 5) refl
  where
    by : (t : Bool) → ltb (length capture) 5 ≡ t → cond t (not (agrees head capture)) (ends (word limit capture)) ≡ true → Kept limit more capture
    by true l q = kept_bad limit capture more (not-true (agrees head capture) q)
    by false l q = settles_long limit capture (ltb-false (length capture) 5 l) more (head_good capture) refl q

-- ---- and when it can

-- some bytes behind a capture give it another word
abbrev Open : ℕ → List ℕ → Type 0
Open limit capture = (more : List ℕ) × (word limit (capture ++ more) ≡ word limit capture → ⊥)

open_body : (limit : ℕ) (body : List ℕ) → (w : Option Word) → word_of limit body ≡ w → ends w ≡ false → Open limit (headed body)
open_body limit body (Some Budget) e q = absurd (true≢false q)
open_body limit body (Some BadKind) e q = absurd (true≢false q)
open_body limit body (Some BadHead) e q = absurd (true≢false q)
open_body limit body None e q = (
  0 ∷ [],
  λ z.
      let p : length body ≡ 4 * count_of limit body = (words_of limit body).nothing.0 e in
      let r : length (body ++ (0 ∷ [])) ≡ 4 * count_of limit (body ++ (0 ∷ []))
      = (words_of limit (body ++ (0 ∷ []))).nothing.0 (sym (word_is limit (body ++ (0 ∷ []))) ∙ z ∙ word_is limit body ∙ e) in
      omega (arith, length-append body (0 ∷ []), p, r),
)
open_body limit body (Some BadTail) e q =
    let n : ℕ = count_of limit body in
    let p : (n < limit) × (4 * n < length body) × (length body < 4 * n + 4) = (words_of limit body).bad_tail.0 e in
    let more : List ℕ = replicate (4 * n + 4 - length body) 0 in (
      more,
      λ z.
          let r : _ = (words_of limit (body ++ more)).bad_tail.0 (sym (word_is limit (body ++ more)) ∙ z ∙ word_is limit body ∙ e) in
          omega (arith, length-append body more, length-replicate {A = ℕ} (4 * n + 4 - length body) 0, p.1, p.2, r.1, r.2),
    )

nothing_counted : (limit : ℕ) → 0 ≡ 4 * count_of limit []
unfolding records before_bad_kind
nothing_counted limit = omega arith

-- bytes that are the head's as far as they go are made up to a whole head
open_short : (limit : ℕ) (capture : List ℕ) → length capture < 5 → agrees head capture ≡ true → Open limit capture
unfolding head_good
open_short limit capture l e =
    let front : capture ≡ take (length capture) head = sym (take_all 5 capture (omega arith)) ∙ agrees_take head capture e in
    let whole : capture ++ drop (length capture) head ≡ headed [] = ap (λ (c : List ℕ). c ++ drop (length capture) head) front ∙ take-append-drop (length capture) head in
    let was : word limit capture ≡ Some BadHead = (headless_of limit capture (rw (lt-leb 5 (length capture) l))).bad_head in
    let is : word limit (headed []) ≡ None = word_is limit [] ∙ (words_of limit []).nothing.1 (nothing_counted limit) in
    (drop (length capture) head, λ z. cc (sym is ∙ ap (word limit) (sym whole) ∙ z ∙ was))

open_long : (limit : ℕ) (capture : List ℕ) → (t : Bool) → head_good capture ≡ t → ends (word limit capture) ≡ false → Open limit capture
open_long limit capture false e q = absurd (true≢false (ap ends (sym (headless_of limit capture e).bad_head) ∙ q))
open_long limit capture true e q =
    let body : List ℕ = drop 5 capture in
    let is : capture ≡ headed body = headed_is capture e in
    let w : word limit capture ≡ word_of limit body = ap (word limit) is ∙ word_is limit body in
    subst (Open limit) (sym is) (open_body limit body (word_of limit body) refl (sym (ap ends w) ∙ q))

open_of : (limit : ℕ) (capture : List ℕ) → settled limit capture ≡ false → Open limit capture
unfolding settled
open_of limit capture = by (ltb (length capture) 5) refl
  where
    by : (t : Bool) → ltb (length capture) 5 ≡ t → cond t (not (agrees head capture)) (ends (word limit capture)) ≡ false → Open limit capture
    by true l q = open_short limit capture (ltb-true (length capture) 5 l) (not-false (agrees head capture) q)
    by false l q = open_long limit capture (head_good capture) refl q

-- ---- all of it

pub capture_holds : CaptureClaim
capture_holds = record {
  counted = λ limit body. rw (count_is limit body) (counted limit body);
  plays = λ limit body. rw (count_is limit body, played_is limit body) (plays_of limit body);
  words = λ limit body. rw (count_is limit body, word_is limit body) (words_of limit body);
  headless = λ limit capture other. headless_of limit capture (not_headed capture other);
  settles = settles_of;
  unsettled = open_of;
}
