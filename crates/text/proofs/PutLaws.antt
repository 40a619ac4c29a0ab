-- Text put behind text. Assumes nothing.
use mathlib.Core.Path.{◌≡◌, refl, sym, ap, ◌∙◌}
use mathlib.Core.List.{List, [], ◌∷◌, ◌++◌, append_assoc}
use Prim.Native.Nat.{ℕ, suc, ◌+◌, ◌-◌, ◌≤◌, min}
use native.Mathlib.Nat.{add-zero, add-suc, suc-add}
use native.Mathlib.Omega.{arith, min_cases}
use lib.ListN.{length, set, take, drop, length-append, take-append-drop, drop_of_length-le}
use lib.Seq.{sets, sets-eq, length-sets, length-take-le, set_out}
use borrow.Rule.Slice.PartMut.{put_mid}
use Rattle.std.proofs.lemmas.Slice.{put_mid-paste}
use Rattle.std.proofs.lemmas.List.Edits.{paste_all}
use Rattle.text.specs.declared.Page.{Page}
use Rattle.text.specs.Text.{Puts}
use Rattle.text.specs.Page.{Gains}

-- past the end nothing is stored
sets_out : (vs l : List ℕ) (i : ℕ) → length l ≤ i → sets l i vs ≡ l
sets_out [] l i h = refl
sets_out (v ∷ vs) l i h = rw (set_out l i v h) (sets_out vs l (suc i) (omega arith))

sets_append : (xs ys l : List ℕ) (i : ℕ) → sets (sets l i xs) (i + length xs) ys ≡ sets l i (xs ++ ys)
sets_append [] ys l i = ap (λ (k : ℕ). sets l k ys) (add-zero i)
sets_append (x ∷ xs) ys l i =
    ap (λ (k : ℕ). sets (sets (set l i x) (suc i) xs) k ys) (add-suc i (length xs) ∙ sym (suc-add i (length xs))) ∙ sets_append xs ys (set l i x) (suc i)

-- text of which so much is stored as there is room for
module _ (lent : List ℕ) (at : ℕ) (within : at ≤ length lent) (text : List ℕ) (n : ℕ) (room : n ≡ min (length text) (length lent - at)) where
  short : length (take n text) ≡ n
  short = length-take-le n text (omega arith)

  cut_stored : sets lent at (take n text) ≡ take at lent ++ (take n text ++ drop (at + n) lent)
  cut_stored =
      let fits : at + length (take n text) ≤ length lent = omega (arith, short) in
      sets-eq (take n text) lent at fits
      ∙ append_assoc (take at lent) (take n text) (drop (at + length (take n text)) lent)
      ∙ ap (λ (m : ℕ). take at lent ++ (take n text ++ drop (at + m) lent)) short

  rest_left_out : (l : List ℕ) → length l ≡ length lent → sets l (at + n) (drop n text) ≡ l
  rest_left_out l e = min_cases (length text) (length lent - at) _
      (λ _ q. ap (sets l (at + n)) (drop_of_length-le text {i = n} (omega arith)))
      (λ _ q. sets_out (drop n text) l (at + n) (omega arith))

  cut_is : sets lent at (take n text) ≡ sets lent at text
  cut_is =
      sym (rest_left_out (sets lent at (take n text)) (length-sets lent at (take n text)))
      ∙ ap (λ (m : ℕ). sets (sets lent at (take n text)) (at + m) (drop n text)) (sym short)
      ∙ sets_append (take n text) (drop n text) lent at
      ∙ ap (sets lent at) (take-append-drop n text)

  pub puts_cut : (cut : List ℕ) (k : ℕ) → k ≡ n → cut ≡ take n text → Puts lent at text (put_mid at k lent cut) (at + n)
  puts_cut cut k e c = record {
    holds = put_mid-paste at k lent cut (take n text) n c (sym e) (sym short) ∙ paste_all lent at (take n text) n (sym short) ∙ sym cut_stored ∙ cut_is;
    place = omega arith;
  }

module _ (lent : List ℕ) (at : ℕ) (within : at ≤ length lent) where
  module _ (xs held : List ℕ) (next : ℕ) (first : Puts lent at xs held next) where
    -- text behind it
    pub puts_then : (ys held' : List ℕ) (next' : ℕ) → Puts held next ys held' next' → Puts lent at (xs ++ ys) held' next'
    puts_then ys held' next' p = record {
      holds = p.holds ∙ rw (first.holds, first.place) (min_cases (at + length xs) (length lent) _ fits full);
      place = p.place ∙ rw (first.holds, length-sets lent at xs, first.place, length-append xs ys) (omega arith);
    }
      where
        fits : at + length xs ≤ length lent → min (at + length xs) (length lent) ≡ at + length xs → sets (sets lent at xs) (min (at + length xs) (length lent)) ys ≡ sets lent at (xs ++ ys)
        fits l e = rw e (sets_append xs ys lent at)

        full : length lent ≤ at + length xs → min (at + length xs) (length lent) ≡ length lent → sets (sets lent at xs) (min (at + length xs) (length lent)) ys ≡ sets lent at (xs ++ ys)
        full l e =
            let n : length (sets lent at xs) ≡ length lent = length-sets lent at xs in
            rw e (sets_out ys (sets lent at xs) (length lent) (omega arith) ∙ sym (sym (sets_append xs ys lent at) ∙ sets_out ys (sets lent at xs) (at + length xs) (omega arith)))

pub gains_nothing : (p : Page) → Gains p [] p
gains_nothing p = record { same_reference = refl; puts = record { holds = refl; place = omega (arith, p.within) } }

pub gains_then : (p q r : Page) (xs ys : List ℕ) → Gains p xs q → Gains q ys r → Gains p (xs ++ ys) r
gains_then p q r xs ys f g = record {
  same_reference = g.same_reference ∙ f.same_reference;
  puts = puts_then p.lent.now p.used p.within xs q.lent.now q.used f.puts ys r.lent.now r.used g.puts;
}
