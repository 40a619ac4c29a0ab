-- The lines of the output, put one behind the other. Assumes nothing.
use mathlib.Core.Path.{◌≡◌, refl, ap, ◌∙◌}
use mathlib.Core.List.{List, [], ◌∷◌, ◌++◌}
use Prim.Native.Nat.{ℕ, zero, suc, ◌+◌, ◌*◌, ◌/◌, ◌≤◌, ◌<◌}
use native.Mathlib.Omega.{arith}
use lib.ListN.{length, get_or, take, drop, length-drop}
use Rattle.std.specs.Prelude.{Option}
use Rattle.std.specs.Simd.{first_chunks}
use Rattle.std.proofs.Common.{get_or-take}
use Rattle.std.proofs.lemmas.List.{drop-drop}
use Rattle.text.specs.declared.Page.{Page}
use Rattle.text.specs.Text.{decimal, hex_byte}
use Rattle.text.specs.Page.{Gains}
use Rattle.text.proofs.PutLaws.{gains_nothing, gains_then}
use Rattle.capture.specs.declared.Word.{Word}
use Rattle.capture_text.specs.Lines.{space, newline, line_of, lines_of, word_text, cycles_text, last_text, text_of}

-- three texts, one behind the other
gains_three : (p q r s : Page) (xs ys zs : List ℕ) → Gains p xs q → Gains q ys r → Gains r zs s → Gains p (xs ++ (ys ++ zs)) s
gains_three p q r s xs ys zs f g h = gains_then p q s xs (ys ++ zs) f (gains_then q r s ys zs g h)

pub gains_line : (refusal number byte : ℕ) (p q r s t : Page) → number ≡ refusal → Gains p (decimal number) q → Gains q (space ∷ []) r → Gains r (hex_byte byte) s → Gains s (newline ∷ []) t
    → Gains p (line_of refusal byte) t
unfolding line_of
gains_line refusal number byte p q r s t e f g h i =
    rw (← e) (gains_three p q s t (decimal number) (space ∷ hex_byte byte) (newline ∷ []) f (gains_then q r s (space ∷ []) (hex_byte byte) g h) i)

pub gains_cycles : (n : ℕ) (p q r s : Page) → Gains p (0x63 ∷ 0x79 ∷ 0x63 ∷ 0x6c ∷ 0x65 ∷ 0x73 ∷ space ∷ []) q → Gains q (decimal n) r → Gains r (newline ∷ []) s
    → Gains p (cycles_text n) s
unfolding cycles_text
gains_cycles n p q r s f g h = gains_three p q r s _ (decimal n) (newline ∷ []) f g h

pub gains_text : (answers line : List ℕ) (w : Option Word) (n : ℕ) (p q r s : Page) → line ≡ word_text w → Gains p (lines_of answers) q → Gains q line r → Gains r (last_text w n) s
    → Gains p (text_of answers w n) s
unfolding text_of
gains_text answers line w n p q r s k f g h = rw (← k) (gains_three p q r s (lines_of answers) line (last_text w n) f g h)

-- ---- the lines of the records

-- where the lines of what is left lead, all of them lead
abbrev pub Ahead : Page → List ℕ → Page → List ℕ → Type 0
Ahead p answers q left = (r : Page) → Gains q (lines_of left) r → Gains p (lines_of answers) r

two_ahead : (l : List ℕ) → 2 ≤ length l → lines_of l ≡ line_of (get_or l 0 0) (get_or l 1 0) ++ lines_of (drop 2 l)
unfolding lines_of
two_ahead [] w = absurd (omega arith)
two_ahead (x ∷ []) w = absurd (omega arith)
two_ahead (x ∷ y ∷ l) w = refl

none_ahead : (l : List ℕ) → length l < 2 → lines_of l ≡ []
unfolding lines_of
none_ahead [] s = refl
none_ahead (x ∷ []) s = refl
none_ahead (x ∷ y ∷ l) s = absurd (omega arith)

-- the i-th of k records of two bytes
record_at : (k i : ℕ) (l : List ℕ) → i < k → get_or (first_chunks 2 k l) i [] ≡ take 2 (drop (2 * i) l)
record_at zero i l w = absurd (omega arith)
record_at (suc k) zero l w = refl
record_at (suc k) (suc i) l w = record_at k i (drop 2 l) (omega arith) ∙ ap (take 2) (drop-drop (2 * i) 2 l ∙ ap (λ (n : ℕ). drop n l) (omega arith))

module _ (p : Page) (answers : List ℕ) (q : Page) (i : ℕ) (so_far : Ahead p answers q (drop (2 * i) answers)) where
  -- the bytes that have no line yet
  abbrev left : List ℕ
  left = drop (2 * i) answers

  pub ahead_more : (q' : Page) (part : List ℕ) → i < length answers / 2 → part ≡ get_or (first_chunks 2 (length answers / 2) answers) i []
      → Gains q (line_of (get_or part 0 0) (get_or part 1 0)) q' → Ahead p answers q' (drop (2 * (i + 1)) answers)
  ahead_more q' part w e g r h =
      let is : part ≡ take 2 left = e ∙ record_at (length answers / 2) i answers w in
      let first : get_or part 0 0 ≡ get_or left 0 0 = ap (λ (l : List ℕ). get_or l 0 0) is ∙ get_or-take 2 left 0 0 (omega arith) in
      let second : get_or part 1 0 ≡ get_or left 1 0 = ap (λ (l : List ℕ). get_or l 1 0) is ∙ get_or-take 2 left 1 0 (omega arith) in
      let behind : drop 2 left ≡ drop (2 * (i + 1)) answers = drop-drop 2 (2 * i) answers ∙ ap (λ (n : ℕ). drop n answers) (omega arith) in
      so_far r (rw (two_ahead left (simp length-drop (omega arith)), behind, ← first, ← second) (gains_then q q' r _ _ g h))

  pub ahead_none : length answers / 2 ≤ i → Gains p (lines_of answers) q
  ahead_none w = so_far q (rw (none_ahead left (simp length-drop (omega arith))) (gains_nothing q))
