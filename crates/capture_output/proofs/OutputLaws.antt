-- The output of a capture: the answers have their room, and their lines are those of the records played. Assumes nothing.
use mathlib.Core.Path.{◌≡◌, refl, sym, ap, ◌∙◌}
use mathlib.Core.List.{List, [], ◌∷◌}
use Prim.Native.Nat.{ℕ, ◌+◌, ◌*◌, ◌≤◌}
use native.Mathlib.Omega.{arith}
use lib.ListN.{length, take, drop, replicate, length-replicate}
use lib.Seq.{sets, length-sets, sets-eq, take_at}
use Rattle.text.specs.Text.{Puts}
use Rattle.capture.specs.Capture.{count}
use Rattle.claims.specs.Calls.{Call, Answer, State, heard}
use Rattle.capture_play.specs.declared.Played.{Played}
use Rattle.capture_play.specs.Play.{calls_of, shown, cycles_in, Plays}
use Rattle.capture_text.specs.Lines.{text_of}
use Rattle.capture_output.specs.Output.{start, output}

-- two bytes for each cycle
shown_number : (hs : List (Call × Answer)) → length (shown hs) ≡ 2 * cycles_in hs
unfolding shown cycles_in
shown_number [] = refl
shown_number (h ∷ hs) =
    let i : length (shown hs) ≡ 2 * cycles_in hs = shown_number hs in
    omega arith

-- what was stored from the front on is there
stored : (l vs : List ℕ) (n : ℕ) → length vs ≡ n → n ≤ length l → take n (sets l 0 vs) ≡ vs
stored l vs n e f = ap (take n) (sets-eq vs l 0 (omega arith)) ∙ take_at vs (drop (0 + length vs) l) n e

module _ (capture : List ℕ) (p : Played) (a w r : List ℕ) (s : State) (played : Plays p a w r s 10000 capture (replicate 20000 0)) where
  within : 2 * p.cycles ≤ length (replicate {A = ℕ} 20000 0)
  unfolding count
  within = rw (length-replicate {A = ℕ} 20000 0) (omega (arith, played.cycles))

  pub answers_fit : 2 * p.cycles ≤ length a
  answers_fit = rw (played.answers, length-sets (replicate 20000 0) 0 (shown (heard s (calls_of 10000 capture)))) within

  answers_are : take (2 * p.cycles) a ≡ shown (heard s (calls_of 10000 capture))
  answers_are =
      rw played.answers
      (stored (replicate 20000 0) (shown (heard s (calls_of 10000 capture))) (2 * p.cycles)
      (shown_number (heard s (calls_of 10000 capture)) ∙ ap (λ (k : ℕ). 2 * k) (sym played.steps)) within)

pub puts_output : (capture : List ℕ) (p : Played) (a w r : List ℕ) → Plays p a w r start 10000 capture (replicate 20000 0) → (lent held : List ℕ) (next : ℕ)
    → Puts lent 0 (text_of (take (2 * p.cycles) a) p.word p.cycles) held next → Puts lent 0 (output capture) held next
unfolding output
puts_output capture p a w r played lent held next q = rw (answers_are capture p a w r start played, played.word, played.cycles) at q
