-- A whole capture, by its head. Assumes nothing.
use mathlib.Core.Path.{◌≡◌, ap, ◌∙◌}
use mathlib.Core.Bool.{Bool, true, false, not}
use mathlib.Core.List.{List}
use Prim.Native.Nat.{ℕ, ◌≤◌, ◌<◌}
use native.Mathlib.Omega.{arith}
use lib.ListN.{length, take, drop}
use lib.Dec.{eqb}
use borrow.Author.Tests.{lt-ltb, le-ltb}
use Rattle.std.specs.Prelude.{Option, Some}
use Rattle.std.specs.Cmp.Lexicographic.{pointwise}
use Rattle.capture.specs.declared.Word.{Word}
use Rattle.capture.specs.declared.Word.TheVariants.{BadHead}
use Rattle.capture.specs.Capture.{head, records, before_bad_kind, count_of, word_of, count, word, ends, settled}
use Rattle.capture.proofs.HeadLaws.{good_is, no_body, body_there, goes}

module _ (limit : ℕ) (capture : List ℕ) where
  module _ (bad : pointwise eqb (take 5 capture) head ≡ false) where
    pub none_played : 0 ≡ count limit capture
    unfolding count records before_bad_kind
    none_played = rw (← no_body capture bad) (omega arith)

    pub bad_head_lem : Some BadHead ≡ word limit capture
    unfolding word
    bad_head_lem = rw (good_is capture false bad)

  module _ (good : pointwise eqb (take 5 capture) head ≡ true) (body : List ℕ) (body_is : body ≡ drop 5 capture) where
    pub counts_body : (n : ℕ) → n ≡ count_of limit body → n ≡ count limit capture
    unfolding count
    counts_body n e = e ∙ ap (count_of limit) (body_is ∙ body_there capture good)

    pub words_body : (w : Option Word) → w ≡ word_of limit body → w ≡ word limit capture
    unfolding word
    words_body w e = e ∙ ap (word_of limit) (body_is ∙ body_there capture good) ∙ rw (good_is capture true good)

  -- the bytes so far
  pub short_settled : length capture < 5 → (t : Bool) → t ≡ pointwise eqb capture (take (length capture) head) → not t ≡ settled limit capture
  unfolding settled
  short_settled l t e = rw (lt-ltb (length capture) 5 l, e, goes head capture (omega arith))

  pub long_settled : 5 ≤ length capture → (w : Option Word) → w ≡ word limit capture → (t : Bool) → t ≡ ends w → t ≡ settled limit capture
  unfolding settled
  long_settled l w e t q = q ∙ rw (le-ltb (length capture) 5 l, e)
