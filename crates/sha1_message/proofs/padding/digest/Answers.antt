-- The five words stand one after the other. Assumes nothing.
use Rattle.std.proofs.Common.{◌≡◌, ℕ, ◌<◌, List, [], ◌∷◌, length, get_or, refl, sym, ◌∙◌, arith, rules, take_all}
use Rattle.std.proofs.Math.Seq.{take-suc}
use Rattle.std.specs.List.{flat_map}
use Rattle.sha1_block.specs.Sha1.{bytes_of, digest_of}
use Rattle.sha1_message.proofs.padding.digest.Goals as goal

five_words : (h : List ℕ) (words : List (List ℕ)) → length words ≡ 5 → ((i : ℕ) → i < 5 → get_or words i [] ≡ bytes_of (get_or h i 0)) → flat_map (λ x. x) words ≡ digest_of h
unfolding digest_of
five_words h words k e =
    let five : words ≡ get_or words 0 [] ∷ get_or words 1 [] ∷ get_or words 2 [] ∷ get_or words 3 [] ∷ get_or words 4 [] ∷ [] =
    sym (take_all 5 words (omega arith)) ∙ rw (take-suc words 4 [] (omega arith), take-suc words 3 [] (omega arith), take-suc words 2 [] (omega arith), take-suc words 1 [] (omega arith), take-suc words 0 [] (omega arith)) refl in
    rw (five, e 0 (omega arith), e 1 (omega arith), e 2 (omega arith), e 3 (omega arith), e 4 (omega arith)) refl

pub returns : goal.returns
returns c =
    c.copy_from_slice.ensures.after ∙ c.as_flattened.ensures.value
    ∙ five_words c.args.h _ c.map-words.ensures.items.long (λ i l. let called = c.map-words.ensures.items.at i 0 [] l in search rules)
