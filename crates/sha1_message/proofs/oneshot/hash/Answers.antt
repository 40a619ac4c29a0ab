-- The whole blocks and the rest, finished. Assumes nothing.
use Rattle.std.proofs.Common.{◌≡◌, ℕ, List, rules, refl, ◌∙◌, Bor}
use Rattle.std.proofs.lemmas.Fn.{fold_over, fronts, slice_gives}
use Rattle.std.specs.List.{fold}
use Rattle.sha1_block.specs.Sha1.{first, compress_of}
use Rattle.sha1_message.proofs.OneshotLaws.{one_more, at_once}
use Rattle.sha1_message.proofs.oneshot.hash.Goals as goal

pub returns : goal.returns
returns c =
    let folded = fold_over fronts (λ (y : Bor (List ℕ)). y.now) _ (λ ys a. a ≡ fold compress_of first ys) _ (λ ys a x b f i k. (one_more ys x.now a b i (search rules), search rules)) c.iter.result _ _ _ (slice_gives c.iter.result) refl c.fold-h.ensures.ran in
    at_once c.args.m.now _ _ _ _ (c.iter.ensures.rest ∙ c.as_chunks.ensures.front) folded c.as_chunks.ensures.back c.close.ensures
