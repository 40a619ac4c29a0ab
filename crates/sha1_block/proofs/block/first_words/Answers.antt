-- Each turn fills in one more word. Assumes nothing.
use Rattle.std.proofs.Common.{ℕ, ◌/◌, List, [], length, get_or, refl, ap, ◌∙◌, arith, length-set}
use Rattle.sha1_block.specs.Sha1.{schedule}
use Rattle.sha1_block.proofs.BlockLaws.{chunk_at, own_word}
use Rattle.sha1_block.proofs.block.first_words.Goals as goal

pub loop-t-init : goal.loop-t-init
unfolding schedule
loop-t-init c = (refl, refl)

pub loop-t-preserved : goal.loop-t-preserved
loop-t-preserved c =
    let l = c.loop-t in
    let part = ap (λ (x : List (List ℕ)). get_or x l.t []) c.as_chunks.ensures.front ∙ chunk_at 4 (length c.args.block.now / 4) l.t c.args.block.now (omega arith) in
    (own_word c.args.block.now l.w _ l.t _ l.invariant.0 (omega arith) part c.from_be_bytes.ensures, length-set l.w l.t _ ∙ l.invariant.1)
