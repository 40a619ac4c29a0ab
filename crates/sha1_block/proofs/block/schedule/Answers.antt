-- Each turn fills in one more word. Assumes nothing.
use Rattle.std.proofs.Common.{◌∙◌, arith, length-set}
use Rattle.sha1_block.proofs.BlockLaws.{later_word}
use Rattle.sha1_block.proofs.block.schedule.Goals as goal

pub loop-t-preserved : goal.loop-t-preserved
loop-t-preserved c =
    let l = c.loop-t in
    (later_word _ l.w l.t _ l.invariant.0 (omega arith) c.rotate_left.ensures, length-set l.w l.t _ ∙ l.invariant.1)
