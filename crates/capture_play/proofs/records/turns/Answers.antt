-- One record more, and none. Assumes nothing.
use Rattle.std.proofs.Common.{◌∙◌}
use Rattle.capture_play.proofs.PlayLaws.{ahead_more, ahead_none}
use Rattle.capture_play.proofs.records.turns.Goals as goal

pub loop-bytes-preserved : goal.loop-bytes-preserved
loop-bytes-preserved c = record {
  size = c.in-Some.ensures.steps.0 ∙ c.loop-bytes.invariant.size;
  ahead =
      ahead_more _ _ _ _ _ _ _ _ c.loop-bytes.invariant.ahead _ _ c.in-Some.ensures.steps.1.0 (c.in-Some.ensures.steps.1.1 ∙ c.loop-bytes.invariant.size)
      _ c.cycle_of.ensures _ _ _ c.cycle-o.ensures _ (rw c.number_of.ensures at c.put.ensures);
}

pub returns : goal.returns
returns c = ahead_none _ _ _ _ _ _ _ _ c.loop-bytes.invariant.ahead (rw c.loop-bytes.invariant.size at c.in-None.ensures.steps.1.0)
