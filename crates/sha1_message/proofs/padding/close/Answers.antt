-- A block with the length, or a block and one more with the length. Assumes nothing.
use Rattle.std.proofs.Common.{lt-ltb, le-ltb}
use Rattle.sha1_message.specs.Stream.{finish}
use Rattle.sha1_message.proofs.padding.close.Goals as goal

pub returns-then-at-lt56 : goal.returns-then-at-lt56
unfolding finish
returns-then-at-lt56 c = simp (lt-ltb _ _ c.if-at-lt56.true) cc

pub returns : goal.returns
unfolding finish
returns c = simp (le-ltb _ _ c.if-at-lt56.false) cc
