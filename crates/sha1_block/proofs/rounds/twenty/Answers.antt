-- Each turn does one round more. Assumes nothing.
use Rattle.std.proofs.Common.{◌+◌, refl, arith}
use Rattle.sha1_block.specs.Sha1.{rounds}
use Rattle.sha1_block.proofs.RoundLaws.{round_more}
use Rattle.sha1_block.proofs.rounds.twenty.Goals as goal

pub loop-word-init : goal.loop-word-init
unfolding rounds
loop-word-init g c = refl

pub loop-word-preserved : goal.loop-word-preserved
loop-word-preserved g c =
    let l = c.loop-word in
    round_more _ _ _ _ _ _ _ _ _ l.invariant c.loop-word-test.true (c.requires.values (c.args.s + l.word-index) _ _ _ _ (omega arith) (omega arith) c.function.ensures)
    (c.requires.constant (c.args.s + l.word-index) (omega arith) (omega arith)) c.round-x.ensures
