-- So many rounds are done. Assumes nothing.
use Rattle.std.proofs.Common.{◌≡◌}
use Rattle.sha1_block.specs.Sha1.{rounds}
use Rattle.sha1_block.proofs.rounds.twenty.Given as goal

abbrev pub invariant-loop-word : goal.invariant-loop-word
invariant-loop-word g l = l.x ≡ rounds l.w l.s l.word-index l.fn.v
