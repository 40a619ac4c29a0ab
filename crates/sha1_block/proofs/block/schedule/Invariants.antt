-- So many words are filled in. Assumes nothing.
use Rattle.std.proofs.Common.{◌≡◌, length}
use Rattle.sha1_block.specs.Sha1.{schedule}
use Rattle.sha1_block.proofs.block.schedule.Given as goal

abbrev pub invariant-loop-t : goal.invariant-loop-t
invariant-loop-t l = (l.w ≡ schedule l.block l.t) × (length l.w ≡ 80)
