-- The schedule, the rounds and the sums are those of the definition. Assumes nothing.
use Rattle.sha1_block.specs.Sha1.{compress_of}
use Rattle.sha1_block.proofs.block.compress.Goals as goal

pub returns : goal.returns
unfolding compress_of
returns c = cc
