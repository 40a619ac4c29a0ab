-- The records counted are played. Assumes nothing.
use Rattle.std.proofs.Common.{rules}
use Rattle.capture_play.proofs.PlayLaws.{cycles_fit, all_played}
use Rattle.capture_play.proofs.play_from.Goals as goal

pub play_records-requires : goal.play_records-requires
play_records-requires c = search (rules, cycles_fit)

pub returns : goal.returns
returns c = search (rules, all_played)
