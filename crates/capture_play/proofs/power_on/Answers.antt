-- What a power-on leaves. Assumes nothing.
use Rattle.std.proofs.Common.{rules}
use Rattle.capture_play.proofs.PlayLaws.{powered_on_lem}
use Rattle.capture_play.proofs.power_on.Goals as goal

pub returns : goal.returns
returns c = search (rules, powered_on_lem)
