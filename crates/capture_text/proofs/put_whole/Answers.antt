-- Lines, word, count. Assumes nothing.
use Rattle.std.proofs.Common.{rules}
use Rattle.capture_text.proofs.LineLaws.{gains_text}
use Rattle.capture_text.proofs.put_whole.Goals as goal

pub returns : goal.returns
returns c = search (rules, gains_text)
