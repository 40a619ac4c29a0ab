-- Number, blank, digits, end of line. Assumes nothing.
use Rattle.std.proofs.Common.{rules}
use Rattle.capture_text.proofs.LineLaws.{gains_line}
use Rattle.capture_text.proofs.put_line.Goals as goal

pub returns : goal.returns
returns c = search (rules, gains_line)
