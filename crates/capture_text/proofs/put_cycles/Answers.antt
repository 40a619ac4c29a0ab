-- Name, number, end of line. Assumes nothing.
use Rattle.std.proofs.Common.{rules}
use Rattle.capture_text.proofs.LineLaws.{gains_cycles}
use Rattle.capture_text.proofs.put_cycles.Goals as goal

pub returns : goal.returns
returns c = search (rules, gains_cycles)
