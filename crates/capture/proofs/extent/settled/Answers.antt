-- By the bytes of the head, or by the word. Assumes nothing.
use Rattle.std.proofs.Common.{rules}
use Rattle.capture.proofs.ExtentLaws.{short_settled, long_settled}
use Rattle.capture.proofs.extent.settled.Goals as goal

pub returns-then-capture-lt-HEAD_BYTES : goal.returns-then-capture-lt-HEAD_BYTES
returns-then-capture-lt-HEAD_BYTES c = search (rules, short_settled)

pub returns : goal.returns
returns c = search (rules, long_settled)
