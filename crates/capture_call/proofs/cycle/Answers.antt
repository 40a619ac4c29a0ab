-- The call of a record is the one of its kind; no step is named, so that a wrong kind is refused for what it is. Assumes nothing.
use Rattle.std.proofs.Common.{rules}
use Rattle.capture_call.proofs.CycleLaws.{gives_changes, gives_read, kind_read, kind_write, kind_reset, kind_answer}
use Rattle.capture_call.proofs.cycle.Goals as goal

pub returns-in-0 : goal.returns-in-0
returns-in-0 c = search (rules, kind_read, gives_read)

pub returns-in-1 : goal.returns-in-1
returns-in-1 c = search (rules, kind_write, gives_changes)

pub returns-in-2 : goal.returns-in-2
returns-in-2 c = search (rules, kind_reset, gives_changes)

pub returns-in_default : goal.returns-in_default
returns-in_default c = search (rules, kind_answer, gives_changes)
