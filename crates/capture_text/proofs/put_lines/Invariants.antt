-- Where the lines of the records that are left lead, all of them lead. Assumes nothing.
use Rattle.std.proofs.Common.{◌*◌, drop}
use Rattle.capture_text.proofs.LineLaws.{Ahead}
use Rattle.capture_text.proofs.put_lines.Given as goal

abbrev pub invariant-loop-refusal : goal.invariant-loop-refusal
invariant-loop-refusal l = Ahead l.fn.page l.fn.answers l.page (drop (2 * l.refusal-index) l.fn.answers)
