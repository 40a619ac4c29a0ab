-- Each turn reads a byte or more into what is left. Assumes nothing.
use Rattle.std.proofs.Common.{◌≡◌, ◌-◌, ◌≤◌, length}
use Rattle.play.proofs.input.read_capture.Given as goal

abbrev pub invariant-loop-stdin : goal.invariant-loop-stdin
invariant-loop-stdin l = (l.n ≤ length l.capture) × (length l.capture ≡ length l.fn.capture)

abbrev pub decreases-loop-stdin : goal.decreases-loop-stdin
decreases-loop-stdin l = length l.fn.capture - l.n
