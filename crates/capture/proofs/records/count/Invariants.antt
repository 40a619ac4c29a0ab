-- The records looked at are of known kinds. Assumes nothing.
use Rattle.std.proofs.Common.{ℕ, ◌≤◌, ◌<◌}
use Rattle.capture.specs.Claims.{kind_of}
use Rattle.capture.proofs.records.count.Given as goal

abbrev pub invariant-loop-n : goal.invariant-loop-n
invariant-loop-n l = (i : ℕ) → i < l.n → kind_of l.fn.body i ≤ 3
