-- Each turn counts a hundred bytes more. Assumes nothing.
use Rattle.std.proofs.Common.{◌≡◌, ◌*◌}
use Rattle.sha1_vectors.proofs.million.Given as goal

abbrev pub invariant-loop : goal.invariant-loop
invariant-loop g l = l.s.count ≡ 100 * l.counter
