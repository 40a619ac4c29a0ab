-- After i turns the first i bytes have joined. Assumes nothing.
use Rattle.std.proofs.Common.{◌≡◌, ◌-◌, ◌≤◌, length, take}
use Rattle.sha1_message.specs.declared.Stream.{Stream}
use Rattle.sha1_message.specs.Stream.{begin, join_all}
use Rattle.sha1_exports.proofs.by_byte.Given as goal

abbrev pub invariant-loop-i : goal.invariant-loop-i
invariant-loop-i l = (◌≡◌ {A = Stream} (record { h = l.h; tail = l.tail; count = l.i }) (join_all begin (take l.i l.m))) × (l.i ≤ length l.m)

abbrev pub decreases-loop-i : goal.decreases-loop-i
decreases-loop-i l = length l.m - l.i
