-- So many bytes have joined. Assumes nothing.
use Rattle.std.proofs.Common.{◌≡◌, ◌+◌, take}
use Rattle.sha1_message.specs.declared.Stream.{Stream}
use Rattle.sha1_message.specs.Stream.{join_all}
use Rattle.sha1_message.proofs.Stream.push_all.Given as goal

abbrev pub invariant-loop-b : goal.invariant-loop-b
invariant-loop-b l = (◌≡◌ {A = Stream} (record { h = l.h; tail = l.tail; count = l.count }) (join_all l.fn.self (take l.b-index l.m))) × (l.count ≡ l.fn.self.count + l.b-index)
