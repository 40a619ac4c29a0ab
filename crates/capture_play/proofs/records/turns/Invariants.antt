-- From the bytes left on, the calls lead where all of them lead. Assumes nothing.
use Rattle.std.proofs.Common.{◌≡◌}
use Rattle.std.specs.Slice.Iter.{chunks_exact_rest, chunks_exact_size}
use Rattle.claims.specs.Calls.{state}
use Rattle.capture_play.proofs.PlayLaws.{Ahead}
use Rattle.capture_play.proofs.records.turns.Given as goal

abbrev pub invariant-loop-bytes : goal.invariant-loop-bytes
invariant-loop-bytes l = record {
  size : chunks_exact_size l.bytes-iterator ≡ 4;
  ahead : Ahead l.fn.page (state l.fn.device l.fn.w l.fn.r) l.body l.page (state l.device l.w l.r) (chunks_exact_rest l.bytes-iterator);
}
