-- The records counted have their bytes. Assumes nothing.
use Rattle.std.proofs.Common.{arith}
use Rattle.capture.proofs.RecordLaws.{bytes_bound}
use Rattle.capture.proofs.extent.scan_body.Goals as goal

pub overflow_mul-cycles : goal.overflow_mul-cycles
overflow_mul-cycles c = omega (arith, bytes_bound c.args.body.now)

pub overflow_sub-body : goal.overflow_sub-body
overflow_sub-body c = omega (arith, bytes_bound c.args.body.now)
