-- An accepted answer fits the ReadFIFO. Assumes nothing.
use Rattle.std.proofs.Common.{sym}
use Rattle.call_admission.proofs.RefusalLaws.{answer_fits, answer_counts}
use Rattle.call_respond.proofs.answer_cycle.Goals as goal

pub accepted_answer-requires : goal.accepted_answer-requires
accepted_answer-requires c = (
  answer_counts _ c.args.write_fifo.now c.args.read_fifo.now _ c.lengths_of-lengths.ensures _ _ _ (sym c.in_default.ensures),
  answer_fits _ c.args.write_fifo.now c.args.read_fifo.now _ c.lengths_of-lengths.ensures _ _ _ (sym c.in_default.ensures),
)
