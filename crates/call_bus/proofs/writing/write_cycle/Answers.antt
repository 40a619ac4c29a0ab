-- An accepted cycle has an offset of the five pages and FIFOs of an allowed length. Assumes nothing.
use Rattle.std.proofs.Common.{sym, ap, ◌∙◌, rules}
use Rattle.std.specs.Result.{result_err}
use Rattle.call_admission.proofs.RefusalLaws.{cycle_fits}
use Rattle.call_bus.proofs.writing.write_cycle.Goals as goal

pub accepted_write-requires : goal.accepted_write-requires
accepted_write-requires c =
    let f : _ = cycle_fits _ c.args.write_fifo.now c.args.read_fifo.now _ c.lengths_of-lengths.ensures _ (sym c.bus_admission.ensures.refusal ∙ ap result_err c.in-Ok.is) in
    (search rules, f.1, f.2, f.3)
