-- A byte that joins the sequence still fits its count. Assumes nothing.
use Rattle.call_bus.proofs.BusLaws.{data_counted}
use Rattle.call_bus.proofs.writing.write.Goals as goal

pub take_hash_step-requires : goal.take_hash_step-requires
take_hash_step-requires c = λ joins. data_counted _ _ _ _ _ _ _ _ c.write_cycle-t.ensures.cycle joins
