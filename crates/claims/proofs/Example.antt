-- Document 01's example x = 2, k = 1, by computation. Assumes nothing.
use mathlib.Core.Path.{refl}
use Rattle.arbiter.specs.Rules.{access_command, request, release, seize, clear_seized, write_access, handover}
use Rattle.record.specs.Record.{fresh_device}
use Rattle.record.specs.declared.Device.{Device}
use Rattle.record_shape.specs.Shape.{lengths_allowed, in_shape}
use Rattle.reg_map.specs.Map.{register_at}
use Rattle.bus_read.specs.Reading.{register_read}
use Rattle.bus_resolve.specs.Resolve.{resolve}
use Rattle.bus_write.specs.Effect.{apply_change}
use Rattle.bus_write.specs.Writing.{register_write, write_effect}
use Rattle.launch.specs.Launch.{launch_after, pcrs_after}
use Rattle.call_admission.specs.Refusals.{bus_refusal, lent_refusal}
use Rattle.call_power.specs.Power.{power_on, reset}
use Rattle.call_bus.specs.Bus.{read, read_cycle, accepted_read, write, write_cycle, accepted_write}
use Rattle.arbiter_model.specs.Waits.{run, handovers, tally, during}
use Rattle.claims.specs.Calls.{lent_after, lent_heard}
use Rattle.claims.specs.Events.{events, model_after}
use Rattle.claims.specs.Example.{Example}

pub example : (d : Device) → Example d
unfolding lent_after lent_heard events run model_after handovers tally during power_on reset read read_cycle accepted_read write write_cycle accepted_write bus_refusal lent_refusal fresh_device lengths_allowed in_shape register_at register_read resolve register_write write_effect apply_change launch_after pcrs_after access_command request release seize clear_seized write_access handover
example d = record {
  waits = refl;
  withdrawals = refl;
  restarts = refl;
  requests_of3 = refl;
  requests_of4 = refl;
  fifth = refl;
  handed = refl;
  served = refl;
  handed_before = refl;
  waits_before = refl;
}
