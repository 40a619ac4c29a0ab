-- How a rule's result goes into control, phase and FIFOs. Assumes nothing.
use Rattle.std.specs.Prelude.{false, cond}
use Rattle.arbiter.specs.declared.Change.{Change}
use Rattle.record.specs.Record.{with_interrupts}
use Rattle.record.specs.declared.Interrupts.{Interrupts}
use Rattle.record.specs.declared.Control.{Control}
use Rattle.record.specs.declared.Phase.{Phase}
use Rattle.record.specs.declared.Phase.TheVariants.{Idle}
use Rattle.reg_interrupts.specs.Interrupts.{mark}
use Rattle.reg_fifo.specs.declared.FifoAction.{FifoAction}
use Rattle.reg_fifo.specs.declared.FifoAction.TheVariants.{Keep, Clear}
use Rattle.reg_sts_write.specs.declared.Commanded.{Commanded}
use Rattle.bus_write.specs.declared.Effect.{Effect}

-- what a write leaves of control and phase, and what happens to the FIFOs
abbrev pub effect : Control → Phase → FifoAction → Effect
effect k p f = record { control = k; phase = p; fifos = f }

-- a cycle that changes nothing
abbrev pub ignored : Control → Phase → Effect
ignored k p = effect k p Keep

-- handover, seizure and a hash start that counts: "both FIFOs emptied, phase Idle"
abbrev pub aborted : Control → Effect
aborted k = effect k Idle Clear

-- a handover that serves somebody: "localityChange status is set"
abbrev pub changed_control : Control → Change → Control
changed_control k change =
    record {
      arbiter = change.arbiter;
      interrupts = mark k.interrupts (record { command_ready = false; locality_change = change.locality_change; data_avail = false });
      established = k.established;
      run = k.run;
    }

-- what a rule of the arbiter leaves
unfoldable pub apply_change : Control → Phase → Change → Effect
apply_change k p change = cond change.abort (aborted (changed_control k change)) (effect (changed_control k change) p Keep)

-- what a command bit, a FIFO write or an answer leaves
abbrev pub commanded_control : Control → Commanded → Control
commanded_control k commanded =
    record {
      arbiter = k.arbiter;
      interrupts = mark k.interrupts commanded.causes;
      established = k.established;
      run = commanded.run;
    }

unfoldable pub apply_command : Control → Commanded → Effect
apply_command k commanded = effect (commanded_control k commanded) commanded.phase commanded.fifos

-- a cycle that changes the interrupt registers alone
abbrev pub apply_interrupts : Control → Phase → Interrupts → Effect
apply_interrupts k p interrupts = effect (with_interrupts k interrupts) p Keep
