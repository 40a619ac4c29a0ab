-- The device record (document 01, 'What the device record carries'): its fresh value, the values of its parts at power-on, and its parts
-- set. Assumes nothing.
use Rattle.std.specs.Prelude.{ℕ, Bool, false, List}
use Rattle.arbiter.specs.State.{fresh_arbiter}
use Rattle.pcr.specs.Bank as bank
use Rattle.pcr.specs.declared.Pcr.{Pcr}
use Rattle.sha1_message.specs.Stream.{nothing}
use Rattle.record.specs.declared.Phase.{Phase}
use Rattle.record.specs.declared.Phase.TheVariants.{Idle}
use Rattle.record.specs.declared.Causes.{Causes}
use Rattle.record.specs.declared.Interrupts.{Interrupts}
use Rattle.record.specs.declared.Control.{Control}
use Rattle.record.specs.declared.Launch.{Launch}
use Rattle.record.specs.declared.HashProgress.{HashProgress}
use Rattle.record.specs.declared.Device.{Device}

abbrev pub no_causes : Causes
no_causes = record { command_ready = false; locality_change = false; data_avail = false }

-- "none active, nobody waits or was seized, .. interrupt enable and status 0"
abbrev pub fresh_control : Bool → ℕ → Control
fresh_control established run =
    record {
      arbiter = fresh_arbiter;
      interrupts = record { global = false; enable = no_causes; status = no_causes };
      established = established;
      run = run;
    }

-- "sequence closed": one fixed value, which "keeps nothing of the stream"
abbrev pub closed_launch : Launch
closed_launch = record { sequence = false; stream = nothing }

-- "Power-on takes the established flag and identity bytes: none active, nobody waits or was seized, Idle, interrupt enable and status 0, run
-- number 0, sequence closed, .. PCRs 0 to 16 and 23 all 00h, 17 to 22 all FFh (TIS Table 5)." A reset hands its run number in
unfoldable pub fresh_device : Bool → List ℕ → ℕ → Device
fresh_device established identity run =
    record {
      control = fresh_control established run;
      phase = Idle;
      identity = identity;
      launch = closed_launch;
      pcrs = bank.fresh;
    }

-- some parts of a record set, the others kept
abbrev pub with_interrupts : Control → Interrupts → Control
with_interrupts k s = record { arbiter = k.arbiter; interrupts = s; established = k.established; run = k.run }

abbrev pub with_parts : Device → Control → Phase → Launch → List Pcr → Device
with_parts d k p l b = record { control = k; phase = p; identity = d.identity; launch = l; pcrs = b }

abbrev pub with_phase : Device → Phase → Device
with_phase d p = with_parts d d.control p d.launch d.pcrs

-- is a sequence open, and how many bytes did it take
abbrev pub hash_progress : Launch → HashProgress
hash_progress l = record { sequence = l.sequence; count = l.stream.count }
