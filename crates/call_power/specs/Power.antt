-- Power-on and reset (document 01, 'What the device record carries'). Assumes nothing.
use Rattle.std.specs.Prelude.{ℕ, Bool, cond, List, None, Some}
use Rattle.refusal.specs.Refusal.{accepts}
use Rattle.refusal.specs.declared.Refusal.TheVariants.{FifoLength}
use Rattle.record.specs.Record.{fresh_device}
use Rattle.record.specs.declared.Device.{Device}
use Rattle.record_shape.specs.Shape.{lengths_of, lengths_allowed}
use Rattle.reg_fifo.specs.Fifo.{clear_fifo}
use Rattle.call_admission.specs.Refusals.{lent_refusal_of}
use Rattle.call_outcome.specs.Result.{Result, result}

-- "Power-on knows only 2"; "a refused power-on gives the fresh record and leaves the FIFOs alone"
unfoldable pub power_on : Bool → List ℕ → List ℕ → List ℕ → Result
power_on established identity w r =
    cond (lengths_allowed (lengths_of w r))
    (result None (fresh_device established identity 0) (clear_fifo w) (clear_fifo r))
    (result (Some FifoLength) (fresh_device established identity 0) w r)

-- what a reset makes of a record: "Reset does the same but keeps the established flag, identity and run number."
abbrev pub reset_device : Device → Device
reset_device d = fresh_device d.control.established d.identity d.control.run

-- "reset and the maintenance window 2, 6"; "A refusal changes nothing"
unfoldable pub reset : Device → List ℕ → List ℕ → Result
reset d w r =
    cond (accepts (lent_refusal_of d w r))
    (result None (reset_device d) (clear_fifo w) (clear_fifo r))
    (result (lent_refusal_of d w r) d w r)
