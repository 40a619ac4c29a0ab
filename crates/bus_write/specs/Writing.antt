-- What an accepted write does to control, phase and FIFOs (document 01, 'The pages' to 'The launch hash'). Assumes nothing.
use Rattle.std.specs.Prelude.{ℕ, true}
use Rattle.arbiter.specs.Rules.{write_access, handover, hash_start}
use Rattle.arbiter.specs.declared.Locality.{Locality}
use Rattle.record.specs.declared.Control.{Control}
use Rattle.record.specs.declared.Phase.{Phase}
use Rattle.reg_map.specs.declared.Register.{Register}
use Rattle.reg_map.specs.declared.Register.TheVariants.{Access, IntEnable, IntVector, IntStatus, IntfCapability, Sts, DataFifo, Identity, Reserved}
use Rattle.reg_interrupts.specs.Interrupts.{write_enable, write_status}
use Rattle.reg_sts_write.specs.Sts.{write_sts, write_data_fifo}
use Rattle.bus_resolve.specs.declared.WriteKind.{WriteKind}
use Rattle.bus_resolve.specs.declared.WriteKind.TheVariants.{HashStart, HashEnd, HashData, Ignored, Ordinary}
use Rattle.bus_write.specs.declared.Effect.{Effect}
use Rattle.bus_write.specs.Effect.{ignored, aborted, apply_change, apply_command, apply_interrupts}

-- a start that counts: "4 active, FIFOs emptied, Idle, established set"
abbrev pub start_effect : Control → Effect
start_effect k = aborted (record { arbiter = hash_start k.arbiter; interrupts = k.interrupts; established = true; run = k.run })

-- ACCESS of page x, or another register of x's page where x is active; "Any other offset .. ignores writes", and so do INT_VECTOR,
-- capability and identity. size is the declared size, c the FIFOs' length, v the byte
unfoldable pub register_write : Register → Locality → Control → Phase → ℕ → ℕ → ℕ → Effect
register_write Access x k p size c v = apply_change k p (write_access k.arbiter x v)
register_write (IntEnable i) x k p size c v = apply_interrupts k p (write_enable k.interrupts i v)
register_write IntVector x k p size c v = ignored k p
register_write (IntStatus i) x k p size c v = apply_interrupts k p (write_status k.interrupts i v)
register_write (IntfCapability i) x k p size c v = ignored k p
register_write (Sts i) x k p size c v = apply_command k (write_sts p k.run size c i v)
register_write DataFifo x k p size c v = apply_command k (write_data_fifo p k.run size c)
register_write (Identity i) x k p size c v = ignored k p
register_write Reserved x k p size c v = ignored k p

-- "End: .. handover." Data joins the stream and changes nothing here
unfoldable pub write_effect : WriteKind → Locality → Control → Phase → ℕ → ℕ → ℕ → Effect
write_effect HashStart x k p size c v = start_effect k
write_effect HashEnd x k p size c v = apply_change k p (handover k.arbiter)
write_effect HashData x k p size c v = ignored k p
write_effect Ignored x k p size c v = ignored k p
write_effect (Ordinary g) x k p size c v = register_write g x k p size c v
