-- What an accepted read gives, and what it does to the phase (document 01, 'The pages'). Assumes nothing.
use Rattle.std.specs.Prelude.{ℕ, Bool, cond, List, get_or}
use Rattle.arbiter.specs.declared.Locality.{Locality}
use Rattle.record.specs.declared.Control.{Control}
use Rattle.record.specs.declared.Phase.{Phase}
use Rattle.reg_map.specs.declared.Register.{Register}
use Rattle.reg_map.specs.declared.Register.TheVariants.{Access, IntEnable, IntVector, IntStatus, IntfCapability, Sts, DataFifo, Identity, Reserved}
use Rattle.reg_access.specs.Access.{access_byte}
use Rattle.reg_interrupts.specs.Interrupts.{enable_byte, status_byte, capability_byte}
use Rattle.reg_sts_read.specs.Size.{expects}
use Rattle.reg_sts_read.specs.Status.{sts_byte}
use Rattle.reg_fifo.specs.Fifo.{fifo_byte, after_read}
use Rattle.bus_read.specs.declared.RegisterRead.{RegisterRead}

-- a byte, and the phase as it was
abbrev pub unmoved : ℕ → Phase → RegisterRead
unmoved b p = record { byte = b; phase = p }

-- "STS and FIFO read FFh .. for any locality that isn't active."
abbrev pub read_sts : Bool → Phase → ℕ → ℕ → ℕ → ℕ
read_sts active p size c i = cond active (sts_byte p (expects p size c) c i) 0xff

abbrev pub read_data_fifo : Bool → Phase → List ℕ → RegisterRead
read_data_fifo active p r = cond active (record { byte = fifo_byte p r; phase = after_read p }) (unmoved 0xff p)

-- of interrupt enable and status "Every locality reads them."; "INT_VECTOR reads 0"; "Any other offset reads FFh ..; so do the hash start and end offsets on a read." size is the declared size, c
-- the FIFOs' length, r the ReadFIFO; active is whether x is the active locality
unfoldable pub register_read : Register → Locality → Bool → Control → Phase → List ℕ → ℕ → ℕ → List ℕ → RegisterRead
register_read Access x active k p identity size c r = unmoved (access_byte k.arbiter k.established x) p
register_read (IntEnable i) x active k p identity size c r = unmoved (enable_byte k.interrupts i) p
register_read IntVector x active k p identity size c r = unmoved 0 p
register_read (IntStatus i) x active k p identity size c r = unmoved (status_byte k.interrupts i) p
register_read (IntfCapability i) x active k p identity size c r = unmoved (capability_byte i) p
register_read (Sts i) x active k p identity size c r = unmoved (read_sts active p size c i) p
register_read DataFifo x active k p identity size c r = read_data_fifo active p r
register_read (Identity i) x active k p identity size c r = unmoved (get_or identity i 0) p
register_read Reserved x active k p identity size c r = unmoved 0xff p
