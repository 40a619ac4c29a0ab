-- Bus cycles (document 01, 'The pages'): one read and one write, for any record, FIFOs, offset and byte. Assumes nothing.
use Rattle.std.specs.Prelude.{ℕ, ◌≡◌, cond, List, length, Option, None, Some}
use Rattle.refusal.specs.Refusal.{accepts}
use Rattle.refusal.specs.declared.Refusal.{Refusal}
use Rattle.refusal.specs.declared.Refusal.TheVariants.{HashLength}
use Rattle.arbiter.specs.State.{holds}
use Rattle.record.specs.Record.{with_parts, with_phase, hash_progress}
use Rattle.record.specs.declared.Control.{Control}
use Rattle.record.specs.declared.Device.{Device}
use Rattle.record.specs.declared.HashProgress.{HashProgress}
use Rattle.record.specs.declared.Phase.{Phase}
use Rattle.record_shape.specs.Shape.{shape_view, lengths_of}
use Rattle.reg_map.specs.Map.{register_for}
use Rattle.reg_sts_read.specs.Size.{declared_size}
use Rattle.reg_sts_write.specs.Completion.{bad_size}
use Rattle.reg_fifo.specs.Fifo.{update_write_fifo, update_read_fifo}
use Rattle.reg_fifo.specs.declared.FifoAction.TheVariants.{Keep}
use Rattle.bus_read.specs.Reading.{register_read}
use Rattle.bus_read.specs.declared.RegisterRead.{RegisterRead}
use Rattle.bus_resolve.specs.Resolve.{page_at, resolve}
use Rattle.bus_resolve.specs.declared.WriteKind.{WriteKind}
use Rattle.bus_resolve.specs.declared.WriteKind.TheVariants.{Ignored}
use Rattle.bus_write.specs.Writing.{write_effect}
use Rattle.bus_write.specs.declared.Effect.{Effect}
use Rattle.launch.specs.Launch.{overlong, launch_after, pcrs_after}
use Rattle.call_admission.specs.Refusals.{bus_refusal}
use Rattle.call_outcome.specs.Result.{Result, result}
use Rattle.call_outcome.specs.declared.ReadOutcome.{ReadOutcome}
use Rattle.call_bus.specs.declared.reading.ReadCycle.{ReadCycle}
use Rattle.call_bus.specs.declared.writing.WriteCycle.{WriteCycle}

-- ---- read

-- "a refused read gives FFh"
abbrev pub refused_read : Option Refusal → Phase → ReadCycle
refused_read n p = record { refusal = n; byte = 0xff; phase = p }

abbrev pub seen : RegisterRead → ReadCycle
seen s = record { refusal = None; byte = s.byte; phase = s.phase }

-- 'The pages': "Offset / 1000h is the locality", and the rest of it names the register
unfoldable pub accepted_read : ℕ → Control → Phase → List ℕ → List ℕ → List ℕ → ReadCycle
accepted_read o k p identity w r =
    seen (register_read (register_for o) (page_at o) (holds k.arbiter.active (page_at o)) k p identity (declared_size w) (length w) r)

-- "Order: 2, 6, 1 for bus cycles"
unfoldable pub read_cycle : Control → Phase → HashProgress → List ℕ → List ℕ → List ℕ → ℕ → ReadCycle
read_cycle k p h identity w r o =
    cond (accepts (bus_refusal (shape_view k p h) (lengths_of w r) o))
    (accepted_read o k p identity w r)
    (refused_read (bus_refusal (shape_view k p h) (lengths_of w r) o) p)

abbrev pub read_outcome : ReadCycle → Device → ReadOutcome
read_outcome t d = record { refusal = t.refusal; byte = t.byte; device = with_phase d t.phase }

-- of a record and the lent FIFOs, which a read leaves as they are
unfoldable pub read : Device → List ℕ → List ℕ → ℕ → ReadOutcome
read d w r o = read_outcome (read_cycle d.control d.phase (hash_progress d.launch) d.identity w r o) d

-- ---- write

-- "A refusal changes nothing"
abbrev pub refused_write : Option Refusal → Control → Phase → WriteCycle
refused_write n k p = record { refusal = n; kind = Ignored; control = k; phase = p; fifos = Keep }

abbrev pub done : WriteKind → Effect → WriteCycle
done kind e = record { refusal = None; kind = kind; control = e.control; phase = e.phase; fifos = e.fifos }

-- what the write does but for the hash sequence and the PCRs
unfoldable pub accepted_write : WriteKind → ℕ → Control → Phase → List ℕ → ℕ → WriteCycle
accepted_write kind o k p w v = done kind (write_effect kind (page_at o) k p (declared_size w) (length w) v)

-- "Order: 2, 6, 1 for bus cycles, then 7": a branch of its own
abbrev pub resolved_write : WriteKind → ℕ → Control → Phase → HashProgress → List ℕ → ℕ → WriteCycle
resolved_write kind o k p h w v = cond (overlong kind h.count) (refused_write (Some HashLength) k p) (accepted_write kind o k p w v)

-- "An accepted write, first that applies" is `resolve`
unfoldable pub write_cycle : Control → Phase → HashProgress → List ℕ → List ℕ → ℕ → ℕ → WriteCycle
write_cycle k p h w r o v =
    cond (accepts (bus_refusal (shape_view k p h) (lengths_of w r) o))
    (resolved_write (resolve o h.sequence k.arbiter.active) o k p h w v)
    (refused_write (bus_refusal (shape_view k p h) (lengths_of w r) o) k p)

-- the cycle t of a byte v, with w' and r' in the FIFOs afterwards, is u: the FIFOs are as its action says
pub record Cycled (t : WriteCycle) (w r : List ℕ) (v : ℕ) (w' r' : List ℕ) (u : WriteCycle) : Type 0 where
  pub cycle : t ≡ u
  pub write_fifo : w' ≡ update_write_fifo t.fifos v w
  pub read_fifo : r' ≡ update_read_fifo t.fifos bad_size r

-- with what the write's kind makes of the hash sequence and the PCRs
abbrev pub left_by : WriteCycle → Device → List ℕ → List ℕ → ℕ → Result
left_by t d w r v =
    result t.refusal
    (with_parts d t.control t.phase (launch_after t.kind d.launch v) (pcrs_after t.kind d.launch d.pcrs))
    (update_write_fifo t.fifos v w)
    (update_read_fifo t.fifos bad_size r)

-- of a record and the lent FIFOs
unfoldable pub write : Device → List ℕ → List ℕ → ℕ → ℕ → Result
write d w r o v = left_by (write_cycle d.control d.phase (hash_progress d.launch) w r o v) d w r v
