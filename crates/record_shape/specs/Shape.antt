-- When a record is in shape (document 01, 'When the front says no', "Out of shape: .."), a named clause for each part of that
-- sentence, true where the record is in shape; and refusal 2. Assumes nothing.
use Rattle.std.specs.Prelude.{ℕ, Bool, true, false, not, ◌&&◌, ◌||◌, List, length, get_or, leb, ltb, eqb, Option, Some, None}
use Rattle.reg_layout.specs.Offsets.{hash_locality}
use Rattle.arbiter.specs.State.{localities, any_waits}
use Rattle.arbiter.specs.declared.Locality.{Locality}
use Rattle.record.specs.Limits.{fifo_least, fifo_greatest, header, hash_limit}
use Rattle.record.specs.Record.{hash_progress}
use Rattle.record.specs.declared.Control.{Control}
use Rattle.record.specs.declared.Device.{Device}
use Rattle.record.specs.declared.HashProgress.{HashProgress}
use Rattle.record.specs.declared.Phase.{Phase}
use Rattle.record.specs.declared.Phase.TheVariants.{Idle, Ready, Reception, Execution, Completion}
use Rattle.record_shape.specs.declared.Lengths.{Lengths}
use Rattle.record_shape.specs.declared.ShapeView.{ShapeView}

-- what the rule reads of a record
abbrev pub shape_view : Control → Phase → HashProgress → ShapeView
shape_view control p h = record { arbiter = control.arbiter; phase = p; hash = h }

abbrev pub view_of : Device → ShapeView
view_of d = shape_view d.control d.phase (hash_progress d.launch)

-- the lengths of two lent FIFOs
abbrev pub lengths_of : List ℕ → List ℕ → Lengths
lengths_of w r = record { write = length w; read = length r }

-- 2 is given exactly when not: "a FIFO length outside 1,024..8,192, or the two differ"
unfoldable pub lengths_allowed : Lengths → Bool
lengths_allowed l = leb fifo_least l.write && leb l.write fifo_greatest && eqb l.write l.read

-- "active above 4"
abbrev pub active_known : Option Locality → Bool
active_known None = true
active_known (Some y) = ltb y.0 localities

-- "a request waits while none is active"
abbrev pub free_unasked : Option Locality → List Bool → Bool
free_unasked None waiting = not (any_waits waiting)
free_unasked (Some y) waiting = true

-- "the active locality waits"
abbrev pub active_unasked : Option Locality → List Bool → Bool
active_unasked None waiting = true
active_unasked (Some y) waiting = not (get_or waiting y.0 false)

abbrev pub idle : Phase → Bool
idle Idle = true
idle Ready = false
idle (Reception n) = false
idle (Execution n) = false
idle (Completion n k) = false

-- "a phase other than Idle with none active or a sequence open"
abbrev pub phase_placed : Phase → Option Locality → Bool → Bool
phase_placed p None sequence = idle p
phase_placed p (Some y) sequence = idle p || not sequence

-- "Reception count outside 1..C; Execution count outside 10..C; answer length outside 10..C or bytes read above it"
abbrev pub counts_fit : Phase → ℕ → Bool
counts_fit Idle c = true
counts_fit Ready c = true
counts_fit (Reception n) c = leb 1 n && leb n c
counts_fit (Execution n) c = leb header n && leb n c
counts_fit (Completion n k) c = leb header n && leb n c && leb k n

-- "sequence open and 4 not active"
abbrev pub sequence_placed : Bool → Option Locality → Bool
sequence_placed sequence None = not sequence
sequence_placed sequence (Some y) = not sequence || eqb y.0 hash_locality

-- "over 1,048,576 hash bytes counted, or any with the sequence closed"
abbrev pub hash_counted : Bool → ℕ → Bool
hash_counted sequence count = leb count hash_limit && (sequence || eqb count 0)

-- "a flag set that this paper doesn't define": the flags of the record are bools, so there is none

-- with FIFOs of c bytes
unfoldable pub in_shape : ShapeView → ℕ → Bool
in_shape v c =
    active_known v.arbiter.active
    && free_unasked v.arbiter.active v.arbiter.waiting
    && active_unasked v.arbiter.active v.arbiter.waiting
    && phase_placed v.phase v.arbiter.active v.hash.sequence
    && counts_fit v.phase c
    && sequence_placed v.hash.sequence v.arbiter.active
    && hash_counted v.hash.sequence v.hash.count

-- the clauses that read the phase, and those that read the sequence, where y is active: what the code asks one after the other
abbrev pub phase_fits : Phase → Bool → ℕ → Bool
phase_fits p sequence c = (idle p || not sequence) && counts_fit p c

abbrev pub hash_fits : ℕ → HashProgress → Bool
hash_fits y h = (not h.sequence || eqb y hash_locality) && hash_counted h.sequence h.count
