-- What each call is refused for, and in which order the tests come (document 01, 'When the front says no'). Assumes nothing.
use Rattle.std.specs.Prelude.{ℕ, Bool, true, false, cond, not, ◌&&◌, ◌||◌, List, length, eqb, leb, ltb, Option, None, Some}
use Rattle.std.specs.Option.{option_or}
use Rattle.refusal.specs.declared.Refusal.{Refusal}
use Rattle.refusal.specs.declared.Refusal.TheVariants.{Offset, FifoLength, Run, AnswerLength, Question, Shape}
use Rattle.reg_layout.specs.Offsets.{last_offset}
use Rattle.pcr.specs.Bank.{pcrs}
use Rattle.record.specs.Limits.{fifo_greatest, header}
use Rattle.record.specs.declared.Device.{Device}
use Rattle.record.specs.declared.Phase.{Phase}
use Rattle.record.specs.declared.Phase.TheVariants.{Idle, Ready, Reception, Execution, Completion}
use Rattle.record_shape.specs.Shape.{view_of, lengths_of, lengths_allowed, in_shape}
use Rattle.record_shape.specs.declared.Lengths.{Lengths}
use Rattle.record_shape.specs.declared.ShapeView.{ShapeView}

-- "reset and the maintenance window 2, 6"
unfoldable pub lent_refusal : ShapeView → Lengths → Option Refusal
lent_refusal v l = cond (not (lengths_allowed l)) (Some FifoLength) (cond (not (in_shape v l.write)) (Some Shape) None)

-- "Order: 2, 6, 1 for bus cycles"; 1 is "bus offset above 4FFFh"
unfoldable pub bus_refusal : ShapeView → Lengths → ℕ → Option Refusal
bus_refusal v l o = option_or (lent_refusal v l) (cond (ltb last_offset o) (Some Offset) None)

-- "engine answer while not in Execution"
abbrev pub executes : Phase → Bool
executes Idle = false
executes Ready = false
executes (Reception n) = false
executes (Execution n) = true
executes (Completion n k) = false

-- "2, 6, 3, 4 for engine answers": 3 "while not in Execution, or with another run number", 4 "shorter than 10 or longer than C". The run
-- numbers are the record's and the answer's, n is the answer's length
unfoldable pub answer_refusal : ShapeView → Lengths → ℕ → ℕ → ℕ → Option Refusal
answer_refusal v l current answered n =
    option_or (lent_refusal v l)
    (cond (not (executes v.phase && eqb current answered)) (Some Run) (cond (ltb n header || ltb l.write n) (Some AnswerLength) None))

-- "6, then 5 where a record is asked"; "Where no FIFO is lent, the shape rule takes the greatest allowed C"
unfoldable pub pcr_refusal : ShapeView → ℕ → Option Refusal
pcr_refusal v index = cond (not (in_shape v fifo_greatest)) (Some Shape) (cond (leb pcrs index) (Some Question) None)

-- ---- the same of a record d and lent FIFOs w and r

-- 2 and 6 only: what every call that is lent both asks first
abbrev pub lent_refusal_of : Device → List ℕ → List ℕ → Option Refusal
lent_refusal_of d w r = lent_refusal (view_of d) (lengths_of w r)

abbrev pub bus_refusal_of : Device → List ℕ → List ℕ → ℕ → Option Refusal
bus_refusal_of d w r o = bus_refusal (view_of d) (lengths_of w r) o

abbrev pub answer_refusal_of : Device → List ℕ → List ℕ → ℕ → List ℕ → Option Refusal
answer_refusal_of d w r run a = answer_refusal (view_of d) (lengths_of w r) d.control.run run (length a)

abbrev pub pcr_refusal_of : Device → ℕ → Option Refusal
pcr_refusal_of d index = pcr_refusal (view_of d) index
