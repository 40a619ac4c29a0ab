-- The questions asked of the record (document 01): a PCR's value, the interrupt line, the maintenance window. Assumes nothing.
use Rattle.std.specs.Prelude.{ℕ, ◌+◌, ◌-◌, ◌≡◌, Bool, true, false, cond, List, take, drop, Option, None}
use Rattle.std.specs.Borrow.{Bor}
use Rattle.refusal.specs.Refusal.{accepts}
use Rattle.refusal.specs.declared.Refusal.{Refusal}
use Rattle.pcr.specs.Bank.{value_at, all_bytes}
use Rattle.record.specs.declared.Device.{Device}
use Rattle.record.specs.declared.Phase.{Phase}
use Rattle.record.specs.declared.Phase.TheVariants.{Idle, Ready, Reception, Execution, Completion}
use Rattle.reg_interrupts.specs.Interrupts.{line_asserted}
use Rattle.call_admission.specs.Refusals.{lent_refusal_of, pcr_refusal_of}
use Rattle.call_query.specs.declared.PcrOutcome.{PcrOutcome}

abbrev pub pcr_outcome : Option Refusal → List ℕ → PcrOutcome
pcr_outcome n value = record { refusal = n; value = value }

-- "a refused PCR read gives twenty 00h"
unfoldable pub pcr_value : Device → ℕ → PcrOutcome
pcr_value d index =
    cond (accepts (pcr_refusal_of d index)) (pcr_outcome None (value_at d.pcrs index)) (pcr_outcome (pcr_refusal_of d index) (all_bytes 0))

-- the line: "this question never refuses"
abbrev pub interrupt_line : Device → Bool
interrupt_line d = line_asserted d.control.interrupts

-- ---- the maintenance window

-- a part of one of the two FIFOs: of the ReadFIFO or not, from where to where
pub record Span : Type 0 where
  pub reading : Bool
  pub start : ℕ
  pub stop : ℕ

abbrev pub span : Bool → ℕ → ℕ → Span
span of_read from to = record { reading = of_read; start = from; stop = to }

abbrev pub no_span : Span
no_span = span false 0 0

-- "received bytes of the WriteFIFO in Reception or Execution, unread bytes of the ReadFIFO in Completion, nothing otherwise .."
abbrev pub span_in : Phase → Span
span_in Idle = no_span
span_in Ready = no_span
span_in (Reception n) = span false 0 n
span_in (Execution n) = span false 0 n
span_in (Completion n k) = span true k n

-- ".. or when refused"
unfoldable pub window_span : Device → List ℕ → List ℕ → Span
window_span d w r = cond (accepts (lent_refusal_of d w r)) (span_in d.phase) no_span

-- "It is that FIFO's own memory, not a copy": t refers to the bytes of s from a place on
pub record Shows (t s : Bor (List ℕ)) (from to : ℕ) : Type 0 where
  pub bytes : t.now ≡ take (to - from) (drop from s.now)
  pub place : t.ref_ptr ≡ (s.ref_ptr.0, from + s.ref_ptr.1)

abbrev pub of_two : Bool → Bor (List ℕ) → Bor (List ℕ) → Bor (List ℕ)
of_two true w r = r
of_two false w r = w

-- document 01's maintenance window: the part t of the FIFO that the span p names
abbrev pub Window : Span → Bor (List ℕ) → Bor (List ℕ) → Bor (List ℕ) → Type 0
Window p w r t = Shows t (of_two p.reading w r) p.start p.stop
