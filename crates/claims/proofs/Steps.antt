-- A call, and a list of calls, as the public functions' own contracts have them. Assumes nothing.
use mathlib.Core.Bool.{Bool}
use mathlib.Core.List.{List, [], ◌∷◌}
use Prim.Native.Nat.{ℕ}
use Rattle.std.specs.Borrow.{Bor, MutBor}
use contract.Lifetimes.{Lfts}
use Rattle.arbiter.specs.State.{locality}
use Rattle.pcr.specs.declared.PcrIndex.{PcrIndex}
use Rattle.pcr.specs.declared.Permission.{Permission}
use Rattle.refusal.specs.Refusal.{accepted, number_of}
use Rattle.record.specs.declared.Device.{Device}
use Rattle.call_outcome.specs.declared.Outcome.{Outcome}
use Rattle.call_outcome.specs.declared.ReadOutcome.{ReadOutcome}
use Rattle.call_query.specs.declared.PcrOutcome.{PcrOutcome}
use Rattle.call_query.specs.declared.WindowOutcome.{WindowOutcome}
use Rattle.call_power.proofs.power_on.Reads as power_on_contract
use Rattle.call_power.proofs.reset.Reads as reset_contract
use Rattle.call_bus.proofs.reading.read.Reads as read_contract
use Rattle.call_bus.proofs.writing.write.Reads as write_contract
use Rattle.call_respond.proofs.respond.Reads as respond_contract
use Rattle.call_query.proofs.pcr_value.Reads as pcr_value_contract
use Rattle.call_query.proofs.interrupt_line.Reads as interrupt_line_contract
use Rattle.call_query.proofs.may_reset.Reads as may_reset_contract
use Rattle.call_query.proofs.may_extend.Reads as may_extend_contract
use Rattle.call_query.proofs.window.Reads as window_contract
use Rattle.claims.specs.Calls.{Call, power_on, reset, read, write, respond, pcr_value, interrupt_line, may_reset, may_extend, window, State, state, Value, nothing, byte, bytes, flag, Answer}

abbrev pub pcr_index : ℕ → PcrIndex
pcr_index i = record { 0 = i }

abbrev pub answer : ℕ → Value → Answer
answer n v = record { refusal = n; value = v }

-- one call: what it was handed, its answer, and what it left; the premise is the `ensures` of the public function, as the toolchain reads it
-- off the source
pub data Step : Call → State → Answer → State → Type 0 where
  powers_on : (κs : Lfts 2) (d : Device) (established : Bool) (identity : List ℕ) (w w' r r' : MutBor (List ℕ)) (o : Outcome)
      → power_on_contract.Post κs (established, (identity, (w, (r, tt)))) o (established, (identity, (w', (r', tt))))
      → Step (power_on established identity) (state d w.now r.now) (answer (number_of o.refusal) nothing) (state o.device w'.now r'.now)
  resets : (κs : Lfts 2) (d : Device) (w w' r r' : MutBor (List ℕ)) (o : Outcome)
      → reset_contract.Post κs (d, (w, (r, tt))) o (d, (w', (r', tt)))
      → Step reset (state d w.now r.now) (answer (number_of o.refusal) nothing) (state o.device w'.now r'.now)
  reads : (κs : Lfts 2) (d : Device) (w r : Bor (List ℕ)) (offset : ℕ) (o : ReadOutcome)
      → read_contract.Post κs (d, (w, (r, (offset, tt)))) o (d, (w, (r, (offset, tt))))
      → Step (read offset) (state d w.now r.now) (answer (number_of o.refusal) (byte o.byte)) (state o.device w.now r.now)
  writes : (κs : Lfts 2) (d : Device) (w w' r r' : MutBor (List ℕ)) (offset v : ℕ) (o : Outcome)
      → write_contract.Post κs (d, (w, (r, (offset, (v, tt))))) o (d, (w', (r', (offset, (v, tt)))))
      → Step (write offset v) (state d w.now r.now) (answer (number_of o.refusal) nothing) (state o.device w'.now r'.now)
  responds : (κs : Lfts 3) (d : Device) (w w' r r' : MutBor (List ℕ)) (a : Bor (List ℕ)) (run : ℕ) (o : Outcome)
      → respond_contract.Post κs (d, (w, (r, (run, (a, tt))))) o (d, (w', (r', (run, (a, tt)))))
      → Step (respond run a.now) (state d w.now r.now) (answer (number_of o.refusal) nothing) (state o.device w'.now r'.now)
  -- a question takes the record by value and the FIFOs to read: it leaves them as it got them
  asks_pcr : (κs : Lfts 0) (s : State) (i : ℕ) (o : PcrOutcome)
      → pcr_value_contract.Post κs (s.device, (pcr_index i, tt)) o (s.device, (pcr_index i, tt))
      → Step (pcr_value i) s (answer (number_of o.refusal) (bytes o.value)) s
  asks_line : (κs : Lfts 0) (s : State) (level : Bool)
      → interrupt_line_contract.Post κs (s.device, tt) level (s.device, tt)
      → Step interrupt_line s (answer accepted (flag level)) s
  asks_reset : (κs : Lfts 0) (s : State) (i x : ℕ) (o : Permission)
      → may_reset_contract.Post κs (pcr_index i, (locality x, tt)) o (pcr_index i, (locality x, tt))
      → Step (may_reset i x) s (answer (number_of o.refusal) (flag o.allowed)) s
  asks_extend : (κs : Lfts 0) (s : State) (i x : ℕ) (o : Permission)
      → may_extend_contract.Post κs (pcr_index i, (locality x, tt)) o (pcr_index i, (locality x, tt))
      → Step (may_extend i x) s (answer (number_of o.refusal) (flag o.allowed)) s
  looks : (κs : Lfts 1) (d : Device) (w r : Bor (List ℕ)) (o : WindowOutcome)
      → window_contract.Post κs (d, (w, (r, tt))) o (d, (w, (r, tt)))
      → Step window (state d w.now r.now) (answer (number_of o.refusal) (bytes o.bytes.now)) (state d w.now r.now)

-- a list of calls with their answers, each handed what the last one left
pub data Runs : State → List (Call × Answer) → State → Type 0 where
  none : {s : State} → Runs s [] s
  more : {s s₁ s₂ : State} {c : Call} {a : Answer} {cs : List (Call × Answer)} → Step c s a s₁ → Runs s₁ cs s₂ → Runs s ((c, a) ∷ cs) s₂

-- the same where each call is lent FIFOs of its own
pub data LentRuns : Device → List (Call × Answer) → Device → Type 0 where
  none_lent : {d : Device} → LentRuns d [] d
  more_lent : {d d₂ : Device} {w r : List ℕ} {s₁ : State} {c : Call} {a : Answer} {cs : List (Call × Answer)} → Step c (state d w r) a s₁ → LentRuns s₁.device cs d₂
      → LentRuns d ((c, a) ∷ cs) d₂

-- a claim after each call of every such list that starts with a power-on: of what is heard up to there, and of the record d that is left there; what
-- is heard and left after it is anything
abbrev pub OnLentContracts : (List (Call × Answer) → Device → Type 0) → Type 0
OnLentContracts P = (s₀ s₁ : State) (d e : Device) (established : Bool) (identity : List ℕ) (a : Answer) (cs later : List (Call × Answer))
    → Step (power_on established identity) s₀ a s₁ → LentRuns s₁.device cs d → LentRuns d later e → P ((power_on established identity, a) ∷ cs) d

-- a claim of what the first call was handed, what is heard and what is left, over every list of calls that starts with a power-on
abbrev pub OnContracts : (State → List (Call × Answer) → State → Type 0) → Type 0
OnContracts P = (s₀ s₁ s : State) (established : Bool) (identity : List ℕ) (a : Answer) (cs : List (Call × Answer))
    → Step (power_on established identity) s₀ a s₁ → Runs s₁ cs s → P s₀ ((power_on established identity, a) ∷ cs) s
