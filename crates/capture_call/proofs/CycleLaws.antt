-- A record's call by its kind. Assumes nothing.
use mathlib.Core.Path.{◌≡◌, refl, sym, ap, subst}
use mathlib.Core.List.{List}
use Prim.Native.Nat.{ℕ}
use borrow.Author.Tests.{eq-eqb, ne_eqb}
use Rattle.refusal.specs.Refusal.{number_of}
use Rattle.record.specs.declared.Device.{Device}
use Rattle.call_outcome.specs.declared.Outcome.{Outcome}
use Rattle.call_outcome.specs.declared.ReadOutcome.{ReadOutcome}
use Rattle.call_outcome.specs.Result.{Result, Leaves}
use Rattle.call_bus.specs.Bus as bus
use Rattle.capture.specs.declared.Cycle.{Cycle}
use Rattle.claims.specs.Calls.{Call, reset, read, write, respond, State, state, changes, called}
use Rattle.capture_call.specs.Call.{engine_answer, call_of, without_byte, Gives}

-- what a call gives that is no read, and one that is
pub gives_changes : (o : Outcome) (x : ReadOutcome) (w r : List ℕ) (t : Result) → x ≡ without_byte o → Leaves o w r t → Gives x w r (changes t)
gives_changes o x w r t e l =
    rw e (record { refusal = ap number_of l.refusal; byte = refl; device = l.device; write_fifo = l.write_fifo; read_fifo = l.read_fifo })

pub gives_read : (d : Device) (w r : List ℕ) (at : ℕ) (o : ReadOutcome) → o ≡ bus.read d w r at → Gives o w r (called (read at) (state d w r))
gives_read d w r at o e = rw e (record { refusal = refl; byte = refl; device = refl; write_fifo = refl; read_fifo = refl })

module _ (c : Cycle) (s : State) (o : ReadOutcome) (w r : List ℕ) where
  along : (a : Call) → call_of c ≡ a → Gives o w r (called a s) → Gives o w r (called (call_of c) s)
  along a e g = subst (λ (k : Call). Gives o w r (called k s)) (sym e) g

  module _ (n : ℕ) (is : n ≡ c.offset) where
    pub kind_read : c.kind ≡ 0 → Gives o w r (called (read n) s) → Gives o w r (called (call_of c) s)
    unfolding call_of
    kind_read k g = along (read n) (rw (eq-eqb c.kind 0 k, is)) g

    pub kind_write : c.kind ≡ 1 → Gives o w r (called (write n c.byte) s) → Gives o w r (called (call_of c) s)
    unfolding call_of
    kind_write k g = along (write n c.byte) (rw (k, is)) g

    pub kind_answer : (c.kind ≡ 0 → ⊥) → (c.kind ≡ 1 → ⊥) → (c.kind ≡ 2 → ⊥) → Gives o w r (called (respond n engine_answer) s) → Gives o w r (called (call_of c) s)
    unfolding call_of
    kind_answer i j k g = along (respond n engine_answer) (rw (ne_eqb c.kind 0 i, ne_eqb c.kind 1 j, ne_eqb c.kind 2 k, is)) g

  pub kind_reset : c.kind ≡ 2 → Gives o w r (called reset s) → Gives o w r (called (call_of c) s)
  unfolding call_of
  kind_reset k g = along reset (rw k) g
