-- What a call can come to: the cases of the crates of calls put together, one constructor for each call that changes something. Assumes
-- nothing.
use mathlib.Core.Path.{◌≡◌, refl, sym, ◌∙◌}
use mathlib.Core.Bool.{Bool, true, false, true≢false}
use mathlib.Core.List.{List}
use Prim.Native.Nat.{ℕ, zero, suc}
use lib.ListN.{length}
use Rattle.std.specs.Prelude.{None}
use Rattle.refusal.specs.Refusal.{accepted, number_of}
use Rattle.refusal.proofs.RefusalNumbers.{number_refused}
use Rattle.reg_layout.specs.Offsets.{in_four, place_of, data_fifo}
use Rattle.arbiter.specs.State.{holds}
use Rattle.record.specs.Record.{with_phase}
use Rattle.record.specs.declared.Device.{Device}
use Rattle.reg_fifo.specs.Fifo.{clear_fifo, put_answer, after_read}
use Rattle.bus_resolve.specs.Resolve.{page_at}
use Rattle.call_admission.specs.Refusals.{lent_refusal_of, answer_refusal_of}
use Rattle.call_outcome.specs.Result.{Result}
use Rattle.call_outcome.specs.declared.ReadOutcome.{ReadOutcome}
use Rattle.call_power.specs.Power.{reset_device}
use Rattle.call_power.proofs.Cases as power
use Rattle.call_power.proofs.Cases.{PowerCase, power_case, ResetCase, reset_case}
use Rattle.call_bus.proofs.Cases as bus
use Rattle.call_bus.proofs.Cases.{owner, ReadCase, read_case, Writes, WriteCase, write_case}
use Rattle.call_respond.proofs.Cases as engine
use Rattle.call_respond.proofs.Cases.{completed_device, RespondCase, respond_case}
use Rattle.claims.specs.Calls.{Call, power_on, reset, read, write, respond, pcr_value, interrupt_line, may_reset, may_extend, window, is_power_on, State, state, refusal_of, left}
use Rattle.claims.specs.Events.{none, entry_of}

abbrev pub left_by : Result → State
left_by t = state t.device t.write_fifo t.read_fifo

-- a call that was handed s, with its refusal number and what it leaves
pub data CallCase (s : State) : Call → ℕ → State → Type 0 where
  -- refused, or a question: it leaves all as it was, and is nothing to a book
  same : {c : Call} {n : ℕ} → is_power_on c ≡ false → entry_of c n ≡ none → CallCase s c n s
  powers : {established : Bool} {identity : List ℕ} {t : Result} → PowerCase established identity s.write_fifo s.read_fifo t
      → CallCase s (power_on established identity) (number_of t.refusal) (left_by t)
  resets : lent_refusal_of s.device s.write_fifo s.read_fifo ≡ None
      → CallCase s reset accepted (state (reset_device s.device) (clear_fifo s.write_fifo) (clear_fifo s.read_fifo))
  -- a read that moves nothing
  looks : {o : ℕ} → (in_four data_fifo (place_of o) ≡ true → holds (owner s.device) (page_at o) ≡ false) → CallCase s (read o) accepted s
  -- the active locality reads the FIFO
  reads : {o : ℕ} → in_four data_fifo (place_of o) ≡ true → holds (owner s.device) (page_at o) ≡ true
      → CallCase s (read o) accepted (state (with_phase s.device (after_read s.device.phase)) s.write_fifo s.read_fifo)
  writes : {o v : ℕ} {d : Device} {w r : List ℕ} → Writes s.device s.write_fifo s.read_fifo o v d w r
      → CallCase s (write o v) accepted (state d w r)
  responds : {run : ℕ} {a : List ℕ} → answer_refusal_of s.device s.write_fifo s.read_fifo run a ≡ None
      → CallCase s (respond run a) accepted (state (completed_device s.device (length a)) (clear_fifo s.write_fifo) (put_answer a s.read_fifo))

-- a call that enters nothing when it is refused
abbrev Refusable : Call → Type 0
Refusable c = (n : ℕ) → (n ≡ accepted → ⊥) → entry_of c n ≡ none

refused_reset : Refusable reset
refused_reset zero e = absurd (e refl)
refused_reset (suc n) e = refl

refused_read_lem : (o : ℕ) → Refusable (read o)
refused_read_lem o zero e = absurd (e refl)
refused_read_lem o (suc n) e = refl

refused_write_lem : (o v : ℕ) → Refusable (write o v)
refused_write_lem o v zero e = absurd (e refl)
refused_write_lem o v (suc n) e = refl

refused_respond : (run : ℕ) (a : List ℕ) → Refusable (respond run a)
refused_respond run a zero e = absurd (e refl)
refused_respond run a (suc n) e = refl

pub call_case : (c : Call) (s : State) → CallCase s c (refusal_of c s) (left c s)
call_case (power_on e i) s = powers (power_case e i s.write_fifo s.read_fifo)
call_case reset s = by _ (reset_case s.device s.write_fifo s.read_fifo)
  where
    by : (t : Result) → ResetCase s.device s.write_fifo s.read_fifo t → CallCase s reset (number_of t.refusal) (left_by t)
    by t (power.refused {n = n} e f) = same refl (refused_reset (number_of n) (number_refused n f))
    by t (power.anew e) = resets e
call_case (read o) s = by _ (read_case s.device s.write_fifo s.read_fifo o)
  where
    by : (t : ReadOutcome) → ReadCase s.device s.write_fifo s.read_fifo o t
        → CallCase s (read o) (number_of t.refusal) (state t.device s.write_fifo s.read_fifo)
    by t (bus.refused {n = n} e f) = same refl (refused_read_lem o (number_of n) (number_refused n f))
    by t (bus.stays e i b) = looks (λ j. absurd (true≢false (sym j ∙ i)))
    by t (bus.moves e i h) = reads i h
    by t (bus.misses e i h) = looks (λ j. h)
call_case (write o v) s = by _ (write_case s.device s.write_fifo s.read_fifo o v)
  where
    by : (t : Result) → WriteCase s.device s.write_fifo s.read_fifo o v t → CallCase s (write o v) (number_of t.refusal) (left_by t)
    by t (bus.refused {n = n} e f) = same refl (refused_write_lem o v (number_of n) (number_refused n f))
    by t (bus.overlong e h i l) = same refl refl
    by t (bus.accepts e k) = writes k
call_case (respond run a) s = by _ (respond_case s.device s.write_fifo s.read_fifo run a)
  where
    by : (t : Result) → RespondCase s.device s.write_fifo s.read_fifo run a t → CallCase s (respond run a) (number_of t.refusal) (left_by t)
    by t (engine.refused {n = n} e f) = same refl (refused_respond run a (number_of n) (number_refused n f))
    by t (engine.completes e) = responds e
call_case (pcr_value i) s = same refl refl
call_case interrupt_line s = same refl refl
call_case (may_reset i x) s = same refl refl
call_case (may_extend i x) s = same refl refl
call_case window s = same refl refl
