-- The limits hold as the papers' numerals say, by computation. Assumes nothing.
use Prim.Native.Nat.{ℕ}
use mathlib.Core.Path.{◌≡◌, refl, sym, ap, subst, ◌∙◌}
use mathlib.Core.Bool.{Bool, true, false, cond, not, ◌&&◌}
use mathlib.Core.List.{List, [], ◌∷◌}
use lib.Dec.{eqb, leb}
use lib.ListN.{length}
use Rattle.std.specs.Prelude.{None, Some}
use Rattle.refusal.specs.Refusal.{number_of, accepts}
use Rattle.refusal.specs.declared.Refusal.TheVariants.{FifoLength, Shape}
use Rattle.pcr.specs.Bank.{value_at, all_bytes}
use Rattle.record.specs.Record.{fresh_device}
use Rattle.record.specs.declared.Device.{Device}
use Rattle.record.specs.declared.Phase.{Phase}
use Rattle.record.specs.declared.Phase.TheVariants.{Ready, Reception, Completion}
use Rattle.record_shape.specs.Shape.{lengths_allowed, in_shape}
use Rattle.reg_map.specs.Map.{register_at}
use Rattle.reg_sts_read.specs.Size.{declared_size}
use Rattle.reg_sts_read.specs.Status.{sts_byte}
use Rattle.bus_read.specs.Reading.{register_read}
use Rattle.bus_resolve.specs.Resolve.{resolve}
use Rattle.reg_fifo.specs.Fifo.{clear_fifo}
use Rattle.call_admission.specs.Refusals.{bus_refusal, lent_refusal, pcr_refusal}
use Rattle.call_outcome.specs.Result.{result}
use Rattle.call_power.specs.Power.{power_on}
use Rattle.call_query.specs.Query.{pcr_outcome, pcr_value}
use Rattle.call_bus.specs.Bus.{read, read_cycle, accepted_read}
use Rattle.claims.specs.Calls as call
use Rattle.claims.specs.Calls.{State, state, Answer, Called, called}
use Rattle.claims.proofs.Steps.{Step}
use Rattle.claims.proofs.Bridge.{step_called}
use Rattle.conformance_limits.specs.Limits.{lengths_refusal, Lengths, in_phase, asked, Counts, declaring, Burst, gives, Bursts, ready, sending, sending_less, sending_near, reading, LimitsClaim}

lengths_hold : Lengths
unfolding power_on lengths_allowed
lengths_hold d w r established identity = by (leb 1024 (length w) && leb (length w) 8192 && eqb (length w) (length r))
  where
    by : (t : Bool) → number_of (cond t (result None (fresh_device established identity 0) (clear_fifo w) (clear_fifo r)) (result (Some FifoLength) (fresh_device established identity 0) w r)).refusal ≡ cond t 0 2
    by true = refl
    by false = refl

counts_hold : (d : Device) → Counts d
unfolding pcr_value pcr_refusal in_shape
counts_hold d = record {
  received = λ n. by (leb 1 n && leb n 8192);
  executed = λ n. by (leb 10 n && leb n 8192);
  answered = λ n k. by (leb 10 n && leb n 8192 && leb k n);
}
  where
    -- t is the clause on the counts
    by : (t : Bool)
        → number_of (cond (accepts (cond (not (t && true && true)) (Some Shape) None)) (pcr_outcome None (value_at d.pcrs 0)) (pcr_outcome (cond (not (t && true && true)) (Some Shape) None) (all_bytes 0))).refusal
        ≡ cond t 0 6
    by true = refl
    by false = refl

sends_hold : (d : Device) → Bursts (λ n. declaring 0x20 0x00 d (Reception n)) sending × Bursts (λ n. declaring 0x17 0x70 d (Reception n)) sending_less
    × Bursts (λ n. declaring 0x1f 0x40 d (Reception n)) sending_near
unfolding read read_cycle accepted_read bus_refusal lent_refusal lengths_allowed in_shape register_at register_read resolve declared_size sts_byte
sends_hold d = (refl, refl, refl)

others_hold : (d : Device) → Bursts (λ n. declaring 0x00 0x00 d Ready) ready × Bursts (λ n. declaring 0x00 0x00 d (Completion 8192 n)) reading
unfolding read read_cycle accepted_read bus_refusal lent_refusal lengths_allowed in_shape register_at register_read resolve declared_size sts_byte
others_hold d = (refl, refl)

pub limits_hold : LimitsClaim
limits_hold = record {
  lengths = lengths_hold;
  counts = counts_hold;
  when_ready = λ d. (others_hold d).0;
  while_sending = λ d. (sends_hold d).0;
  while_sending_less = λ d. (sends_hold d).1;
  while_sending_near = λ d. (sends_hold d).2;
  while_reading = λ d. (others_hold d).1;
}

-- ---- on the calls' own contracts: whoever makes the calls by steps that they allow meets the same numbers

pub lengths_on_contracts : (d : Device) (w r : List ℕ) (established : Bool) (identity : List ℕ) {a : Answer} {s : State}
    → Step (call.power_on established identity) (state d w r) a s → a.refusal ≡ lengths_refusal (length w) (length r)
lengths_on_contracts d w r established identity p =
    subst (λ (k : Called). k.answer.refusal ≡ lengths_refusal (length w) (length r)) (step_called p) (lengths_hold d w r established identity)

pub asked_on_contracts : (d : Device) (q : Phase) {a : Answer} {s : State} → Step (call.pcr_value 0) (state (in_phase d q) [] []) a s → a.refusal ≡ asked d q
asked_on_contracts d q p = sym (ap (λ (k : Called). k.answer.refusal) (step_called p))

-- each pair of reads gives the two bytes
abbrev pub EachRead : (ℕ → State) → List Burst → Type 0
EachRead s [] = Unit
EachRead s (b ∷ l) =
    ((a : Answer) (t : State) → Step (call.read 0x0019) (s b.done) a t → a ≡ gives b.low)
    × ((a : Answer) (t : State) → Step (call.read 0x001a) (s b.done) a t → a ≡ gives b.high) × EachRead s l

-- the first of a list, its rest
abbrev first : Answer → List Answer → Answer
first d [] = d
first d (a ∷ l) = a

abbrev rest : List Answer → List Answer
rest [] = []
rest (a ∷ l) = l

read_is : {o : ℕ} {s : State} {a b : Answer} {t : State} → Step (call.read o) s a t → (called (call.read o) s).answer ≡ b → a ≡ b
read_is p e = sym (ap (λ (k : Called). k.answer) (step_called p)) ∙ e

pub bursts_on_contracts : (s : ℕ → State) (l : List Burst) → Bursts s l → EachRead s l
bursts_on_contracts s [] e = tt
bursts_on_contracts s (b ∷ l) e =
    let second : _ = ap rest e in
    (λ a t p. read_is p (ap (first (gives 0)) e), λ a t p. read_is p (ap (first (gives 0)) second), bursts_on_contracts s l (ap rest second))
