-- A run that has left Execution is never answered. Assumes nothing.
use mathlib.Core.Path.{◌≡◌, refl, sym, ap, ◌∙◌}
use mathlib.Core.Bool.{Bool, true, false, cond, not, ◌&&◌, true≢false}
use mathlib.Core.List.{List, [], ◌∷◌}
use Prim.Native.Nat.{ℕ, ◌+◌, ◌%◌, ◌^◌, ◌<◌}
use native.Mathlib.Omega.{arith}
use lib.Dec.{eqb, ltb}
use borrow.Author.Tests.{eq-eqb, ne_eqb}
use Rattle.arbiter_model.specs.Waits.{one}
use Rattle.record.specs.Record.{fresh_device}
use Rattle.record.specs.declared.Device.{Device}
use Rattle.record.specs.declared.Phase.{Phase}
use Rattle.record.specs.declared.Phase.TheVariants.{Idle, Ready, Reception, Execution, Completion}
use Rattle.reg_fifo.specs.Fifo.{after_read}
use Rattle.reg_sts_write.specs.Sts.{next_run}
use Rattle.reg_sts_write.specs.declared.Commanded.{Commanded}
use Rattle.reg_sts_write.proofs.Cases as command
use Rattle.reg_sts_write.proofs.Cases.{CommandCase}
use Rattle.refusal.specs.Refusal.{number_of}
use Rattle.refusal.proofs.RefusalNumbers.{number_accepted, number_refused}
use Rattle.call_admission.specs.Refusals.{executes, lent_refusal_of}
use Rattle.call_admission.proofs.RefusalLaws.{answer_run, answer_then}
use Rattle.call_outcome.specs.Result.{Result}
use Rattle.call_power.proofs.Cases as power
use Rattle.call_power.proofs.Cases.{PowerCase}
use Rattle.call_bus.proofs.Cases.{Writes, starts, ends, joins, ignores, aborts, keeps, sets, commands}
use Rattle.call_respond.proofs.Cases as engine
use Rattle.call_respond.proofs.Cases.{RespondCase, respond_case}
use Rattle.claims.specs.Calls.{Call, power_on, respond, is_power_on, State, left, after}
use Rattle.claims.specs.StaleAnswers.{running, run_of, runs_begun, no_power_on, RefusedAs, Refused, NoStaleAnswer, StaleAnswersRefused}
use Rattle.claims.proofs.CallCases.{CallCase, same, powers, resets, looks, reads, writes, responds, left_by, call_case}

-- a command is in Execution just where the answer's refusal looks for it
pub running_is : (p : Phase) → running p ≡ executes p
running_is Idle = refl
running_is Ready = refl
running_is (Reception n) = refl
running_is (Execution n) = refl
running_is (Completion n k) = refl

-- ---- what a call does to the run number and to Execution

data Moves (run : ℕ) (p : Phase) : ℕ → Phase → Type 0 where
  -- no run begins, and nothing enters Execution
  stays : {p' : Phase} → (executes p' ≡ true → executes p ≡ true) → Moves run p run p'
  -- one run begins, and it is in Execution
  begins : {p' : Phase} → executes p' ≡ true → Moves run p (next_run run) p'

unmoved : {run : ℕ} {p : Phase} → Moves run p run p
unmoved = stays (λ e. e)

leaves : {run : ℕ} {p p' : Phase} → executes p' ≡ false → Moves run p run p'
leaves e = stays (λ q. absurd (true≢false (sym q ∙ e)))

command_moves : {run size c : ℕ} {p : Phase} {k : Commanded} → CommandCase run size c p k → Moves run p k.run k.phase
command_moves command.nothing = unmoved
command_moves command.readies = leaves refl
command_moves command.aborts = leaves refl
command_moves (command.begins e f) = begins refl
command_moves (command.fails e f) = leaves refl
command_moves command.retries = leaves refl
command_moves command.stores_first = leaves refl
command_moves (command.stores e) = leaves refl

read_moves : (run : ℕ) (p : Phase) → Moves run p run (after_read p)
read_moves run Idle = unmoved
read_moves run Ready = unmoved
read_moves run (Reception n) = unmoved
read_moves run (Execution n) = unmoved
read_moves run (Completion n k) = by (ltb k n)
  where
    by : (t : Bool) → Moves run (Completion n k) run (cond t (Completion n (k + 1)) (Completion n k))
    by true = leaves refl
    by false = unmoved

abbrev Devices : Device → Device → Type 0
Devices d d' = Moves d.control.run d.phase d'.control.run d'.phase

reset_moves : (d : Device) (established : Bool) (identity : List ℕ) → Devices d (fresh_device established identity d.control.run)
unfolding fresh_device
reset_moves d established identity = leaves refl

write_moves : {d : Device} {w r : List ℕ} {o v : ℕ} {d' : Device} {w' r' : List ℕ} → Writes d w r o v d' w' r' → Devices d d'
write_moves (starts i j) = leaves refl
write_moves (ends i j k) = leaves refl
write_moves (joins u h i l) = unmoved
write_moves (ignores i) = unmoved
write_moves (aborts l u h e i) = leaves refl
write_moves (keeps l u h e i) = unmoved
write_moves (sets u q n h s t) = unmoved
write_moves (commands u q n h c k t) = command_moves k

call_moves : {c : Call} {n : ℕ} {s s' : State} → CallCase s c n s' → is_power_on c ≡ false → Devices s.device s'.device
call_moves (same p e) q = unmoved
call_moves (powers k) q = absurd (true≢false q)
call_moves {s = s} (resets e) q = reset_moves s.device _ _
call_moves (looks e) q = unmoved
call_moves (reads i e) q = read_moves _ _
call_moves (writes k) q = write_moves k
call_moves (responds e) q = leaves refl

-- ---- lists

-- the run `old` has ended, and j have begun since
record Since (old j run : ℕ) (p : Phase) : Type 0 where
  pub number : run ≡ (old + j) % 2 ^ 32
  pub later : executes p ≡ true → 0 < j

abbrev Ended : ℕ → ℕ → Device → Type 0
Ended old j d = Since old j d.control.run d.phase

ended_step : (old j : ℕ) (d d' : Device) → Devices d d' → Ended old j d → Ended old (one (not (eqb d.control.run d'.control.run)) + j) d'
ended_step old j d d' k i = by k
  where
    by : {run : ℕ} {p : Phase} → Moves d.control.run d.phase run p → Since old (one (not (eqb d.control.run run)) + j) run p
    by (stays f) = rw (eq-eqb d.control.run d.control.run refl) (record { number = omega (arith, i.number); later = λ q. omega (arith, i.later (f q)) })
    by (begins f) =
        rw (ne_eqb d.control.run (next_run d.control.run) (λ q. omega (arith, i.number)))
        (record { number = omega (arith, i.number); later = λ q. omega arith })

both : (a b : Bool) → (not a && b) ≡ true → (a ≡ false) × (b ≡ true)
both true b e = absurd (true≢false (sym e))
both false b e = (refl, e)

ended_calls : (old j : ℕ) (s : State) (cs : List Call) → no_power_on cs ≡ true → Ended old j s.device → Ended old (runs_begun s cs + j) (after s cs).device
unfolding runs_begun no_power_on after
ended_calls old j s [] e i = let z : 0 + j ≡ j = omega arith in rw z i
ended_calls old j s (c ∷ cs) e i =
    let f : _ = both (is_power_on c) (no_power_on cs) e in
    let b : ℕ = one (not (eqb (run_of s) (run_of (left c s)))) in
    let k : Ended old (b + j) (left c s).device = ended_step old j s.device (left c s).device (call_moves (call_case c s) f.0) i in
    rw (add_swap b (runs_begun (left c s) cs) j) (ended_calls old (b + j) (left c s) cs f.1 k)
  where
    add_swap : (a b c : ℕ) → a + b + c ≡ b + (a + c)
    add_swap a b c = omega arith

-- ---- an answer to a run that has ended

not_running : (old j : ℕ) (d : Device) → old < 2 ^ 32 → j < 2 ^ 32 → Ended old j d → (executes d.phase && eqb d.control.run old) ≡ false
not_running old j d l m i = by (executes d.phase) refl
  where
    by : (t : Bool) → executes d.phase ≡ t → (t && eqb d.control.run old) ≡ false
    by true e = ne_eqb d.control.run old (λ q. omega (arith, i.number, i.later e))
    by false e = refl

refused : (s : State) (old : ℕ) (a : List ℕ) → (executes s.device.phase && eqb (run_of s) old) ≡ false → Refused (respond old a) s
refused s old a e = by _ (respond_case s.device s.write_fifo s.read_fifo old a)
  where
    by : (t : Result) → RespondCase s.device s.write_fifo s.read_fifo old a t
        → RefusedAs (number_of (lent_refusal_of s.device s.write_fifo s.read_fifo)) (number_of t.refusal) s (left_by t)
    by t (engine.refused {n = n} is f) = record {
      never = number_refused n f;
      as_three = λ z. ap number_of (is ∙ answer_run _ _ _ _ _ (number_accepted _ z) e);
      same = refl;
    }
    by t (engine.completes is) = absurd (true≢false (sym (answer_then _ _ _ _ _ is).1 ∙ e))

no_stale : (s : State) → run_of s < 2 ^ 32 → NoStaleAnswer s
unfolding NoStaleAnswer
no_stale s l c p e f cs q m a =
    refused (after (left c s) cs) (run_of s) a (not_running (run_of s) (runs_begun (left c s) cs + 0) (after (left c s) cs).device l (omega arith) (ended_calls (run_of s) 0 (left c s) cs q (ended (sym (running_is (left c s).device.phase) ∙ f) (call_moves (call_case c s) p))))
  where
    ended : {run : ℕ} {p : Phase} → executes p ≡ false → Moves (run_of s) s.device.phase run p → Since (run_of s) 0 run p
    ended f (stays j) = record { number = omega arith; later = λ z. absurd (true≢false (sym z ∙ f)) }
    ended f (begins j) = absurd (true≢false (sym j ∙ f))

-- ---- the run number keeps to its 32 bits

fresh_zero : (established : Bool) (identity : List ℕ) → (fresh_device established identity 0).control.run < 2 ^ 32
unfolding fresh_device
fresh_zero established identity = omega arith

power_fits : {established : Bool} {identity w r : List ℕ} {t : Result} → PowerCase established identity w r t → run_of (left_by t) < 2 ^ 32
power_fits (power.refused l) = fresh_zero _ _
power_fits (power.powered l) = fresh_zero _ _

call_fits : (c : Call) (s : State) → run_of s < 2 ^ 32 → run_of (left c s) < 2 ^ 32
call_fits c s l = by (call_case c s)
  where
    moved : {run : ℕ} {p : Phase} → Moves (run_of s) s.device.phase run p → run < 2 ^ 32
    moved (stays f) = l
    moved (begins f) = omega arith

    by : {c : Call} {n : ℕ} {s' : State} → CallCase s c n s' → run_of s' < 2 ^ 32
    by (powers k) = power_fits k
    by (same p e) = l
    by (resets e) = moved (reset_moves s.device _ _)
    by (looks e) = l
    by (reads i e) = l
    by (writes k) = moved (write_moves k)
    by (responds e) = l

calls_fit : (s : State) (cs : List Call) → run_of s < 2 ^ 32 → run_of (after s cs) < 2 ^ 32
unfolding after
calls_fit s [] l = l
calls_fit s (c ∷ cs) l = calls_fit (left c s) cs (call_fits c s l)

pub stale_answers_refused : StaleAnswersRefused
unfolding after
stale_answers_refused s e i cs =
    no_stale (after (left (power_on e i) s) cs) (calls_fit (left (power_on e i) s) cs (power_fits (power.power_case e i s.write_fifo s.read_fifo)))
