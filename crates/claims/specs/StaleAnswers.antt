-- No stale answer (document 01, "An answer to an aborted run accepted by the next"): a run that has left Execution is never answered, until
-- 2 ^ 32 further runs or a power-on. Assumes nothing.
use Rattle.std.specs.Prelude.{◌≡◌, Bool, true, false, not, ◌&&◌, List, [], ◌∷◌, ℕ, ◌+◌, ◌^◌, ◌<◌, eqb}
use Rattle.refusal.specs.Refusal as refusal
use Rattle.refusal.specs.Refusal.{accepted, number_of}
use Rattle.arbiter_model.specs.Waits.{one}
use Rattle.record.specs.declared.Phase.{Phase}
use Rattle.record.specs.declared.Phase.TheVariants.{Idle, Ready, Reception, Execution, Completion}
use Rattle.call_admission.specs.Refusals.{lent_refusal_of}
use Rattle.claims.specs.Calls.{Call, respond, is_power_on, State, Answer, refusal_of, left, after, OverLists}

abbrev pub run_of : State → ℕ
run_of s = s.device.control.run

-- how often the run number changes in a list: where it has no power-on, so many runs begin in it
unfoldable pub runs_begun : State → List Call → ℕ
runs_begun s [] = 0
runs_begun s (c ∷ cs) = one (not (eqb (run_of s) (run_of (left c s)))) + runs_begun (left c s) cs

-- is a command in Execution
abbrev pub running : Phase → Bool
running Idle = false
running Ready = false
running (Reception n) = false
running (Execution n) = true
running (Completion n k) = false

unfoldable pub no_power_on : List Call → Bool
no_power_on [] = true
no_power_on (c ∷ cs) = not (is_power_on c) && no_power_on cs

-- a call of the number n that left s' is not accepted, refused as 3 where neither 2 nor 6 (lent) comes first, and changes nothing
pub record RefusedAs (lent n : ℕ) (s s' : State) : Type 0 where
  pub never : n ≡ accepted → ⊥
  pub as_three : lent ≡ accepted → n ≡ refusal.run
  pub same : s' ≡ s

abbrev pub Refused : Call → State → Type 0
Refused c s = RefusedAs (number_of (lent_refusal_of s.device s.write_fifo s.read_fifo)) (refusal_of c s) s (left c s)

-- from s on: once a call has left Execution, an answer that carries the number of that run is refused until 2 ^ 32 further runs or a power-on
unfoldable pub NoStaleAnswer : State → Type 0
NoStaleAnswer s =
    (c : Call) → is_power_on c ≡ false → running s.device.phase ≡ true → running (left c s).device.phase ≡ false
    → (cs : List Call) → no_power_on cs ≡ true → runs_begun (left c s) cs < 2 ^ 32
    → (a : List ℕ) → Refused (respond (run_of s) a) (after (left c s) cs)

abbrev pub NoStaleAnswerAfter : State → List (Call × Answer) → State → Type 0
NoStaleAnswerAfter s₀ h s = NoStaleAnswer s

-- the claim: after every list of calls that starts with a power-on
abbrev pub StaleAnswersRefused : Type 0
StaleAnswersRefused = OverLists NoStaleAnswerAfter
