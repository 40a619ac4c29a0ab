-- Records played one after the other. Assumes nothing.
use mathlib.Core.Path.{◌≡◌, refl, sym, ap, ◌∙◌}
use mathlib.Core.Bool.{Bool}
use mathlib.Core.List.{List, [], ◌∷◌, ◌++◌, map}
use Prim.Native.Nat.{ℕ, zero, suc, ◌*◌, ◌≤◌, ◌<◌}
use native.Mathlib.Omega.{arith}
use lib.ListN.{length, take, drop, length-map, take-append-drop}
use lib.Seq.{length-take-le, take_all}
use Rattle.refusal.specs.Refusal.{number_of}
use Rattle.record.specs.declared.Device.{Device}
use Rattle.call_outcome.specs.declared.Outcome.{Outcome}
use Rattle.call_outcome.specs.declared.ReadOutcome.{ReadOutcome}
use Rattle.call_outcome.specs.Result.{Leaves}
use Rattle.call_power.specs.Power as power
use Rattle.capture.specs.declared.Cycle.{Cycle}
use Rattle.capture.specs.declared.Word.{Word}
use Rattle.std.specs.Prelude.{Option}
use Rattle.text.specs.declared.Page.{Page}
use Rattle.text.specs.Page.{Gains}
use Rattle.text.proofs.PutLaws.{gains_nothing, gains_then}
use Rattle.capture.specs.Capture.{body_of, cycle_at, records, played, count, word}
use Rattle.capture.proofs.RecordLaws.{counted, records_whole, records_extend, played_first}
use Rattle.claims.specs.Calls.{Call, State, state, called, left, after, heard}
use Rattle.capture_call.specs.Call.{call_of, shown_byte, Gives}
use Rattle.capture_play.specs.Play.{calls_of, shown, cycles_in, powered, Plays, Turns, calls_in, first_calls, Runs}

-- ---- the calls

-- a record's bytes, and the rest
record_more : (bytes rest : List ℕ) → length bytes ≡ 4 → records (bytes ++ rest) ≡ cycle_at bytes 0 ∷ records rest
unfolding records cycle_at
record_more (k ∷ h ∷ l ∷ v ∷ []) rest e = refl
record_more [] rest e = absurd (omega arith)
record_more (k ∷ []) rest e = absurd (omega arith)
record_more (k ∷ h ∷ []) rest e = absurd (omega arith)
record_more (k ∷ h ∷ l ∷ []) rest e = absurd (omega arith)
record_more (k ∷ h ∷ l ∷ v ∷ y ∷ x) rest e = absurd (omega arith)

record_none : (bytes : List ℕ) → length bytes < 4 → records bytes ≡ []
unfolding records
record_none [] s = refl
record_none (k ∷ []) s = refl
record_none (k ∷ h ∷ []) s = refl
record_none (k ∷ h ∷ l ∷ []) s = refl
record_none (k ∷ h ∷ l ∷ v ∷ rest) s = absurd (omega arith)

-- as few as their bytes
few : (bytes : List ℕ) (n : ℕ) → length bytes ≤ 4 * n → length (records bytes) ≤ n
unfolding records
few [] n l = omega arith
few (k ∷ []) n l = omega arith
few (k ∷ h ∷ []) n l = omega arith
few (k ∷ h ∷ l ∷ []) n s = omega arith
few (k ∷ h ∷ l ∷ v ∷ rest) zero s = absurd (omega arith)
few (k ∷ h ∷ l ∷ v ∷ rest) (suc n) s = omega (arith, few rest n (omega arith))

-- ---- from s, with bytes left and a page, the calls of those bytes lead where all of them lead

pub record Ahead (p₀ : Page) (s₀ : State) (body : List ℕ) (p : Page) (s : State) (bytes : List ℕ) : Type 0 where
  pub answers : (q : Page) → Gains p (shown (heard s (calls_in bytes))) q → Gains p₀ (shown (heard s₀ (calls_in body))) q
  pub left : after s (calls_in bytes) ≡ after s₀ (calls_in body)

module _ (p₀ : Page) (s₀ : State) (body : List ℕ) (p : Page) (d : Device) (w r bytes : List ℕ) (so_far : Ahead p₀ s₀ body p (state d w r) bytes) where
  -- one call more
  pub ahead_more : (x rest : List ℕ) → bytes ≡ x ++ rest → length x ≡ 4 → (k : Cycle) → k ≡ cycle_at x 0 → (o : ReadOutcome) (w' r' : List ℕ) → Gives o w' r' (called (call_of k) (state d w r))
      → (p' : Page) → Gains p (number_of o.refusal ∷ o.byte ∷ []) p' → Ahead p₀ s₀ body p' (state o.device w' r') rest
  unfolding heard after shown
  ahead_more x rest e f k is o w' r' g p' put =
      let s : State = state d w r in
      let c : Call = call_of (cycle_at x 0) in
      let calls : calls_in bytes ≡ c ∷ calls_in rest = ap calls_in e ∙ ap (map call_of) (record_more x rest f) in
      let gave : Gives o w' r' (called c s) = rw is at g in
      let went : state o.device w' r' ≡ left c s = rw (gave.device, gave.write_fifo, gave.read_fifo) refl in
      record {
        answers = λ q h.
            let two : Gains p ((called c s).answer.refusal ∷ shown_byte (called c s).answer.value ∷ []) p' = rw (gave.refusal, gave.byte) at put in
            so_far.answers q (rw calls (gains_then p p' q _ _ two (rw went at h)));
        left = rw went (rw calls at so_far.left);
      }

  pub ahead_none : length bytes < 4 → Turns d p₀ p w r (calls_in body) s₀
  unfolding heard after shown
  ahead_none s =
      let none : calls_in bytes ≡ [] = ap (map call_of) (record_none bytes s) in
      record { answers = so_far.answers p (rw none (gains_nothing p)); left = rw none at so_far.left }

-- the first n records
module _ (n : ℕ) (body : List ℕ) (whole : 4 * n ≤ length body) where
  front : records (take (4 * n) body) ≡ take n (records body)
  front =
      let long : 4 * n ≤ length (take (4 * n) body) = omega (arith, length-take-le (4 * n) body whole) in
      sym (take_all n (records (take (4 * n) body)) (few (take (4 * n) body) n (omega (arith, length-take-le (4 * n) body whole))))
      ∙ sym (records_extend n (take (4 * n) body) (drop (4 * n) body) long)
      ∙ ap (λ (l : List ℕ). take n (records l)) (take-append-drop (4 * n) body)

  pub first_turns : (d : Device) (p q : Page) (w r : List ℕ) (s : State) → Turns d p q w r (calls_in (take (4 * n) body)) s → Turns d p q w r (first_calls n body) s
  first_turns d p q w r s t = rw (ap (map call_of) front) at t

  pub calls_number : length (first_calls n body) ≡ n
  calls_number = length-map (take n (records body)) call_of ∙ length-take-le n (records body) (records_whole n body whole)

pub runs : (d : Device) (p q : Page) (a w r : List ℕ) (cs : List Call) (s : State) (lent : List ℕ) → p.lent.now ≡ lent → p.used ≡ 0 → Turns d p q w r cs s → a ≡ q.lent.now
    → Runs d a w r cs s lent
runs d p q a w r cs s lent e z t b = rw (b, ← e) (record { answers = rw z at t.answers.puts.holds; left = t.left })

-- ---- a whole capture

-- a list of calls makes a cycle for each
pub heard_number : (s : State) (cs : List Call) → cycles_in (heard s cs) ≡ length cs
unfolding heard cycles_in
heard_number s [] = refl
heard_number s (c ∷ cs) = ap suc (heard_number (left c s) cs)

module _ (limit : ℕ) (capture body : List ℕ) (n : ℕ) (count_is : n ≡ count limit capture) (body_is : body ≡ body_of capture) where
  pub cycles_fit : 4 * n ≤ length body
  unfolding count
  cycles_fit = rw (count_is, body_is) (counted limit (body_of capture)).whole

  calls_are : first_calls n body ≡ calls_of limit capture
  unfolding count played calls_of
  calls_are = rw (count_is, body_is) (ap (map call_of) (sym (played_first limit (body_of capture))))

  pub all_played : (s : State) (d : Device) (a w r lent : List ℕ) (t : Option Word) → Runs d a w r (first_calls n body) s lent → t ≡ word limit capture
      → Plays (record { cycles = n; word = t; device = d }) a w r s limit capture lent
  all_played s d a w r lent t p e =
      record {
        cycles = count_is;
        steps = rw (heard_number s (calls_of limit capture), ← calls_are) (sym (calls_number n body cycles_fit));
        word = e;
        answers = rw (← calls_are) p.answers;
        left = rw (← calls_are) p.left;
      }

pub powered_on_lem : (established : Bool) (identity w r : List ℕ) (o : Outcome) (w' r' : List ℕ) → Leaves o w' r' (power.power_on established identity w r)
    → state o.device w' r' ≡ powered established identity w r
unfolding powered
powered_on_lem established identity w r o w' r' p = rw (p.device, p.write_fifo, p.read_fifo) refl
