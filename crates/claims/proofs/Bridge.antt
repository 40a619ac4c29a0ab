-- The bridge between the claims and the functions: a step on the functions' contracts is just what the calls' definitions say, and there is
-- one for each call and whatever it is handed; so a claim over lists of calls holds of the functions. Assumes nothing.
use mathlib.Core.Path.{◌≡◌, refl, ap, ◌∙◌, subst}
use mathlib.Core.Bool.{Bool, true, false, cond}
use mathlib.Core.List.{List, [], ◌∷◌}
use Prim.Native.Nat.{ℕ, ◌+◌, ◌-◌}
use lib.ListN.{length, take, drop}
use lib.Seq.{take-length}
use Rattle.std.specs.Borrow.{Bor, MutBor}
use contract.Lifetimes.{Lfts}
use Rattle.refusal.specs.Refusal.{number_of}
use Rattle.pcr.specs.Permission as table
use Rattle.pcr.specs.Permission.{permission}
use Rattle.record.specs.declared.Device.{Device}
use Rattle.call_admission.specs.Refusals.{lent_refusal_of}
use Rattle.call_outcome.specs.declared.Outcome.{Outcome}
use Rattle.call_outcome.specs.Result.{Result, Leaves}
use Rattle.call_power.specs.Power as power
use Rattle.call_bus.specs.Bus as bus
use Rattle.call_respond.specs.Respond as engine
use Rattle.call_query.specs.Query as query
use Rattle.call_query.specs.Query.{Span, of_two}
use Rattle.call_query.specs.declared.WindowOutcome.{WindowOutcome}
use Rattle.claims.specs.Calls.{Call, power_on, reset, read, write, respond, pcr_value, interrupt_line, may_reset, may_extend, window, State, state, nothing, Answer, Called, changes, gives, called, left, after, heard, OverLists, Lent, lent_after, lent_heard, OverLent}
use Rattle.claims.proofs.Steps.{Step, powers_on, resets, reads, writes, responds, asks_pcr, asks_line, asks_reset, asks_extend, looks, Runs, none, more, OnContracts, LentRuns, none_lent, more_lent, OnLentContracts}

-- ---- a step is what the definitions say

-- an outcome with what is left in the FIFOs is the result
outcome_left : (o : Outcome) (w r : List ℕ) (t : Result) → Leaves o w r t → changes t ≡ gives (number_of o.refusal) nothing (state o.device w r)
outcome_left o w r t p = rw (p.refusal, p.device, p.write_fifo, p.read_fifo) refl

now_two : (b : Bool) (w r : Bor (List ℕ)) → (of_two b w r).now ≡ cond b r.now w.now
now_two true w r = refl
now_two false w r = refl

pub step_called : {c : Call} {s s' : State} {a : Answer} → Step c s a s' → called c s ≡ record { answer = a; left = s' }
step_called (powers_on κs d e i w w' r r' o p) = outcome_left o w'.now r'.now _ p
step_called (resets κs d w w' r r' o p) = outcome_left o w'.now r'.now _ p
step_called (reads κs d w r x o p) = rw p refl
step_called (writes κs d w w' r r' x v o p) = outcome_left o w'.now r'.now _ p
step_called (responds κs d w w' r r' a x o p) = outcome_left o w'.now r'.now _ p
step_called (asks_pcr κs s i o p) = rw p refl
step_called (asks_line κs s l p) = rw p refl
step_called (asks_reset κs s i x o p) = rw p refl
step_called (asks_extend κs s i x o p) = rw p refl
step_called (looks κs d w r o p) = rw (p.0.bytes, p.1, now_two (query.window_span d w.now r.now).reading w r) refl

-- ---- and there is one for every call

-- a reference to a value, at some place, and one that may change it
abbrev at : {X : Type 0} → X → Bor X
at x = record { ref_ptr = (0, 0); now = x }

abbrev mut : {X : Type 0} → X → MutBor X
mut x = record { ref_ptr = (0, 0); ghost_name = 0; now = x }

abbrev outcome : Result → Outcome
outcome t = record { refusal = t.refusal; device = t.device }

leaves : (t : Result) → Leaves (outcome t) t.write_fifo t.read_fifo t
leaves t = record { refusal = refl; device = refl; write_fifo = refl; read_fifo = refl }

-- the part of a FIFO that a span names
abbrev shown : Span → Bor (List ℕ) → Bor (List ℕ)
shown p f = record {
  ref_ptr = (f.ref_ptr.0, p.start + f.ref_ptr.1);
  now = take (p.stop - p.start) (drop p.start f.now);
}

-- no lifetime matters to what a call says
abbrev one : Lfts 1
one = ([], tt)

abbrev two : Lfts 2
two = ([], ([], tt))

abbrev three : Lfts 3
three = ([], ([], ([], tt)))

pub called_step : (c : Call) (s : State) → Step c s (called c s).answer (left c s)
called_step (power_on e i) s =
    let t : Result = power.power_on e i s.write_fifo s.read_fifo in
    powers_on two s.device e i (mut s.write_fifo) (mut t.write_fifo) (mut s.read_fifo) (mut t.read_fifo) (outcome t) (leaves t)
called_step reset s =
    let t : Result = power.reset s.device s.write_fifo s.read_fifo in
    resets two s.device (mut s.write_fifo) (mut t.write_fifo) (mut s.read_fifo) (mut t.read_fifo) (outcome t) (leaves t)
called_step (read o) s = reads two s.device (at s.write_fifo) (at s.read_fifo) o (bus.read s.device s.write_fifo s.read_fifo o) refl
called_step (write o v) s =
    let t : Result = bus.write s.device s.write_fifo s.read_fifo o v in
    writes two s.device (mut s.write_fifo) (mut t.write_fifo) (mut s.read_fifo) (mut t.read_fifo) o v (outcome t) (leaves t)
called_step (respond run a) s =
    let t : Result = engine.respond s.device s.write_fifo s.read_fifo run a in
    responds three s.device (mut s.write_fifo) (mut t.write_fifo) (mut s.read_fifo) (mut t.read_fifo) (at a) run (outcome t) (leaves t)
called_step (pcr_value i) s = asks_pcr tt s i (query.pcr_value s.device i) refl
called_step interrupt_line s = asks_line tt s (query.interrupt_line s.device) refl
called_step (may_reset i x) s = asks_reset tt s i x (permission table.may_reset i x) refl
called_step (may_extend i x) s = asks_extend tt s i x (permission table.may_extend i x) refl
called_step window s =
    let p : Span = query.window_span s.device s.write_fifo s.read_fifo in
    let t : Bor (List ℕ) = shown p (of_two p.reading (at s.write_fifo) (at s.read_fifo)) in
    let o : WindowOutcome = record { refusal = lent_refusal_of s.device s.write_fifo s.read_fifo; bytes = t } in
    let k : _ = looks one s.device (at s.write_fifo) (at s.read_fifo) o (record { bytes = refl; place = refl }, refl) in
    rw (now_two p.reading (at s.write_fifo) (at s.read_fifo)) at k

-- ---- lists

-- a list of steps is what its calls hear and leave
pub runs_called : {s s' : State} {h : List (Call × Answer)} → Runs s h s' → (cs : List Call) × (heard s cs ≡ h) × (after s cs ≡ s')
unfolding heard after
runs_called none = ([], refl, refl)
runs_called {s} (more {s₁ = s₁} {s₂ = s₂} {c = c} {a = a} {cs = h} p ps) =
    let r : _ = runs_called ps in
    let e : left c s ≡ s₁ = ap (λ (k : Called). k.left) (step_called p) in
    let f : (called c s).answer ≡ a = ap (λ (k : Called). k.answer) (step_called p) in (
      c ∷ r.0,
      ap (λ (b : Answer). (c, b) ∷ heard (left c s) r.0) f ∙ ap (λ (z : State). (c, a) ∷ heard z r.0) e ∙ ap (λ (l : List (Call × Answer)). (c, a) ∷ l) r.1,
      ap (λ (z : State). after z r.0) e ∙ r.2,
    )

pub called_runs : (s : State) (cs : List Call) → Runs s (heard s cs) (after s cs)
unfolding heard after
called_runs s [] = none
called_runs s (c ∷ cs) = more (called_step c s) (called_runs (left c s) cs)

-- the same of calls that are lent FIFOs of their own
pub lent_called : {d d' : Device} {h : List (Call × Answer)} → LentRuns d h d' → (ks : List Lent) × (lent_heard d ks ≡ h) × (lent_after d ks ≡ d')
unfolding lent_heard lent_after
lent_called none_lent = ([], refl, refl)
lent_called {d} (more_lent {w = w} {r = r} {s₁ = s₁} {c = c} {a = a} {cs = h} p ps) =
    let z : _ = lent_called ps in
    let e : left c (state d w r) ≡ s₁ = ap (λ (k : Called). k.left) (step_called p) in
    let f : (called c (state d w r)).answer ≡ a = ap (λ (k : Called). k.answer) (step_called p) in (
      record { call = c; write_fifo = w; read_fifo = r } ∷ z.0,
      ap (λ (b : Answer). (c, b) ∷ lent_heard (left c (state d w r)).device z.0) f
          ∙ ap (λ (s : State). (c, a) ∷ lent_heard s.device z.0) e
          ∙ ap (λ (l : List (Call × Answer)). (c, a) ∷ l) z.1,
      ap (λ (s : State). lent_after s.device z.0) e ∙ z.2,
    )

pub on_lent_contracts : (P : List (Call × Answer) → Device → Type 0) → OverLent P → OnLentContracts P
unfolding lent_heard lent_after
on_lent_contracts P f s₀ s₁ d d' e i a h later p ps qs =
    let z : _ = lent_called ps in
    let first : Lent = record { call = power_on e i; write_fifo = s₀.write_fifo; read_fifo = s₀.read_fifo } in
    let c : called (power_on e i) s₀ ≡ record { answer = a; left = s₁ } = step_called p in
    let whole : P (lent_heard s₀.device (first ∷ z.0)) (lent_after s₀.device (first ∷ z.0)) = rw (take-length z.0) at (f s₀.device first refl z.0 (length z.0)) in
    let k : P ((power_on e i, a) ∷ lent_heard s₁.device z.0) (lent_after s₁.device z.0)
    = subst (λ (k : Called). P ((power_on e i, k.answer) ∷ lent_heard k.left.device z.0) (lent_after k.left.device z.0)) c whole in
    rw (z.1, z.2) at k

-- a claim over lists of calls is one on the functions' contracts, and the other way round
pub on_contracts : (P : State → List (Call × Answer) → State → Type 0) → OverLists P → OnContracts P
unfolding heard after
on_contracts P f s₀ s₁ s e i a h p ps =
    let r : _ = runs_called ps in
    let c : called (power_on e i) s₀ ≡ record { answer = a; left = s₁ } = step_called p in
    let k : P s₀ ((power_on e i, a) ∷ heard s₁ r.0) (after s₁ r.0) = subst (λ (k : Called). P s₀ ((power_on e i, k.answer) ∷ heard k.left r.0) (after k.left r.0)) c (f s₀ e i r.0) in
    rw (r.1, r.2) at k

pub over_lists : (P : State → List (Call × Answer) → State → Type 0) → OnContracts P → OverLists P
unfolding heard after
over_lists P f s e i cs = f s (left (power_on e i) s) (after (left (power_on e i) s) cs) e i _ (heard (left (power_on e i) s) cs) (called_step (power_on e i) s) (called_runs (left (power_on e i) s) cs)
