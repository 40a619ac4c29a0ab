-- The sheet on the calls' own contracts: whoever plays an entry by steps that the contracts allow sees what the sheet wants. Assumes nothing.
use mathlib.Core.Path.{◌≡◌, refl, sym, ap, ◌∙◌, subst}
use mathlib.Core.Bool.{false}
use lib.ListN.{replicate}
use mathlib.Core.List.{List, [], ◌∷◌}
use Prim.Native.Nat.{ℕ}
use Rattle.record.specs.declared.Device.{Device}
use Rattle.record_shape.specs.Shape.{lengths_allowed}
use Rattle.call_power.specs.Power.{power_on}
use Rattle.claims.specs.Calls as call
use Rattle.claims.specs.Calls.{Call, State, state, Value, Answer, Called, called, left}
use Rattle.claims.proofs.Steps.{Step}
use Rattle.claims.proofs.Bridge.{step_called, called_step}
use Rattle.conformance_claim.specs.Sheet.{Line, write, ignored, reads, answer, gets, leaves, run, Seen, number, answered, all, fresh, checks, gots, wants, sheet, Each}
use Rattle.conformance_claim.proofs.SheetHolds.{sheet_holds}

-- the lines, played from a state, and what is seen
pub data Plays : State → List Line → List Seen → Type 0 where
  none : {s : State} → Plays s [] []
  writes : {s s' : State} {a : Answer} {o v : ℕ} {l : List Line} {z : List Seen} → Step (call.write o v) s a s' → Plays s' l z → Plays s (write o v ∷ l) (answered a ∷ z)
  ignores : {s s' : State} {a : Answer} {o v : ℕ} {l : List Line} {z : List Seen} → Step (call.write o v) s a s' → Plays s' l z
      → Plays s (ignored o v ∷ l) (answered a ∷ all s' ∷ z)
  looks : {s s' : State} {a : Answer} {o v : ℕ} {l : List Line} {z : List Seen} → Step (call.read o) s a s' → Plays s' l z → Plays s (reads o v ∷ l) (answered a ∷ z)
  responds : {s s' : State} {a : Answer} {n k : ℕ} {b : List ℕ} {l : List Line} {z : List Seen} → Step (call.respond k b) s a s' → Plays s' l z
      → Plays s (answer n k b ∷ l) (answered a ∷ z)
  steps : {s s' : State} {a : Answer} {c : Call} {n : ℕ} {v : Value} {l : List Line} {z : List Seen} → Step c s a s' → Plays s' l z → Plays s (gets c n v ∷ l) (answered a ∷ z)
  stands : {s s' : State} {a : Answer} {c : Call} {n : ℕ} {v : Value} {l : List Line} {z : List Seen} → Step c s a s' → Plays s' l z
      → Plays s (leaves c n v ∷ l) (answered a ∷ all s' ∷ z)
  counts : {s : State} {n : ℕ} {l : List Line} {z : List Seen} → Plays s l z → Plays s (run n ∷ l) (number s.device.control.run ∷ z)

-- a step is what `called` says
by_step : {c : Call} {s s' : State} {a : Answer} → Step c s a s' → (f : Answer → State → List Seen) → f a s' ≡ f (called c s).answer (left c s)
by_step p f = ap (λ (k : Called). f k.answer k.left) (sym (step_called p))

plays_gots : {s : State} {l : List Line} {z : List Seen} → Plays s l z → z ≡ gots (checks s l)
unfolding checks
plays_gots none = refl
plays_gots (writes {a = a} {l = l} p ps) = ap (λ (z : List Seen). answered a ∷ z) (plays_gots ps) ∙ by_step p (λ b t. answered b ∷ gots (checks t l))
plays_gots (ignores {s' = t} {a = a} {l = l} p ps) = ap (λ (z : List Seen). answered a ∷ all t ∷ z) (plays_gots ps) ∙ by_step p (λ b t. answered b ∷ all t ∷ gots (checks t l))
plays_gots (looks {a = a} {l = l} p ps) = ap (λ (z : List Seen). answered a ∷ z) (plays_gots ps) ∙ by_step p (λ b t. answered b ∷ gots (checks t l))
plays_gots (responds {a = a} {l = l} p ps) = ap (λ (z : List Seen). answered a ∷ z) (plays_gots ps) ∙ by_step p (λ b t. answered b ∷ gots (checks t l))
plays_gots (steps {a = a} {l = l} p ps) = ap (λ (z : List Seen). answered a ∷ z) (plays_gots ps) ∙ by_step p (λ b t. answered b ∷ gots (checks t l))
plays_gots (stands {s' = t} {a = a} {l = l} p ps) = ap (λ (z : List Seen). answered a ∷ all t ∷ z) (plays_gots ps) ∙ by_step p (λ b t. answered b ∷ all t ∷ gots (checks t l))
plays_gots (counts {s = s} ps) = ap (λ (z : List Seen). number s.device.control.run ∷ z) (plays_gots ps)

-- every entry, played so, shows what is wanted
abbrev pub EachPlays : State → List (List Line) → Type 0
EachPlays s [] = Unit
EachPlays s (e ∷ l) = ((z : List Seen) → Plays s e z → z ≡ wants (checks s e)) × EachPlays s l

each_plays : (s : State) (l : List (List Line)) → Each s l → EachPlays s l
each_plays s [] h = h
each_plays s (e ∷ l) h = (λ z p. plays_gots p ∙ h.0, each_plays s l h.1)

-- there is a play of every entry
pub plays : (s : State) (l : List Line) → (z : List Seen) × Plays s l z
plays s [] = ([], none)
plays s (write o v ∷ l) = let k : _ = plays (left (call.write o v) s) l in (answered _ ∷ k.0, writes (called_step (call.write o v) s) k.1)
plays s (ignored o v ∷ l) = let k : _ = plays (left (call.write o v) s) l in (answered _ ∷ all _ ∷ k.0, ignores (called_step (call.write o v) s) k.1)
plays s (reads o v ∷ l) = let k : _ = plays (left (call.read o) s) l in (answered _ ∷ k.0, looks (called_step (call.read o) s) k.1)
plays s (answer n r b ∷ l) = let k : _ = plays (left (call.respond r b) s) l in (answered _ ∷ k.0, responds (called_step (call.respond r b) s) k.1)
plays s (gets c n v ∷ l) = let k : _ = plays (left c s) l in (answered _ ∷ k.0, steps (called_step c s) k.1)
plays s (leaves c n v ∷ l) = let k : _ = plays (left c s) l in (answered _ ∷ all _ ∷ k.0, stands (called_step c s) k.1)
plays s (run n ∷ l) = let k : _ = plays s l in (number _ ∷ k.0, counts k.1)

-- the power-on that every entry begins with is accepted, and from what it leaves every play shows what is wanted
pub sheet_on_contracts : {d : Device} {a : Answer} {s : State} → Step (call.power_on false (replicate 5 0)) (state d (replicate 1024 0) (replicate 1024 0)) a s
    → (a.refusal ≡ 0) × EachPlays s sheet
unfolding power_on lengths_allowed
sheet_on_contracts {d} p = subst (λ (k : Called). (k.answer.refusal ≡ 0) × EachPlays k.left sheet) (step_called p) (refl, each_plays (fresh d) sheet (sheet_holds d))
