-- A refusal changes nothing, and gives what document 01 names. Assumes nothing.
use mathlib.Core.Path.{◌≡◌, refl, ap}
use mathlib.Core.Bool.{Bool, false, true≢false}
use mathlib.Core.List.{List, []}
use lib.ListN.{replicate}
use Prim.Native.Nat.{ℕ}
use Rattle.std.specs.Prelude.{Option}
use Rattle.refusal.specs.Refusal.{accepted, number_of}
use Rattle.refusal.specs.declared.Refusal.{Refusal}
use Rattle.record.specs.Record.{fresh_device}
use Rattle.record.specs.declared.Device.{Device}
use Rattle.call_outcome.specs.Result.{Result}
use Rattle.call_outcome.specs.declared.ReadOutcome.{ReadOutcome}
use Rattle.call_query.proofs.Cases as query
use Rattle.call_query.proofs.Cases.{PcrCase, pcr_case, WindowCase, window_case, PermissionCase, permission_case}
use Rattle.call_query.specs.declared.PcrOutcome.{PcrOutcome}
use Rattle.call_query.specs.Query.{Span}
use Rattle.pcr.specs.Permission as table
use Rattle.pcr.specs.declared.Permission.{Permission}
use Rattle.call_bus.proofs.Cases as bus
use Rattle.call_bus.proofs.Cases.{ReadCase, read_case}
use Rattle.call_power.proofs.Cases as power
use Rattle.call_power.proofs.Cases.{PowerCase, power_case}
use Rattle.claims.specs.Calls.{Call, power_on, reset, read, write, respond, pcr_value, interrupt_line, may_reset, may_extend, window, is_power_on, State, state, byte, bytes, flag, shown_by, called}
use Rattle.claims.specs.Unchanged.{Refuses, refused_value, RefusalsChangeNothing}
use Rattle.claims.proofs.CallCases.{CallCase, same, powers, resets, looks, reads, writes, responds, left_by, call_case}

stays : {c : Call} {n : ℕ} {s s' : State} → CallCase s c n s' → is_power_on c ≡ false → (n ≡ accepted → ⊥) → s' ≡ s
stays (same p e) q f = refl
stays (powers k) q f = absurd (true≢false q)
stays (resets k) q f = absurd (f refl)
stays (looks k) q f = refl
stays (reads i k) q f = absurd (f refl)
stays (writes k) q f = absurd (f refl)
stays (responds k) q f = absurd (f refl)

fresh : {established : Bool} {identity w r : List ℕ} {t : Result} → PowerCase established identity w r t → (number_of t.refusal ≡ accepted → ⊥)
    → left_by t ≡ state (fresh_device established identity 0) w r
fresh (power.refused l) f = refl
fresh (power.powered l) f = absurd (f refl)

-- ---- what a refused call gives

read_gives : {d : Device} {w r : List ℕ} {o : ℕ} {t : ReadOutcome} → ReadCase d w r o t → (number_of t.refusal ≡ accepted → ⊥) → byte t.byte ≡ byte 0xff
read_gives (bus.refused e f) g = refl
read_gives (bus.stays e i b) g = absurd (g refl)
read_gives (bus.moves e i h) g = absurd (g refl)
read_gives (bus.misses e i h) g = absurd (g refl)

pcr_gives : {d : Device} {i : ℕ} {t : PcrOutcome} → PcrCase d i t → (number_of t.refusal ≡ accepted → ⊥) → bytes t.value ≡ bytes (replicate 20 0)
pcr_gives (query.refused f) g = refl
pcr_gives (query.given e) g = absurd (g refl)

permission_gives : {rule : ℕ → ℕ → Bool} {i x : ℕ} {t : Permission} → PermissionCase rule i x t → (number_of t.refusal ≡ accepted → ⊥) → flag t.allowed ≡ flag false
permission_gives query.refused g = refl
permission_gives query.given g = absurd (g refl)

window_gives : {d : Device} {w r : List ℕ} {n : Option Refusal} {p : Span} → WindowCase d w r n p → (number_of n ≡ accepted → ⊥) → bytes (shown_by p w r) ≡ bytes []
window_gives (query.refused f) g = refl
window_gives (query.shows e) g = absurd (g (ap number_of e))

refused_gives : (c : Call) (s : State) → Refuses c s → (called c s).answer.value ≡ refused_value c
refused_gives (power_on e i) s f = refl
refused_gives reset s f = refl
refused_gives (read o) s f = read_gives (read_case s.device s.write_fifo s.read_fifo o) f
refused_gives (write o v) s f = refl
refused_gives (respond r a) s f = refl
refused_gives (pcr_value i) s f = pcr_gives (pcr_case s.device i) f
refused_gives interrupt_line s f = absurd (f refl)
refused_gives (may_reset i x) s f = permission_gives (permission_case table.may_reset i x) f
refused_gives (may_extend i x) s f = permission_gives (permission_case table.may_extend i x) f
refused_gives window s f = window_gives (window_case s.device s.write_fifo s.read_fifo) f

pub refusals_change_nothing : RefusalsChangeNothing
refusals_change_nothing = record {
  unchanged = λ c s p f. stays (call_case c s) p f;
  value = refused_gives;
  power_on = λ e i s f. fresh (power_case e i s.write_fifo s.read_fifo) f;
}
