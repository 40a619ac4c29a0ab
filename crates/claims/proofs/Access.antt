-- What a write to ACCESS is to the books: whether it aborts the command, and whether localityChange is set. Assumes nothing.
use mathlib.Core.Path.{◌≡◌, refl, sym, ap, ◌∙◌, fun_ext}
use mathlib.Core.Bool.{Bool, true, false, cond, ◌&&◌, ◌||◌}
use Prim.Native.Nat.{ℕ}
use lib.Dec.{eqb, ltb}
use Rattle.arbiter.specs.State.{locality, with_waiting, with_seized, waits, holds}
use Rattle.arbiter.specs.Rules.{keeps_command, aborts_command, next_owner, serve, hand_to, handover, access_command, queued, request_from, request, release, seize_from, seize, clear_seized, commanded, write_access}
use Rattle.arbiter.specs.Agreement.{Agrees, holder}
use Rattle.arbiter.specs.declared.Arbiter.{Arbiter}
use Rattle.arbiter.specs.declared.Change.{Change}
use Rattle.arbiter.specs.declared.Locality.{Locality}
use Rattle.std.specs.Prelude.{Option, Some, None}
use Rattle.arbiter.specs.declared.access.AccessCommand.{AccessCommand}
use Rattle.arbiter.specs.declared.access.AccessCommand.TheVariants.{RequestUse, ActiveLocality, Seize, BeenSeized}
use Rattle.arbiter.proofs.Agreement.{command_event, event_command, highest_agrees}
use Rattle.arbiter.proofs.Cases.{handover_aborts}
use Rattle.arbiter_model.specs.Model as model
use Rattle.arbiter_model.specs.Model.{Model, Event, access_event, highest, ignores_page}
use Rattle.arbiter_model.specs.Waits.{relinquishes, hands_over}
use Rattle.claims.specs.Mailbox.{seizes, aborts}
use Rattle.claims.specs.Signals.{is_somebody}

-- a handover serves somebody
pub someone : {m : Model} {b : Arbiter} {q : Bool} → Agrees m b q → is_somebody (highest m.waiting) ≡ (handover b).locality_change
unfolding handover
someone {m} {b} a = ap is_somebody (ap highest (fun_ext a.flags) ∙ highest_agrees 5 b.waiting) ∙ by (next_owner b.waiting)
  where
    by : (o : Option Locality) → is_somebody (holder o) ≡ (hand_to o b).locality_change
    by None = refl
    by (Some y) = refl

module _ {m : Model} {b : Arbiter} {q : Bool} (x : ℕ) (a : Agrees m b q) (h : ignores_page m x ≡ false) where
  abbrev somebody : Bool
  somebody = is_somebody (highest m.waiting)

  -- in the books just as in the record
  abbrev Same : Bool → Bool → Change → Type 0
  Same u t z = (u ≡ z.abort) × (t ≡ z.locality_change)

  asks : (w : Option Locality) → Same false false (request_from w b (locality x))
  asks None = (refl, refl)
  asks (Some y) = on (eqb y.0 x)
    where
      on : (t : Bool) → Same false false (cond t (keeps_command b) (keeps_command (queued b (locality x))))
      on true = (refl, refl)
      on false = (refl, refl)

  abbrev released : Bool → Bool → Change
  released t u = cond t (handover b) (cond u (keeps_command (with_waiting b x false)) (keeps_command b))

  releases : (w : Option Locality) (u : Bool) → Same (relinquishes model.active_locality (holder w) x || false) (relinquishes model.active_locality (holder w) x && somebody) (released (holds w (locality x)) u)
  releases None true = (refl, refl)
  releases None false = (refl, refl)
  releases (Some y) u = on (eqb y.0 x) u
    where
      on : (t u : Bool) → Same (t || false) (t && somebody) (released t u)
      on true u = (sym (handover_aborts b), someone a)
      on false true = (refl, refl)
      on false false = (refl, refl)

  takes : (w : Option Locality) → Same (seizes model.seize (holder w) x) false (seize_from w b (locality x))
  takes None = (refl, refl)
  takes (Some y) = on (ltb y.0 x)
    where
      on : (t : Bool) → Same t false (cond t (aborts_command (with_seized (serve b (locality x)) y.0 true)) (keeps_command b))
      on true = (refl, refl)
      on false = (refl, refl)

  -- what the books make of an event
  abbrev Told : Event → Change → Type 0
  Told e z = Same (aborts m e) (hands_over m e && somebody) z

  by_command : (k : Option AccessCommand) → Told (command_event x k) (commanded k b (locality x))
  unfolding request release seize clear_seized
  by_command None = (refl, refl)
  by_command (Some RequestUse) = rw h (asks b.active)
  by_command (Some ActiveLocality) = rw (h, a.active) (releases b.active (waits b x))
  by_command (Some Seize) = rw (h, a.active) (takes b.active)
  by_command (Some BeenSeized) = rw h (refl, refl)

  pub change_same : (v : ℕ) → Told (access_event x v) (write_access b (locality x) v)
  unfolding write_access
  change_same v = rw (event_command x v) (by_command (access_command v))
