-- The events that change a PCR are the ones that document 01 names, and no others. Assumes nothing.
use mathlib.Core.Path.{◌≡◌, refl, sym, ap}
use mathlib.Core.Bool.{true, true≢false}
use mathlib.Core.Logic.{◌⊎◌, inl, inr}
use borrow.Author.Tests.{eqb-true}
use Rattle.arbiter_model.specs.Model.{Model, Holder, free, held, Event, restart, hash_start, hash_end, access, nothing}
use Rattle.claims.specs.Launch.{start_counts, changes_pcrs}

start_holder : (h : Holder) → start_counts h ≡ true → (h ≡ free) ⊎ (h ≡ held 4)
start_holder free t = inl refl
start_holder (held y) t = inr (ap held (eqb-true y 4 t))

-- power-on or reset; a hash start with the device free or 4 active; a hash end with a sequence open
pub pcr_events : (m : Model) (e : Event) → changes_pcrs m e ≡ true
    → (e ≡ restart) ⊎ ((e ≡ hash_start) × ((m.active ≡ free) ⊎ (m.active ≡ held 4))) ⊎ ((e ≡ hash_end) × (m.sequence ≡ true))
pcr_events m restart t = inl refl
pcr_events m hash_start t = inr (inl (refl, start_holder m.active t))
pcr_events m hash_end t = inr (inr (refl, t))
pcr_events m (access x a) t = absurd (true≢false (sym t))
pcr_events m nothing t = absurd (true≢false (sym t))
