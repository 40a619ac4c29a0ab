-- What every event keeps of the model: nobody waits while the device is free, the active locality is one of five and doesn't wait, and 4
-- is active while a sequence is open. Assumes nothing.
use mathlib.Core.Path.{◌≡◌, refl, sym, ap, ◌∙◌}
use mathlib.Core.Bool.{Bool, true, false, cond, ◌&&◌}
use mathlib.Core.List.{List, [], ◌∷◌}
use Prim.Native.Nat.{ℕ, ◌/◌, ◌%◌, ◌≤◌, ◌<◌}
use native.Mathlib.Omega.{arith}
use lib.Dec.{eqb, leb, ltb}
use borrow.Author.Tests.{eqb-true, eq-eqb, ltb-true, leb-true}
use Rattle.arbiter_model.specs.Model.{Model, Holder, free, held, Event, restart, hash_start, hash_end, access, nothing, AccessBit, request_use, active_locality, seize, been_seized, access_event, is_hash_start, is_hash_end, write_event, put, highest, without, handover, acquire, wait, withdraw, started, start, closed, access_step, ignores_page, step, fresh}
use Rattle.arbiter_model.specs.Waits.{run}
use Rattle.arbiter_model.proofs.ModelLaws.{clash, not_free, held_same, access_elim, highest_free, highest_held}

pub record Sound (m : Model) : Type 0 where
  pub free_unasked : m.active ≡ free → (y : ℕ) → y < 5 → m.waiting y ≡ false
  pub active_unasked : (y : ℕ) → y < 5 → m.active ≡ held y → m.waiting y ≡ false
  pub active_known : (y : ℕ) → m.active ≡ held y → y < 5
  pub open_held_by4 : m.sequence ≡ true → m.active ≡ held 4

-- an event of one of the five pages
abbrev pub Paged : Event → Type 0
Paged restart = Unit {0}
Paged hash_start = Unit {0}
Paged hash_end = Unit {0}
Paged (access x a) = x < 5
Paged nothing = Unit {0}

-- ---- the event of a write is of one of the five pages

pub write_paged : (o v : ℕ) → Paged (write_event o v)
write_paged o v = by (is_hash_start o) (is_hash_end o) (leb o 0x4fff) refl (eqb (o % 0x1000) 0)
  where
    by : (t₁ t₂ t₃ : Bool) → leb o 0x4fff ≡ t₃ → (t₄ : Bool) → Paged (cond t₁ hash_start (cond t₂ hash_end (cond (t₃ && t₄) (access_event (o / 0x1000) v) nothing)))
    by true t₂ t₃ p t₄ = tt
    by false true t₃ p t₄ = tt
    by false false true p true = let l : o ≤ 0x4fff = leb-true o 0x4fff p in access_elim Paged (o / 0x1000) v (λ a. omega arith) tt
    by false false true p false = tt
    by false false false p t₄ = tt

-- ---- each event keeps it

pub sound_fresh : Sound fresh
sound_fresh = record { free_unasked = λ e y l. refl; active_unasked = λ y l e. refl; active_known = λ y e. absurd (not_free (sym e)); open_held_by4 = λ e. absurd (clash (sym e)) }

put_clear : (w : ℕ → Bool) (x y : ℕ) → w y ≡ false → put w x false y ≡ false
put_clear w x y h = by (eqb y x)
  where
    by : (t : Bool) → cond t false (w y) ≡ false
    by true = refl
    by false = h

put_here : (w : ℕ → Bool) (x y : ℕ) → x ≡ y → put w x false y ≡ false
put_here w x y e = rw (eq-eqb y x (sym e)) refl

sound_handover : (m : Model) → m.sequence ≡ false → Sound (handover m)
sound_handover m c = by (highest m.waiting) refl
  where
    by : (o : Holder) → highest m.waiting ≡ o → Sound (record { active = o; waiting = without o m.waiting; sequence = m.sequence })
    by free q = record { free_unasked = λ e y l. highest_free 5 m.waiting q y l; active_unasked = λ y l e. absurd (not_free (sym e)); active_known = λ y e. absurd (not_free (sym e)); open_held_by4 = λ e. absurd (clash (sym e ∙ c)) }
    by (held h) q = record { free_unasked = λ e y l. absurd (not_free e); active_unasked = λ y l e. put_here m.waiting h y (held_same e); active_known = λ y e. omega (arith, held_same e, (highest_held 5 m.waiting h q).below); open_held_by4 = λ e. absurd (clash (sym e ∙ c)) }

sound_withdraw : (m : Model) (x : ℕ) (t : Bool) → Sound m → Sound (cond t (withdraw x m) m)
sound_withdraw m x true s = record { free_unasked = λ e y l. put_clear m.waiting x y (s.free_unasked e y l); active_unasked = λ y l e. put_clear m.waiting x y (s.active_unasked y l e); active_known = s.active_known; open_held_by4 = s.open_held_by4 }
sound_withdraw m x false s = s

sound_start : (m : Model) (h : Holder) → m.active ≡ h → Sound m → Sound (start h m)
sound_start m free q s = record { free_unasked = λ e y l. absurd (not_free e); active_unasked = λ y l e. s.free_unasked q y l; active_known = λ y e. omega (arith, held_same e); open_held_by4 = λ e. refl }
sound_start m (held z) q s = by (eqb z 4) refl
  where
    by : (t : Bool) → eqb z 4 ≡ t → Sound (cond t (started m) m)
    by true p = record { free_unasked = λ e y l. absurd (not_free e); active_unasked = λ y l e. s.active_unasked y l (q ∙ ap held (eqb-true z 4 p) ∙ e); active_known = λ y e. omega (arith, held_same e); open_held_by4 = λ e. refl }
    by false p = s

-- x takes a device that is free or held by a lower locality
sound_acquire : (m : Model) (x : ℕ) → x < 5 → (m.sequence ≡ true → ⊥) → Sound (acquire x m)
sound_acquire m x l n = record { free_unasked = λ e y l. absurd (not_free e); active_unasked = λ y l e. put_here m.waiting x y (held_same e); active_known = λ y e. omega (arith, held_same e); open_held_by4 = λ e. absurd (n e) }

sound_access : (m : Model) (a : AccessBit) (h : Holder) (x : ℕ) → m.active ≡ h → x < 5 → ignores_page m x ≡ false → Sound m → Sound (access_step a h x m)
sound_access m request_use free x q l n s =
    record { free_unasked = λ e y l. absurd (not_free e); active_unasked = λ y l e. s.free_unasked q y l; active_known = λ y e. omega (arith, held_same e); open_held_by4 = λ e. absurd (not_free (sym (s.open_held_by4 e) ∙ q)) }
sound_access m request_use (held z) x q l n s = by (eqb z x) refl
  where
    keeps : eqb z x ≡ false → (y : ℕ) → m.active ≡ held y → m.waiting y ≡ false → put m.waiting x true y ≡ false
    keeps p y e v = let i : z ≡ y = held_same (sym q ∙ e) in rw (← i, p, i) v

    by : (t : Bool) → eqb z x ≡ t → Sound (cond t m (wait x m))
    by true p = s
    by false p = record { free_unasked = λ e y l. absurd (not_free (sym q ∙ e)); active_unasked = λ y l e. keeps p y e (s.active_unasked y l e); active_known = s.active_known; open_held_by4 = s.open_held_by4 }
sound_access m active_locality free x q l n s = sound_withdraw m x (m.waiting x) s
sound_access m active_locality (held z) x q l n s = by (eqb z x) refl
  where
    -- 4 can't give the device up while a sequence is open
    closed_then : z ≡ x → (t : Bool) → m.sequence ≡ t → m.sequence ≡ false
    closed_then e false p = p
    closed_then e true p =
        let i : x ≡ 4 = sym e ∙ held_same (sym q ∙ s.open_held_by4 p) in
        absurd (clash (sym (rw (p, eq-eqb x 4 i) refl) ∙ n))

    by : (t : Bool) → eqb z x ≡ t → Sound (cond t (handover m) (cond (m.waiting x) (withdraw x m) m))
    by true e = sound_handover m (closed_then (eqb-true z x e) m.sequence refl)
    by false e = sound_withdraw m x (m.waiting x) s
sound_access m seize free x q l n s = sound_acquire m x l (λ e. not_free (sym (s.open_held_by4 e) ∙ q))
sound_access m seize (held z) x q l n s = by (ltb z x) refl
  where
    by : (t : Bool) → ltb z x ≡ t → Sound (cond t (acquire x m) m)
    by true p = sound_acquire m x l (λ e. let i : z ≡ 4 = held_same (sym q ∙ s.open_held_by4 e) in omega (arith, ltb-true z x p))
    by false p = s
sound_access m been_seized h x q l n s = s

pub sound_step : (m : Model) (e : Event) → Paged e → Sound m → Sound (step m e)
sound_step m restart p s = sound_fresh
sound_step m hash_start p s = sound_start m m.active refl s
sound_step m hash_end p s = by m.sequence
  where
    by : (t : Bool) → Sound (cond t (handover (closed m)) m)
    by true = sound_handover (closed m) refl
    by false = s
sound_step m (access x a) p s = by (ignores_page m x) refl
  where
    by : (t : Bool) → ignores_page m x ≡ t → Sound (cond t m (access_step a m.active x m))
    by true q = s
    by false q = sound_access m a m.active x refl p q s
sound_step m nothing p s = s

-- every event of a list is
abbrev pub AllPaged : List Event → Type 0
AllPaged [] = Unit {0}
AllPaged (e ∷ es) = Paged e × AllPaged es

pub sound_run : (es : List Event) (m : Model) → AllPaged es → Sound m → Sound (run m es)
unfolding run
sound_run [] m p s = s
sound_run (e ∷ es) m p s = sound_run es (step m e) p.1 (sound_step m e p.0 s)
