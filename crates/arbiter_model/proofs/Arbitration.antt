-- All that is claimed of the model, of every model that is sound. Assumes nothing.
use mathlib.Core.Path.{◌≡◌, refl, sym, ap, ◌∙◌}
use mathlib.Core.Bool.{Bool, true, false, cond, ◌&&◌}
use mathlib.Core.Logic.{◌⊎◌, inl, inr}
use Prim.Native.Nat.{ℕ, ◌<◌}
use lib.Dec.{eqb}
use borrow.Author.Tests.{eqb-true, eq-eqb, ne_eqb}
use Rattle.arbiter_model.specs.Model.{Model, Holder, free, held, Event, restart, hash_start, hash_end, access, nothing, AccessBit, request_use, active_locality, seize, been_seized, put, highest, handover, start, access_step, wait, withdraw, ignores_page, step}
use Rattle.arbiter_model.specs.Waits.{hands_over, is_request, is_release, is_restart, begins}
use Rattle.arbiter_model.specs.Claims.{Same, Arbitrated, Counted}
use Rattle.arbiter_model.proofs.ModelLaws.{clash, not_free, held_same, View, quiet, passed, view}
use Rattle.arbiter_model.proofs.Invariant.{Sound}
use Rattle.arbiter_model.proofs.Fairness.{lasts, served, served_by_waits_lem}

serves : (m : Model) (e : Event) → hands_over m e ≡ true → (step m e).active ≡ highest m.waiting
serves m e h = by (view m e) h
  where
    by : {n : Model} {t : Bool} → View m e n t → t ≡ true → n.active ≡ highest m.waiting
    by (quiet p q) t = absurd (clash (sym t ∙ p))
    by (passed p q r) t = q

requests : (m : Model) → Sound m → (x y : ℕ) → m.active ≡ held y → (y ≡ x → ⊥) → (step m (access x request_use)).waiting x ≡ true
requests m s x y h n = by m.sequence refl (eqb x 4) refl
  where
    asked : (access_step request_use m.active x m).waiting x ≡ true
    asked = rw (h, ne_eqb y x n, eq-eqb x x refl) refl

    by : (t : Bool) → m.sequence ≡ t → (u : Bool) → eqb x 4 ≡ u → (cond {A = Model} (t && u) m (access_step request_use m.active x m)).waiting x ≡ true
    by true p true q = absurd (n (held_same (sym h ∙ s.open_held_by4 p) ∙ sym (eqb-true x 4 q)))
    by true p false q = asked
    by false p u q = asked

second_request_lem : (m : Model) → Sound m → (x : ℕ) → x < 5 → m.waiting x ≡ true → Same m (step m (access x request_use))
second_request_lem m s x l w = by (ignores_page m x)
  where
    same_model : Same m m
    same_model = record { active = refl; waiting = λ y. refl; sequence = refl }

    still : (y : ℕ) → put m.waiting x true y ≡ m.waiting y
    still y = at (eqb y x) refl
      where
        at : (t : Bool) → eqb y x ≡ t → cond t true (m.waiting y) ≡ m.waiting y
        at true e = sym (ap m.waiting (eqb-true y x e) ∙ w)
        at false e = refl

    asked : (h : Holder) → m.active ≡ h → Same m (access_step request_use h x m)
    asked free e = absurd (clash (sym w ∙ s.free_unasked e x l))
    asked (held y) e = at (eqb y x)
      where
        at : (t : Bool) → Same m (cond t m (wait x m))
        at true = same_model
        at false = record { active = refl; waiting = still; sequence = refl }

    by : (t : Bool) → Same m (cond t m (access_step request_use m.active x m))
    by true = same_model
    by false = asked m.active refl

no_new_wait : (m : Model) (x : ℕ) → m.waiting x ≡ true → begins x m (access x request_use) ≡ false
no_new_wait m x w = rw w refl

gives_up : (m : Model) (e : Event) (y : ℕ) → m.active ≡ held y → ((step m e).active ≡ held y → ⊥)
    → (hands_over m e ≡ true) ⊎ ((x : ℕ) × (e ≡ access x seize)) ⊎ (e ≡ restart)
gives_up m restart y h n = inr (inr refl)
gives_up m hash_start y h n = absurd (n (by (eqb y 4) refl))
  where
    by : (t : Bool) → eqb y 4 ≡ t → (start m.active m).active ≡ held y
    by true e = rw (h, e) (ap held (sym (eqb-true y 4 e)))
    by false e = rw (h, e) refl
gives_up m hash_end y h n = by m.sequence refl
  where
    by : (t : Bool) → m.sequence ≡ t → (m.sequence ≡ true) ⊎ ((x : ℕ) × (hash_end ≡ access x seize)) ⊎ (hash_end ≡ restart)
    by true e = inl e
    by false e = absurd (n (rw e h))
gives_up m (access x a) y h n = by (ignores_page m x) refl a n
  where
    by : (t : Bool) → ignores_page m x ≡ t → (b : AccessBit) → ((step m (access x b)).active ≡ held y → ⊥)
        → (hands_over m (access x b) ≡ true) ⊎ ((z : ℕ) × (access x b ≡ access z seize)) ⊎ (access x b ≡ restart)
    by true e b n = absurd (n (rw e h))
    by false e seize n = inr (inl (x, refl))
    by false e been_seized n = absurd (n (rw e h))
    by false e request_use n = absurd (n (rw e (asked m.active h)))
      where
        asked : (k : Holder) → k ≡ held y → (access_step request_use k x m).active ≡ held y
        asked free i = absurd (not_free (sym i))
        asked (held z) i = at (eqb z x)
          where
            at : (t : Bool) → (cond {A = Model} t m (wait x m)).active ≡ held y
            at true = h
            at false = h
    by false e active_locality n = at (eqb y x) refl
      where
        kept : (t : Bool) → (cond {A = Model} t (withdraw x m) m).active ≡ held y
        kept true = h
        kept false = h

        released : (k : Holder) → k ≡ held y → eqb y x ≡ false → (access_step active_locality k x m).active ≡ held y
        released free i j = absurd (not_free (sym i))
        released (held z) i j = let q : z ≡ y = held_same i in rw (q, j) (kept (m.waiting x))

        at : (t : Bool) → eqb y x ≡ t → (hands_over m (access x active_locality) ≡ true) ⊎ ((z : ℕ) × (access x active_locality ≡ access z seize)) ⊎ (access x active_locality ≡ restart)
        at true i = inl (rw (e, h) i)
        at false i = absurd (n (rw e (released m.active h i)))
gives_up m nothing y h n = absurd (n h)

-- ---- what the premises count

counted_requests : (y : ℕ) (e : Event) → is_request y e ≡ true → e ≡ access y request_use
counted_requests y (access x request_use) t = ap (λ (z : ℕ). access z request_use) (sym (eqb-true y x t))
counted_requests y (access x active_locality) t = absurd (clash (sym t))
counted_requests y (access x seize) t = absurd (clash (sym t))
counted_requests y (access x been_seized) t = absurd (clash (sym t))
counted_requests y restart t = absurd (clash (sym t))
counted_requests y hash_start t = absurd (clash (sym t))
counted_requests y hash_end t = absurd (clash (sym t))
counted_requests y nothing t = absurd (clash (sym t))

counted_releases : (y : ℕ) (e : Event) → is_release y e ≡ true → e ≡ access y active_locality
counted_releases y (access x request_use) t = absurd (clash (sym t))
counted_releases y (access x active_locality) t = ap (λ (z : ℕ). access z active_locality) (sym (eqb-true y x t))
counted_releases y (access x seize) t = absurd (clash (sym t))
counted_releases y (access x been_seized) t = absurd (clash (sym t))
counted_releases y restart t = absurd (clash (sym t))
counted_releases y hash_start t = absurd (clash (sym t))
counted_releases y hash_end t = absurd (clash (sym t))
counted_releases y nothing t = absurd (clash (sym t))

counted_restarts : (e : Event) → is_restart e ≡ true → e ≡ restart
counted_restarts restart t = refl
counted_restarts (access x a) t = absurd (clash (sym t))
counted_restarts hash_start t = absurd (clash (sym t))
counted_restarts hash_end t = absurd (clash (sym t))
counted_restarts nothing t = absurd (clash (sym t))

pub counted : Counted
counted = record { requests = counted_requests; releases = counted_releases; restarts = counted_restarts }

-- a withdrawal and a restart end a wait
ends : (m : Model) → Sound m → (x : ℕ) (e : Event) → x < 5 → m.waiting x ≡ true → (is_release x e ≡ true) ⊎ (is_restart e ≡ true) → (step m e).waiting x ≡ false
ends m s x e l w (inr t) = ap (λ (v : Event). (step m v).waiting x) (counted_restarts e t)
ends m s x e l w (inl t) = ap (λ (v : Event). (step m v).waiting x) (counted_releases x e t) ∙ released
  where
    gone : put m.waiting x false x ≡ false
    gone = rw (eq-eqb x x refl) refl

    -- x waits, so it isn't active, and page 4 is not ignoresPage to it
    open_page : (t u : Bool) → m.sequence ≡ t → eqb x 4 ≡ u → (t && u) ≡ false
    open_page true true p q = absurd (clash (sym w ∙ s.active_unasked x l (s.open_held_by4 p ∙ ap held (sym (eqb-true x 4 q)))))
    open_page true false p q = refl
    open_page false u p q = refl

    by : (h : Holder) → m.active ≡ h → (access_step active_locality h x m).waiting x ≡ false
    by free i = absurd (clash (sym w ∙ s.free_unasked i x l))
    by (held y) i = at (eqb y x) refl
      where
        at : (t : Bool) → eqb y x ≡ t → (cond {A = Model} t (handover m) (cond (m.waiting x) (withdraw x m) m)).waiting x ≡ false
        at true q = absurd (clash (sym w ∙ s.active_unasked x l (i ∙ ap held (eqb-true y x q))))
        at false q = rw w gone

    released : (step m (access x active_locality)).waiting x ≡ false
    released = rw (open_page m.sequence (eqb x 4) refl refl) (by m.active refl)

pub arbitrated_from : (m : Model) → Sound m → Arbitrated m
arbitrated_from m s = record {
  free_unasked = s.free_unasked;
  active_unasked = s.active_unasked;
  open_held_by4 = s.open_held_by4;
  serves = serves m;
  gives_up = gives_up m;
  requests = requests m s;
  second_request = λ x l w. (second_request_lem m s x l w, no_new_wait m x w);
  lasts = lasts m;
  ends = ends m s;
  served = λ x k. served x k m;
  served_by_waits = λ x k. served_by_waits_lem x k m;
}
