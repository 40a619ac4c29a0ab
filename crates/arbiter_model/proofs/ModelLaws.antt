-- What one event does to who waits, and what the highest waiting locality is. Assumes nothing.
use mathlib.Core.Path.{◌≡◌, refl, sym}
use mathlib.Core.Bool.{Bool, true, false, cond}
use mathlib.Core.Logic.{◌⊎◌, inl, inr}
use Prim.Native.Nat.{ℕ, zero, suc, ◌+◌, ◌<◌}
use native.Mathlib.Omega.{arith}
use native.Mathlib.Decide.{dec_lt}
use lib.Dec.{eqb, ltb}
use Rattle.bits.specs.Bits.{bit}
use Rattle.arbiter_model.specs.Model.{Model, Holder, free, held, Event, restart, hash_start, hash_end, access, nothing, AccessBit, request_use, active_locality, seize, been_seized, access_event, nobody, put, highest_below, highest, without, handover, acquire, wait, withdraw, started, start, closed, access_step, ignores_page, step}
use Rattle.arbiter_model.specs.Waits.{relinquishes, hands_over}

pub clash : true ≡ false → ⊥
clash e = let z : ◌≡◌ {A = ℕ} 0 1 = cc in omega arith

pub not_free : {x : ℕ} → held x ≡ free → ⊥
not_free e = let z : ◌≡◌ {A = ℕ} 0 1 = cc in omega arith

pub held_same : {x y : ℕ} → held x ≡ held y → x ≡ y
held_same e = cc

-- ---- one event

-- a byte written to ACCESS is one of the four commands, or nothing
pub access_elim : (P : Event → Type 0) (x v : ℕ) → ((a : AccessBit) → P (access x a)) → P nothing → P (access_event x v)
access_elim P x v f n = by (eqb (bit 5 v + bit 4 v + bit 3 v + bit 1 v) 1) (eqb (bit 1 v) 1) (eqb (bit 5 v) 1) (eqb (bit 3 v) 1)
  where
    by : (t₁ t₂ t₃ t₄ : Bool) → P (cond t₁ (cond t₂ (access x request_use) (cond t₃ (access x active_locality) (cond t₄ (access x seize) (access x been_seized)))) nothing)
    by true true t₃ t₄ = f request_use
    by true false true t₄ = f active_locality
    by true false false true = f seize
    by true false false false = f been_seized
    by false t₂ t₃ t₄ = n

-- what an event that is no handover does to who waits: the model before, the event, the model after
pub data Quiet (m : Model) (e : Event) (n : Model) : Type 0 where
  same : n.waiting ≡ m.waiting → Quiet m e n
  wiped : e ≡ restart → n.waiting ≡ nobody → Quiet m e n
  queued : (x : ℕ) → e ≡ access x request_use → n.waiting ≡ put m.waiting x true → Quiet m e n
  dropped : (x : ℕ) → e ≡ access x active_locality → n.waiting ≡ put m.waiting x false → Quiet m e n
  took : (x : ℕ) → n.active ≡ held x → n.waiting ≡ put m.waiting x false → Quiet m e n

-- h is whether the event is a handover
pub data View (m : Model) (e : Event) (n : Model) (h : Bool) : Type 0 where
  quiet : h ≡ false → Quiet m e n → View m e n h
  passed : h ≡ true → n.active ≡ highest m.waiting → n.waiting ≡ without (highest m.waiting) m.waiting → View m e n h

unmoved : {m n : Model} {e : Event} → n.waiting ≡ m.waiting → View m e n false
unmoved p = quiet refl (same p)

view_withdraw : (m : Model) (x : ℕ) (t : Bool) → View m (access x active_locality) (cond t (withdraw x m) m) false
view_withdraw m x true = quiet refl (dropped x refl refl)
view_withdraw m x false = unmoved refl

view_start : (m : Model) (h : Holder) → View m hash_start (start h m) false
view_start m free = unmoved refl
view_start m (held y) = by (eqb y 4)
  where
    by : (t : Bool) → View m hash_start (cond t (started m) m) false
    by true = unmoved refl
    by false = unmoved refl

view_access : (m : Model) (a : AccessBit) (h : Holder) (x : ℕ) → View m (access x a) (access_step a h x m) (relinquishes a h x)
view_access m request_use free x = unmoved refl
view_access m request_use (held y) x = by (eqb y x)
  where
    by : (t : Bool) → View m (access x request_use) (cond t m (wait x m)) false
    by true = unmoved refl
    by false = quiet refl (queued x refl refl)
view_access m active_locality free x = view_withdraw m x (m.waiting x)
view_access m active_locality (held y) x = by (eqb y x)
  where
    by : (t : Bool) → View m (access x active_locality) (cond t (handover m) (cond (m.waiting x) (withdraw x m) m)) t
    by true = passed refl refl refl
    by false = view_withdraw m x (m.waiting x)
view_access m seize free x = quiet refl (took x refl refl)
view_access m seize (held y) x = by (ltb y x)
  where
    by : (t : Bool) → View m (access x seize) (cond t (acquire x m) m) false
    by true = quiet refl (took x refl refl)
    by false = unmoved refl
view_access m been_seized h x = unmoved refl

pub view : (m : Model) (e : Event) → View m e (step m e) (hands_over m e)
view m restart = quiet refl (wiped refl refl)
view m hash_start = view_start m m.active
view m hash_end = by m.sequence
  where
    by : (t : Bool) → View m hash_end (cond t (handover (closed m)) m) t
    by true = passed refl refl refl
    by false = unmoved refl
view m (access x a) = by (ignores_page m x) (view_access m a m.active x)
  where
    by : (t : Bool) {n : Model} {h : Bool} → View m (access x a) n h → View m (access x a) (cond t m n) (cond t false h)
    by true v = unmoved refl
    by false v = v
view m nothing = unmoved refl

-- ---- the highest that waits

pub record Highest (n : ℕ) (w : ℕ → Bool) (h : ℕ) : Type 0 where
  pub below : h < n
  pub waited : w h ≡ true
  pub others : (z : ℕ) → h < z → z < n → w z ≡ false

pub split : (z n : ℕ) → z < suc n → (z < n) ⊎ (z ≡ n)
split z n l = by (dec_lt z n)
  where
    by : Dec (z < n) → (z < n) ⊎ (z ≡ n)
    by (yes p) = inl p
    by (no p) = inr (omega arith)

at_end : (w : ℕ → Bool) (n z : ℕ) → w n ≡ false → (z < n) ⊎ (z ≡ n) → (z < n → w z ≡ false) → w z ≡ false
at_end w n z f (inl l) k = k l
at_end w n z f (inr e) k = rw e f

pub highest_held : (n : ℕ) (w : ℕ → Bool) (h : ℕ) → highest_below n w ≡ held h → Highest n w h
highest_held zero w h e = absurd (not_free (sym e))
highest_held (suc n) w h e = by (w n) refl e (highest_held n w h)
  where
    by : (t : Bool) → w n ≡ t → cond t (held n) (highest_below n w) ≡ held h → (highest_below n w ≡ held h → Highest n w h) → Highest (suc n) w h
    by true q p ih =
        let e : n ≡ h = held_same p in
        record { below = omega arith; waited = rw (← e) q; others = λ z l m. absurd (omega arith) }
    by false q p ih =
        let r : Highest n w h = ih p in
        record { below = omega arith; waited = r.waited; others = λ z l m. at_end w n z q (split z n m) (λ k. r.others z l k) }

pub highest_free : (n : ℕ) (w : ℕ → Bool) → highest_below n w ≡ free → (z : ℕ) → z < n → w z ≡ false
highest_free zero w e z l = absurd (omega arith)
highest_free (suc n) w e z l = by (w n) refl e (highest_free n w)
  where
    by : (t : Bool) → w n ≡ t → cond t (held n) (highest_below n w) ≡ free → (highest_below n w ≡ free → (y : ℕ) → y < n → w y ≡ false) → w z ≡ false
    by true q p ih = absurd (not_free p)
    by false q p ih = at_end w n z q (split z n l) (λ k. ih p z k)
