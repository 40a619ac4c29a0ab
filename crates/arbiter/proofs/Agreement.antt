-- The rules keep the model: what each rule leaves of the arbiter state agrees with the model's step. Assumes nothing.
use mathlib.Core.Path.{◌≡◌, refl, sym, ap, ◌∙◌, subst, fun_ext}
use mathlib.Core.Bool.{Bool, true, false, cond, true≢false}
use mathlib.Core.List.{List}
use Prim.Native.Nat.{ℕ, zero, suc, ◌+◌, ◌<◌}
use lib.ListN.{length, get_or, set, replicate, length-set}
use lib.Seq.{get_or-set_same, get_or-set_other}
use lib.Dec.{eqb, ltb}
use borrow.Author.Tests.{eqb-true, eqb-false}
use Rattle.arbiter.specs.declared.Locality.{Locality}
use Rattle.std.specs.Prelude.{Option, Some, None}
use Rattle.arbiter.specs.declared.Arbiter.{Arbiter}
use Rattle.arbiter.specs.declared.access.AccessCommand.{AccessCommand}
use Rattle.arbiter.specs.declared.access.AccessCommand.TheVariants.{RequestUse, ActiveLocality, Seize, BeenSeized}
use Rattle.bits.specs.Bits.{bit}
use Rattle.arbiter.specs.State.{locality, fresh_arbiter, with_active, with_waiting, with_seized, waits, holds}
use Rattle.arbiter.specs.Rules as rule
use Rattle.arbiter.specs.Rules.{keeps_command, aborts_command, next_owner, hand_to, access_command, request_from, seize_from, clear_seized, commanded, write_access, start_counts}
use Rattle.arbiter_model.specs.Model.{Model, Holder, free, held, Event, hash_start, hash_end, access, nothing, request_use, active_locality, seize, been_seized, access_event, put, highest_below, highest, handover, acquire, wait, withdraw, started, start, access_step, ignores_page, step, fresh}
use Rattle.arbiter.specs.Agreement.{holder, Agrees}
use Rattle.arbiter_model.proofs.ModelLaws.{highest_held}
use Rattle.arbiter_model.proofs.Invariant.{Sound}

-- ---- flags

pub get_or_put : (l : List Bool) (x y : ℕ) (v : Bool) → x < length l → put (λ z. get_or l z false) x v y ≡ get_or (set l x v) y false
get_or_put l x y v h = by (eqb y x) refl
  where
    by : (t : Bool) → eqb y x ≡ t → cond t v (get_or l y false) ≡ get_or (set l x v) y false
    by true e = rw (eqb-true y x e) (sym (get_or-set_same l x v false h))
    by false e = sym (get_or-set_other l x y v false (eqb-false y x e))

pub highest_agrees : (n : ℕ) (l : List Bool) → highest_below n (λ y. get_or l y false) ≡ holder (rule.highest_below n l)
highest_agrees zero l = refl
highest_agrees (suc n) l = by (get_or l n false) (highest_agrees n l)
  where
    by : (t : Bool) → highest_below n (λ y. get_or l y false) ≡ holder (rule.highest_below n l)
        → cond t (held n) (highest_below n (λ y. get_or l y false)) ≡ holder (cond t (Some (locality n)) (rule.highest_below n l))
    by true ih = refl
    by false ih = ih

-- the event of a command of ACCESS in page x
abbrev pub command_event : ℕ → Option AccessCommand → Event
command_event x None = nothing
command_event x (Some RequestUse) = access x request_use
command_event x (Some ActiveLocality) = access x active_locality
command_event x (Some Seize) = access x seize
command_event x (Some BeenSeized) = access x been_seized

-- the model and the rules read a byte written to ACCESS alike
pub event_command : (x v : ℕ) → access_event x v ≡ command_event x (access_command v)
unfolding access_command
event_command x v = by (eqb (bit 5 v + bit 4 v + bit 3 v + bit 1 v) 1) (eqb (bit 1 v) 1) (eqb (bit 5 v) 1) (eqb (bit 3 v) 1)
  where
    by : (t₁ t₂ t₃ t₄ : Bool)
        → cond t₁ (cond t₂ (access x request_use) (cond t₃ (access x active_locality) (cond t₄ (access x seize) (access x been_seized)))) nothing
        ≡ command_event x (cond t₁ (Some (cond t₂ RequestUse (cond t₃ ActiveLocality (cond t₄ Seize BeenSeized)))) None)
    by true true t₃ t₄ = refl
    by true false true t₄ = refl
    by true false false true = refl
    by true false false false = refl
    by false t₂ t₃ t₄ = refl

-- power-on and reset
pub agree_fresh : Agrees fresh fresh_arbiter false
agree_fresh = record { active = refl; flags = none 5; sequence_open = refl; flag_count = refl }
  where
    none : (n y : ℕ) → false ≡ get_or (replicate n false) y false
    none zero y = refl
    none (suc n) zero = refl
    none (suc n) (suc y) = none n y

module _ {m : Model} {s : Arbiter} {o : Bool} (a : Agrees m s o) where
  -- x waits, or stops waiting, in both
  flag : (x : ℕ) (v : Bool) → x < 5 → (y : ℕ) → put m.waiting x v y ≡ get_or (set s.waiting x v) y false
  flag x v l y = ap (λ (q : Bool). cond (eqb y x) v q) (a.flags y) ∙ get_or_put s.waiting x y v (rw a.flag_count l)

  put_flag : (x : ℕ) (v : Bool) → x < 5 → Agrees (record { active = m.active; waiting = put m.waiting x v; sequence = m.sequence }) (with_waiting s x v) o
  put_flag x v l = record { active = a.active; flags = flag x v l; sequence_open = a.sequence_open; flag_count = length-set s.waiting x v ∙ a.flag_count }

  -- another owner in both
  own : (w : Option Locality) → Agrees (record { active = holder w; waiting = m.waiting; sequence = m.sequence }) (with_active s w) o
  own w = record { active = refl; flags = a.flags; sequence_open = a.sequence_open; flag_count = a.flag_count }

  -- the model knows no seized mark
  pub unmarked : (x : ℕ) (v : Bool) → Agrees m (with_seized s x v) o
  unmarked x v = record { active = a.active; flags = a.flags; sequence_open = a.sequence_open; flag_count = a.flag_count }

  is_highest : highest m.waiting ≡ holder (next_owner s.waiting)
  is_highest = ap highest (fun_ext a.flags) ∙ highest_agrees 5 s.waiting

  -- ---- handover

  pub agree_handover : Agrees (handover m) (rule.handover s).arbiter o
  unfolding rule.handover
  agree_handover = by (next_owner s.waiting) is_highest
    where
      by : (w : Option Locality) → highest m.waiting ≡ holder w → Agrees (handover m) (hand_to w s).arbiter o
      by None e = rw e (own None)
      by (Some y) e =
          let f : Agrees (record { active = m.active; waiting = put m.waiting y.0 false; sequence = m.sequence }) (with_waiting s y.0 false) o =
          put_flag y.0 false (highest_held 5 m.waiting y.0 e).below in
          rw e (record { active = refl; flags = f.flags; sequence_open = a.sequence_open; flag_count = f.flag_count })

  -- ---- the four bits of ACCESS

  module _ (x : Locality) (l : x.0 < 5) where
    agree_withdraw : Agrees (cond (m.waiting x.0) (withdraw x.0 m) m) (cond (waits s x.0) (keeps_command (with_waiting s x.0 false)) (keeps_command s)).arbiter o
    agree_withdraw = rw (a.flags x.0) (by (waits s x.0))
      where
        by : (t : Bool) → Agrees (cond t (withdraw x.0 m) m) (cond t (keeps_command (with_waiting s x.0 false)) (keeps_command s)).arbiter o
        by true = put_flag x.0 false l
        by false = a

    agree_request : Agrees (access_step request_use m.active x.0 m) (rule.request s x).arbiter o
    unfolding rule.request
    agree_request = subst (λ (h : Holder). Agrees (access_step request_use h x.0 m) (rule.request s x).arbiter o) (sym a.active) (by s.active)
      where
        by : (w : Option Locality) → Agrees (access_step request_use (holder w) x.0 m) (request_from w s x).arbiter o
        by None = own (Some x)
        by (Some y) = at (eqb y.0 x.0)
          where
            at : (t : Bool) → Agrees (cond t m (wait x.0 m)) (cond t (keeps_command s) (keeps_command (with_waiting s x.0 true))).arbiter o
            at true = a
            at false = put_flag x.0 true l

    agree_release : Agrees (access_step active_locality m.active x.0 m) (rule.release s x).arbiter o
    unfolding rule.release
    agree_release = subst (λ (h : Holder). Agrees (access_step active_locality h x.0 m) (rule.release s x).arbiter o) (sym a.active) (by s.active)
      where
        by : (w : Option Locality) → Agrees (access_step active_locality (holder w) x.0 m) (cond (holds w x) (rule.handover s) (cond (waits s x.0) (keeps_command (with_waiting s x.0 false)) (keeps_command s))).arbiter o
        by None = agree_withdraw
        by (Some y) = at (eqb y.0 x.0)
          where
            at : (t : Bool) → Agrees (cond t (handover m) (cond (m.waiting x.0) (withdraw x.0 m) m)) (cond t (rule.handover s) (cond (waits s x.0) (keeps_command (with_waiting s x.0 false)) (keeps_command s))).arbiter o
            at true = agree_handover
            at false = agree_withdraw

    -- where the device is free nobody waits, so a seizure is as a request
    agree_seize : Sound m → Agrees (access_step seize m.active x.0 m) (rule.seize s x).arbiter o
    unfolding rule.seize
    agree_seize d = subst (λ (h : Holder). Agrees (access_step seize h x.0 m) (rule.seize s x).arbiter o) (sym a.active) (by s.active refl)
      where
        unqueued : m.active ≡ free → (y : ℕ) → put m.waiting x.0 false y ≡ waits s y
        unqueued e y = at (eqb y x.0) refl
          where
            at : (t : Bool) → eqb y x.0 ≡ t → cond t false (m.waiting y) ≡ waits s y
            at true q = sym (d.free_unasked e y (rw (eqb-true y x.0 q) l)) ∙ a.flags y
            at false q = a.flags y

        by : (w : Option Locality) → s.active ≡ w → Agrees (access_step seize (holder w) x.0 m) (seize_from w s x).arbiter o
        by None e = record { active = refl; flags = unqueued (a.active ∙ ap holder e); sequence_open = a.sequence_open; flag_count = a.flag_count }
        by (Some y) e = at (ltb y.0 x.0)
          where
            at : (t : Bool) → Agrees (cond t (acquire x.0 m) m) (cond t (aborts_command (with_seized (rule.serve s x) y.0 true)) (keeps_command s)).arbiter o
            at true = record { active = refl; flags = flag x.0 false l; sequence_open = a.sequence_open; flag_count = length-set s.waiting x.0 false ∙ a.flag_count }
            at false = a

    -- a command of ACCESS in page x, which is not ignored
    agree_command : Sound m → ignores_page m x.0 ≡ false → (k : Option AccessCommand) → Agrees (step m (command_event x.0 k)) (commanded k s x).arbiter o
    unfolding clear_seized
    agree_command d n None = a
    agree_command d n (Some RequestUse) = rw n agree_request
    agree_command d n (Some ActiveLocality) = rw n agree_release
    agree_command d n (Some Seize) = rw n (agree_seize d)
    agree_command d n (Some BeenSeized) = rw n (unmarked x.0 false)

    pub agree_access : Sound m → ignores_page m x.0 ≡ false → (v : ℕ) → Agrees (step m (access_event x.0 v)) (write_access s x v).arbiter o
    unfolding write_access
    agree_access d n v = rw (event_command x.0 v) (agree_command d n (access_command v))

  -- ---- a hash sequence

  -- a start that counts makes 4 active and opens the sequence
  pub agree_start : start_counts s.active ≡ true → Agrees (step m hash_start) (rule.hash_start s) true
  agree_start c = subst (λ (h : Holder). Agrees (start h m) (rule.hash_start s) true) (sym a.active) (by s.active c)
    where
      now_open : Agrees (started m) (rule.hash_start s) true
      now_open = record { active = refl; flags = a.flags; sequence_open = refl; flag_count = a.flag_count }

      by : (w : Option Locality) → start_counts w ≡ true → Agrees (start (holder w) m) (rule.hash_start s) true
      by None e = now_open
      by (Some y) e = rw e now_open

  -- one that does not count is nothing to the model
  pub late_start_lem : start_counts s.active ≡ false → step m hash_start ≡ m
  late_start_lem c = subst (λ (h : Holder). start h m ≡ m) (sym a.active) (by s.active c)
    where
      by : (w : Option Locality) → start_counts w ≡ false → start (holder w) m ≡ m
      by None e = absurd (true≢false e)
      by (Some y) e = rw e refl

-- the end of an open sequence closes it and hands the device over
pub agree_end : {m : Model} {s : Arbiter} → Agrees m s true → Agrees (step m hash_end) (rule.handover s).arbiter false
agree_end a = rw a.sequence_open (agree_handover (record { active = a.active; flags = a.flags; sequence_open = refl; flag_count = a.flag_count }))
