-- Each call keeps the waiting book: what it leaves of the arbiter state and the sequence agrees with the model's step. Assumes nothing.
use mathlib.Core.Path.{◌≡◌, refl, ap, ◌∙◌}
use mathlib.Core.Bool.{Bool, true, false, cond, ◌&&◌}
use mathlib.Core.List.{List, [], ◌∷◌}
use Prim.Native.Nat.{ℕ, ◌+◌, ◌≤◌}
use native.Mathlib.Omega.{arith}
use lib.Dec.{eqb, leb}
use borrow.Author.Tests.{le-leb, eq-eqb, ne_eqb}
use Rattle.reg_layout.specs.Offsets.{in_four, page_of, place_of, last_offset, access, hash_start, hash_end, hash_data}
use Rattle.reg_layout.proofs.Within.{within_then}
use Rattle.arbiter_model.specs.Model as model
use Rattle.arbiter_model.specs.Model.{Model, Event, nothing, access_event, is_access, write_event, ignores_page, step, fresh}
use Rattle.arbiter_model.specs.Waits.{run}
use Rattle.arbiter_model.proofs.ModelLaws.{access_elim}
use Rattle.arbiter_model.proofs.Invariant.{Sound, Paged, write_paged, sound_step}
use Rattle.arbiter.specs.Agreement.{Agrees}
use Rattle.arbiter.specs.declared.Arbiter.{Arbiter}
use Rattle.arbiter.proofs.Agreement.{agree_fresh, agree_access, agree_start, late_start_lem, agree_end}
use Rattle.record.specs.Record.{fresh_device}
use Rattle.record.specs.declared.Device.{Device}
use Rattle.bus_resolve.specs.Resolve.{page_at}
use Rattle.bus_resolve.proofs.Cases.{Unhashed, hash_page}
use Rattle.call_outcome.specs.Result.{Result}
use Rattle.call_power.proofs.Cases as power
use Rattle.call_power.proofs.Cases.{PowerCase}
use Rattle.call_bus.proofs.Cases.{Writes, starts, ends, joins, ignores, aborts, keeps, sets, commands, Ignores, late_start, late_end, page_ignored, missed, register_ignored}
use Rattle.claims.specs.Calls.{Call, State, refusal_of, left, after, heard}
use Rattle.claims.specs.Events.{Entry, powered_on, restarted, written, read_at, answered, none, event_for, entry_of, event_of, happens, events}
use Rattle.claims.specs.Demand3.{Keeps}
use Rattle.claims.proofs.CallCases.{CallCase, same, powers, resets, looks, reads, writes, responds, call_case}

-- ---- what an accepted write is to the book

module _ (o v : ℕ) where
  pub start_event : in_four hash_start o ≡ true → write_event o v ≡ model.hash_start
  start_event i = rw i refl

  pub end_event : in_four hash_start o ≡ false → in_four hash_end o ≡ true → write_event o v ≡ model.hash_end
  end_event i j = rw (i, j) refl

  pub access_event_lem : Unhashed o → o ≤ last_offset → place_of o ≡ access → write_event o v ≡ access_event (page_of o) v
  access_event_lem u l e = rw (u.start, u.end, le-leb o 0x4fff l, eq-eqb (place_of o) 0 e) refl

  pub other_event : Unhashed o → (place_of o ≡ access → ⊥) → write_event o v ≡ nothing
  other_event u n = rw (u.start, u.end, ne_eqb (place_of o) 0 n) (by (leb o 0x4fff))
    where
      by : (t : Bool) → cond (t && false) (access_event (page_of o) v) nothing ≡ nothing
      by true = refl
      by false = refl

  -- any other write in page 4 while a sequence is open
  page_event : (m : Model) → Unhashed o → ignores_page m (page_of o) ≡ true → step m (write_event o v) ≡ m
  page_event m u h = rw (u.start, u.end) (by (is_access o))
    where
      by : (t : Bool) → step m (cond t (access_event (page_of o) v) nothing) ≡ m
      by true = access_elim (λ e. step m e ≡ m) (page_of o) v (λ a. rw h refl) refl
      by false = refl

-- the end of no sequence
late_end_lem : (m : Model) → m.sequence ≡ false → step m model.hash_end ≡ m
late_end_lem m e = ap (λ (b : Bool). cond b (model.handover (model.closed m)) m) e

-- hash data lies in page 4, and not at ACCESS
pub data_page : (o : ℕ) → in_four hash_data o ≡ true → (page_of o ≡ 4) × (place_of o ≡ access → ⊥)
data_page o i = let l : _ = within_then hash_data (hash_data + 3) o i in (omega arith, λ e. omega arith)

-- ---- each call

abbrev Fresh : Device → Type 0
Fresh d = Agrees fresh d.control.arbiter d.launch.sequence

fresh_keeps : (established : Bool) (identity : List ℕ) (n : ℕ) → Fresh (fresh_device established identity n)
unfolding fresh_device
fresh_keeps established identity n = agree_fresh

pub power_keeps : {established : Bool} {identity w r : List ℕ} {t : Result} → PowerCase established identity w r t → Keeps fresh t.device
power_keeps (power.refused l) = fresh_keeps _ _ _
power_keeps (power.powered l) = fresh_keeps _ _ _

-- the model ignores the page just when the record does
pub page_same : {m : Model} {b : Arbiter} {q : Bool} (o : ℕ) → Agrees m b q → ignores_page m (page_of o) ≡ hash_page o q
page_same o a = ap (λ (z : Bool). z && eqb (page_of o) 4) a.sequence_open

module _ (m : Model) (d : Device) (w r : List ℕ) (o v : ℕ) (a : Keeps m d) where
  abbrev Kept : Event → Device → Type 0
  Kept e d' = Agrees (step m e) d'.control.arbiter d'.launch.sequence

  ignored : Ignores d o → Kept (write_event o v) d
  ignored (late_start i j) = rw (start_event o v i) (rw (late_start_lem a j) a)
  ignored (late_end i j k) = rw (end_event o v i j) (rw (late_end_lem m (a.sequence_open ∙ k)) a)
  ignored (page_ignored u h i) = rw (page_event o v m u (page_same o a ∙ h)) a
  ignored (missed u h n i) = rw (other_event o v u n) a
  ignored (register_ignored u h n i) = rw (other_event o v u n) a

  write_keeps : Sound m → {d' : Device} {w' r' : List ℕ} → Writes d w r o v d' w' r' → Kept (write_event o v) d'
  write_keeps s (starts i j) = rw (start_event o v i) (agree_start a j)
  write_keeps s (ends i j k) = rw (end_event o v i j) (agree_end (rw k at a))
  write_keeps s (joins u h i l) = rw (other_event o v u (data_page o i).1) a
  write_keeps s (ignores i) = ignored i
  write_keeps s (aborts l u h e i) = rw (access_event_lem o v u l e) (agree_access a (page_at o) (omega (arith, l)) s (page_same o a ∙ h) v)
  write_keeps s (keeps l u h e i) = rw (access_event_lem o v u l e) (agree_access a (page_at o) (omega (arith, l)) s (page_same o a ∙ h) v)
  write_keeps s (sets u q n h k t) = rw (other_event o v u n) a
  write_keeps s (commands u q n h c k t) = rw (other_event o v u n) a

pub one_call : (m : Model) (c : Call) (s : State) → Keeps m s.device → Sound m → Keeps (step m (happens c s)) (left c s).device
one_call m c s a h = by (call_case c s)
  where
    by : {c : Call} {n : ℕ} {s' : State} → CallCase s c n s' → Keeps (step m (event_of c n)) s'.device
    by (same p e) = rw (ap event_for e) a
    by (powers k) = power_keeps k
    by (resets e) = fresh_keeps _ _ _
    by (looks e) = a
    by (reads i e) = a
    by (writes {o = o} {v = v} k) = write_keeps m s.device s.write_fifo s.read_fifo o v a h k
    by (responds e) = a

-- ---- lists of calls

paged : (k : Entry) → Paged (event_for k)
paged (powered_on e i) = tt
paged restarted = tt
paged (written o v) = write_paged o v
paged (read_at o) = tt
paged (answered a) = tt
paged none = tt

-- the event of any call keeps the model sound
pub sound_call : (m : Model) (c : Call) (n : ℕ) → Sound m → Sound (step m (event_of c n))
sound_call m c n h = sound_step m (event_of c n) (paged (entry_of c n)) h

pub all_calls : (m : Model) (s : State) (cs : List Call) → Keeps m s.device → Sound m → Keeps (run m (events (heard s cs))) (after s cs).device
unfolding run events heard after
all_calls m s [] a h = a
all_calls m s (c ∷ cs) a h = all_calls (step m (happens c s)) (left c s) cs (one_call m c s a h) (sound_call m c (refusal_of c s) h)

pub sound_run : (m : Model) (s : State) (cs : List Call) → Sound m → Sound (run m (events (heard s cs)))
unfolding run events heard
sound_run m s [] h = h
sound_run m s (c ∷ cs) h = sound_run (step m (happens c s)) (left c s) cs (sound_call m c (refusal_of c s) h)
