-- Demand 3 over every list of calls, whatever FIFOs each is lent. Assumes nothing.
use mathlib.Core.Path.{◌≡◌, refl, sym, ap, ◌∙◌, fun_ext}
use mathlib.Core.Bool.{true, true≢false}
use mathlib.Core.List.{List, [], ◌∷◌, ◌++◌}
use mathlib.Core.Logic.{◌⊎◌, inl, inr}
use Prim.Native.Nat.{ℕ, zero, suc, ◌<◌}
use lib.ListN.{length, take}
use lib.Seq.{take-length}
use Rattle.arbiter_model.specs.Model.{Model, held, Event, restart, access, request_use, highest, step, fresh}
use Rattle.arbiter_model.specs.Waits.{run, written, beginnings}
use Rattle.arbiter_model.specs.Claims as book
use Rattle.arbiter_model.specs.Claims.{Arbitrated}
use Rattle.arbiter_model.proofs.Invariant.{Sound, sound_fresh}
use Rattle.arbiter_model.proofs.Arbitration.{arbitrated_from}
use Rattle.record.specs.declared.Device.{Device}
use Rattle.call_power.proofs.Cases.{power_case}
use Rattle.claims.specs.Calls.{Call, power_on, reset, read, write, respond, pcr_value, interrupt_line, may_reset, may_extend, window, is_power_on, State, refusal_of, left, after, heard, OverLists, Lent, handed, lent_left, lent_after, lent_heard}
use Rattle.claims.specs.Events.{event_of, events, model_after}
use Rattle.claims.specs.Demand3.{active_in, waits_in, Keeps, occurs, Served, Demand3, DemandThree, FromRequest, Demand3Handed}
use Rattle.claims.proofs.Book.{power_keeps, one_call, all_calls, sound_call, sound_run}

-- ---- lists of calls that are lent FIFOs

one_lent : (m : Model) (k : Lent) (d : Device) → Keeps m d → Sound m → Keeps (step m (occurs k d)) (lent_left k d)
one_lent m k d a h = one_call m k.call (handed k d) a h

all_lent : (m : Model) (d : Device) (ks : List Lent) → Keeps m d → Sound m → Keeps (run m (events (lent_heard d ks))) (lent_after d ks)
unfolding run events lent_heard lent_after
all_lent m d [] a h = a
all_lent m d (k ∷ ks) a h = all_lent (step m (occurs k d)) (lent_left k d) ks (one_lent m k d a h) (sound_call m k.call (refusal_of k.call (handed k d)) h)

sound_lent : (m : Model) (d : Device) (ks : List Lent) → Sound m → Sound (run m (events (lent_heard d ks)))
unfolding run events lent_heard
sound_lent m d [] h = h
sound_lent m d (k ∷ ks) h = sound_lent (step m (occurs k d)) (lent_left k d) ks (sound_call m k.call (refusal_of k.call (handed k d)) h)

events_take : (n : ℕ) (d : Device) (ks : List Lent) → take n (events (lent_heard d ks)) ≡ events (lent_heard d (take n ks))
unfolding events lent_heard
events_take zero d ks = refl
events_take (suc n) d [] = refl
events_take (suc n) d (k ∷ ks) = ap (λ (l : List Event). occurs k d ∷ l) (events_take n (lent_left k d) ks)

-- ---- the claim

served_by : (often : ℕ → Model → List Event → ℕ) (d : Device) (m : Model) (x k : ℕ) → Keeps m d → Sound m → book.Served often m x k → x < 5 → waits_in d x ≡ true
    → Served often d m x k
unfolding Served book.Served
served_by often d m x k a h v l w ks p q r n =
    let f : _ = v l (a.flags x ∙ w) (events (lent_heard d ks)) p q r n in
    let e : _ = events_take f.0 d ks in
    let g : _ = events_take (suc f.0) d ks in
    (f.0, (λ j i. sym ((all_lent m d (take j ks) a h).flags x) ∙ rw (events_take j d ks) at (f.1 j i)), sym (all_lent m d (take (suc f.0) ks) a h).active ∙ rw g at f.2, rw e at f.3)

proof : (m : Model) (d : Device) → Keeps m d → Sound m → Demand3 m d
proof m d a h = record {
  agrees = a;
  arbitrated = b;
  nobody = λ e y l. sym (a.flags y) ∙ b.free_unasked (a.active ∙ e) y l;
  serves = λ c e. sym (one_lent m c d a h).active ∙ b.serves (occurs c d) e ∙ ap highest (fun_ext a.flags);
  requests = asks;
  lasts = λ c x w y z. on (lent_left c d) (one_lent m c d a h) (b.lasts x (occurs c d) (a.flags x ∙ w) y z);
  ends = λ c x l w e. sym ((one_lent m c d a h).flags x) ∙ b.ends x (occurs c d) l (a.flags x ∙ w) e;
  served = λ x k l w. served_by written d m x k a h (b.served x k) l w;
  served_by_waits = λ x k l w. served_by beginnings d m x k a h (b.served_by_waits x k) l w;
  served_from = λ c x y k l e i j.
      served_by written (lent_left c d) (step m (occurs c d)) x k (one_lent m c d a h) (next c) ((arbitrated_from (step m (occurs c d)) (next c)).served x k) l (asks c x y e i j);
}
  where
    b : Arbitrated m
    b = arbitrated_from m h

    next : (c : Lent) → Sound (step m (occurs c d))
    next c = sound_call m c.call (refusal_of c.call (handed c d)) h

    asks : (c : Lent) (x y : ℕ) → occurs c d ≡ access x request_use → active_in d ≡ held y → (y ≡ x → ⊥) → waits_in (lent_left c d) x ≡ true
    asks c x y e i j = sym ((one_lent m c d a h).flags x) ∙ ap (λ (v : Event). (step m v).waiting x) e ∙ b.requests x y (a.active ∙ i) j

    on : {n : Model} (d' : Device) {x : ℕ} → Keeps n d' → (n.waiting x ≡ true) ⊎ (n.active ≡ held x) → (waits_in d' x ≡ true) ⊎ (active_in d' ≡ held x)
    on d' {x} k (inl e) = inl (sym (k.flags x) ∙ e)
    on d' k (inr e) = inr (sym k.active ∙ e)

-- a power-on leaves what the fresh model has
first_keeps : (c : Call) (s : State) → is_power_on c ≡ true → (event_of c (refusal_of c s) ≡ restart) × Keeps fresh (left c s).device
first_keeps (power_on e i) s q = (refl, power_keeps (power_case e i s.write_fifo s.read_fifo))
first_keeps reset s q = absurd (true≢false (sym q))
first_keeps (read o) s q = absurd (true≢false (sym q))
first_keeps (write o v) s q = absurd (true≢false (sym q))
first_keeps (respond run a) s q = absurd (true≢false (sym q))
first_keeps (pcr_value i) s q = absurd (true≢false (sym q))
first_keeps interrupt_line s q = absurd (true≢false (sym q))
first_keeps (may_reset i x) s q = absurd (true≢false (sym q))
first_keeps (may_extend i x) s q = absurd (true≢false (sym q))
first_keeps window s q = absurd (true≢false (sym q))

pub demand_3 : DemandThree
unfolding model_after run events lent_heard lent_after
demand_3 d first q ks n =
    let f : _ = first_keeps first.call (handed first d) q in
    let t : Device = lent_left first d in
    let k : Demand3 (run fresh (events (lent_heard t (take n ks)))) (lent_after t (take n ks)) = proof _ _ (all_lent fresh t (take n ks) f.1 sound_fresh) (sound_lent fresh t (take n ks) sound_fresh) in
    rw f.0 k

-- one call more
lent_more : (d : Device) (l : List Lent) (c : Lent) → lent_after d (l ++ (c ∷ [])) ≡ lent_left c (lent_after d l)
unfolding lent_after
lent_more d [] c = refl
lent_more d (k ∷ l) c = lent_more (lent_left k d) l c

run_more : (m : Model) (d : Device) (l : List Lent) (c : Lent) → run m (events (lent_heard d (l ++ (c ∷ [])))) ≡ step (run m (events (lent_heard d l))) (occurs c (lent_after d l))
unfolding run events lent_heard lent_after
run_more m d [] c = refl
run_more m d (k ∷ l) c = run_more (step m (occurs k d)) (lent_left k d) l c

pub from_request : FromRequest
unfolding model_after
from_request d first q before c x y k l e i j =
    let n : Demand3 (model_after (lent_heard d (first ∷ before))) (lent_after d (first ∷ before)) = rw (take-length before) at (demand_3 d first q before (length before)) in
    rw (lent_more d (first ∷ before) c, run_more fresh d (first ∷ before) c) (n.served_from c x y k l e i j)

-- each call is lent what the last one left
pub demand_3_handed : OverLists Demand3Handed
unfolding model_after run events heard after
demand_3_handed s e i cs =
    let t : State = left (power_on e i) s in
    proof (run fresh (events (heard t cs))) (after t cs).device (all_calls fresh t cs (power_keeps (power_case e i s.write_fifo s.read_fifo)) sound_fresh) (sound_run fresh t cs sound_fresh)
