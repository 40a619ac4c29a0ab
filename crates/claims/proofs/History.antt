-- The history of calls is all: the books make up the whole state. Assumes nothing.
use mathlib.Core.Path.{◌≡◌, refl, sym, ap, ◌∙◌}
use mathlib.Core.Bool.{Bool, true, false, cond}
use mathlib.Core.List.{List, [], ◌∷◌, ◌++◌}
use Prim.Native.Nat.{ℕ, zero, suc, ◌<◌}
use native.Mathlib.Omega.{arith}
use lib.ListN.{length, get_or, replicate}
use lib.Seq.{ext_get_or}
use lib.Dec.{eqb}
use Rattle.reg_layout.specs.Offsets.{in_four, hash_start, hash_end}
use Rattle.arbiter.specs.Agreement.{holder}
use Rattle.arbiter.specs.declared.Locality.{Locality}
use Rattle.std.specs.Prelude.{Option, Some, None}
use Rattle.arbiter_model.specs.Model.{Model, step, fresh}
use Rattle.arbiter_model.specs.Waits.{run}
use Rattle.sha1_block.specs.Sha1.{sha1}
use Rattle.sha1_message.specs.Stream.{nothing as no_stream, begin, join_all, finish}
use Rattle.sha1_message.proofs.StreamLaws.{digest}
use Rattle.pcr.specs.Bank.{pcrs, pcr, no_pcr, value_at}
use Rattle.pcr.specs.declared.Pcr.{Pcr}
use Rattle.pcr.proofs.BankAt.{fresh_at, launched_at, replaced_at}
use Rattle.record.specs.Record.{fresh_device}
use Rattle.record.specs.declared.Device.{Device}
use Rattle.call_outcome.specs.Result.{Result}
use Rattle.call_power.proofs.Cases as power
use Rattle.call_power.proofs.Cases.{PowerCase, power_case}
use Rattle.call_bus.proofs.Cases.{owner, Writes, starts, ends, joins, ignores, aborts, keeps, sets, commands}
use Rattle.claims.specs.Calls.{Call, power_on, State, state, refusal_of, left, after, heard}
use Rattle.claims.specs.Events.{Entry, entry_of, happens, events, model_after}
use Rattle.claims.specs.Demand3.{Keeps}
use Rattle.claims.specs.Launch.{launch_pcr, is_launch_pcr, start_counts, stream_step, stream_from, Stands}
use Rattle.claims.specs.Mailbox.{idle, Mail, mail, mail_step, mail_from, command_of, answer_of, padded}
use Rattle.claims.specs.Signals.{Signals, quiet, signals_step, signals_from}
use Rattle.claims.specs.History.{fresh_values, values_written, values_step, values_from, identity_step, identity_from, owner_of, listed, device_of, HistoryIsAll}
use Rattle.claims.proofs.CallCases.{CallCase, same, powers, resets, looks, reads, writes, responds, call_case}
use Rattle.claims.proofs.Launch.{counts_same, power_streams, call_streams, ZeroedIn, power_zeroed, call_zeroed, LaunchStep, started, ended, kept, launch_step}
use Rattle.claims.proofs.Mailbox.{Kept, one_kept, first_kept}
use Rattle.claims.proofs.Signals.{Signed, one_signed, first_signed}

-- ---- lists by number

length_listed : {A : Type 0} (n : ℕ) (f : ℕ → A) → length (listed n f) ≡ n
length_listed zero f = refl
length_listed (suc n) f = ap suc (length_listed n (λ i. f (suc i)))

get_or_listed : {A : Type 0} (n : ℕ) (f : ℕ → A) (i : ℕ) (d : A) → i < n → get_or (listed n f) i d ≡ f i
get_or_listed zero f i d l = absurd (omega arith)
get_or_listed (suc n) f zero d l = refl
get_or_listed (suc n) f (suc i) d l = get_or_listed n (λ i. f (suc i)) i d (omega arith)

-- a list that has n elements, and at each place what f says
listed_is : {A : Type 0} (n : ℕ) (f : ℕ → A) (d : A) (l : List A) → length l ≡ n → ((i : ℕ) → i < n → get_or l i d ≡ f i) → l ≡ listed n f
listed_is n f d l e g =
    ext_get_or d l (listed n f) (e ∙ sym (length_listed n f)) (λ i h. let k : i < n = omega (arith, e) in g i k ∙ sym (get_or_listed n f i d k))

-- ---- the PCRs

-- 24 values are w
abbrev Valued : Device → (ℕ → List ℕ) → Type 0
Valued d w = (p : ℕ) → p < pcrs → value_at d.pcrs p ≡ w p

fresh_valued : (established : Bool) (identity : List ℕ) (n : ℕ) → Valued (fresh_device established identity n) fresh_values
unfolding fresh_device
fresh_valued established identity n p l = fresh_at p l

power_valued : {established : Bool} {identity w r : List ℕ} {t : Result} → PowerCase established identity w r t → Valued t.device fresh_values
power_valued (power.refused e) = fresh_valued _ _ _
power_valued (power.powered e) = fresh_valued _ _ _

module _ (m : Model) (bs : List ℕ) (w : ℕ → List ℕ) (s : State) (a : Keeps m s.device) (t : Stands s.device.launch bs) (b : ZeroedIn s.device) (v : Valued s.device w) where
  step_valued : (o : ℕ) {bank : List Pcr} {f : Bool} → LaunchStep s.device o bank f → (p : ℕ) → p < pcrs → value_at bank p ≡ values_written m bs w o p
  step_valued o (started i j) p l = rw (i, counts_same a ∙ j) (launched_at s.device.pcrs p b.whole ∙ ap (λ (y : List ℕ). cond (is_launch_pcr p) (replicate 20 0x00) y) (v p l))
  step_valued o (ended i j k) p l =
      rw (i, j, a.sequence_open ∙ k)
      (replaced_at s.device.pcrs launch_pcr p _ (omega (arith, b.whole))
      ∙ ap (λ (y : List ℕ). cond (eqb p launch_pcr) (sha1 (value_at s.device.pcrs launch_pcr ++ y)) (value_at s.device.pcrs p)) (ap finish (t.opened k) ∙ digest bs)
      ∙ ap (λ (y : List ℕ). cond (eqb p launch_pcr) (sha1 (y ++ sha1 bs)) (value_at s.device.pcrs p)) (v launch_pcr (omega arith))
      ∙ ap (λ (y : List ℕ). cond (eqb p launch_pcr) (sha1 (w launch_pcr ++ sha1 bs)) y) (v p l))
  step_valued o (kept f g) p l = v p l ∙ by (in_four hash_start o) refl (in_four hash_end o) refl
    where
      by : (x : Bool) → in_four hash_start o ≡ x → (y : Bool) → in_four hash_end o ≡ y
          → w p ≡ cond x (cond (start_counts m.active) (cond (is_launch_pcr p) (replicate 20 0x00) (w p)) (w p)) (cond y (cond m.sequence (cond (eqb p launch_pcr) (sha1 (w launch_pcr ++ sha1 bs)) (w p)) (w p)) (w p))
      by true i y j = rw (counts_same a ∙ f i) refl
      by false i true j = rw (a.sequence_open ∙ g j) refl
      by false i false j = refl

  one_valued : {k : Call} {n : ℕ} {s' : State} → CallCase s k n s' → Valued s'.device (values_step m bs w (entry_of k n))
  one_valued (same p e) = rw e v
  one_valued (powers k) = power_valued k
  one_valued (resets e) = fresh_valued _ _ _
  one_valued (looks e) = v
  one_valued (reads i e) = v
  one_valued (writes {o = o} k) = step_valued o (launch_step k)
  one_valued (responds e) = v

-- ---- the identity bytes

fresh_identity : (established : Bool) (identity : List ℕ) (n : ℕ) → (fresh_device established identity n).identity ≡ identity
unfolding fresh_device
fresh_identity established identity n = refl

power_identity : {established : Bool} {identity w r : List ℕ} {t : Result} → PowerCase established identity w r t → t.device.identity ≡ identity
power_identity (power.refused e) = fresh_identity _ _ _
power_identity (power.powered e) = fresh_identity _ _ _

write_identity : {d : Device} {w r : List ℕ} {o v : ℕ} {d' : Device} {w' r' : List ℕ} → Writes d w r o v d' w' r' → d'.identity ≡ d.identity
write_identity (starts i j) = refl
write_identity (ends i j e) = refl
write_identity (joins u h i l) = refl
write_identity (ignores i) = refl
write_identity (aborts l u h e i) = refl
write_identity (keeps l u h e i) = refl
write_identity (sets u h n e j t) = refl
write_identity (commands u h n e c k t) = refl

one_identity : {k : Call} {n : ℕ} {s s' : State} {i : List ℕ} → CallCase s k n s' → s.device.identity ≡ i → s'.device.identity ≡ identity_step i (entry_of k n)
one_identity (same p e) q = rw e q
one_identity (powers k) q = power_identity k
one_identity (resets e) q = fresh_identity _ _ _ ∙ q
one_identity (looks e) q = q
one_identity (reads i e) q = q
one_identity (writes k) q = write_identity k ∙ q
one_identity (responds e) q = q

-- ---- all of it, call by call

record Recorded (c : ℕ) (m : Model) (q : Mail) (g : Signals) (bs : List ℕ) (w : ℕ → List ℕ) (i : List ℕ) (s : State) : Type 0 where
  kept : Kept c m q s
  signed : Signed g s.device.control
  stands : Stands s.device.launch bs
  zeroed : ZeroedIn s.device
  valued : Valued s.device w
  identity : s.device.identity ≡ i

module _ (c : ℕ) (m : Model) (q : Mail) (g : Signals) (bs : List ℕ) (w : ℕ → List ℕ) (i : List ℕ) (s : State) (h : Recorded c m q g bs w i s) where
  one_recorded : (k : Call)
      → let e : Entry = entry_of k (refusal_of k s) in
      Recorded c (step m (happens k s)) (mail_step c m q e) (signals_step c m q g e) (stream_step m bs e) (values_step m bs w e) (identity_step i e) (left k s)
  one_recorded k = record {
    kept = one_kept c m q s h.kept k;
    signed = one_signed c m q g s h.kept h.signed k;
    stands = call_streams m bs (call_case k s) h.kept.book h.stands;
    zeroed = call_zeroed (call_case k s) h.zeroed;
    valued = one_valued m bs w s h.kept.book h.stands h.zeroed h.valued (call_case k s);
    identity = one_identity (call_case k s) h.identity;
  }

  -- the state is what the books make up
  owner_is : (o : Option Locality) → owner_of (holder o) ≡ o
  owner_is None = refl
  owner_is (Some y) = refl

  active_is : owner s.device ≡ owner_of m.active
  active_is = sym (ap owner_of h.kept.book.active ∙ owner_is (owner s.device))

  waiting_is : s.device.control.arbiter.waiting ≡ listed 5 m.waiting
  waiting_is = listed_is 5 m.waiting false s.device.control.arbiter.waiting h.kept.book.flag_count (λ y l. sym (h.kept.book.flags y))

  seized_is : s.device.control.arbiter.seized ≡ listed 5 g.seized
  seized_is = listed_is 5 g.seized false s.device.control.arbiter.seized h.signed.marks.count (λ y l. h.signed.marks.flags y)

  stream_is : s.device.launch.stream ≡ cond m.sequence (join_all begin bs) no_stream
  stream_is = by m.sequence (sym h.kept.book.sequence_open)
    where
      by : (t : Bool) → s.device.launch.sequence ≡ t → s.device.launch.stream ≡ cond t (join_all begin bs) no_stream
      by true e = h.stands.opened e
      by false e = h.stands.closed e

  bank_is : s.device.pcrs ≡ listed 24 (λ p. pcr (w p))
  bank_is = listed_is 24 (λ p. pcr (w p)) no_pcr s.device.pcrs h.zeroed.whole (λ p l. ap pcr (h.valued p l))

  given : s ≡ state (device_of m q g bs w i) (padded c (command_of q.box)) (padded c (answer_of q.box))
  given =
      rw (
        ← active_is,
        ← waiting_is,
        ← seized_is,
        ← stream_is,
        ← bank_is,
        ← h.signed.interrupts,
        ← h.signed.established,
        ← h.identity,
        ← h.kept.boxed.phase,
        ← h.kept.boxed.number,
        ← h.kept.boxed.write_fifo,
        ← h.kept.boxed.read_fifo,
        h.kept.book.sequence_open,
      ) refl

-- ---- lists

all_recorded : (c : ℕ) (m : Model) (q : Mail) (g : Signals) (bs : List ℕ) (w : ℕ → List ℕ) (i : List ℕ) (s : State) (cs : List Call) → Recorded c m q g bs w i s
    → Recorded c (run m (events (heard s cs))) (mail_from c m q (heard s cs)) (signals_from c m q g (heard s cs)) (stream_from m bs (heard s cs)) (values_from m bs w (heard s cs)) (identity_from i (heard s cs)) (after s cs)
unfolding run events heard after mail_from signals_from stream_from values_from identity_from
all_recorded c m q g bs w i s [] h = h
all_recorded c m q g bs w i s (k ∷ ks) h = all_recorded c (step m (happens k s)) _ _ _ _ _ (left k s) ks (one_recorded c m q g bs w i s h k)

pub history_is_all : HistoryIsAll
unfolding run events heard after mail_from signals_from stream_from values_from identity_from model_after
history_is_all s e i cs z =
    let t : State = left (power_on e i) s in
    let c : ℕ = length s.write_fifo in
    let k : PowerCase e i s.write_fifo s.read_fifo _ = power_case e i s.write_fifo s.read_fifo in
    let first : Recorded c fresh (mail idle 0) (quiet e) [] fresh_values i t = record {
      kept = first_kept s e i z;
      signed = first_signed s e i;
      stands = power_streams [] k;
      zeroed = power_zeroed k;
      valued = power_valued k;
      identity = power_identity k;
    } in
    given c _ _ _ _ _ _ (after t cs) (all_recorded c fresh (mail idle 0) (quiet e) [] fresh_values i t cs first)
