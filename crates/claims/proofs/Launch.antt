-- The launch hash over lists of calls. Assumes nothing.
use mathlib.Core.Path.{◌≡◌, refl, sym, ap, ◌∙◌}
use mathlib.Core.Bool.{Bool, true, false, cond, true≢false}
use mathlib.Core.List.{List, [], ◌∷◌, ◌++◌}
use Prim.Native.Nat.{ℕ, ◌+◌}
use native.Mathlib.Omega.{arith}
use lib.ListN.{length, length-set, length-drop, length-append, replicate, take, drop}
use lib.Seq.{length-take-le}
use lib.Dec.{eqb}
use borrow.Author.Tests.{eq-eqb}
use Rattle.reg_layout.specs.Offsets.{in_four, page_of, hash_start, hash_end, hash_data}
use Rattle.reg_layout.proofs.Within.{within_then}
use Rattle.arbiter_model.specs.Model.{Model, write_event, step, fresh}
use Rattle.arbiter_model.specs.Waits.{run}
use Rattle.arbiter_model.proofs.Invariant.{Sound, sound_fresh}
use Rattle.arbiter.specs.Rules as rule
use Rattle.arbiter.specs.Agreement.{Agrees, holder}
use Rattle.arbiter.specs.declared.Arbiter.{Arbiter}
use Rattle.arbiter.specs.declared.Locality.{Locality}
use Rattle.std.specs.Prelude.{Option, Some, None}
use Rattle.sha1_message.specs.declared.Stream.{Stream}
use Rattle.sha1_block.specs.Sha1.{sha1}
use Rattle.sha1_message.specs.Stream.{nothing as no_stream, begin, join, finish}
use Rattle.sha1_message.proofs.StreamLaws.{all_none, all_snoc, digest}
use Rattle.pcr.specs.Bank as bank
use Rattle.pcr.specs.Bank.{pcrs, pcr, all_bytes, value_at, replaced, with_dynamic, launched}
use Rattle.pcr.specs.declared.Pcr.{Pcr}
use Rattle.pcr.proofs.BankAt.{launched_at, replaced_at}
use Rattle.refusal.specs.Refusal.{accepted, number_of}
use Rattle.refusal.proofs.RefusalNumbers.{number_refused}
use Rattle.record.specs.Record.{fresh_device}
use Rattle.record.specs.declared.Device.{Device}
use Rattle.record.specs.declared.Launch.{Launch}
use Rattle.bus_resolve.proofs.Cases.{Unhashed, hash_page}
use Rattle.launch.specs.Launch.{measured}
use Rattle.call_outcome.specs.Result.{Result}
use Rattle.call_power.proofs.Cases as power
use Rattle.call_power.proofs.Cases.{PowerCase, power_case}
use Rattle.call_bus.proofs.Cases as bus
use Rattle.call_bus.proofs.Cases.{owner, Writes, starts, ends, joins, ignores, aborts, keeps, sets, commands, Ignores, late_start, late_end, page_ignored, missed, register_ignored, WriteCase, write_case}
use Rattle.claims.specs.Calls.{Call, power_on, write, is_power_on, State, refusal_of, left, after, heard, OverLists}
use Rattle.claims.specs.Events.{entry_of, event_of, happens, events, model_after}
use Rattle.claims.specs.Demand3.{Keeps}
use Rattle.claims.specs.Launch.{launch_pcr, is_launch_pcr, start_counts, stream_written, stream_step, stream_from, stream_after, Stands, changes_pcrs, establishes, Launched}
use Rattle.claims.proofs.CallCases.{CallCase, same, powers, resets, looks, reads, writes, responds, call_case}
use Rattle.claims.proofs.Book.{start_event, end_event, data_page, power_keeps, one_call, sound_call}

pub clash : {b : Bool} → b ≡ true → b ≡ false → ⊥
clash p q = true≢false (sym p ∙ q)

-- hash start and hash end are apart
pub apart : (o : ℕ) → in_four hash_start o ≡ true → in_four hash_end o ≡ true → ⊥
apart o i j =
    let k : _ = within_then hash_start (hash_start + 3) o i in
    let l : _ = within_then hash_end (hash_end + 3) o j in
    omega arith

-- ---- what an accepted write is to the stream

-- a start counts in the model just when it does in the record
pub counts_same : {m : Model} {s : Arbiter} {o : Bool} → Agrees m s o → start_counts m.active ≡ rule.start_counts s.active
counts_same {m} {s} a = ap start_counts a.active ∙ by s.active
  where
    by : (w : Option Locality) → start_counts (holder w) ≡ rule.start_counts w
    by None = refl
    by (Some y) = refl

-- a page that is ignored but for hash data has a sequence open
pub sequence_then : (o : ℕ) (sequence : Bool) → hash_page o sequence ≡ true → sequence ≡ true
sequence_then o true h = refl
sequence_then o false h = h

-- data outside an open sequence does not join
pub closed_data : (o : ℕ) (sequence : Bool) → hash_page o sequence ≡ false → in_four hash_data o ≡ true → sequence ≡ false
closed_data o true h i = rw (eq-eqb (page_of o) 4 (data_page o i).0) at h
closed_data o false h i = refl

module _ (m : Model) (bs : List ℕ) (o v : ℕ) where
  stream_start : {t : Bool} → in_four hash_start o ≡ true → start_counts m.active ≡ t → stream_written m bs o v ≡ cond t [] bs
  stream_start i e = rw (i, e) refl

  stream_end : {t : Bool} → in_four hash_start o ≡ false → in_four hash_end o ≡ true → m.sequence ≡ t → stream_written m bs o v ≡ cond t [] bs
  stream_end i j e = rw (i, j, e) refl

  stream_data : Unhashed o → in_four hash_data o ≡ true → m.sequence ≡ true → stream_written m bs o v ≡ bs ++ (v ∷ [])
  stream_data u i e = rw (u.start, u.end, i, e) refl

  stream_other : Unhashed o → (in_four hash_data o ≡ true → m.sequence ≡ false) → stream_written m bs o v ≡ bs
  stream_other u f = rw (u.start, u.end) (by (in_four hash_data o) refl)
    where
      by : (t : Bool) → in_four hash_data o ≡ t → cond t (cond m.sequence (bs ++ (v ∷ [])) bs) bs ≡ bs
      by true e = rw (f e) refl
      by false e = refl

-- ---- the stream, call by call

stands_closed : (l : Launch) (bs : List ℕ) → l.sequence ≡ false → l.stream ≡ no_stream → Stands l bs
stands_closed l bs p q = record { opened = λ e. absurd (true≢false (sym e ∙ p)); closed = λ e. q }

stands_fresh : (established : Bool) (identity : List ℕ) (n : ℕ) (bs : List ℕ) → Stands (fresh_device established identity n).launch bs
unfolding fresh_device
stands_fresh established identity n bs = stands_closed _ bs refl refl

module _ (m : Model) (bs : List ℕ) (d : Device) (o v : ℕ) (a : Agrees m d.control.arbiter d.launch.sequence) (t : Stands d.launch bs) where
  abbrev Streams : Launch → Type 0
  Streams l = Stands l (stream_written m bs o v)

  -- no byte joins
  stays : Unhashed o → (in_four hash_data o ≡ true → d.launch.sequence ≡ false) → Streams d.launch
  stays u f = rw (stream_other m bs o v u (λ i. a.sequence_open ∙ f i)) t

  ignored : Ignores d o → Streams d.launch
  ignored (late_start i j) = rw (stream_start m bs o v i (counts_same a ∙ j)) t
  ignored (late_end i j k) = rw (stream_end m bs o v i j (a.sequence_open ∙ k)) t
  ignored (page_ignored u h i) = stays u (λ z. absurd (true≢false (sym z ∙ i)))
  ignored (missed u h n i) = stays u (closed_data o d.launch.sequence h)
  ignored (register_ignored u h n i) = stays u (closed_data o d.launch.sequence h)

  write_streams : {d' : Device} {w r w' r' : List ℕ} → Writes d w r o v d' w' r' → Streams d'.launch
  write_streams (starts i j) = rw (stream_start m bs o v i (counts_same a ∙ j)) (record { opened = λ e. sym (all_none begin); closed = λ e. absurd (true≢false e) })
  write_streams (ends i j k) = rw (stream_end m bs o v i j (a.sequence_open ∙ k)) (stands_closed _ [] refl refl)
  write_streams (joins u h i l) =
      let e : d.launch.sequence ≡ true = sequence_then o d.launch.sequence h in
      rw (stream_data m bs o v u i (a.sequence_open ∙ e))
      (record {
        opened = λ q. ap (λ (z : Stream). join z v) (t.opened q) ∙ sym (all_snoc bs v begin);
        closed = λ q. absurd (true≢false (sym e ∙ q));
      })
  write_streams (ignores i) = ignored i
  write_streams (aborts l u h e i) = stays u (λ z. absurd ((data_page o z).1 e))
  write_streams (keeps l u h e i) = stays u (λ z. absurd ((data_page o z).1 e))
  write_streams (sets u q n h s t) = stays u (closed_data o d.launch.sequence q)
  write_streams (commands u q n h c k t) = stays u (closed_data o d.launch.sequence q)

pub power_streams : {established : Bool} {identity w r : List ℕ} {t : Result} (bs : List ℕ) → PowerCase established identity w r t → Stands t.device.launch bs
power_streams bs (power.refused l) = stands_fresh _ _ _ bs
power_streams bs (power.powered l) = stands_fresh _ _ _ bs

pub call_streams : {c : Call} {n : ℕ} {s s' : State} (m : Model) (bs : List ℕ) → CallCase s c n s' → Keeps m s.device → Stands s.device.launch bs
    → Stands s'.device.launch (stream_step m bs (entry_of c n))
call_streams m bs (same p e) a t = rw e t
call_streams m bs (powers k) a t = power_streams [] k
call_streams m bs (resets e) a t = stands_fresh _ _ _ []
call_streams m bs (looks e) a t = t
call_streams m bs (reads i e) a t = t
call_streams {s = s} m bs (writes {o = o} {v = v} k) a t = write_streams m bs s.device o v a t k
call_streams m bs (responds e) a t = t

-- ---- the PCRs, call by call

-- 24 PCRs, and 00h in PCRs 17 to 22 while the sequence is open
pub record Zeroed (sequence : Bool) (b : List Pcr) : Type 0 where
  pub whole : length b ≡ pcrs
  pub zeros : sequence ≡ true → (p : ℕ) → is_launch_pcr p ≡ true → value_at b p ≡ all_bytes 0

abbrev pub ZeroedIn : Device → Type 0
ZeroedIn d = Zeroed d.launch.sequence d.pcrs

closed_zeroed : (b : List Pcr) → length b ≡ pcrs → Zeroed false b
closed_zeroed b l = record { whole = l; zeros = λ q. absurd (true≢false (sym q)) }

fresh_zeroed : (established : Bool) (identity : List ℕ) (n : ℕ) → ZeroedIn (fresh_device established identity n)
unfolding fresh_device bank.fresh with_dynamic
fresh_zeroed established identity n = closed_zeroed _ refl

launched_length : (b : List Pcr) → length b ≡ pcrs → length (launched b) ≡ pcrs
unfolding with_dynamic
launched_length b l =
    rw (length-append (take 17 b ++ replicate 6 (pcr (all_bytes 0))) (drop 23 b), length-append (take 17 b) (replicate 6 (pcr (all_bytes 0))), length-take-le 17 b (omega arith), length-drop 23 b, l) refl

write_zeroed : {d : Device} {w r : List ℕ} {o v : ℕ} {d' : Device} {w' r' : List ℕ} → Writes d w r o v d' w' r' → ZeroedIn d → ZeroedIn d'
write_zeroed {d = d} (starts i j) b = record { whole = launched_length d.pcrs b.whole; zeros = λ q p z. launched_at d.pcrs p b.whole ∙ rw z refl }
write_zeroed {d = d} (ends i j k) b = closed_zeroed _ (length-set d.pcrs 17 _ ∙ b.whole)
write_zeroed (joins u h i l) b = b
write_zeroed (ignores i) b = b
write_zeroed (aborts l u h e i) b = b
write_zeroed (keeps l u h e i) b = b
write_zeroed (sets u q n h s t) b = b
write_zeroed (commands u q n h c k t) b = b

pub power_zeroed : {established : Bool} {identity w r : List ℕ} {t : Result} → PowerCase established identity w r t → ZeroedIn t.device
power_zeroed (power.refused l) = fresh_zeroed _ _ _
power_zeroed (power.powered l) = fresh_zeroed _ _ _

pub call_zeroed : {c : Call} {n : ℕ} {s s' : State} → CallCase s c n s' → ZeroedIn s.device → ZeroedIn s'.device
call_zeroed (same p e) b = b
call_zeroed (powers k) b = power_zeroed k
call_zeroed (resets e) b = fresh_zeroed _ _ _
call_zeroed (looks e) b = b
call_zeroed (reads i e) b = b
call_zeroed (writes k) b = write_zeroed k b
call_zeroed (responds e) b = b

-- ---- what an accepted write does to the PCRs and to the established flag

pub data LaunchStep (d : Device) (o : ℕ) : List Pcr → Bool → Type 0 where
  started : in_four hash_start o ≡ true → rule.start_counts (owner d) ≡ true → LaunchStep d o (launched d.pcrs) true
  ended : in_four hash_start o ≡ false → in_four hash_end o ≡ true → d.launch.sequence ≡ true → LaunchStep d o (measured d.pcrs d.launch) d.control.established
  -- no start that counts, and no end of an open sequence
  kept : (in_four hash_start o ≡ true → rule.start_counts (owner d) ≡ false) → (in_four hash_end o ≡ true → d.launch.sequence ≡ false) → LaunchStep d o d.pcrs d.control.established

pub launch_step : {d : Device} {w r : List ℕ} {o v : ℕ} {d' : Device} {w' r' : List ℕ} → Writes d w r o v d' w' r' → LaunchStep d o d'.pcrs d'.control.established
launch_step {d} {o = o} k = by k
  where
    none : Unhashed o → LaunchStep d o d.pcrs d.control.established
    none u = kept (λ s. absurd (clash s u.start)) (λ e. absurd (clash e u.end))

    by : {w r : List ℕ} {v : ℕ} {d' : Device} {w' r' : List ℕ} → Writes d w r o v d' w' r' → LaunchStep d o d'.pcrs d'.control.established
    by (starts i j) = started i j
    by (ends i j k) = ended i j k
    by (joins u h i l) = none u
    by (ignores (late_start i j)) = kept (λ s. j) (λ e. absurd (apart o i e))
    by (ignores (late_end i j k)) = kept (λ s. absurd (clash s i)) (λ e. k)
    by (ignores (page_ignored u h i)) = none u
    by (ignores (missed u h n i)) = none u
    by (ignores (register_ignored u h n i)) = none u
    by (aborts l u h e i) = none u
    by (keeps l u h e i) = none u
    by (sets u q n h k t) = none u
    by (commands u q n h c k t) = none u

module _ {d : Device} {o : ℕ} where
  start_pcrs : {b : List Pcr} {t : Bool} → LaunchStep d o b t → in_four hash_start o ≡ true → rule.start_counts (owner d) ≡ true → b ≡ launched d.pcrs
  start_pcrs (started i j) s c = refl
  start_pcrs (ended i j k) s c = absurd (clash s i)
  start_pcrs (kept f g) s c = absurd (clash c (f s))

  end_pcrs : {b : List Pcr} {t : Bool} → LaunchStep d o b t → in_four hash_end o ≡ true → d.launch.sequence ≡ true → b ≡ measured d.pcrs d.launch
  end_pcrs (started i j) s c = absurd (apart o i s)
  end_pcrs (ended i j k) s c = refl
  end_pcrs (kept f g) s c = absurd (clash c (g s))

  kept_pcrs : {b : List Pcr} {t : Bool} (m : Model) (v : ℕ) → Agrees m d.control.arbiter d.launch.sequence → LaunchStep d o b t → changes_pcrs m (write_event o v) ≡ false → b ≡ d.pcrs
  kept_pcrs m v a (started i j) q = absurd (clash (counts_same a ∙ j) (sym (ap (changes_pcrs m) (start_event o v i)) ∙ q))
  kept_pcrs m v a (ended i j k) q = absurd (clash (a.sequence_open ∙ k) (sym (ap (changes_pcrs m) (end_event o v i j)) ∙ q))
  kept_pcrs m v a (kept f g) q = refl

call_pcrs : {c : Call} {n : ℕ} {s s' : State} (m : Model) → Keeps m s.device → CallCase s c n s' → changes_pcrs m (event_of c n) ≡ false
    → s'.device.pcrs ≡ s.device.pcrs
call_pcrs m a (same p e) q = refl
call_pcrs m a (powers k) q = absurd (true≢false q)
call_pcrs m a (resets e) q = absurd (true≢false q)
call_pcrs m a (looks e) q = refl
call_pcrs m a (reads i e) q = refl
call_pcrs m a (writes {v = v} k) q = kept_pcrs m v a (launch_step k) q
call_pcrs m a (responds e) q = refl

-- an accepted write is one of the cases
accepted_write_lem : (s : State) (o v : ℕ) → refusal_of (write o v) s ≡ accepted
    → Writes s.device s.write_fifo s.read_fifo o v (left (write o v) s).device (left (write o v) s).write_fifo (left (write o v) s).read_fifo
accepted_write_lem s o v e = by _ (write_case s.device s.write_fifo s.read_fifo o v) e
  where
    by : (t : Result) → WriteCase s.device s.write_fifo s.read_fifo o v t → number_of t.refusal ≡ accepted
        → Writes s.device s.write_fifo s.read_fifo o v t.device t.write_fifo t.read_fifo
    by t (bus.refused {n = n} e f) q = absurd (number_refused n f q)
    by t (bus.overlong e h i l) q = absurd (omega arith)
    by t (bus.accepts e k) q = k

-- ---- the established flag

flag_set : {d : Device} {o : ℕ} {b : List Pcr} {t : Bool} → LaunchStep d o b t → in_four hash_start o ≡ true → rule.start_counts (owner d) ≡ true → t ≡ true
flag_set (started i j) s c = refl
flag_set (ended i j k) s c = absurd (clash s i)
flag_set (kept f g) s c = absurd (clash c (f s))

reset_flag : (established : Bool) (identity : List ℕ) (n : ℕ) → (fresh_device established identity n).control.established ≡ established
unfolding fresh_device
reset_flag established identity n = refl

call_flag : {c : Call} {n : ℕ} {s s' : State} (m : Model) → Keeps m s.device → CallCase s c n s' → is_power_on c ≡ false → establishes m (event_of c n) ≡ false
    → s'.device.control.established ≡ s.device.control.established
call_flag m a (same p e) q f = refl
call_flag m a (powers k) q f = absurd (true≢false q)
call_flag m a (resets e) q f = reset_flag _ _ _
call_flag m a (looks e) q f = refl
call_flag m a (reads i e) q f = refl
call_flag {s = s} m a (writes {o = o} {v = v} k) q f = by (launch_step k)
  where
    by : {b : List Pcr} {t : Bool} → LaunchStep s.device o b t → t ≡ s.device.control.established
    by (started i j) = absurd (clash (counts_same a ∙ j) (sym (ap (establishes m) (start_event o v i)) ∙ f))
    by (ended i j k) = refl
    by (kept g h) = refl
call_flag m a (responds e) q f = refl

-- ---- the claim

module _ (m : Model) (bs : List ℕ) (s : State) (a : Keeps m s.device) (t : Stands s.device.launch bs) (b : ZeroedIn s.device) where
  measures : (o v : ℕ) → refusal_of (write o v) s ≡ accepted → in_four hash_end o ≡ true → m.sequence ≡ true
      → (left (write o v) s).device.pcrs ≡ replaced s.device.pcrs launch_pcr (sha1 (value_at s.device.pcrs launch_pcr ++ sha1 bs))
  measures o v z i e =
      let k : s.device.launch.sequence ≡ true = sym a.sequence_open ∙ e in
      end_pcrs (launch_step (accepted_write_lem s o v z)) i k
      ∙ ap (λ (y : List ℕ). replaced s.device.pcrs launch_pcr (sha1 (value_at s.device.pcrs launch_pcr ++ y))) (ap finish (t.opened k) ∙ digest bs)

  launched_now : Launched m bs s
  launched_now = record {
    sequence = sym a.sequence_open;
    stands = t;
    banked = record { whole = b.whole; zeros = λ e. b.zeros (sym a.sequence_open ∙ e) };
    starts = λ o v z i e p.
        ap (λ (y : List Pcr). value_at y p) (start_pcrs (launch_step (accepted_write_lem s o v z)) i (sym (counts_same a) ∙ e)) ∙ launched_at s.device.pcrs p b.whole;
    measures = measures;
    value = λ o v z i e p.
        ap (λ (y : List Pcr). value_at y p) (measures o v z i e)
        ∙ replaced_at s.device.pcrs launch_pcr p _ (omega (arith, b.whole))
        ∙ ap (λ (y : List ℕ). cond (eqb p launch_pcr) (sha1 (y ++ sha1 bs)) (value_at s.device.pcrs p)) (b.zeros (sym a.sequence_open ∙ e) launch_pcr refl);
    sets = λ o v z i e. flag_set (launch_step (accepted_write_lem s o v z)) i (sym (counts_same a) ∙ e);
    established = λ c p e. call_flag m a (call_case c s) p e;
    keeps = λ c e. call_pcrs m a (call_case c s) e;
  }

all_launched : (m : Model) (bs : List ℕ) (s : State) (cs : List Call) → Keeps m s.device → Sound m → Stands s.device.launch bs → ZeroedIn s.device
    → Launched (run m (events (heard s cs))) (stream_from m bs (heard s cs)) (after s cs)
unfolding run events heard after stream_from
all_launched m bs s [] a h t b = launched_now m bs s a t b
all_launched m bs s (c ∷ cs) a h t b =
    all_launched (step m (happens c s)) (stream_step m bs (entry_of c (refusal_of c s))) (left c s) cs
    (one_call m c s a h) (sound_call m c (refusal_of c s) h) (call_streams m bs (call_case c s) a t) (call_zeroed (call_case c s) b)

-- `Progress` adds that starts and ends are accepted, and has the whole claim
pub launches : OverLists (λ s₀ h s. Launched (model_after h) (stream_after h) s)
unfolding model_after run events heard after stream_from
launches s e i cs =
    let k : _ = power_case e i s.write_fifo s.read_fifo in
    all_launched fresh [] (left (power_on e i) s) cs (power_keeps k) sound_fresh (power_streams [] k) (power_zeroed k)
