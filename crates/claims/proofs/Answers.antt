-- Whose command runs and whose answer is read. Assumes nothing.
use mathlib.Core.Path.{◌≡◌, refl, sym, ap, ◌∙◌}
use mathlib.Core.Bool.{Bool, true, false, cond, ◌&&◌, ◌||◌, true≢false, not}
use mathlib.Core.List.{List, [], ◌∷◌, ◌++◌}
use mathlib.Core.Logic.{◌⊎◌, inl, inr}
use Prim.Native.Nat.{ℕ, ◌+◌, ◌-◌, ◌/◌, ◌≤◌, ◌<◌, ◌%◌, ◌^◌}
use Rattle.std.specs.Prelude.{Option}
use native.Mathlib.Omega.{arith}
use lib.ListN.{length, get_or, take, replicate}
use lib.Seq.{take-append_seam}
use lib.Dec.{eqb, ltb, leb}
use borrow.Author.Tests.{eqb-true, eq-eqb, le-leb, lt-ltb, ltb-false, eqb-false}
use Rattle.std.specs.Prelude.{Option, None}
use Rattle.refusal.specs.Refusal.{accepted, number_of}
use Rattle.refusal.specs.declared.Refusal.{Refusal}
use Rattle.refusal.proofs.RefusalNumbers.{number_accepted, number_refused}
use Rattle.claims.proofs.Residue.{Moved, turned}
use Rattle.claims.specs.Demand3.{active_in}
use Rattle.record.specs.declared.Phase.TheVariants.{Idle}
use Rattle.arbiter_model.proofs.ModelLaws.{not_free, held_same}
use Rattle.reg_layout.specs.Offsets.{within, in_four, place_of, hash_start, hash_end}
use Rattle.reg_layout.proofs.Within.{within_then}
use Rattle.arbiter.specs.State.{holds}
use Rattle.arbiter_model.specs.Model.{Model, held, step, fresh, Holder, free, write_event}
use Rattle.arbiter_model.specs.Waits.{run}
use Rattle.record.specs.declared.Device.{Device}
use Rattle.bits.proofs.TestLaws.{both_true, neither}
use Rattle.reg_fifo.specs.Fifo.{fifo_byte}
use Rattle.bus_resolve.specs.Resolve.{page_at}
use Rattle.bus_resolve.proofs.Cases.{hash_page}
use Rattle.call_admission.specs.Refusals.{executes, lent_refusal_of, bus_refusal_of, answer_refusal_of}
use Rattle.call_admission.proofs.RefusalLaws.{answer_then}
use Rattle.call_outcome.specs.Result.{Result}
use Rattle.call_outcome.specs.declared.ReadOutcome.{ReadOutcome}
use Rattle.call_power.proofs.Cases.{power_case}
use Rattle.call_query.specs.Query as query
use Rattle.call_query.specs.Query.{Span}
use Rattle.call_query.proofs.Cases as asking
use Rattle.call_query.proofs.Cases.{WindowCase, window_case}
use Rattle.call_bus.proofs.Cases as bus
use Rattle.call_bus.proofs.Cases.{owner, ReadCase, read_case, sts_misses, Writes, starts, ends, joins, ignores, aborts, keeps, sets, commands, WriteCase, write_case}
use Rattle.call_respond.proofs.Cases as engine
use Rattle.call_respond.proofs.Cases.{RespondCase, respond_case}
use Rattle.claims.specs.Calls as call
use Rattle.claims.specs.Calls.{Call, power_on, read, write, respond, window, State, state, nothing, byte, bytes, Answer, gives, changes, shown_by, called, refusal_of, left, after, heard}
use Rattle.claims.specs.Events.{written, entry_of, event_for, happens, events, model_after}
use Rattle.record_shape.specs.Shape as shape
use Rattle.claims.specs.Mailbox as mailbox
use Rattle.claims.specs.Mailbox.{Mailbox, idle, ready, receiving, executing, answering, Mail, mail, size_of, is_tpm_go, after_fetch, is_active, is_sts_command, is_fifo, mail_step, mail_from, phase_of, bad_size_answer, more_expected, after_command_ready, after_tpm_go, after_retry, after_sts, after_byte, by_active, answer_of}
use Rattle.reg_sts_write.specs.declared.sts.StsCommand.{StsCommand}
use Rattle.claims.proofs.Orders as orders
use Rattle.claims.proofs.Orders.{StsCase, sts_case}
use Rattle.claims.specs.Answers.{may_go, goes, Trail, trail, trail_step, trail_from, ends_run, is_port, fits, AnswersNot, Undisturbed, Owned, OwnedClaim, has_mail}
use Rattle.claims.proofs.CallCases.{CallCase, same, powers, resets, looks, reads, writes, responds, call_case}
use Rattle.claims.proofs.Padded.{byte_padded}
use Rattle.claims.proofs.Mailbox.{active_same, write_length, Kept, one_kept, all_kept, first_kept}
use Rattle.claims.proofs.Progress.{Placed, one_placed, book_fits, bus_value, works, power_placed, all_placed}
use Rattle.claims.proofs.Launch.{sequence_then}
use Rattle.claims.proofs.Trail.{Taken, Told, still_fetched, written_told, goes_on}

-- ---- call by call

-- what is in Execution
executing_is : (b : Mailbox) → executes (phase_of b) ≡ true → (bs : List ℕ) × (b ≡ executing bs)
executing_is idle e = absurd (true≢false (sym e))
executing_is ready e = absurd (true≢false (sym e))
executing_is (receiving bs) e = absurd (true≢false (sym e))
executing_is (executing bs) e = (bs, refl)
executing_is (answering a k) e = absurd (true≢false (sym e))

module _ {c : ℕ} {m : Model} {q : Mail} (s : State) (h : Kept c m q s) where
  -- an accepted answer is one to the run in Execution
  accepted_run : (n : ℕ) (a : List ℕ) → answer_refusal_of s.device s.write_fifo s.read_fifo n a ≡ None → (bs : List ℕ) × (q.box ≡ executing bs) × (q.run ≡ n)
  accepted_run n a e =
      let k : _ = both_true (executes s.device.phase) (eqb s.device.control.run n) (answer_then _ _ _ _ _ e).1 in
      let b : _ = executing_is q.box (ap executes (sym h.boxed.phase) ∙ k.0) in
      (b.0, b.1, sym h.boxed.number ∙ eqb-true s.device.control.run n k.1)

  one_told : (t : Trail) → Told c m q.box t → (k : Call)
      → Told c (step m (happens k s)) (mail_step c m q (entry_of k (refusal_of k s))).box (trail_step c m q.box t (entry_of k (refusal_of k s)))
  one_told t d k = by (call_case k s)
    where
      read_on : (u : Bool) → Told c m (cond u (mail (after_fetch q.box) q.run) q).box t
      read_on true = still_fetched c m q.box t d
      read_on false = d

      starts_it : (bs : List ℕ) → q.box ≡ executing bs → m.active ≡ held t.starter
      starts_it bs e = (rw e at d).1

      by : {k : Call} {n : ℕ} {s' : State} → CallCase s k n s' → Told c (step m (event_for (entry_of k n))) (mail_step c m q (entry_of k n)).box (trail_step c m q.box t (entry_of k n))
      by (same p e) = rw e d
      by (powers k) = tt
      by (resets e) = tt
      by (looks {o = o} e) = read_on (is_active m.active (o / 0x1000) && is_fifo o)
      by (reads {o = o} i e) = read_on (is_active m.active (o / 0x1000) && is_fifo o)
      by (writes {o = o} {v = v} k) = written_told c m q t o v h.boxed.fits d
      by (responds {run = n} {a = a} e) = let b : _ = accepted_run n a e in starts_it b.0 b.1

all_told : (c : ℕ) (m : Model) (q : Mail) (t : Trail) (s : State) (cs : List Call) → Kept c m q s → Told c m q.box t
    → Told c (run m (events (heard s cs))) (mail_from c m q (heard s cs)).box (trail_from c m q t (heard s cs))
unfolding run events heard mail_from trail_from
all_told c m q t s [] h d = d
all_told c m q t s (k ∷ ks) h d = all_told c (step m (happens k s)) _ _ (left k s) ks (one_kept c m q s h k) (one_told s h t d k)

-- ---- a run that goes on

module _ {c : ℕ} {m : Model} {q : Mail} (s : State) (h : Kept c m q s) where
  -- an answer that is accepted has the number of the run and 10 to c bytes
  accepts_fitting : (n : ℕ) (a : List ℕ) → answer_refusal_of s.device s.write_fifo s.read_fifo n a ≡ None → fits c q.run n a ≡ true
  accepts_fitting n a e =
      let k : _ = neither (ltb (length a) 10) (ltb (length s.write_fifo) (length a)) (answer_then _ _ _ _ _ e).2 in
      let u : length a ≤ c = omega (arith, write_length h.boxed, ltb-false (length s.write_fifo) (length a) k.1) in
      rw (eq-eqb q.run n (accepted_run s h n a e).2, le-leb 10 (length a) (ltb-false (length a) 10 k.0), le-leb (length a) c u) refl

  -- a call that neither ends the run nor answers it leaves it
  run_stays : (bs : List ℕ) → q.box ≡ executing bs → (k : Call) → ends_run m (entry_of k (refusal_of k s)) ≡ false → AnswersNot c q.run k
      → mail_step c m q (entry_of k (refusal_of k s)) ≡ q
  run_stays bs e k f g = by (call_case k s) f g
    where
      is : q ≡ mail (executing bs) q.run
      is = ap (λ (b : Mailbox). mail b q.run) e

      read_on : (u : Bool) → cond u (mail (after_fetch q.box) q.run) q ≡ q
      read_on true = rw e refl
      read_on false = refl

      by : {k : Call} {n : ℕ} {s' : State} → CallCase s k n s' → ends_run m (entry_of k n) ≡ false → AnswersNot c q.run k → mail_step c m q (entry_of k n) ≡ q
      by (same p i) f g = rw i refl
      by (powers k) f g = absurd (true≢false f)
      by (resets i) f g = absurd (true≢false f)
      by (looks {o = o} i) f g = read_on (is_active m.active (o / 0x1000) && is_fifo o)
      by (reads {o = o} i j) f g = read_on (is_active m.active (o / 0x1000) && is_fifo o)
      by (writes {o = o} {v = v} k) f g = ap (λ (x : Mail). mail_step c m x (written o v)) is ∙ goes_on c m bs q.run o v f ∙ sym is
      by (responds {run = n} {a = a} i) f g = absurd (true≢false (sym (accepts_fitting n a i) ∙ g n a refl))

answered_after : (c : ℕ) (m : Model) (q : Mail) (s : State) (bs : List ℕ) → Kept c m q s → Placed s.device → q.box ≡ executing bs → (cs : List Call) → Undisturbed c q.run m s cs
    → (a : List ℕ) → 10 ≤ length a → length a ≤ c → refusal_of (respond q.run a) (after s cs) ≡ accepted
unfolding after Undisturbed
answered_after c m q s bs h p e [] u a l g =
    (works s h p).refusals (respond q.run a)
    ∙ rw (h.boxed.phase, e, h.boxed.number, eq-eqb q.run q.run refl, le-leb 10 (length a) l, le-leb (length a) c g) refl
answered_after c m q s bs h p e (k ∷ ks) u a l g =
    let i : mail_step c m q (entry_of k (refusal_of k s)) ≡ q = run_stays s h bs e k u.0 u.1 in
    let h' : Kept c (step m (happens k s)) q (left k s) = rw i at (one_kept c m q s h k) in
    answered_after c (step m (happens k s)) q (left k s) bs h' (one_placed (call_case k s) (book_fits s h p).opened p) e ks u.2 a l g

-- ---- where an answer comes from, and who is active

idle_has : (b : Mailbox) → phase_of b ≡ Idle → has_mail b ≡ false
idle_has idle e = refl
idle_has ready e = refl
idle_has (receiving bs) e = absurd (true≢false (sym (ap shape.idle e)))
idle_has (executing bs) e = absurd (true≢false (sym (ap shape.idle e)))
idle_has (answering a k) e = absurd (true≢false (sym (ap shape.idle e)))

same_holder : (h k : Holder) → (h ≡ k) ⊎ (h ≡ k → ⊥)
same_holder free free = inl refl
same_holder free (held y) = inr (λ e. not_free (sym e))
same_holder (held y) free = inr not_free
same_holder (held y) (held z) = by (eqb y z) refl
  where
    by : (t : Bool) → eqb y z ≡ t → (held y ≡ held z) ⊎ (held y ≡ held z → ⊥)
    by true e = inl (ap held (eqb-true y z e))
    by false e = inr (λ i. eqb-false y z e (held_same i))

-- the answer a was there, or is the one that the call k brought, or is the 19h answer to the go that k is
abbrev Comes : ℕ → Model → Mailbox → Call → ℕ → List ℕ → Type 0
Comes c m b k n a =
    ((i : ℕ) × (b ≡ answering a i)) ⊎ ((run : ℕ) × (k ≡ respond run a) × (n ≡ accepted))
    ⊎ ((o v : ℕ) × (k ≡ write o v) × (goes c m b o v ≡ true) × (a ≡ bad_size_answer))

abbrev is_answer : Mailbox → Bool
is_answer idle = false
is_answer ready = false
is_answer (receiving bs) = false
is_answer (executing bs) = false
is_answer (answering a k) = true

module _ {a : List ℕ} {j : ℕ} where
  -- no answer is there
  none_there : {X : Type 0} (b : Mailbox) → is_answer b ≡ false → b ≡ answering a j → X
  none_there b i e = absurd (true≢false (sym (ap is_answer e) ∙ i))

  -- it is this one
  this_one : {x : List ℕ} {i : ℕ} → answering x i ≡ answering a j → x ≡ a
  this_one e = ap answer_of e

  fetched_comes : (b : Mailbox) → after_fetch b ≡ answering a j → (i : ℕ) × (b ≡ answering a i)
  fetched_comes idle e = none_there idle refl e
  fetched_comes ready e = none_there ready refl e
  fetched_comes (receiving bs) e = none_there (receiving bs) refl e
  fetched_comes (executing bs) e = none_there (executing bs) refl e
  fetched_comes (answering x i) e = by (ltb i (length x)) e
    where
      by : (t : Bool) → cond t (answering x (i + 1)) (answering x i) ≡ answering a j → (i' : ℕ) × (answering x i ≡ answering a i')
      by true e = (i, ap (λ (z : List ℕ). answering z i) (this_one e))
      by false e = (i, ap (λ (z : List ℕ). answering z i) (this_one e))

  module _ (c : ℕ) (m : Model) (q : Mail) (o v : ℕ) where
    ready_comes : (b : Mailbox) → after_command_ready b ≡ answering a j → Comes c m b (write o v) accepted a
    ready_comes idle e = none_there ready refl e
    ready_comes ready e = none_there ready refl e
    ready_comes (receiving bs) e = none_there idle refl e
    ready_comes (executing bs) e = none_there idle refl e
    ready_comes (answering x i) e = none_there idle refl e

    -- where a go counts: at STS of the active locality, with a byte that is a go
    go_comes : ((b : Mailbox) → may_go c b ≡ true → goes c m b o v ≡ true) → (b : Mailbox) (r : ℕ) → (after_tpm_go c b r).box ≡ answering a j → Comes c m b (write o v) accepted a
    go_comes f idle r e = inl (j, e)
    go_comes f ready r e = inl (j, e)
    go_comes f (receiving bs) r e = by (more_expected c bs) refl (leb 10 (size_of bs) && leb (size_of bs) c) e
      where
        by : (t : Bool) → more_expected c bs ≡ t → (u : Bool)
            → (cond t (mail (receiving bs) r) (cond u (mail (executing bs) ((r + 1) % 2 ^ 32)) (mail (answering bad_size_answer 0) r))).box ≡ answering a j → Comes c m (receiving bs) (write o v) accepted a
        by true i u e = none_there (receiving bs) refl e
        by false i true e = none_there (executing bs) refl e
        by false i false e = inr (inr (o, v, refl, f (receiving bs) (ap not i), sym (this_one e)))
    go_comes f (executing bs) r e = inl (j, e)
    go_comes f (answering x i) r e = inl (j, e)

    retry_comes : (b : Mailbox) → after_retry b ≡ answering a j → Comes c m b (write o v) accepted a
    retry_comes idle e = inl (j, e)
    retry_comes ready e = inl (j, e)
    retry_comes (receiving bs) e = inl (j, e)
    retry_comes (executing bs) e = inl (j, e)
    retry_comes (answering x i) e = inl (i, ap (λ (z : List ℕ). answering z i) (this_one e))

    byte_comes : (b : Mailbox) → after_byte c v b ≡ answering a j → Comes c m b (write o v) accepted a
    byte_comes idle e = inl (j, e)
    byte_comes ready e = none_there (receiving (v ∷ [])) refl e
    byte_comes (receiving bs) e = by (more_expected c bs) e
      where
        by : (t : Bool) → cond t (receiving (bs ++ (v ∷ []))) (receiving bs) ≡ answering a j → Comes c m (receiving bs) (write o v) accepted a
        by true e = none_there (receiving (bs ++ (v ∷ []))) refl e
        by false e = none_there (receiving bs) refl e
    byte_comes (executing bs) e = inl (j, e)
    byte_comes (answering x i) e = inl (j, e)

    sts_comes : (by_active m o && is_sts_command o) ≡ true → (after_sts c v q).box ≡ answering a j → Comes c m q.box (write o v) accepted a
    sts_comes g e = by (sts_case v) refl e
      where
        goes_if : is_tpm_go v ≡ true → (b : Mailbox) → may_go c b ≡ true → goes c m b o v ≡ true
        goes_if i b f = rw (g, i, f) refl

        by : {r g t : Bool} {k : Option StsCommand} → StsCase r g t k → is_tpm_go v ≡ g
            → (cond r (mail (after_command_ready q.box) q.run) (cond g (after_tpm_go c q.box q.run) (cond t (mail (after_retry q.box) q.run) q))).box ≡ answering a j
            → Comes c m q.box (write o v) accepted a
        by orders.readies i e = ready_comes q.box e
        by orders.goes i e = go_comes (goes_if i) q.box q.run e
        by orders.retries i e = retry_comes q.box e
        by orders.nothing i e = inl (j, e)

    written_comes : (x y z : Bool) → (by_active m o && is_sts_command o) ≡ y → (cond x (mail idle q.run) (cond y (after_sts c v q) (cond z (mail (after_byte c v q.box) q.run) q))).box ≡ answering a j
        → Comes c m q.box (write o v) accepted a
    written_comes true y z i e = none_there idle refl e
    written_comes false true z i e = sts_comes i e
    written_comes false false true i e = byte_comes q.box e
    written_comes false false false i e = inl (j, e)

  read_comes : (c : ℕ) (m : Model) (q : Mail) (k : Call) (n : ℕ) (t : Bool) → (cond t (mail (after_fetch q.box) q.run) q).box ≡ answering a j → Comes c m q.box k n a
  read_comes c m q k n true e = inl (fetched_comes q.box e)
  read_comes c m q k n false e = inl (j, e)

call_comes : (c : ℕ) (m : Model) (q : Mail) {s s' : State} {k : Call} {n : ℕ} {a : List ℕ} {j : ℕ} → CallCase s k n s' → (mail_step c m q (entry_of k n)).box ≡ answering a j
    → Comes c m q.box k n a
call_comes c m q {j = j} (same p i) e = inl (j, rw i at e)
call_comes c m q (powers k) e = none_there idle refl e
call_comes c m q (resets i) e = none_there idle refl e
call_comes c m q (looks {o = o} i) e = read_comes c m q (read o) accepted (is_active m.active (o / 0x1000) && is_fifo o) e
call_comes c m q (reads {o = o} i h) e = read_comes c m q (read o) accepted (is_active m.active (o / 0x1000) && is_fifo o) e
call_comes c m q (writes {o = o} {v = v} w) e = written_comes c m q o v (mailbox.aborts m (write_event o v)) (by_active m o && is_sts_command o) (by_active m o && is_fifo o) refl e
call_comes c m q (responds {run = r} i) e = inr (inl (r, ap (respond r) (this_one e), refl))

-- ---- the claim

module _ {c : ℕ} {m : Model} {q : Mail} (s : State) (h : Kept c m q s) (p : Placed s.device) where
  -- a bus cycle of the five pages is refused as nothing but 7
  bus_zero : (o : ℕ) → o ≤ 0x4fff → bus_refusal_of s.device s.write_fifo s.read_fifo o ≡ None
  bus_zero o l = number_accepted _ (bus_value s h p o ∙ rw (le-leb o 0x4fff l) refl)

  -- who is active in the book holds the record
  holds_is : (o : ℕ) {u : Bool} → is_active m.active (o / 0x1000) ≡ u → holds (owner s.device) (page_at o) ≡ u
  holds_is o e = sym (active_same o h.book) ∙ e

  read_byte : (o : ℕ) → o ≤ 0x4fff → is_fifo o ≡ true → is_active m.active (o / 0x1000) ≡ true → (a : List ℕ) (k : ℕ) → q.box ≡ answering a k → k < length a
      → (called (read o) s).answer ≡ record { refusal = 0; value = byte (get_or a k 0) }
  read_byte o l i e a k b g = by (read_case s.device s.write_fifo s.read_fifo o)
    where
      next : fifo_byte s.device.phase s.read_fifo ≡ get_or a k 0
      next = rw (h.boxed.phase, h.boxed.read_fifo, b, lt-ltb k (length a) g) (byte_padded c a k)

      by : {u : ReadOutcome} → ReadCase s.device s.write_fifo s.read_fifo o u → (call.reads u s).answer ≡ record { refusal = 0; value = byte (get_or a k 0) }
      by (bus.refused x f) = absurd (f (x ∙ bus_zero o l))
      by (bus.stays x j y) = absurd (true≢false (sym i ∙ j))
      by (bus.moves x j y) = rw next refl
      by (bus.misses x j y) = absurd (true≢false (sym (holds_is o e) ∙ y))

  read_other : (o : ℕ) → o ≤ 0x4fff → is_port o ≡ true → is_active m.active (o / 0x1000) ≡ false → called (read o) s ≡ gives 0 (byte 0xff) s
  read_other o l i e = at (within 0x18 0x1a (place_of o)) refl i
    where
      by : is_fifo o ≡ true → {u : ReadOutcome} → ReadCase s.device s.write_fifo s.read_fifo o u → call.reads u s ≡ gives 0 (byte 0xff) s
      by i (bus.refused x f) = absurd (f (x ∙ bus_zero o l))
      by i (bus.stays x j y) = absurd (true≢false (sym i ∙ j))
      by i (bus.moves x j y) = absurd (true≢false (sym y ∙ holds_is o e))
      by i (bus.misses x j y) = refl

      at : (t : Bool) → within 0x18 0x1a (place_of o) ≡ t → (t || is_fifo o) ≡ true → called (read o) s ≡ gives 0 (byte 0xff) s
      at true j i = ap (λ (u : ReadOutcome). call.reads u s) (sts_misses s.device s.write_fifo s.read_fifo o (bus_zero o l) j (holds_is o e))
      at false j i = by i (read_case s.device s.write_fifo s.read_fifo o)

  -- a page whose writes are hash data or ignored is 4's, and 4 is active
  not_hash_page : (o : ℕ) → is_active m.active (o / 0x1000) ≡ false → hash_page o s.device.launch.sequence ≡ true → ⊥
  not_hash_page o e g =
      let i : m.active ≡ held 4 = h.sound.open_held_by4 (h.book.sequence_open ∙ sequence_then o s.device.launch.sequence g) in
      let j : 4 ≡ o / 0x1000 = sym (eqb-true (o / 0x1000) 4 (both_true s.device.launch.sequence (eqb (o / 0x1000) 4) g).1) in
      true≢false (sym (rw i (eq-eqb 4 (o / 0x1000) j)) ∙ e)

  -- STS and FIFO lie from 18h to 1Ah and from 24h to 27h
  port_then : (o : ℕ) → is_port o ≡ true → ((0x18 ≤ place_of o) × (place_of o ≤ 0x1a)) ⊎ ((0x24 ≤ place_of o) × (place_of o ≤ 0x27))
  port_then o e = by (within 0x18 0x1a (place_of o)) refl e
    where
      by : (t : Bool) → within 0x18 0x1a (place_of o) ≡ t → (t || is_fifo o) ≡ true → ((0x18 ≤ place_of o) × (place_of o ≤ 0x1a)) ⊎ ((0x24 ≤ place_of o) × (place_of o ≤ 0x27))
      by true i q = inl (within_then 0x18 0x1a (place_of o) i)
      by false i q = inr (within_then 0x24 0x27 (place_of o) q)

  -- and so apart from hash start, hash end and ACCESS
  not_hash : (a o : ℕ) → in_four a o ≡ true → (a ≡ 0x4020) ⊎ (a ≡ 0x4028) → is_port o ≡ true → ⊥
  not_hash a o i z e = by z (port_then o e)
    where
      k : (a ≤ o) × (o ≤ a + 3)
      k = within_then a (a + 3) o i

      by : (a ≡ 0x4020) ⊎ (a ≡ 0x4028) → ((0x18 ≤ place_of o) × (place_of o ≤ 0x1a)) ⊎ ((0x24 ≤ place_of o) × (place_of o ≤ 0x27)) → ⊥
      by (inl z) (inl p) = omega (arith, k.0, k.1, p.0, p.1)
      by (inl z) (inr p) = omega (arith, k.0, k.1, p.0, p.1)
      by (inr z) (inl p) = omega (arith, k.0, k.1, p.0, p.1)
      by (inr z) (inr p) = omega (arith, k.0, k.1, p.0, p.1)

  not_access : (o : ℕ) → place_of o ≡ 0 → is_port o ≡ true → ⊥
  not_access o z e = by (port_then o e)
    where
      by : ((0x18 ≤ place_of o) × (place_of o ≤ 0x1a)) ⊎ ((0x24 ≤ place_of o) × (place_of o ≤ 0x27)) → ⊥
      by (inl p) = omega (arith, p.0)
      by (inr p) = omega (arith, p.0)

  write_other : (o v : ℕ) → o ≤ 0x4fff → is_port o ≡ true → is_active m.active (o / 0x1000) ≡ false → called (write o v) s ≡ gives 0 nothing s
  write_other o v l i e = by (write_case s.device s.write_fifo s.read_fifo o v)
    where
      on : {d : Device} {w r : List ℕ} → Writes s.device s.write_fifo s.read_fifo o v d w r → gives 0 nothing (state d w r) ≡ gives 0 nothing s
      on (starts j k) = absurd (not_hash hash_start o j (inr refl) i)
      on (ends j k z) = absurd (not_hash hash_end o k (inl refl) i)
      on (joins u g j k) = absurd (not_hash_page o e g)
      on (ignores j) = refl
      on (aborts k u g j z) = absurd (not_access o j i)
      on (keeps k u g j z) = absurd (not_access o j i)
      on (sets u g n j k z) = absurd (true≢false (sym j ∙ holds_is o e))
      on (commands u g n j k z y) = absurd (true≢false (sym j ∙ holds_is o e))

      by : {u : Result} → WriteCase s.device s.write_fifo s.read_fifo o v u → changes u ≡ gives 0 nothing s
      by (bus.refused x f) = absurd (f (x ∙ bus_zero o l))
      by (bus.overlong x g j k) = absurd (not_hash_page o e g)
      by (bus.accepts x k) = on k

  shown : (t : Trail) (bs : List ℕ) → q.box ≡ executing bs → Taken bs t.sent → (called window s).answer ≡ record { refusal = 0; value = bytes (take (size_of t.sent) t.sent) }
  shown t bs e k = by (window_case s.device s.write_fifo s.read_fifo) z
    where
      z : lent_refusal_of s.device s.write_fifo s.read_fifo ≡ None
      z = number_accepted _ ((works s h p).refusals window)

      command : shown_by (query.span_in s.device.phase) s.write_fifo s.read_fifo ≡ take (size_of t.sent) t.sent
      command = rw (h.boxed.phase, h.boxed.write_fifo, e) (let n : length bs - 0 ≡ length bs = omega arith in rw n (take-append_seam bs (replicate (c - length bs) 0) ∙ k.command))

      by : {n : Option Refusal} {x : Span} → WindowCase s.device s.write_fifo s.read_fifo n x → n ≡ None
          → ◌≡◌ {A = Answer} (record { refusal = number_of n; value = bytes (shown_by x s.write_fifo s.read_fifo) }) (record { refusal = 0; value = bytes (take (size_of t.sent) t.sent) })
      by (asking.refused f) z = absurd (f z)
      by (asking.shows g) z = rw (z, command) refl

  -- the active locality stays where a command or an answer is left
  mail_stays : (k : Call) → has_mail (mail_step c m q (entry_of k (refusal_of k s))).box ≡ true → (step m (happens k s)).active ≡ m.active
  mail_stays k e = by (same_holder (active_in (left k s).device) (active_in s.device))
    where
      next : Kept c (step m (happens k s)) (mail_step c m q (entry_of k (refusal_of k s))) (left k s)
      next = one_kept c m q s h k

      by : (active_in (left k s).device ≡ active_in s.device) ⊎ Moved s (left k s) → (step m (happens k s)).active ≡ m.active
      by (inl i) = next.book.active ∙ i ∙ sym h.book.active
      by (inr f) = absurd (true≢false (sym e ∙ idle_has (mail_step c m q (entry_of k (refusal_of k s))).box (sym next.boxed.phase ∙ turned s p (call_case k s) f)))

  proof : (t : Trail) → Told c m q.box t → Owned c m q t s
  proof t d = record {
    shows = λ bs e. shown t bs e (rw e at d).0;
    runs = λ bs e. (rw e at d).1;
    has = λ a k e. rw e at d;
    stays = mail_stays;
    comes = λ k a j e. call_comes c m q (call_case k s) e;
    accepts = accepts_it;
    reads = read_byte;
    others = read_other;
    traceless = write_other;
    answered = λ bs e cs u a l g. answered_after c m q s bs h p e cs u a l g;
  }
    where
      accepts_it : (n : ℕ) (a : List ℕ) → refusal_of (respond n a) s ≡ accepted → (bs : List ℕ) × (q.box ≡ executing bs) × (q.run ≡ n)
      accepts_it n a z = by (respond_case s.device s.write_fifo s.read_fifo n a) z
        where
          by : {u : Result} → RespondCase s.device s.write_fifo s.read_fifo n a u → number_of u.refusal ≡ accepted → (bs : List ℕ) × (q.box ≡ executing bs) × (q.run ≡ n)
          by (engine.refused {n = n} e f) z = absurd (number_refused n f z)
          by (engine.completes e) z = accepted_run s h n a e

pub owned : OwnedClaim
unfolding heard after mail_from trail_from model_after run events
owned s e i cs z =
    let u : State = left (power_on e i) s in
    let c : ℕ = length s.write_fifo in
    let k : _ = first_kept s e i z in
    proof (after u cs) (all_kept c fresh (mail idle 0) u cs k) (all_placed c fresh (mail idle 0) u cs k (power_placed (power_case e i s.write_fifo s.read_fifo)))
    (trail_from c fresh (mail idle 0) (trail [] 0) (heard u cs)) (all_told c fresh (mail idle 0) (trail [] 0) u cs k tt)
