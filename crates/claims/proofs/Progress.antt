-- After an accepted power-on the record stays in shape, and which calls are refused; after a refused one every call that is lent FIFOs is
-- refused as 2. Assumes nothing.
use mathlib.Core.Path.{◌≡◌, refl, sym, ap, ◌∙◌}
use mathlib.Core.Bool.{Bool, true, false, cond, not, ◌&&◌, ◌||◌, true≢false}
use mathlib.Core.List.{List, [], ◌∷◌}
use mathlib.Core.Logic.{◌⊎◌, inl, inr}
use Prim.Native.Nat.{ℕ, ◌+◌, ◌≤◌, ◌<◌}
use native.Mathlib.Omega.{arith}
use lib.ListN.{length, get_or}
use lib.Dec.{eqb, leb, ltb}
use borrow.Author.Tests.{eqb-true, eqb-false, eq-eqb, leb-true, leb-false, le-leb, lt-leb, lt-ltb, le-ltb}
use Rattle.std.specs.Prelude.{None, Some}
use Rattle.refusal.specs.Refusal.{accepted, number_of, accepts}
use Rattle.refusal.specs.declared.Refusal.TheVariants.{Offset, FifoLength, Run, AnswerLength, Question}
use Rattle.refusal.proofs.RefusalNumbers.{number_refused, accepts_true, some_refused}
use Rattle.reg_layout.specs.Offsets.{in_four, page_of, last_offset, hash_locality, hash_data, hash_start, hash_end}
use Rattle.reg_layout.proofs.Within.{within_then, not_within}
use Rattle.arbiter.specs.State.{localities, holds}
use Rattle.arbiter.specs.Rules.{write_access, handover}
use Rattle.arbiter.specs.Agreement.{Agrees, holder}
use Rattle.arbiter.specs.declared.Arbiter.{Arbiter}
use Rattle.arbiter.specs.declared.Change.{Change}
use Rattle.arbiter.specs.declared.Locality.{Locality}
use Rattle.std.specs.Prelude.{Option, Some, None}
use Rattle.arbiter.proofs.Cases as rule
use Rattle.arbiter.proofs.Cases.{AccessCase, access_case}
use Rattle.arbiter_model.specs.Model.{Model, held, fresh, step}
use Rattle.arbiter_model.proofs.ModelLaws.{not_free, held_same}
use Rattle.arbiter_model.proofs.Invariant.{Sound}
use Rattle.sha1_message.specs.Stream.{join}
use Rattle.record.specs.Limits.{fifo_least, fifo_greatest, hash_limit}
use Rattle.record.specs.Record.{fresh_device}
use Rattle.record.specs.declared.Device.{Device}
use Rattle.record.specs.declared.Launch.{Launch}
use Rattle.record.specs.declared.Phase.{Phase}
use Rattle.record.specs.declared.Phase.TheVariants.{Idle, Ready, Reception, Execution, Completion}
use Rattle.record_shape.specs.Shape as shape
use Rattle.record_shape.specs.Shape.{view_of, lengths_of, lengths_allowed, active_known, free_unasked, active_unasked, phase_placed, counts_fit, sequence_placed, hash_counted, in_shape}
use Rattle.bits.proofs.TestLaws.{both_true, neither}
use Rattle.reg_fifo.specs.Fifo.{after_read}
use Rattle.bus_resolve.specs.Resolve.{page_at}
use Rattle.bus_resolve.proofs.Cases.{hash_page}
use Rattle.call_admission.specs.Refusals.{lent_refusal, bus_refusal, executes, answer_refusal, pcr_refusal, lent_refusal_of, bus_refusal_of, answer_refusal_of, pcr_refusal_of}
use Rattle.call_admission.proofs.RefusalLaws.{bus_lent, answer_lent, bus_then, answer_then}
use Rattle.pcr.specs.Bank.{pcrs, all_bytes, value_at}
use Rattle.call_outcome.specs.Result.{Result}
use Rattle.call_outcome.specs.declared.ReadOutcome.{ReadOutcome}
use Rattle.pcr.specs.Permission as table
use Rattle.pcr.specs.Permission.{permission}
use Rattle.call_query.specs.Query as query
use Rattle.call_respond.proofs.Cases as engine
use Rattle.call_respond.proofs.Cases.{RespondCase, respond_case}
use Rattle.call_power.proofs.Cases as power
use Rattle.call_power.proofs.Cases.{PowerCase, power_case, ResetCase, reset_case}
use Rattle.call_bus.proofs.Cases as bus
use Rattle.call_bus.proofs.Cases.{owner, ReadCase, read_case, Writes, starts, ends, joins, ignores, aborts, keeps, sets, commands, late_start, late_end, page_ignored, missed, register_ignored, WriteCase, write_case}
use Rattle.claims.specs.Calls.{Call, power_on, reset, read, write, respond, pcr_value, interrupt_line, may_reset, may_extend, window, State, state, refusal_of, left, after, heard}
use Rattle.claims.specs.StaleAnswers.{running}
use Rattle.claims.specs.Launch.{LaunchClaim}
use Rattle.claims.specs.Events.{entry_of, happens}
use Rattle.claims.specs.Progress.{overlong, refusal_in, Works, is_lent, powered_by, last_powered, Halts, ProgressClaim}
use Rattle.claims.specs.Mailbox.{Mailbox, idle, ready, receiving, executing, answering, Mail, mail, phase_of}
use Rattle.claims.proofs.Orders.{Fits}
use Rattle.claims.proofs.Mailbox.{write_length, read_length, lengths_allowed_lem, Kept, one_kept, all_kept, first_kept}
use Rattle.claims.proofs.Launch.{sequence_then, closed_data, launches}
use Rattle.claims.proofs.StaleAnswers.{running_is}
use Rattle.claims.specs.Unchanged.{Refuses}
use Rattle.claims.proofs.Unchanged.{refusals_change_nothing}
use Rattle.claims.proofs.CallCases.{CallCase, same, powers, resets, looks, reads, writes, responds, call_case}

-- ---- the clauses that the waiting book decides

pub record Arbitrates (b : Arbiter) (q : Bool) : Type 0 where
  pub known : active_known b.active ≡ true
  pub free : free_unasked b.active b.waiting ≡ true
  pub own : active_unasked b.active b.waiting ≡ true
  pub opened : sequence_placed q b.active ≡ true

arbitrates : {m : Model} (b : Arbiter) (q : Bool) → Agrees m b q → Sound m → Arbitrates b q
arbitrates {m} b q a h = by b.active refl
  where
    -- nobody waits
    none : b.active ≡ None → (y : ℕ) → y < 5 → get_or b.waiting y false ≡ false
    none e y l = sym (a.flags y) ∙ h.free_unasked (a.active ∙ ap holder e) y l

    closed : b.active ≡ None → (t : Bool) → q ≡ t → not t ≡ true
    closed e true i = absurd (not_free (sym (h.open_held_by4 (a.sequence_open ∙ i)) ∙ a.active ∙ ap holder e))
    closed e false i = refl

    fourth : (y : ℕ) → m.active ≡ held y → (t : Bool) → q ≡ t → (not t || eqb y hash_locality) ≡ true
    fourth y e true i = eq-eqb y 4 (held_same (sym e ∙ h.open_held_by4 (a.sequence_open ∙ i)))
    fourth y e false i = refl

    by : (o : Option Locality) → b.active ≡ o → Arbitrates b q
    by None e = record {
      known = rw e refl;
      free = rw e (rw (none e 0 (omega arith), none e 1 (omega arith), none e 2 (omega arith), none e 3 (omega arith), none e 4 (omega arith)) refl);
      own = rw e refl;
      opened = rw e (closed e q refl);
    }
    by (Some y) e =
        let i : m.active ≡ held y.0 = a.active ∙ ap holder e in
        record {
          known = rw e (lt-ltb y.0 5 (h.active_known y.0 i));
          free = rw e refl;
          own = rw e (ap not (sym (a.flags y.0) ∙ h.active_unasked y.0 (h.active_known y.0 i) i));
          opened = rw e (fourth y.0 i q refl);
        }

-- ---- the clauses on phase and hash sequence

-- any phase other than Idle has an owner and no sequence, and the bytes of a sequence are counted
pub record Placed (d : Device) : Type 0 where
  pub phase : phase_placed d.phase (owner d) d.launch.sequence ≡ true
  pub hash : hash_counted d.launch.sequence d.launch.stream.count ≡ true

idle_placed : (o : Option Locality) (q : Bool) → phase_placed Idle o q ≡ true
idle_placed None q = refl
idle_placed (Some y) q = refl

pub or_true : (t : Bool) → (t || true) ≡ true
or_true true = refl
or_true false = refl

-- who is active may be in any phase while no sequence is open
active_placed : (p : Phase) (o : Option Locality) (x : Locality) (q : Bool) → holds o x ≡ true → q ≡ false → phase_placed p o q ≡ true
active_placed p None x q h e = absurd (true≢false (sym h))
active_placed p (Some y) x q h e = rw e (or_true (shape.idle p))

-- the active locality commands, so no sequence is open
no_sequence : (o : ℕ) (w : Option Locality) (q : Bool) → sequence_placed q w ≡ true → hash_page o q ≡ false → holds w (page_at o) ≡ true → q ≡ false
no_sequence o None q i h e = absurd (true≢false (sym e))
no_sequence o (Some y) true i h e = absurd (true≢false (sym (eq-eqb (page_of o) 4 (sym (eqb-true y.0 (page_of o) e) ∙ eqb-true y.0 4 i)) ∙ h))
no_sequence o (Some y) false i h e = refl

-- a device that was free
taken_placed : (p : Phase) (x : Locality) (q : Bool) → phase_placed p None q ≡ true → phase_placed p (Some x) q ≡ true
taken_placed p x q e = rw e refl

joined_counted : (l : Launch) (v : ℕ) → l.sequence ≡ true → l.stream.count < hash_limit → hash_counted l.sequence (join l.stream v).count ≡ true
unfolding join
joined_counted l v e m = rw (e, le-leb (l.stream.count + 1) hash_limit (omega arith)) refl

read_placed : (p : Phase) (o : Option Locality) (q : Bool) → phase_placed p o q ≡ true → phase_placed (after_read p) o q ≡ true
read_placed Idle o q e = e
read_placed Ready o q e = e
read_placed (Reception n) o q e = e
read_placed (Execution n) o q e = e
read_placed (Completion n k) o q e = by (ltb k n)
  where
    on : (o : Option Locality) → phase_placed (Completion n k) o q ≡ true → phase_placed (Completion n (k + 1)) o q ≡ true
    on None e = e
    on (Some y) e = e

    by : (t : Bool) → phase_placed (cond t (Completion n (k + 1)) (Completion n k)) o q ≡ true
    by true = on o e
    by false = e

answer_placed : (p : Phase) (n : ℕ) (o : Option Locality) (q : Bool) → executes p ≡ true → phase_placed p o q ≡ true → phase_placed (Completion n 0) o q ≡ true
answer_placed Idle n o q i e = absurd (true≢false (sym i))
answer_placed Ready n o q i e = absurd (true≢false (sym i))
answer_placed (Reception k) n o q i e = absurd (true≢false (sym i))
answer_placed (Execution k) n None q i e = e
answer_placed (Execution k) n (Some y) q i e = e
answer_placed (Completion k j) n o q i e = absurd (true≢false (sym i))

fresh_placed : (established : Bool) (identity : List ℕ) (n : ℕ) → Placed (fresh_device established identity n)
unfolding fresh_device
fresh_placed established identity n = record { phase = refl; hash = refl }

module _ (d : Device) (w r : List ℕ) (o v : ℕ) (i : sequence_placed d.launch.sequence (owner d) ≡ true) (b : Placed d) where
  kept : (c : Change) → AccessCase d.control.arbiter (page_at o) c → c.abort ≡ false → phase_placed d.phase c.arbiter.active d.launch.sequence ≡ true
  kept c (rule.aborts t) e = absurd (true≢false (sym t ∙ e))
  kept c (rule.stays t j) e = rw j b.phase
  kept c (rule.takes t j k) e = rw k (taken_placed d.phase (page_at o) d.launch.sequence (rw j at b.phase))

  write_placed : {d' : Device} {w' r' : List ℕ} → Writes d w r o v d' w' r' → Placed d'
  write_placed (starts j k) = record { phase = refl; hash = refl }
  write_placed (ends j k e) = record { phase = idle_placed (handover d.control.arbiter).arbiter.active false; hash = refl }
  write_placed (joins u h j l) = record { phase = b.phase; hash = joined_counted d.launch v (sequence_then o _ h) l }
  write_placed (ignores j) = b
  write_placed (aborts l u h e j) = record { phase = idle_placed (write_access d.control.arbiter (page_at o) v).arbiter.active d.launch.sequence; hash = b.hash }
  write_placed (keeps l u h e j) = record { phase = kept _ (access_case d.control.arbiter (page_at o) v) j; hash = b.hash }
  write_placed (sets u h n e s t) = record { phase = b.phase; hash = b.hash }
  write_placed (commands u h n e c k t) = record { phase = active_placed c.phase (owner d) (page_at o) _ e (no_sequence o (owner d) _ i h e); hash = b.hash }

pub power_placed : {established : Bool} {identity w r : List ℕ} {t : Result} → PowerCase established identity w r t → Placed t.device
power_placed (power.refused l) = fresh_placed _ _ _
power_placed (power.powered l) = fresh_placed _ _ _

pub one_placed : {c : Call} {n : ℕ} {s s' : State} → CallCase s c n s' → sequence_placed s.device.launch.sequence (owner s.device) ≡ true → Placed s.device → Placed s'.device
one_placed (same p e) i b = b
one_placed (powers k) i b = power_placed k
one_placed (resets e) i b = fresh_placed _ _ _
one_placed (looks e) i b = b
one_placed {s = s} (reads e h) i b = record { phase = read_placed s.device.phase (owner s.device) s.device.launch.sequence b.phase; hash = b.hash }
one_placed {s = s} (writes {o = o} {v = v} k) i b = write_placed s.device s.write_fifo s.read_fifo o v i b k
one_placed {s = s} (responds {a = a} e) i b = record { phase = answer_placed s.device.phase (length a) (owner s.device) s.device.launch.sequence (both_true _ _ (answer_then _ _ _ _ _ e).1).0 b.phase; hash = b.hash }

-- ---- the clause on the counts

counts_fit_lem : (c : ℕ) (b : Mailbox) → Fits c b → counts_fit (phase_of b) c ≡ true
counts_fit_lem c idle f = refl
counts_fit_lem c ready f = refl
counts_fit_lem c (receiving bs) f = rw (le-leb 1 (length bs) f.0, le-leb (length bs) c f.1) refl
counts_fit_lem c (executing bs) f = rw (le-leb 10 (length bs) f.0, le-leb (length bs) c f.1) refl
counts_fit_lem c (answering a k) f = rw (le-leb 10 (length a) f.0, le-leb (length a) c f.1, le-leb k (length a) f.2) refl

-- FIFOs of more bytes
wider : (c e : ℕ) → c ≤ e → (b : Mailbox) → Fits c b → Fits e b
wider c e l idle f = f
wider c e l ready f = f
wider c e l (receiving bs) f = (f.0, omega (arith, f.1))
wider c e l (executing bs) f = (f.0, omega (arith, f.1))
wider c e l (answering a k) f = (f.0, omega (arith, f.1), f.2)

-- ---- neither 2 nor 6

abbrev Neither : ℕ → Type 0
Neither n = (n ≡ 2 → ⊥) × (n ≡ 6 → ⊥)

no : (n : ℕ) → (eqb n 2 || eqb n 6) ≡ false → Neither n
no n e =
    let k : _ = neither (eqb n 2) (eqb n 6) e in
    (eqb-false n 2 k.0, eqb-false n 6 k.1)

choice : {a b : ℕ} (t : Bool) → Neither a → Neither b → Neither (cond t a b)
choice true f g = f
choice false f g = g

-- ---- in shape

module _ {c : ℕ} {m : Model} {q : Mail} (s : State) (h : Kept c m q s) (p : Placed s.device) where
  pub book_fits : Arbitrates s.device.control.arbiter s.device.launch.sequence
  book_fits = arbitrates s.device.control.arbiter s.device.launch.sequence h.book h.sound

  shaped : (e : ℕ) → c ≤ e → in_shape (view_of s.device) e ≡ true
  unfolding in_shape
  shaped e l =
      let k : counts_fit s.device.phase e ≡ true = ap (λ (z : Phase). counts_fit z e) h.boxed.phase ∙ counts_fit_lem e q.box (wider c e l q.box h.boxed.fits) in
      rw (book_fits.known, book_fits.free, book_fits.own, p.phase, k, book_fits.opened, p.hash) refl

  -- ---- which calls are refused

  lent_none : lent_refusal_of s.device s.write_fifo s.read_fifo ≡ None
  unfolding lent_refusal
  lent_none =
      rw (lengths_allowed_lem s.write_fifo s.read_fifo h.least h.greatest (write_length h.boxed) (read_length h.boxed), write_length h.boxed, shaped c (omega arith)) refl

  pub bus_value : (o : ℕ) → number_of (bus_refusal_of s.device s.write_fifo s.read_fifo o) ≡ cond (leb o 0x4fff) 0 1
  unfolding bus_refusal
  bus_value o = rw (lent_none) (by (leb o 0x4fff) refl)
    where
      by : (t : Bool) → leb o 0x4fff ≡ t → number_of (cond (ltb last_offset o) (Some Offset) None) ≡ cond t 0 1
      by true e = rw (le-ltb last_offset o (leb-true o 0x4fff e)) refl
      by false e = rw (lt-ltb last_offset o (leb-false o 0x4fff e)) refl

  -- data is in page 4
  data_closed : (o : ℕ) → in_four hash_data o ≡ true → hash_page o s.device.launch.sequence ≡ false → s.device.launch.sequence ≡ false
  data_closed o i e = closed_data o s.device.launch.sequence e i

  -- a write that is accepted is not beyond the limit
  in_limit : {o v : ℕ} {d' : Device} {w' r' : List ℕ} → Writes s.device s.write_fifo s.read_fifo o v d' w' r' → overlong s.device o ≡ false
  in_limit {o} k = by (in_four hash_data o) refl
    where
      counted : s.device.launch.stream.count < hash_limit → (t : Bool) → (t && true && leb 1048576 s.device.launch.stream.count) ≡ false
      counted l true = lt-leb 1048576 s.device.launch.stream.count l
      counted l false = refl

      shut : hash_page o s.device.launch.sequence ≡ false → in_four hash_data o ≡ true → (s.device.launch.sequence && true && leb 1048576 s.device.launch.stream.count) ≡ false
      shut e i = rw (data_closed o i e) refl

      apart : (a : ℕ) → in_four a o ≡ true → in_four hash_data o ≡ true → (a + 3 < hash_data) ⊎ (hash_data + 3 < a) → ⊥
      apart a i j (inl l) = let x : _ = within_then a (a + 3) o i in let y : _ = within_then hash_data (hash_data + 3) o j in omega arith
      apart a i j (inr l) = let x : _ = within_then a (a + 3) o i in let y : _ = within_then hash_data (hash_data + 3) o j in omega arith

      on : {v : ℕ} {d' : Device} {w' r' : List ℕ} → Writes s.device s.write_fifo s.read_fifo o v d' w' r' → in_four hash_data o ≡ true → (s.device.launch.sequence && true && leb 1048576 s.device.launch.stream.count) ≡ false
      on (starts i j) e = absurd (apart hash_start i e (inr (omega arith)))
      on (ends i j k) e = absurd (apart hash_end j e (inl (omega arith)))
      on (joins u h i l) e = counted l s.device.launch.sequence
      on (ignores (late_start i j)) e = absurd (apart hash_start i e (inr (omega arith)))
      on (ignores (late_end i j k)) e = absurd (apart hash_end j e (inl (omega arith)))
      on (ignores (page_ignored u h i)) e = absurd (true≢false (sym e ∙ i))
      on (ignores (missed u h n i)) e = shut h e
      on (ignores (register_ignored u h n i)) e = shut h e
      on (aborts l u h i j) e = shut h e
      on (keeps l u h i j) e = shut h e
      on (sets u h n i j t) e = shut h e
      on (commands u h n i c j t) e = shut h e

      by : (t : Bool) → in_four hash_data o ≡ t → (s.device.launch.sequence && t && leb 1048576 s.device.launch.stream.count) ≡ false
      by true e = on k e
      by false e = off s.device.launch.sequence
        where
          off : (t : Bool) → (t && false && leb 1048576 s.device.launch.stream.count) ≡ false
          off true = refl
          off false = refl

  write_value : (o v : ℕ) → refusal_of (write o v) s ≡ cond (leb o 0x4fff) (cond (overlong s.device o) 7 0) 1
  write_value o v = by (write_case s.device s.write_fifo s.read_fifo o v)
    where
      -- the offset is one of the five pages'
      below : bus_refusal_of s.device s.write_fifo s.read_fifo o ≡ None → leb o 0x4fff ≡ true
      below e = le-leb o 0x4fff (bus_then _ _ o e).1

      above : {n : ℕ} → n ≡ cond (leb o 0x4fff) 0 1 → (n ≡ accepted → ⊥) → n ≡ cond (leb o 0x4fff) (cond (overlong s.device o) 7 0) 1
      above {n} e f = on (leb o 0x4fff) e
        where
          on : (t : Bool) → n ≡ cond t 0 1 → n ≡ cond t (cond (overlong s.device o) 7 0) 1
          on true e = absurd (f e)
          on false e = e

      by : {t : Result} → WriteCase s.device s.write_fifo s.read_fifo o v t → number_of t.refusal ≡ cond (leb o 0x4fff) (cond (overlong s.device o) 7 0) 1
      by (bus.refused {n = n} e f) = above (ap number_of e ∙ bus_value o) (number_refused n f)
      by (bus.overlong e g i l) = rw (below e, sequence_then o s.device.launch.sequence g, i, le-leb 1048576 s.device.launch.stream.count l) refl
      by (bus.accepts e k) = rw (below e, in_limit k) refl

  read_value : (o : ℕ) → refusal_of (read o) s ≡ cond (leb o 0x4fff) 0 1
  read_value o = by (read_case s.device s.write_fifo s.read_fifo o)
    where
      by : {t : ReadOutcome} → ReadCase s.device s.write_fifo s.read_fifo o t → number_of t.refusal ≡ cond (leb o 0x4fff) 0 1
      by (bus.refused e f) = ap number_of e ∙ bus_value o
      by (bus.stays e i b) = sym (ap number_of e) ∙ bus_value o
      by (bus.moves e i f) = sym (ap number_of e) ∙ bus_value o
      by (bus.misses e i f) = sym (ap number_of e) ∙ bus_value o

  answer_value : (run : ℕ) (a : List ℕ) → number_of (answer_refusal_of s.device s.write_fifo s.read_fifo run a) ≡ refusal_in c s.device (respond run a)
  unfolding answer_refusal
  answer_value run a =
      rw (lent_none, write_length h.boxed, running_is s.device.phase)
      (by (executes s.device.phase && eqb s.device.control.run run) (leb 10 (length a)) refl (leb (length a) c) refl)
    where
      by : (r t : Bool) → leb 10 (length a) ≡ t → (u : Bool) → leb (length a) c ≡ u
          → number_of (cond (not r) (Some Run) (cond (ltb (length a) 10 || ltb c (length a)) (Some AnswerLength) None)) ≡ (cond r (cond (t && u) 0 4) 3)
      by false t i u j = refl
      by true true i true j = rw (le-ltb (length a) 10 (leb-true 10 (length a) i), le-ltb c (length a) (leb-true (length a) c j)) refl
      by true true i false j = rw (le-ltb (length a) 10 (leb-true 10 (length a) i), lt-ltb c (length a) (leb-false (length a) c j)) refl
      by true false i u j = rw (lt-ltb (length a) 10 (leb-false 10 (length a) i)) refl

  respond_value : (run : ℕ) (a : List ℕ) → refusal_of (respond run a) s ≡ refusal_in c s.device (respond run a)
  respond_value run a = by (respond_case s.device s.write_fifo s.read_fifo run a)
    where
      by : {t : Result} → RespondCase s.device s.write_fifo s.read_fifo run a t → number_of t.refusal ≡ refusal_in c s.device (respond run a)
      by (engine.refused e f) = ap number_of e ∙ answer_value run a
      by (engine.completes e) = sym (ap number_of e) ∙ answer_value run a

  asked : (i : ℕ) → refusal_of (pcr_value i) s ≡ number_of (pcr_refusal_of s.device i)
  unfolding query.pcr_value
  asked i = by (accepts (pcr_refusal_of s.device i)) refl
    where
      by : (t : Bool) → accepts (pcr_refusal_of s.device i) ≡ t
          → number_of (cond t (query.pcr_outcome None (value_at s.device.pcrs i)) (query.pcr_outcome (pcr_refusal_of s.device i) (all_bytes 0))).refusal ≡ number_of (pcr_refusal_of s.device i)
      by true e = ap number_of (sym (accepts_true (pcr_refusal_of s.device i) e))
      by false e = refl

  -- "6, then 5 where a record is asked": a record in shape for c is in shape for the greatest C
  pcr_value_lem : (i : ℕ) → number_of (pcr_refusal_of s.device i) ≡ cond (leb i 23) 0 5
  unfolding pcr_refusal
  pcr_value_lem i = rw (shaped fifo_greatest h.greatest) (by (leb i 23) refl)
    where
      by : (t : Bool) → leb i 23 ≡ t → number_of (cond (leb pcrs i) (Some Question) None) ≡ cond t 0 5
      by true e = rw (lt-leb pcrs i (omega (arith, leb-true i 23 e))) refl
      by false e = rw (le-leb pcrs i (omega (arith, leb-false i 23 e))) refl

  permission_value : (rule : ℕ → ℕ → Bool) (i x : ℕ) → number_of (permission rule i x).refusal ≡ cond (leb i 23 && leb x 4) 0 5
  unfolding permission
  permission_value rule i x = by (leb i 23) refl (leb x 4) refl
    where
      by : (t : Bool) → leb i 23 ≡ t → (u : Bool) → leb x 4 ≡ u → number_of (cond (leb pcrs i || leb localities x) table.refused (table.given (rule i x))).refusal ≡ cond (t && u) 0 5
      by true e true f = rw (lt-leb pcrs i (omega (arith, leb-true i 23 e)), lt-leb localities x (omega (arith, leb-true x 4 f))) refl
      by true e false f = rw (lt-leb pcrs i (omega (arith, leb-true i 23 e)), le-leb localities x (omega (arith, leb-false x 4 f))) refl
      by false e u f = rw (le-leb pcrs i (omega (arith, leb-false i 23 e))) refl

  power_value : (established : Bool) (identity : List ℕ) → refusal_of (power_on established identity) s ≡ accepted
  power_value established identity = by (power_case established identity s.write_fifo s.read_fifo)
    where
      by : {t : Result} → PowerCase established identity s.write_fifo s.read_fifo t → number_of t.refusal ≡ accepted
      by (power.refused e) = absurd (true≢false (sym (lengths_allowed_lem s.write_fifo s.read_fifo h.least h.greatest (write_length h.boxed) (read_length h.boxed)) ∙ e))
      by (power.powered e) = refl

  reset_value : refusal_of reset s ≡ accepted
  reset_value = by (reset_case s.device s.write_fifo s.read_fifo)
    where
      by : {t : Result} → ResetCase s.device s.write_fifo s.read_fifo t → number_of t.refusal ≡ accepted
      by (power.refused e f) = absurd (f (e ∙ lent_none))
      by (power.anew e) = refl

  refusals : (k : Call) → refusal_of k s ≡ refusal_in c s.device k
  refusals (power_on e i) = power_value e i
  refusals reset = reset_value
  refusals (read o) = read_value o
  refusals (write o v) = write_value o v
  refusals (respond run a) = respond_value run a
  refusals (pcr_value i) = asked i ∙ pcr_value_lem i
  refusals interrupt_line = refl
  refusals (may_reset i x) = permission_value table.may_reset i x
  refusals (may_extend i x) = permission_value table.may_extend i x
  refusals window = ap number_of lent_none

  -- 2 and 6 are not among the numbers
  never : (k : Call) → Neither (refusal_in c s.device k)
  never (power_on e i) = no 0 refl
  never reset = no 0 refl
  never (read o) = choice (leb o 0x4fff) (no 0 refl) (no 1 refl)
  never (write o v) = choice (leb o 0x4fff) (choice (overlong s.device o) (no 7 refl) (no 0 refl)) (no 1 refl)
  never (respond run a) = choice (running s.device.phase && eqb s.device.control.run run) (choice (leb 10 (length a) && leb (length a) c) (no 0 refl) (no 4 refl)) (no 3 refl)
  never (pcr_value i) = choice (leb i 23) (no 0 refl) (no 5 refl)
  never interrupt_line = no 0 refl
  never (may_reset i x) = choice (leb i 23 && leb x 4) (no 0 refl) (no 5 refl)
  never (may_extend i x) = choice (leb i 23 && leb x 4) (no 0 refl) (no 5 refl)
  never window = no 0 refl

  pub works : Works c s
  works = record {
    least = h.least;
    greatest = h.greatest;
    write_fifo = write_length h.boxed;
    read_fifo = read_length h.boxed;
    shaped = shaped c (omega arith);
    refusals = refusals;
    never2 = λ k e. (never k).0 (sym (refusals k) ∙ e);
    never6 = λ k e. (never k).1 (sym (refusals k) ∙ e);
  }

-- ---- lists

pub all_placed : (c : ℕ) (m : Model) (q : Mail) (s : State) (cs : List Call) → Kept c m q s → Placed s.device → Placed (after s cs).device
unfolding after
all_placed c m q s [] h p = p
all_placed c m q s (k ∷ ks) h p =
    all_placed c (step m (happens k s)) _ (left k s) ks (one_kept c m q s h k)
    (one_placed (call_case k s) (arbitrates s.device.control.arbiter s.device.launch.sequence h.book h.sound).opened p)

-- ---- starts and ends of a launch are accepted

pub launch_accepted : {c : ℕ} {s : State} → Works c s → (o v : ℕ) → (in_four hash_start o || in_four hash_end o) ≡ true → refusal_of (write o v) s ≡ accepted
launch_accepted {c} {s} w o v e = w.refusals (write o v) ∙ by (in_four hash_start o) refl (in_four hash_end o) refl e
  where
    -- an offset of the five pages that is not hash data
    at : o ≤ 0x4fff → in_four hash_data o ≡ false → cond (leb o 0x4fff) (cond (overlong s.device o) 7 0) 1 ≡ accepted
    at l i = rw (le-leb o 0x4fff l, i) (on s.device.launch.sequence)
      where
        on : (t : Bool) → cond (t && false && leb 1048576 s.device.launch.stream.count) 7 0 ≡ accepted
        on true = refl
        on false = refl

    by : (t : Bool) → in_four hash_start o ≡ t → (u : Bool) → in_four hash_end o ≡ u → (t || u) ≡ true → cond (leb o 0x4fff) (cond (overlong s.device o) 7 0) 1 ≡ accepted
    by true i u j q = let k : _ = within_then hash_start (hash_start + 3) o i in at (omega arith) (not_within hash_data (hash_data + 3) o (λ l m. omega arith))
    by false i true j q = let k : _ = within_then hash_end (hash_end + 3) o j in at (omega arith) (not_within hash_data (hash_data + 3) o (λ l m. omega arith))
    by false i false j q = absurd (true≢false (sym q))

-- ---- after a refused power-on

-- lengths that are not allowed
module _ (s : State) (e : lengths_allowed (lengths_of s.write_fifo s.read_fifo) ≡ false) where
  lent_2 : lent_refusal_of s.device s.write_fifo s.read_fifo ≡ Some FifoLength
  unfolding lent_refusal
  lent_2 = rw e refl

  bus_2 : (o : ℕ) → bus_refusal_of s.device s.write_fifo s.read_fifo o ≡ Some FifoLength
  bus_2 o = bus_lent _ _ o FifoLength lent_2

  answer_2 : (run : ℕ) (a : List ℕ) → answer_refusal_of s.device s.write_fifo s.read_fifo run a ≡ Some FifoLength
  answer_2 run a = answer_lent _ _ _ _ _ FifoLength lent_2

  -- such a call is refused as 2
  refused_2 : (k : Call) → is_lent k ≡ true → refusal_of k s ≡ 2
  refused_2 (power_on x i) t = by (power_case x i s.write_fifo s.read_fifo)
    where
      by : {u : Result} → PowerCase x i s.write_fifo s.read_fifo u → number_of u.refusal ≡ 2
      by (power.refused q) = refl
      by (power.powered q) = absurd (true≢false (sym q ∙ e))
  refused_2 reset t = by (reset_case s.device s.write_fifo s.read_fifo)
    where
      by : {u : Result} → ResetCase s.device s.write_fifo s.read_fifo u → number_of u.refusal ≡ 2
      by (power.refused q f) = ap number_of (q ∙ lent_2)
      by (power.anew q) = ap number_of (sym q ∙ lent_2)
  refused_2 (read o) t = by (read_case s.device s.write_fifo s.read_fifo o)
    where
      by : {u : ReadOutcome} → ReadCase s.device s.write_fifo s.read_fifo o u → number_of u.refusal ≡ 2
      by (bus.refused q f) = ap number_of (q ∙ bus_2 o)
      by (bus.stays q i b) = ap number_of (sym q ∙ bus_2 o)
      by (bus.moves q i f) = ap number_of (sym q ∙ bus_2 o)
      by (bus.misses q i f) = ap number_of (sym q ∙ bus_2 o)
  refused_2 (write o v) t = by (write_case s.device s.write_fifo s.read_fifo o v)
    where
      by : {u : Result} → WriteCase s.device s.write_fifo s.read_fifo o v u → number_of u.refusal ≡ 2
      by (bus.refused q f) = ap number_of (q ∙ bus_2 o)
      by (bus.overlong q f i l) = absurd (some_refused FifoLength (sym (bus_2 o) ∙ q))
      by (bus.accepts q k) = ap number_of (sym q ∙ bus_2 o)
  refused_2 (respond run a) t = by (respond_case s.device s.write_fifo s.read_fifo run a)
    where
      by : {u : Result} → RespondCase s.device s.write_fifo s.read_fifo run a u → number_of u.refusal ≡ 2
      by (engine.refused q f) = ap number_of (q ∙ answer_2 run a)
      by (engine.completes q) = ap number_of (sym q ∙ answer_2 run a)
  refused_2 (pcr_value i) t = absurd (true≢false (sym t))
  refused_2 interrupt_line t = absurd (true≢false (sym t))
  refused_2 (may_reset i x) t = absurd (true≢false (sym t))
  refused_2 (may_extend i x) t = absurd (true≢false (sym t))
  refused_2 window t = ap number_of lent_2

  refuses : (k : Call) → is_lent k ≡ true → Refuses k s
  refuses k t z = let q : ◌≡◌ {A = ℕ} 2 0 = sym (refused_2 k t) ∙ z in omega arith

  -- and leaves all but what a power-on gives
  halted_left : (k : Call) → left k s ≡ state (powered_by (entry_of k (refusal_of k s)) s.device) s.write_fifo s.read_fifo
  halted_left (power_on x i) = refusals_change_nothing.power_on x i s (refuses (power_on x i) refl)
  halted_left reset = rw (refused_2 reset refl) (refusals_change_nothing.unchanged reset s refl (refuses reset refl))
  halted_left (read o) = rw (refused_2 (read o) refl) (refusals_change_nothing.unchanged (read o) s refl (refuses (read o) refl))
  halted_left (write o v) = rw (refused_2 (write o v) refl) (refusals_change_nothing.unchanged (write o v) s refl (refuses (write o v) refl))
  halted_left (respond run a) = rw (refused_2 (respond run a) refl) (refusals_change_nothing.unchanged (respond run a) s refl (refuses (respond run a) refl))
  halted_left (pcr_value i) = refl
  halted_left interrupt_line = refl
  halted_left (may_reset i x) = refl
  halted_left (may_extend i x) = refl
  halted_left window = refl

all_halted : (d : Device) (w r : List ℕ) → lengths_allowed (lengths_of w r) ≡ false → (cs : List Call) → after (state d w r) cs ≡ state (last_powered d (heard (state d w r) cs)) w r
unfolding after heard last_powered
all_halted d w r e [] = refl
all_halted d w r e (k ∷ ks) = rw (halted_left (state d w r) e k) (all_halted (powered_by (entry_of k (refusal_of k (state d w r))) d) w r e ks)

refused_lengths : (w r : List ℕ) → lengths_allowed (lengths_of w r) ≡ false → (leb fifo_least (length w) && leb (length w) fifo_greatest && eqb (length w) (length r)) ≡ false
unfolding lengths_allowed
refused_lengths w r e = e

-- ---- the claim

pub progress : ProgressClaim
unfolding after heard last_powered
progress s e i cs = record { works = working; halts = halted }
  where
    t : State
    t = left (power_on e i) s

    working : refusal_of (power_on e i) s ≡ accepted → Works (length s.write_fifo) (after t cs)
    working z =
        let c : ℕ = length s.write_fifo in
        let k : _ = first_kept s e i z in
        works (after t cs) (all_kept c fresh (mail idle 0) t cs k) (all_placed c fresh (mail idle 0) t cs k (power_placed (power_case e i s.write_fifo s.read_fifo)))

    short : (refusal_of (power_on e i) s ≡ accepted → ⊥) → lengths_allowed (lengths_of s.write_fifo s.read_fifo) ≡ false
    short f = by (power_case e i s.write_fifo s.read_fifo) f
      where
        by : {u : Result} → PowerCase e i s.write_fifo s.read_fifo u → (number_of u.refusal ≡ accepted → ⊥) → lengths_allowed (lengths_of s.write_fifo s.read_fifo) ≡ false
        by (power.refused q) f = q
        by (power.powered q) f = absurd (f refl)

    halted : (refusal_of (power_on e i) s ≡ accepted → ⊥) → Halts s (heard s (power_on e i ∷ cs)) (after t cs)
    halted f =
        let q : _ = short f in
        let k : after s (power_on e i ∷ cs) ≡ state (last_powered s.device (heard s (power_on e i ∷ cs))) s.write_fifo s.read_fifo = all_halted s.device s.write_fifo s.read_fifo q (power_on e i ∷ cs) in
        record {
          lengths = refused_lengths s.write_fifo s.read_fifo q;
          device = ap (λ (z : State). z.device) k;
          write_fifo = ap (λ (z : State). z.write_fifo) k;
          read_fifo = ap (λ (z : State). z.read_fifo) k;
          refuses = rw k (refused_2 (state (last_powered s.device (heard s (power_on e i ∷ cs))) s.write_fifo s.read_fifo) q);
        }

-- what `Launch` has, and that starts and ends are accepted
pub launch_claim : LaunchClaim
launch_claim s e i cs = record { launched = launches s e i cs; accepts = λ z. launch_accepted ((progress s e i cs).works z) }
