-- Each call keeps the mailbox: phase, run number and FIFOs that it leaves are those of the mailbox's step. Assumes nothing.
use mathlib.Core.Path.{◌≡◌, refl, sym, ap, ◌∙◌}
use mathlib.Core.Bool.{Bool, true, false, cond, not, ◌&&◌, true≢false}
use mathlib.Core.List.{List, [], ◌∷◌}
use Prim.Native.Nat.{ℕ, ◌+◌, ◌-◌, ◌≤◌}
use native.Mathlib.Omega.{arith}
use lib.ListN.{length, replicate}
use lib.Dec.{ltb}
use borrow.Author.Tests.{eq-eqb, ne_eqb, ltb-true, ltb-false, le-leb}
use Rattle.std.specs.Prelude.{None}
use Rattle.refusal.specs.Refusal.{accepted, number_of}
use Rattle.reg_layout.specs.Offsets.{in_four, page_of, place_of, last_offset, access, int_enable, int_status, sts, data_fifo, hash_start, hash_end}
use Rattle.reg_layout.proofs.Within.{not_within, within_then}
use Rattle.bits.proofs.TestLaws.{neither}
use Rattle.arbiter.specs.State.{holds}
use Rattle.arbiter.specs.Rules as rule
use Rattle.arbiter.specs.Rules.{write_access}
use Rattle.arbiter.specs.Agreement.{Agrees, holder}
use Rattle.arbiter.specs.declared.Arbiter.{Arbiter}
use Rattle.arbiter.specs.declared.Locality.{Locality}
use Rattle.std.specs.Prelude.{Option, Some, None}
use Rattle.arbiter_model.specs.Model as model
use Rattle.arbiter_model.specs.Model.{Model, Holder, access_event, is_access, write_event, ignores_page, step, fresh}
use Rattle.arbiter_model.specs.Waits.{run}
use Rattle.arbiter_model.proofs.ModelLaws.{access_elim}
use Rattle.arbiter_model.proofs.Invariant.{Sound, sound_fresh}
use Rattle.record.specs.Limits.{fifo_least, fifo_greatest}
use Rattle.record.specs.Record.{fresh_device}
use Rattle.record.specs.declared.Device.{Device}
use Rattle.record.specs.declared.Interrupts.{Interrupts}
use Rattle.record.specs.declared.Phase.{Phase}
use Rattle.record.specs.declared.Phase.TheVariants.{Idle, Completion}
use Rattle.record_shape.specs.Shape.{lengths_of, lengths_allowed}
use Rattle.record_shape.proofs.Clauses.{allowed}
use Rattle.reg_map.proofs.MapLaws.{Inert, fifo_apart}
use Rattle.reg_fifo.specs.Fifo.{clear_fifo, put_answer, update_write_fifo, update_read_fifo, after_read}
use Rattle.reg_sts_read.specs.Size.{declared_size}
use Rattle.reg_sts_write.specs.Completion.{bad_size}
use Rattle.reg_sts_write.specs.Sts.{sts_command, commanded_by, write_data_fifo}
use Rattle.reg_sts_write.specs.declared.Commanded.{Commanded}
use Rattle.bus_resolve.specs.Resolve.{page_at}
use Rattle.bus_resolve.proofs.Cases.{Unhashed, hash_page}
use Rattle.call_admission.specs.Refusals.{answer_refusal_of}
use Rattle.call_admission.proofs.RefusalLaws.{answer_then}
use Rattle.call_outcome.specs.Result.{Result}
use Rattle.call_power.proofs.Cases as power
use Rattle.call_power.proofs.Cases.{PowerCase, power_case}
use Rattle.call_bus.proofs.Cases.{owner, Sets, enables, clears, Orders, bit, nothing, byte, Writes, starts, ends, joins, ignores, aborts, keeps, sets, commands, Ignores, late_start, late_end, page_ignored, missed, register_ignored}
use Rattle.claims.specs.Calls.{Call, power_on, State, refusal_of, left, after, heard}
use Rattle.claims.specs.Events.{read_at, entry_of, happens, events}
use Rattle.claims.specs.Demand3.{Keeps}
use Rattle.claims.specs.Mailbox as mailbox
use Rattle.claims.specs.Mailbox.{Mailbox, idle, ready, receiving, executing, answering, Mail, mail, after_sts, after_byte, after_fetch, is_active, by_active, is_sts_command, is_fifo, mail_written, mail_step, mail_from, phase_of, command_of, answer_of, padded, MailboxClaim}
use Rattle.claims.proofs.Padded.{length_padded, clear_padded, put_padded}
use Rattle.claims.proofs.Orders.{Fits, command_fits, answer_fits, Boxed, order_leaves, store_leaves}
use Rattle.claims.proofs.CallCases.{CallCase, same, powers, resets, looks, reads, writes, responds, left_by, call_case}
use Rattle.claims.proofs.Access.{change_same}
use Rattle.claims.proofs.Book.{start_event, end_event, access_event_lem, other_event, data_page, page_same, power_keeps, one_call, sound_call}
use Rattle.claims.proofs.Launch.{counts_same}

-- ---- who may command

pub active_same : {m : Model} {b : Arbiter} {q : Bool} (o : ℕ) → Agrees m b q → is_active m.active (page_of o) ≡ holds b.active (page_at o)
active_same {b = b} o a = ap (λ (h : Holder). is_active h (page_of o)) a.active ∙ by b.active
  where
    by : (w : Option Locality) → is_active (holder w) (page_of o) ≡ holds w (page_at o)
    by None = refl
    by (Some y) = refl

-- a test joined with one that fails
and_false : (t : Bool) {u : Bool} → u ≡ false → (t && u) ≡ false
and_false true e = e
and_false false e = refl

-- the page is ignored; or it is not, and may be the active locality's
pub page_off : {m : Model} {b : Arbiter} {q : Bool} (o : ℕ) → Agrees m b q → hash_page o q ≡ true → by_active m o ≡ false
page_off {m} o a h = and_false (is_active m.active (page_of o)) (ap not (page_same o a ∙ h))

pub page_on : {m : Model} {b : Arbiter} {q t : Bool} (o : ℕ) → Agrees m b q → hash_page o q ≡ false → holds b.active (page_at o) ≡ t → by_active m o ≡ t
page_on {t = t} o a h e = rw (active_same o a ∙ e, page_same o a ∙ h) (by t)
  where
    by : (t : Bool) → (t && true) ≡ t
    by true = refl
    by false = refl

-- ---- who aborts

-- in a page that is ignored nothing does
page_abort : (m : Model) (o v : ℕ) → Unhashed o → ignores_page m (page_of o) ≡ true → mailbox.aborts m (write_event o v) ≡ false
page_abort m o v u h = rw (u.start, u.end) (by (is_access o))
  where
    by : (t : Bool) → mailbox.aborts m (cond t (access_event (page_of o) v) model.nothing) ≡ false
    by true = access_elim (λ e. mailbox.aborts m e ≡ false) (page_of o) v (λ a. rw h refl) refl
    by false = refl

-- ---- which register

-- a cycle that is neither at STS nor at the FIFO
pub record Elsewhere (o : ℕ) : Type 0 where
  pub no_sts : is_sts_command o ≡ false
  pub no_fifo : is_fifo o ≡ false

elsewhere : (o : ℕ) → (place_of o ≡ 0x18 → ⊥) → (0x24 ≤ place_of o → place_of o ≤ 0x27 → ⊥) → Elsewhere o
elsewhere o f g = record { no_sts = ne_eqb (place_of o) 0x18 f; no_fifo = not_within 0x24 0x27 (place_of o) g }

pub at_hash_start : (o : ℕ) → in_four hash_start o ≡ true → Elsewhere o
at_hash_start o i = let k : _ = within_then hash_start (hash_start + 3) o i in elsewhere o (λ e. omega arith) (λ l m. omega arith)

pub at_hash_end : (o : ℕ) → in_four hash_end o ≡ true → Elsewhere o
at_hash_end o i = let k : _ = within_then hash_end (hash_end + 3) o i in elsewhere o (λ e. omega arith) (λ l m. omega arith)

pub at_access : (o : ℕ) → place_of o ≡ access → Elsewhere o
at_access o e = elsewhere o (λ i. omega arith) (λ l m. omega arith)

at_interrupts : (o v : ℕ) {i j : Interrupts} → Sets o v i j → Elsewhere o
at_interrupts o v (enables e) = let k : _ = within_then int_enable (int_enable + 3) (place_of o) e in elsewhere o (λ i. omega arith) (λ l m. omega arith)
at_interrupts o v (clears e) = let k : _ = within_then int_status (int_status + 3) (place_of o) e in elsewhere o (λ i. omega arith) (λ l m. omega arith)

at_inert : (o : ℕ) → Inert (place_of o) → Elsewhere o
at_inert o i = record { no_sts = i.no_command; no_fifo = i.no_fifo }

-- ---- what a write is to the mailbox

module _ (c : ℕ) (m : Model) (q : Mail) (o v : ℕ) where
  aborted : mailbox.aborts m (write_event o v) ≡ true → mail_written c m q o v ≡ mail idle q.run
  aborted e = rw e refl

  -- not by the active locality, or elsewhere
  unmoved : mailbox.aborts m (write_event o v) ≡ false → by_active m o ≡ false → mail_written c m q o v ≡ q
  unmoved e f = rw (e, f) refl

  apart : mailbox.aborts m (write_event o v) ≡ false → Elsewhere o → mail_written c m q o v ≡ q
  apart e f = rw (e, f.no_sts, f.no_fifo) (by (by_active m o))
    where
      by : (t : Bool) → cond (t && false) (after_sts c v q) (cond (t && false) (mail (after_byte c v q.box) q.run) q) ≡ q
      by true = refl
      by false = refl

  at_sts : mailbox.aborts m (write_event o v) ≡ false → by_active m o ≡ true → place_of o ≡ sts → mail_written c m q o v ≡ after_sts c v q
  at_sts e f g = rw (e, f, eq-eqb (place_of o) 0x18 g) refl

  at_fifo : mailbox.aborts m (write_event o v) ≡ false → by_active m o ≡ true → in_four data_fifo (place_of o) ≡ true → mail_written c m q o v ≡ mail (after_byte c v q.box) q.run
  at_fifo e f g =
      let k : _ = within_then data_fifo (data_fifo + 3) (place_of o) g in
      rw (e, f, ne_eqb (place_of o) 0x18 (λ i. omega arith), g) refl

-- ---- each call

-- of a record and FIFOs
abbrev pub Has : ℕ → Mail → Device → List ℕ → List ℕ → Type 0
Has c q d w r = Boxed c q d.phase d.control.run w r

module _ {c : ℕ} {q : Mail} {p : Phase} {n : ℕ} {w r : List ℕ} (b : Boxed c q p n w r) where
  pub write_length : length w ≡ c
  write_length = ap (λ (l : List ℕ). length l) b.write_fifo ∙ length_padded c (command_of q.box) (command_fits c q.box b.fits)

  pub read_length : length r ≡ c
  read_length = ap (λ (l : List ℕ). length l) b.read_fifo ∙ length_padded c (answer_of q.box) (answer_fits c q.box b.fits)

  cleared : (k : ℕ) → Boxed c (mail idle k) Idle k (clear_fifo w) (clear_fifo r)
  cleared k = record {
    phase = refl;
    number = refl;
    write_fifo = ap clear_fifo b.write_fifo ∙ clear_padded c (command_of q.box) (command_fits c q.box b.fits);
    read_fifo = ap clear_fifo b.read_fifo ∙ clear_padded c (answer_of q.box) (answer_fits c q.box b.fits);
    fits = tt;
  }

  idle_left : Boxed c (mail idle q.run) Idle n (clear_fifo w) (clear_fifo r)
  idle_left = rw b.number (cleared q.run)

  module _ (l : fifo_least ≤ c) (v : ℕ) where
    -- what a command leaves
    abbrev Commands : Mail → Commanded → Type 0
    Commands q' k = Boxed c q' k.phase k.run (update_write_fifo k.fifos v w) (update_read_fifo k.fifos bad_size r)

    by_order : Commands (after_sts c v q) (commanded_by (sts_command v) p n (declared_size w) (length w))
    by_order = rw (b.phase, b.number, b.write_fifo, b.read_fifo) (order_leaves c l q.box q.run v b.fits)

    by_byte : Commands (mail (after_byte c v q.box) q.run) (write_data_fifo p n (declared_size w) (length w))
    by_byte = rw (b.phase, b.number, b.write_fifo, b.read_fifo) (store_leaves c l q.box q.run v b.fits)

-- read on
fetch_boxed : {c : ℕ} {q : Mail} {p : Phase} {n : ℕ} {w r : List ℕ} → Boxed c q p n w r → Boxed c (mail (after_fetch q.box) q.run) (after_read p) n w r
fetch_boxed {c} {q} {p} {n} {w} {r} b = rw (b.phase, b.number, b.write_fifo, b.read_fifo) (by q.box b.fits)
  where
    by : (x : Mailbox) → Fits c x → Boxed c (mail (after_fetch x) q.run) (after_read (phase_of x)) q.run (padded c (command_of x)) (padded c (answer_of x))
    by idle f = record { phase = refl; number = refl; write_fifo = refl; read_fifo = refl; fits = f }
    by ready f = record { phase = refl; number = refl; write_fifo = refl; read_fifo = refl; fits = f }
    by (receiving bs) f = record { phase = refl; number = refl; write_fifo = refl; read_fifo = refl; fits = f }
    by (executing bs) f = record { phase = refl; number = refl; write_fifo = refl; read_fifo = refl; fits = f }
    by (answering a k) f = on (ltb k (length a)) refl
      where
        on : (t : Bool) → ltb k (length a) ≡ t
            → Boxed c (mail (cond t (answering a (k + 1)) (answering a k)) q.run) (cond t (Completion (length a) (k + 1)) (Completion (length a) k)) q.run (padded c []) (padded c a)
        on true e = record { phase = refl; number = refl; write_fifo = refl; read_fifo = refl; fits = (f.0, f.1, omega (arith, ltb-true k (length a) e)) }
        on false e = record { phase = refl; number = refl; write_fifo = refl; read_fifo = refl; fits = f }

module _ (c : ℕ) (l : fifo_least ≤ c) (m : Model) (q : Mail) (d : Device) (w r : List ℕ) (o v : ℕ) (a : Agrees m d.control.arbiter d.launch.sequence) (b : Has c q d w r) where
  abbrev Left : Device → List ℕ → List ℕ → Type 0
  Left d' w' r' = Has c (mail_written c m q o v) d' w' r'

  other : Unhashed o → (place_of o ≡ access → ⊥) → mailbox.aborts m (write_event o v) ≡ false
  other u n = ap (mailbox.aborts m) (other_event o v u n)

  at_start : {t : Bool} → in_four hash_start o ≡ true → rule.start_counts (owner d) ≡ t → mailbox.aborts m (write_event o v) ≡ t
  at_start i j = ap (mailbox.aborts m) (start_event o v i) ∙ counts_same a ∙ j

  at_end : {t : Bool} → in_four hash_start o ≡ false → in_four hash_end o ≡ true → d.launch.sequence ≡ t → mailbox.aborts m (write_event o v) ≡ t
  at_end i j e = ap (mailbox.aborts m) (end_event o v i j) ∙ a.sequence_open ∙ e

  accessed_same : o ≤ last_offset → Unhashed o → hash_page o d.launch.sequence ≡ false → place_of o ≡ access → mailbox.aborts m (write_event o v) ≡ (write_access d.control.arbiter (page_at o) v).abort
  accessed_same g u h e = ap (mailbox.aborts m) (access_event_lem o v u g e) ∙ (change_same (page_of o) a (page_same o a ∙ h) v).0

  ignored : Ignores d o → Left d w r
  ignored (late_start i j) = rw (apart c m q o v (at_start i j) (at_hash_start o i)) b
  ignored (late_end i j e) = rw (apart c m q o v (at_end i j e) (at_hash_end o j)) b
  ignored (page_ignored u h i) = rw (unmoved c m q o v (page_abort m o v u (page_same o a ∙ h)) (page_off o a h)) b
  ignored (missed u h n e) = rw (unmoved c m q o v (other u n) (page_on o a h e)) b
  ignored (register_ignored u h n i) = rw (apart c m q o v (other u n) (at_inert o i)) b

  order_boxed : Unhashed o → hash_page o d.launch.sequence ≡ false → (place_of o ≡ access → ⊥) → holds (owner d) (page_at o) ≡ true → {k : Commanded}
      → Orders o v d.control.run (declared_size w) (length w) d.phase k → Commands b l v (mail_written c m q o v) k
  order_boxed u h n e (bit i) = rw (at_sts c m q o v (other u n) (page_on o a h e) i) (by_order b l v)
  order_boxed u h n e (nothing i j) = rw (apart c m q o v (other u n) (record { no_sts = ne_eqb (place_of o) 0x18 i; no_fifo = fifo_apart sts (sts + 2) (place_of o) j (omega arith) })) b
  order_boxed u h n e (byte i) = rw (at_fifo c m q o v (other u n) (page_on o a h e) i) (by_byte b l v)

  write_boxed : {d' : Device} {w' r' : List ℕ} → Writes d w r o v d' w' r' → Left d' w' r'
  write_boxed (starts i j) = rw (aborted c m q o v (at_start i j)) (idle_left b)
  write_boxed (ends i j e) = rw (aborted c m q o v (at_end i j e)) (idle_left b)
  write_boxed (joins u h i k) = rw (unmoved c m q o v (other u (data_page o i).1) (page_off o a h)) b
  write_boxed (ignores i) = ignored i
  write_boxed (aborts g u h e i) = rw (aborted c m q o v (accessed_same g u h e ∙ i)) (idle_left b)
  write_boxed (keeps g u h e i) = rw (apart c m q o v (accessed_same g u h e ∙ i) (at_access o e)) b
  write_boxed (sets u h n e s t) = rw (apart c m q o v (other u n) (at_interrupts o v t)) b
  write_boxed (commands u h n e k t z) = order_boxed u h n e z

-- an accepted power-on or reset
fresh_boxed : {c : ℕ} {q : Mail} {p : Phase} {n : ℕ} {w r : List ℕ} → Boxed c q p n w r → (established : Bool) (identity : List ℕ) (k : ℕ)
    → Has c (mail idle k) (fresh_device established identity k) (clear_fifo w) (clear_fifo r)
unfolding fresh_device
fresh_boxed b established identity k = cleared b k

pub lengths_allowed_lem : {c : ℕ} (w r : List ℕ) → fifo_least ≤ c → c ≤ fifo_greatest → length w ≡ c → length r ≡ c → lengths_allowed (lengths_of w r) ≡ true
unfolding lengths_allowed
lengths_allowed_lem {c} w r l g e f = rw (e, f, le-leb fifo_least c l, le-leb c fifo_greatest g, eq-eqb c c refl) refl

module _ (c : ℕ) (l : fifo_least ≤ c) (g : c ≤ fifo_greatest) (m : Model) (q : Mail) (s : State) (a : Keeps m s.device) (b : Has c q s.device s.write_fifo s.read_fifo) where
  powered : {established : Bool} {identity : List ℕ} {t : Result} → PowerCase established identity s.write_fifo s.read_fifo t → Has c (mail idle 0) t.device t.write_fifo t.read_fifo
  powered (power.refused e) = absurd (true≢false (sym (lengths_allowed_lem s.write_fifo s.read_fifo l g (write_length b) (read_length b)) ∙ e))
  powered (power.powered e) = fresh_boxed b _ _ 0

  looked : (o : ℕ) → (in_four data_fifo (place_of o) ≡ true → holds (owner s.device) (page_at o) ≡ false) → mail_step c m q (read_at o) ≡ q
  looked o h = by (is_fifo o) refl
    where
      by : (t : Bool) → is_fifo o ≡ t → cond (is_active m.active (page_of o) && t) (mail (after_fetch q.box) q.run) q ≡ q
      by true e = rw (active_same o a ∙ h e) refl
      by false e = rw (and_false (is_active m.active (page_of o)) refl) refl

  fetched_is : (o : ℕ) → in_four data_fifo (place_of o) ≡ true → holds (owner s.device) (page_at o) ≡ true → mail_step c m q (read_at o) ≡ mail (after_fetch q.box) q.run
  fetched_is o i h = rw (active_same o a ∙ h, i) refl

  -- an accepted answer has 10 to c bytes
  answer_boxed : (run : ℕ) (x : List ℕ) → answer_refusal_of s.device s.write_fifo s.read_fifo run x ≡ None
      → Boxed c (mail (answering x 0) q.run) (Completion (length x) 0) s.device.control.run (clear_fifo s.write_fifo) (put_answer x s.read_fifo)
  answer_boxed run x e =
      let k : _ = neither (ltb (length x) 10) (ltb (length s.write_fifo) (length x)) (answer_then _ _ _ _ _ e).2 in
      let t : Boxed c (mail idle 0) Idle 0 (clear_fifo s.write_fifo) (clear_fifo s.read_fifo) = cleared b 0 in
      record {
        phase = refl;
        number = b.number;
        write_fifo = t.write_fifo;
        read_fifo = ap (put_answer x) b.read_fifo ∙ put_padded c x (answer_of q.box) (answer_fits c q.box b.fits);
        fits = (ltb-false (length x) 10 k.0, omega (arith, write_length b, ltb-false (length s.write_fifo) (length x) k.1), omega arith);
      }

  pub one_mail : (k : Call) → Has c (mail_step c m q (entry_of k (refusal_of k s))) (left k s).device (left k s).write_fifo (left k s).read_fifo
  one_mail k = by (call_case k s)
    where
      by : {k : Call} {n : ℕ} {s' : State} → CallCase s k n s' → Has c (mail_step c m q (entry_of k n)) s'.device s'.write_fifo s'.read_fifo
      by (same p e) = rw e b
      by (powers k) = powered k
      by (resets e) = rw (← b.number) (fresh_boxed b _ _ _)
      by (looks {o = o} h) = rw (looked o h) b
      by (reads {o = o} i h) = rw (fetched_is o i h) (fetch_boxed b)
      by (writes {o = o} {v = v} k) = write_boxed c l m q s.device s.write_fifo s.read_fifo o v a b k
      by (responds {run = run} {a = x} e) = answer_boxed run x e

-- ---- lists

-- what holds after each call: book and mailbox are kept, with FIFOs of c bytes
pub record Kept (c : ℕ) (m : Model) (q : Mail) (s : State) : Type 0 where
  pub least : fifo_least ≤ c
  pub greatest : c ≤ fifo_greatest
  pub book : Keeps m s.device
  pub sound : Sound m
  pub boxed : Has c q s.device s.write_fifo s.read_fifo

pub one_kept : (c : ℕ) (m : Model) (q : Mail) (s : State) → Kept c m q s → (k : Call)
    → Kept c (step m (happens k s)) (mail_step c m q (entry_of k (refusal_of k s))) (left k s)
one_kept c m q s h k = record {
  least = h.least;
  greatest = h.greatest;
  book = one_call m k s h.book h.sound;
  sound = sound_call m k (refusal_of k s) h.sound;
  boxed = one_mail c h.least h.greatest m q s h.book h.boxed k;
}

pub all_kept : (c : ℕ) (m : Model) (q : Mail) (s : State) (cs : List Call) → Kept c m q s
    → Kept c (run m (events (heard s cs))) (mail_from c m q (heard s cs)) (after s cs)
unfolding run events heard after mail_from
all_kept c m q s [] h = h
all_kept c m q s (k ∷ ks) h = all_kept c (step m (happens k s)) (mail_step c m q (entry_of k (refusal_of k s))) (left k s) ks (one_kept c m q s h k)

-- an accepted power-on
pub first_kept : (s : State) (established : Bool) (identity : List ℕ) → refusal_of (power_on established identity) s ≡ accepted
    → Kept (length s.write_fifo) fresh (mail idle 0) (left (power_on established identity) s)
unfolding fresh_device
first_kept s established identity z = by (power_case established identity s.write_fifo s.read_fifo) z
  where
    c : ℕ
    c = length s.write_fifo

    fresh_has : lengths_allowed (lengths_of s.write_fifo s.read_fifo) ≡ true → Has c (mail idle 0) (fresh_device established identity 0) (clear_fifo s.write_fifo) (clear_fifo s.read_fifo)
    fresh_has e =
        let n : ℕ = length s.write_fifo in
        let j : n ≡ n - 0 = omega arith in
        record {
          phase = refl;
          number = refl;
          write_fifo = ap (λ (n : ℕ). replicate n 0) j;
          read_fifo = ap (λ (n : ℕ). replicate n 0) (sym (allowed _ e).equal ∙ j);
          fits = tt;
        }

    by : {t : Result} → PowerCase established identity s.write_fifo s.read_fifo t → number_of t.refusal ≡ accepted → Kept c fresh (mail idle 0) (left_by t)
    by (power.refused e) z = absurd (omega arith)
    by (power.powered e) z = record {
      least = (allowed _ e).least;
      greatest = (allowed _ e).greatest;
      book = power_keeps {established = established} {identity = identity} {w = s.write_fifo} {r = s.read_fifo} (power.powered e);
      sound = sound_fresh;
      boxed = fresh_has e;
    }

pub mailbox_claim : MailboxClaim
unfolding heard after mail_from
mailbox_claim s established identity cs z =
    let t : State = left (power_on established identity) s in
    let c : ℕ = length s.write_fifo in
    let k : _ = (all_kept c fresh (mail idle 0) t cs (first_kept s established identity z)).boxed in
    record { phase = k.phase; run = k.number; write_fifo = k.write_fifo; read_fifo = k.read_fifo }
