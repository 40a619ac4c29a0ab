-- Each call keeps the marks, the interrupt registers and the established flag as the third book has them. Assumes nothing.
use mathlib.Core.Path.{◌≡◌, refl, sym, ap, ◌∙◌}
use mathlib.Core.Bool.{Bool, true, false, cond, not, ◌&&◌, ◌||◌, true≢false}
use mathlib.Core.List.{List, [], ◌∷◌}
use Prim.Native.Nat.{ℕ, zero, suc, ◌+◌, ◌-◌, ◌≤◌, ◌<◌}
use native.Mathlib.Omega.{arith}
use lib.ListN.{length, get_or, set, replicate, length-set}
use lib.Dec.{eqb, leb, ltb}
use borrow.Author.Tests.{eqb-true, eqb-false, ne_eqb}
use Rattle.reg_layout.specs.Offsets.{in_four, page_of, place_of, last_offset, access, int_enable, int_status, sts, data_fifo, hash_start, hash_end}
use Rattle.reg_layout.proofs.Within.{within_then}
use Rattle.reg_map.proofs.MapLaws.{Inert}
use Rattle.arbiter.specs.State.{locality, with_waiting, with_seized, waits, holds}
use Rattle.arbiter.specs.Rules as rule
use Rattle.arbiter.specs.Rules.{keeps_command, aborts_command, serve, next_owner, hand_to, handover, access_command, request_from, request, release, seize_from, seize, clear_seized, commanded, write_access}
use Rattle.arbiter.specs.Agreement.{Agrees, holder}
use Rattle.arbiter.specs.declared.Arbiter.{Arbiter}
use Rattle.arbiter.specs.declared.Locality.{Locality}
use Rattle.std.specs.Prelude.{Option, Some, None}
use Rattle.arbiter.specs.declared.access.AccessCommand.{AccessCommand}
use Rattle.arbiter.specs.declared.access.AccessCommand.TheVariants.{RequestUse, ActiveLocality, Seize, BeenSeized}
use Rattle.arbiter.proofs.Agreement.{command_event, event_command, get_or_put}
use Rattle.arbiter_model.specs.Model as model
use Rattle.arbiter_model.specs.Model.{Model, held, Event, access_event, is_access, write_event, put, highest, ignores_page, fresh}
use Rattle.arbiter_model.specs.Waits.{hands_over}
use Rattle.arbiter_model.proofs.ModelLaws.{access_elim}
use Rattle.record.specs.Limits.{fifo_least}
use Rattle.record.specs.Record.{fresh_device}
use Rattle.record.specs.declared.Causes.{Causes}
use Rattle.record.specs.declared.Control.{Control}
use Rattle.record.specs.declared.Device.{Device}
use Rattle.record.specs.declared.Interrupts.{Interrupts}
use Rattle.record.specs.declared.Phase.TheVariants.{Reception, Execution}
use Rattle.reg_fifo.specs.declared.FifoAction.TheVariants.{Keep, Store}
use Rattle.reg_sts_read.specs.Size.{declared_size, expects_after}
use Rattle.reg_sts_write.specs.Completion.{without_cause, ignored, enter_completion, bad_size}
use Rattle.reg_sts_write.specs.Sts.{sts_command, command_ready, next_run, tpm_go_after, tpm_go, response_retry, commanded_by, write_data_fifo}
use Rattle.reg_interrupts.specs.Interrupts.{write_enable, write_status, line_asserted}
use Rattle.call_outcome.specs.Result.{Result}
use Rattle.call_power.specs.Power.{reset_device}
use Rattle.call_power.proofs.Cases as power
use Rattle.call_power.proofs.Cases.{PowerCase, power_case}
use Rattle.reg_sts_write.specs.declared.Commanded.{Commanded}
use Rattle.reg_sts_write.specs.declared.sts.StsCommand.{StsCommand}
use Rattle.claims.specs.Mailbox.{Mailbox, idle, ready, receiving, executing, answering, Mail, mail, size_of, more_expected, is_command_ready, is_tpm_go, by_active, is_sts_command, phase_of, command_of, padded}
use Rattle.claims.specs.Answers.{may_go}
use Rattle.claims.proofs.Padded.{length_padded, size_padded}
use Rattle.claims.specs.Calls.{Call, power_on, State, refusal_of, left, after, heard}
use Rattle.claims.specs.Events.{written, entry_of, happens}
use Rattle.claims.proofs.Orders as orders
use Rattle.claims.proofs.Orders.{Fits, StsCase, sts_case}
use Rattle.claims.proofs.Access.{someone, change_same}
use Rattle.claims.proofs.Progress.{or_true}
use Rattle.claims.proofs.Launch.{counts_same}
use Rattle.claims.proofs.Book.{start_event, end_event, access_event_lem, other_event, data_page, page_same}
use Rattle.call_bus.proofs.Cases.{owner, started_device, ended_device, Sets, enables, clears, Orders, bit as order, nothing, byte, Writes, starts, ends, joins, ignores, aborts, keeps, sets, commands, Ignores, late_start, late_end, page_ignored, missed, register_ignored}
use Rattle.bus_resolve.specs.Resolve.{page_at}
use Rattle.bus_resolve.proofs.Cases.{Unhashed, hash_page}
use Rattle.bus_write.specs.Effect.{changed_control}
use Rattle.arbiter.specs.declared.Change.{Change}
use Rattle.claims.proofs.Mailbox.{page_on, page_off, Has, Kept, one_kept, first_kept}
use Rattle.claims.proofs.CallCases.{CallCase, same, powers, resets, looks, reads, writes, responds, call_case}
use Rattle.claims.specs.Launch.{establishes}
use Rattle.claims.specs.Signals.{Signals, no_cause, quiet, marked_by, marked, is_somebody, is_idle, size_runs, data_avail, raise, enabled, enabled_globally, cleared_by, interrupts_written, signals_step, signals_from, Signalled, SignalsClaim}

-- ---- nothing raised

or_false : (t : Bool) → (t || false) ≡ t
or_false true = refl
or_false false = refl

raise_none : (i : Interrupts) → raise i no_cause ≡ i
raise_none i = rw (or_false i.status.command_ready, or_false i.status.locality_change, or_false i.status.data_avail) refl

-- ---- the marks

-- a handover leaves the marks
handed_marks : (b : Arbiter) → (handover b).arbiter.seized ≡ b.seized
unfolding handover
handed_marks b = by (next_owner b.waiting)
  where
    by : (o : Option Locality) → (hand_to o b).arbiter.seized ≡ b.seized
    by None = refl
    by (Some y) = refl

-- ---- a write to ACCESS of page x

-- the marks of a state are w
pub record Marks (b : Arbiter) (w : ℕ → Bool) : Type 0 where
  pub flags : (y : ℕ) → get_or b.seized y false ≡ w y
  pub count : length b.seized ≡ 5

same_marks : (b b' : Arbiter) {w : ℕ → Bool} → b'.seized ≡ b.seized → Marks b w → Marks b' w
same_marks b b' e k = record { flags = λ y. ap (λ (l : List Bool). get_or l y false) e ∙ k.flags y; count = ap (λ (l : List Bool). length l) e ∙ k.count }

-- one mark set or cleared
put_mark : (l : List Bool) (w : ℕ → Bool) (x y : ℕ) (v : Bool) → x < length l → ((z : ℕ) → get_or l z false ≡ w z) → get_or (set l x v) y false ≡ put w x v y
put_mark l w x y v h f = sym (get_or_put l x y v h) ∙ ap (λ (t : Bool). cond (eqb y x) v t) (f y)

module _ {m : Model} {b : Arbiter} {q : Bool} (x : ℕ) (a : Agrees m b q) (h : ignores_page m x ≡ false) where
  marks_same : (v : ℕ) {w : ℕ → Bool} → x < 5 → ((y : ℕ) → m.active ≡ held y → y < 5) → Marks b w → Marks (write_access b (locality x) v).arbiter (marked m (access_event x v) w)
  unfolding write_access request release seize clear_seized
  marks_same v {w} l known k = rw (event_command x v) (by (access_command v))
    where
      asks : (o : Option Locality) → Marks (request_from o b (locality x)).arbiter w
      asks None = record { flags = k.flags; count = k.count }
      asks (Some y) = on (eqb y.0 x)
        where
          on : (t : Bool) → Marks (cond t (keeps_command b) (keeps_command (rule.queued b (locality x)))).arbiter w
          on true = k
          on false = record { flags = k.flags; count = k.count }

      releases : (t u : Bool) → Marks (cond t (handover b) (cond u (keeps_command (with_waiting b x false)) (keeps_command b))).arbiter w
      releases true u = same_marks b (handover b).arbiter (handed_marks b) k
      releases false true = record { flags = k.flags; count = k.count }
      releases false false = k

      takes : (o : Option Locality) → b.active ≡ o → Marks (seize_from o b (locality x)).arbiter (marked_by model.seize (holder o) x w)
      takes None e = record { flags = k.flags; count = k.count }
      takes (Some y) e = on (ltb y.0 x)
        where
          on : (t : Bool) → Marks (cond t (aborts_command (with_seized (serve b (locality x)) y.0 true)) (keeps_command b)).arbiter (cond t (put w y.0 true) w)
          on true = record {
            flags = λ z. put_mark b.seized w y.0 z true (omega (arith, k.count, known y.0 (a.active ∙ ap holder e))) k.flags;
            count = length-set b.seized y.0 true ∙ k.count;
          }
          on false = k

      by : (j : Option AccessCommand) → Marks (commanded j b (locality x)).arbiter (marked m (command_event x j) w)
      by None = k
      by (Some RequestUse) = rw h (asks b.active)
      by (Some ActiveLocality) = rw h (releases (holds b.active (locality x)) (waits b x))
      by (Some Seize) = rw (h, a.active) (takes b.active refl)
      by (Some BeenSeized) = rw h (record { flags = λ z. put_mark b.seized w x z false (omega (arith, k.count)) k.flags; count = length-set b.seized x false ∙ k.count })

-- ---- what a write to STS or the FIFO raises

module _ (c : ℕ) (l : fifo_least ≤ c) where
  abbrev size_in : Mailbox → ℕ
  size_in b = declared_size (padded c (command_of b))

  abbrev length_in : Mailbox → ℕ
  length_in b = length (padded c (command_of b))

  abbrev causes : Bool → Bool → Causes
  causes r d = record { command_ready = r; locality_change = false; data_avail = d }

  ready_raises : (b : Mailbox) (n : ℕ) → (command_ready (phase_of b) n).causes ≡ causes (is_idle b) false
  ready_raises idle n = refl
  ready_raises ready n = refl
  ready_raises (receiving bs) n = refl
  ready_raises (executing bs) n = refl
  ready_raises (answering a k) n = refl

  going_raises : (bs : List ℕ) (n s k : ℕ) → s ≡ size_of bs → k ≡ c → (tpm_go_after (length bs) n s k).causes ≡ causes false (not (more_expected c bs) && not (leb 10 (size_of bs) && leb (size_of bs) c))
  going_raises bs n s k i j = rw (i, j) (by (more_expected c bs) (leb 10 (size_of bs) && leb (size_of bs) c))
    where
      by : (t u : Bool) → (cond t (ignored (Reception (length bs)) n) (cond u (without_cause (Execution (length bs)) (next_run n) Keep) (enter_completion (length bad_size) n))).causes ≡ causes false (not t && not u)
      by true u = refl
      by false true = refl
      by false false = refl

  go_raises : (b : Mailbox) (n : ℕ) → Fits c b → (tpm_go (phase_of b) n (size_in b) (length_in b)).causes ≡ causes false (may_go c b && not (size_runs c b))
  go_raises idle n f = refl
  go_raises ready n f = refl
  go_raises (receiving bs) n f = going_raises bs n _ _ (size_padded c bs) (length_padded c bs f.1)
  go_raises (executing bs) n f = refl
  go_raises (answering a k) n f = refl

  retry_raises : (b : Mailbox) (n : ℕ) → (response_retry (phase_of b) n).causes ≡ no_cause
  retry_raises idle n = refl
  retry_raises ready n = refl
  retry_raises (receiving bs) n = refl
  retry_raises (executing bs) n = refl
  retry_raises (answering a k) n = refl

  order_raises : (b : Mailbox) (n v : ℕ) → Fits c b
      → (commanded_by (sts_command v) (phase_of b) n (size_in b) (length_in b)).causes ≡ causes (is_command_ready v && is_idle b) (is_tpm_go v && may_go c b && not (size_runs c b))
  order_raises b n v f = by (sts_case v)
    where
      by : {r g t : Bool} {k : Option StsCommand} → StsCase r g t k → (commanded_by k (phase_of b) n (size_in b) (length_in b)).causes ≡ causes (r && is_idle b) (g && may_go c b && not (size_runs c b))
      by orders.readies = ready_raises b n
      by orders.goes = go_raises b n f
      by orders.retries = retry_raises b n
      by orders.nothing = refl

  store_raises : (b : Mailbox) (n : ℕ) → (write_data_fifo (phase_of b) n (size_in b) (length_in b)).causes ≡ no_cause
  store_raises idle n = refl
  store_raises ready n = refl
  store_raises (receiving bs) n = by (expects_after (length bs) (size_in (receiving bs)) (length_in (receiving bs)))
    where
      by : (t : Bool) → (cond t (without_cause (Reception (length bs + 1)) n (Store (length bs))) (ignored (Reception (length bs)) n)).causes ≡ no_cause
      by true = refl
      by false = refl
  store_raises (executing bs) n = refl
  store_raises (answering a k) n = refl

-- ---- what a write is to the third book

-- neither at STS byte 0 nor at a byte of the interrupt registers that takes writes
record Unseen (o : ℕ) : Type 0 where
  no_sts : is_sts_command o ≡ false
  no_enable : eqb (place_of o) 0x08 ≡ false
  no_global : eqb (place_of o) 0x0b ≡ false
  no_status : eqb (place_of o) 0x10 ≡ false

unseen : (o : ℕ) → (place_of o ≡ 0x18 → ⊥) → (place_of o ≡ 0x08 → ⊥) → (place_of o ≡ 0x0b → ⊥) → (place_of o ≡ 0x10 → ⊥) → Unseen o
unseen o a b c d = record { no_sts = ne_eqb (place_of o) 0x18 a; no_enable = ne_eqb (place_of o) 0x08 b; no_global = ne_eqb (place_of o) 0x0b c; no_status = ne_eqb (place_of o) 0x10 d }

hash_unseen : (a o : ℕ) → in_four a o ≡ true → 0x4020 ≤ a → a ≤ 0x4028 → Unseen o
hash_unseen a o i l g = let k : _ = within_then a (a + 3) o i in unseen o (λ z. omega arith) (λ z. omega arith) (λ z. omega arith) (λ z. omega arith)

access_unseen : (o : ℕ) → place_of o ≡ access → Unseen o
access_unseen o e = unseen o (λ z. omega arith) (λ z. omega arith) (λ z. omega arith) (λ z. omega arith)

inert_unseen : (o : ℕ) → Inert (place_of o) → Unseen o
inert_unseen o i = record {
  no_sts = i.no_command;
  no_enable = ne_eqb (place_of o) 0x08 (λ e. true≢false (rw e at i.no_enable));
  no_global = ne_eqb (place_of o) 0x0b (λ e. true≢false (rw e at i.no_enable));
  no_status = ne_eqb (place_of o) 0x10 (λ e. true≢false (rw e at i.no_status));
}

abbrev on_change : Bool → Causes
on_change t = record { command_ready = false; locality_change = t; data_avail = false }

module _ (c : ℕ) (m : Model) (b : Mailbox) (i : Interrupts) (o v : ℕ) where
  -- a handover that serves somebody
  abbrev changes : Bool
  changes = hands_over m (write_event o v) && is_somebody (highest m.waiting)

  by_other : by_active m o ≡ false → interrupts_written c m b i o v ≡ raise i (on_change changes)
  by_other e = rw e refl

  at_other : Unseen o → interrupts_written c m b i o v ≡ raise i (on_change changes)
  at_other u = rw (u.no_sts, u.no_enable, u.no_global, u.no_status) (by (by_active m o))
    where
      by : (t : Bool) → cond (t && false) (enabled i v) (cond (t && false) (enabled_globally i v) (cond (t && false) (cleared_by i v)
          (raise i (record { command_ready = t && false && is_command_ready v && is_idle b; locality_change = changes; data_avail = t && false && (is_tpm_go v && may_go c b) && not (size_runs c b) }))))
          ≡ raise i (on_change changes)
      by true = refl
      by false = refl

  module _ (e : by_active m o ≡ true) where
    at_enable : place_of o ≡ 0x08 → interrupts_written c m b i o v ≡ enabled i v
    at_enable p = rw (e, p) refl

    at_global : place_of o ≡ 0x0b → interrupts_written c m b i o v ≡ enabled_globally i v
    at_global p = rw (e, p) refl

    at_status : place_of o ≡ 0x10 → interrupts_written c m b i o v ≡ cleared_by i v
    at_status p = rw (e, p) refl

    at_sts : place_of o ≡ 0x18 → changes ≡ false
        → interrupts_written c m b i o v ≡ raise i (record { command_ready = is_command_ready v && is_idle b; locality_change = false; data_avail = is_tpm_go v && may_go c b && not (size_runs c b) })
    at_sts p f = rw (f, e, p) refl

-- ---- each call

-- a record's marks, interrupts and established flag are g's
pub record Signs (g : Signals) (b : Arbiter) (i : Interrupts) (e : Bool) : Type 0 where
  pub marks : Marks b g.seized
  pub interrupts : i ≡ g.interrupts
  pub established : e ≡ g.established

abbrev pub Signed : Signals → Control → Type 0
Signed g k = Signs g k.arbiter k.interrupts k.established

-- an event that neither marks, hands over nor establishes
record Still (m : Model) (w : ℕ → Bool) (e : Event) : Type 0 where
  marks_not : marked m e w ≡ w
  changes_not : (hands_over m e && is_somebody (highest m.waiting)) ≡ false
  establishes_not : establishes m e ≡ false

module _ (c : ℕ) (l : fifo_least ≤ c) (m : Model) (q : Mail) (g : Signals) (d : Device) (w r : List ℕ) (o v : ℕ) (a : Agrees m d.control.arbiter d.launch.sequence)
    (known : (y : ℕ) → m.active ≡ held y → y < 5) (x : Has c q d w r) (k : Signed g d.control) where
  abbrev Left : Control → Type 0
  Left k' = Signed (signals_step c m q g (written o v)) k'

  nothing_still : write_event o v ≡ model.nothing → Still m g.seized (write_event o v)
  nothing_still e = rw e (record { marks_not = refl; changes_not = refl; establishes_not = refl })

  -- the interrupts after a write that raises what `causes` says
  kept_if : Still m g.seized (write_event o v) → interrupts_written c m q.box g.interrupts o v ≡ g.interrupts → Left d.control
  kept_if s e = record {
    marks = rw s.marks_not k.marks;
    interrupts = k.interrupts ∙ sym e;
    established = k.established ∙ sym (ap (λ (t : Bool). g.established || t) s.establishes_not ∙ or_false g.established);
  }

  none_raised : Still m g.seized (write_event o v) → raise g.interrupts (on_change (hands_over m (write_event o v) && is_somebody (highest m.waiting))) ≡ g.interrupts
  none_raised s = rw s.changes_not (raise_none g.interrupts)

  off_page : Still m g.seized (write_event o v) → by_active m o ≡ false → Left d.control
  off_page s e = kept_if s (by_other c m q.box g.interrupts o v e ∙ none_raised s)

  off_place : Still m g.seized (write_event o v) → Unseen o → Left d.control
  off_place s u = kept_if s (at_other c m q.box g.interrupts o v u ∙ none_raised s)

  -- a start
  at_start : in_four hash_start o ≡ true → Unseen o
  at_start i = hash_unseen hash_start o i (omega arith) (omega arith)

  started : in_four hash_start o ≡ true → rule.start_counts (owner d) ≡ true → Left (started_device d).control
  started i j = record {
    marks = rw (start_event o v i) (same_marks d.control.arbiter (started_device d).control.arbiter refl k.marks);
    interrupts = k.interrupts ∙ sym (at_other c m q.box g.interrupts o v (at_start i) ∙ rw (start_event o v i) (raise_none g.interrupts));
    established = sym (ap (λ (e : Event). g.established || establishes m e) (start_event o v i) ∙ ap (λ (t : Bool). g.established || t) (counts_same a ∙ j) ∙ or_true g.established);
  }

  -- who has the device changes, or asks for it
  changed : (e : Event) (z : Change) → write_event o v ≡ e → establishes m e ≡ false → Unseen o → Marks z.arbiter (marked m e g.seized)
      → (hands_over m e && is_somebody (highest m.waiting)) ≡ z.locality_change → Left (changed_control d.control z)
  changed e z i n u j h = record {
    marks = rw i j;
    interrupts =
        ap (λ (y : Interrupts). raise y (on_change z.locality_change)) k.interrupts
        ∙ sym (at_other c m q.box g.interrupts o v u ∙ ap (λ (t : Bool). raise g.interrupts (on_change t)) (ap (λ (e : Event). hands_over m e && is_somebody (highest m.waiting)) i ∙ h));
    established = k.established ∙ sym (ap (λ (t : Bool). g.established || t) (ap (establishes m) i ∙ n) ∙ or_false g.established);
  }

  ended : in_four hash_start o ≡ false → in_four hash_end o ≡ true → d.launch.sequence ≡ true → Left (ended_device d).control
  ended i j e =
      changed model.hash_end (handover d.control.arbiter) (end_event o v i j) refl (hash_unseen hash_end o j (omega arith) (omega arith))
      (same_marks d.control.arbiter (handover d.control.arbiter).arbiter (handed_marks d.control.arbiter) k.marks)
      (rw (a.sequence_open ∙ e) (someone a))

  accessed : o ≤ last_offset → Unhashed o → hash_page o d.launch.sequence ≡ false → place_of o ≡ access → Left (changed_control d.control (write_access d.control.arbiter (page_at o) v))
  accessed p u h e =
      changed (access_event (page_of o) v) (write_access d.control.arbiter (page_at o) v) (access_event_lem o v u p e)
      (access_elim (λ e. establishes m e ≡ false) (page_of o) v (λ b. refl) refl) (access_unseen o e)
      (marks_same (page_of o) a (page_same o a ∙ h) v (omega (arith, p)) known k.marks) (change_same (page_of o) a (page_same o a ∙ h) v).1

  page_still : Unhashed o → hash_page o d.launch.sequence ≡ true → Still m g.seized (write_event o v)
  page_still u h = rw (u.start, u.end) (by (is_access o))
    where
      by : (t : Bool) → Still m g.seized (cond t (access_event (page_of o) v) model.nothing)
      by true = access_elim (λ e. Still m g.seized e) (page_of o) v (λ b. record { marks_not = rw (page_same o a ∙ h) refl; changes_not = rw (page_same o a ∙ h) refl; establishes_not = refl }) (record { marks_not = refl; changes_not = refl; establishes_not = refl })
      by false = record { marks_not = refl; changes_not = refl; establishes_not = refl }

  start_still : in_four hash_start o ≡ true → rule.start_counts (owner d) ≡ false → Still m g.seized (write_event o v)
  start_still i j = rw (start_event o v i) (record { marks_not = refl; changes_not = refl; establishes_not = counts_same a ∙ j })

  end_still : in_four hash_start o ≡ false → in_four hash_end o ≡ true → d.launch.sequence ≡ false → Still m g.seized (write_event o v)
  end_still i j e = rw (end_event o v i j) (record { marks_not = refl; changes_not = rw (a.sequence_open ∙ e) refl; establishes_not = refl })

  other_still : Unhashed o → (place_of o ≡ access → ⊥) → Still m g.seized (write_event o v)
  other_still u n = nothing_still (other_event o v u n)

  ignored_signs : Ignores d o → Left d.control
  ignored_signs (late_start i j) = off_place (start_still i j) (at_start i)
  ignored_signs (late_end i j e) = off_place (end_still i j e) (hash_unseen hash_end o j (omega arith) (omega arith))
  ignored_signs (page_ignored u h i) = off_page (page_still u h) (page_off o a h)
  ignored_signs (missed u h n e) = off_page (other_still u n) (page_on o a h e)
  ignored_signs (register_ignored u h n i) = off_place (other_still u n) (inert_unseen o i)

  -- ---- the interrupt registers

  enable_is : in_four int_enable (place_of o) ≡ true → by_active m o ≡ true → Still m g.seized (write_event o v)
      → write_enable g.interrupts (place_of o - int_enable) v ≡ interrupts_written c m q.box g.interrupts o v
  unfolding write_enable
  enable_is i e s = by (eqb (place_of o - int_enable) 0) refl (eqb (place_of o - int_enable) 3) refl
    where
      z : (int_enable ≤ place_of o) × (place_of o ≤ int_enable + 3)
      z = within_then int_enable (int_enable + 3) (place_of o) i

      by : (t : Bool) → eqb (place_of o - int_enable) 0 ≡ t → (u : Bool) → eqb (place_of o - int_enable) 3 ≡ u
          → cond t (enabled g.interrupts v) (cond u (enabled_globally g.interrupts v) g.interrupts) ≡ interrupts_written c m q.box g.interrupts o v
      by true f u h = sym (at_enable c m q.box g.interrupts o v e (omega (arith, eqb-true (place_of o - int_enable) 0 f, z.0)))
      by false f true h = sym (at_global c m q.box g.interrupts o v e (omega (arith, eqb-true (place_of o - int_enable) 3 h, z.0)))
      by false f false h =
          sym (at_other c m q.box g.interrupts o v (unseen o (λ y. omega (arith, z.1)) (λ y. eqb-false (place_of o - int_enable) 0 f (omega arith)) (λ y. eqb-false (place_of o - int_enable) 3 h (omega arith)) (λ y. omega (arith, z.1))) ∙ none_raised s)

  status_is : in_four int_status (place_of o) ≡ true → by_active m o ≡ true → Still m g.seized (write_event o v)
      → write_status g.interrupts (place_of o - int_status) v ≡ interrupts_written c m q.box g.interrupts o v
  unfolding write_status
  status_is i e s = by (eqb (place_of o - int_status) 0) refl
    where
      z : (int_status ≤ place_of o) × (place_of o ≤ int_status + 3)
      z = within_then int_status (int_status + 3) (place_of o) i

      by : (t : Bool) → eqb (place_of o - int_status) 0 ≡ t → cond t (cleared_by g.interrupts v) g.interrupts ≡ interrupts_written c m q.box g.interrupts o v
      by true f = sym (at_status c m q.box g.interrupts o v e (omega (arith, eqb-true (place_of o - int_status) 0 f, z.0)))
      by false f =
          sym (at_other c m q.box g.interrupts o v (unseen o (λ y. omega (arith, z.1)) (λ y. omega (arith, z.0)) (λ y. omega (arith, z.0)) (λ y. eqb-false (place_of o - int_status) 0 f (omega arith))) ∙ none_raised s)

  -- a write that changes the interrupts alone
  set_left : Still m g.seized (write_event o v) → (j : Interrupts) → j ≡ interrupts_written c m q.box g.interrupts o v → Signs (signals_step c m q g (written o v)) d.control.arbiter j d.control.established
  set_left s j e = record {
    marks = rw s.marks_not k.marks;
    interrupts = e;
    established = k.established ∙ sym (ap (λ (t : Bool). g.established || t) s.establishes_not ∙ or_false g.established);
  }

  sets_signs : Still m g.seized (write_event o v) → by_active m o ≡ true → {j : Interrupts} → Sets o v d.control.interrupts j → Signs (signals_step c m q g (written o v)) d.control.arbiter j d.control.established
  sets_signs s e (enables i) = set_left s _ (ap (λ (y : Interrupts). write_enable y (place_of o - int_enable) v) k.interrupts ∙ enable_is i e s)
  sets_signs s e (clears i) = set_left s _ (ap (λ (y : Interrupts). write_status y (place_of o - int_status) v) k.interrupts ∙ status_is i e s)

  -- ---- STS and the FIFO

  raises_signs : Still m g.seized (write_event o v) → (z : Causes) → raise g.interrupts z ≡ interrupts_written c m q.box g.interrupts o v
      → Signs (signals_step c m q g (written o v)) d.control.arbiter (raise d.control.interrupts z) d.control.established
  raises_signs s z e = set_left s _ (ap (λ (y : Interrupts). raise y z) k.interrupts ∙ e)

  orders_signs : Still m g.seized (write_event o v) → by_active m o ≡ true → {z : Commanded} → Orders o v d.control.run (declared_size w) (length w) d.phase z
      → Signs (signals_step c m q g (written o v)) d.control.arbiter (raise d.control.interrupts z.causes) d.control.established
  orders_signs s e (order i) =
      raises_signs s _ (ap (raise g.interrupts) raised ∙ sym (at_sts c m q.box g.interrupts o v e i s.changes_not))
    where
      raised : (commanded_by (sts_command v) d.phase d.control.run (declared_size w) (length w)).causes ≡ causes c l (is_command_ready v && is_idle q.box) (is_tpm_go v && may_go c q.box && not (size_runs c q.box))
      raised = rw (x.phase, x.number, x.write_fifo) (order_raises c l q.box q.run v x.fits)
  orders_signs s e (nothing i j) =
      let z : _ = within_then sts (sts + 2) (place_of o) j in
      raises_signs s _ (raise_none g.interrupts ∙ sym (at_other c m q.box g.interrupts o v (unseen o i (λ y. omega arith) (λ y. omega arith) (λ y. omega arith)) ∙ none_raised s))
  orders_signs s e (byte i) =
      let z : _ = within_then data_fifo (data_fifo + 3) (place_of o) i in
      raises_signs s _ (ap (raise g.interrupts) stored_none ∙ raise_none g.interrupts ∙ sym (at_other c m q.box g.interrupts o v (unseen o (λ y. omega arith) (λ y. omega arith) (λ y. omega arith) (λ y. omega arith)) ∙ none_raised s))
    where
      stored_none : (write_data_fifo d.phase d.control.run (declared_size w) (length w)).causes ≡ no_cause
      stored_none = rw (x.phase, x.number, x.write_fifo) (store_raises c l q.box q.run)

  write_signs : {d' : Device} {w' r' : List ℕ} → Writes d w r o v d' w' r' → Left d'.control
  write_signs (starts i j) = started i j
  write_signs (ends i j e) = ended i j e
  write_signs (joins u h i n) = off_page (other_still u (data_page o i).1) (page_off o a h)
  write_signs (ignores i) = ignored_signs i
  write_signs (aborts p u h e i) = accessed p u h e
  write_signs (keeps p u h e i) = accessed p u h e
  write_signs (sets u h n e j t) = sets_signs (other_still u n) (page_on o a h e) t
  write_signs (commands u h n e z t y) = orders_signs (other_still u n) (page_on o a h e) y

fresh_signs : (established : Bool) (identity : List ℕ) (n : ℕ) → Signed (quiet established) (fresh_device established identity n).control
unfolding fresh_device
fresh_signs established identity n = record { marks = record { flags = none; count = refl }; interrupts = refl; established = refl }
  where
    none : (y : ℕ) → get_or (replicate 5 false) y false ≡ false
    none y = off 5 y
      where
        off : (n y : ℕ) → get_or (replicate n false) y false ≡ false
        off zero y = refl
        off (suc n) zero = refl
        off (suc n) (suc y) = off n y

power_signs : {established : Bool} {identity w r : List ℕ} {t : Result} → PowerCase established identity w r t → Signed (quiet established) t.device.control
power_signs (power.refused e) = fresh_signs _ _ _
power_signs (power.powered e) = fresh_signs _ _ _

pub one_signed : (c : ℕ) (m : Model) (q : Mail) (g : Signals) (s : State) → Kept c m q s → Signed g s.device.control → (k : Call)
    → Signed (signals_step c m q g (entry_of k (refusal_of k s))) (left k s).device.control
one_signed c m q g s h y k = by (call_case k s)
  where
    reset_signs : Signed (quiet g.established) (reset_device s.device).control
    reset_signs = rw (← y.established) (fresh_signs s.device.control.established s.device.identity s.device.control.run)

    by : {k : Call} {n : ℕ} {s' : State} → CallCase s k n s' → Signed (signals_step c m q g (entry_of k n)) s'.device.control
    by (same p e) = rw e y
    by (powers k) = power_signs k
    by (resets e) = reset_signs
    by (looks e) = y
    by (reads i e) = y
    by (writes {o = o} {v = v} k) = write_signs c h.least m q g s.device s.write_fifo s.read_fifo o v h.book h.sound.active_known h.boxed y k
    by (responds e) = record { marks = y.marks; interrupts = ap (λ (i : Interrupts). raise i data_avail) y.interrupts; established = y.established }

pub all_signed : (c : ℕ) (m : Model) (q : Mail) (g : Signals) (s : State) (cs : List Call) → Kept c m q s → Signed g s.device.control
    → Signed (signals_from c m q g (heard s cs)) (after s cs).device.control
unfolding heard after signals_from
all_signed c m q g s [] h y = y
all_signed c m q g s (k ∷ ks) h y = all_signed c (model.step m (happens k s)) _ _ (left k s) ks (one_kept c m q s h k) (one_signed c m q g s h y k)

pub first_signed : (s : State) (established : Bool) (identity : List ℕ) → Signed (quiet established) (left (power_on established identity) s).device.control
first_signed s established identity = power_signs (power_case established identity s.write_fifo s.read_fifo)

proof : (g : Signals) (s : State) → Signed g s.device.control → Signalled g s
unfolding line_asserted
proof g s y = record { seized = y.marks.flags; interrupts = y.interrupts; established = y.established; line = rw y.interrupts refl }

pub signals_claim : SignalsClaim
unfolding heard after signals_from
signals_claim s e i cs z =
    let t : State = left (power_on e i) s in
    let c : ℕ = length s.write_fifo in
    proof _ (after t cs) (all_signed c fresh (mail idle 0) (quiet e) t cs (first_kept s e i z) (first_signed s e i))
