-- What a read and a write can come to. Assumes nothing.
use mathlib.Core.Path.{◌≡◌, refl, subst, sym}
use mathlib.Core.Bool.{Bool, true, false, cond}
use mathlib.Core.List.{List}
use Prim.Native.Nat.{ℕ, ◌+◌, ◌-◌, ◌%◌, ◌<◌, ◌≤◌}
use native.Mathlib.Omega.{arith}
use lib.ListN.{length}
use lib.Dec.{eqb, leb}
use borrow.Author.Tests.{eqb-true, eqb-false, leb-true, leb-false}
use Rattle.std.specs.Prelude.{Option, None, Some}
use Rattle.refusal.specs.Refusal.{accepts as accepted}
use Rattle.refusal.specs.declared.Refusal.{Refusal}
use Rattle.refusal.specs.declared.Refusal.TheVariants.{HashLength}
use Rattle.refusal.proofs.RefusalNumbers.{accepts_true, accepts_false}
use Rattle.reg_layout.specs.Offsets.{within, in_four, place_of, last_offset, access, int_enable, int_status, sts, data_fifo, hash_start, hash_end, hash_data}
use Rattle.reg_layout.proofs.Within.{within_then}
use Rattle.arbiter.specs.State.{holds}
use Rattle.arbiter.specs.Rules.{start_counts, write_access, handover}
use Rattle.arbiter.specs.declared.Change.{Change}
use Rattle.arbiter.specs.declared.Locality.{Locality}
use Rattle.std.specs.Prelude.{Option}
use Rattle.arbiter.proofs.Cases.{handover_aborts}
use Rattle.pcr.specs.Bank.{launched}
use Rattle.record.specs.Limits.{hash_limit}
use Rattle.record.specs.Record.{with_interrupts, with_parts, with_phase, hash_progress, closed_launch}
use Rattle.record.specs.declared.Control.{Control}
use Rattle.record.specs.declared.Device.{Device}
use Rattle.record.specs.declared.Interrupts.{Interrupts}
use Rattle.record.specs.declared.Phase.{Phase}
use Rattle.record.specs.declared.Phase.TheVariants.{Idle}
use Rattle.reg_map.specs.Map.{register_at, register_for}
use Rattle.reg_map.specs.declared.Register.{Register}
use Rattle.reg_map.specs.declared.Register.TheVariants.{Access, Sts}
use Rattle.reg_map.proofs.MapLaws.{Inert, register_elim, access_apart, fifo_apart, at_sts}
use Rattle.reg_sts_read.specs.Size.{declared_size}
use Rattle.reg_interrupts.specs.Interrupts.{write_enable, write_status}
use Rattle.reg_sts_write.specs.Completion.{ignored, bad_size}
use Rattle.reg_sts_write.specs.Sts.{sts_command, commanded_by, write_sts, write_data_fifo}
use Rattle.reg_sts_write.specs.declared.Commanded.{Commanded}
use Rattle.reg_sts_write.proofs.Cases.{CommandCase, nothing as idle, order_case, fifo_case}
use Rattle.reg_fifo.specs.Fifo.{clear_fifo, update_write_fifo, update_read_fifo, fifo_byte, after_read}
use Rattle.reg_fifo.specs.declared.FifoAction.TheVariants.{Keep, Clear}
use Rattle.bus_read.specs.Reading.{read_data_fifo, register_read}
use Rattle.bus_resolve.specs.Resolve.{page_at, resolve}
use Rattle.bus_resolve.specs.declared.WriteKind.{WriteKind}
use Rattle.bus_resolve.specs.declared.WriteKind.TheVariants.{HashData, Ordinary}
use Rattle.bus_resolve.proofs.Cases as resolving
use Rattle.bus_resolve.proofs.Cases.{Unhashed, hash_page, Resolved, resolved}
use Rattle.bus_write.specs.Effect.{effect, changed_control, apply_change, commanded_control, apply_command}
use Rattle.bus_write.specs.Writing.{start_effect, register_write, write_effect}
use Rattle.launch.specs.Launch.{begun_launch, joined, launch_after, measured, pcrs_after}
use Rattle.call_admission.specs.Refusals.{bus_refusal_of}
use Rattle.call_admission.proofs.RefusalLaws.{bus_then}
use Rattle.call_outcome.specs.Result.{Result, result}
use Rattle.call_outcome.specs.declared.ReadOutcome.{ReadOutcome}
use Rattle.call_bus.specs.Bus.{refused_read, seen, accepted_read, read_cycle, read_outcome, read, refused_write, done, accepted_write, resolved_write, write_cycle, left_by, write}

abbrev pub owner : Device → Option Locality
owner d = d.control.arbiter.active

-- ---- a read

abbrev pub gives : Option Refusal → ℕ → Device → ReadOutcome
gives n b d = record { refusal = n; byte = b; device = d }

pub data ReadCase (d : Device) (w r : List ℕ) (o : ℕ) : ReadOutcome → Type 0 where
  refused : {n : Option Refusal} → n ≡ bus_refusal_of d w r o → (n ≡ None → ⊥) → ReadCase d w r o (gives n 0xff d)
  -- of another register than the FIFO
  stays : bus_refusal_of d w r o ≡ None → in_four data_fifo (place_of o) ≡ false → (b : ℕ) → ReadCase d w r o (gives None b d)
  -- of the FIFO, by the active locality and by another
  moves : bus_refusal_of d w r o ≡ None → in_four data_fifo (place_of o) ≡ true → holds (owner d) (page_at o) ≡ true
      → ReadCase d w r o (gives None (fifo_byte d.phase r) (with_phase d (after_read d.phase)))
  misses : bus_refusal_of d w r o ≡ None → in_four data_fifo (place_of o) ≡ true → holds (owner d) (page_at o) ≡ false → ReadCase d w r o (gives None 0xff d)

module _ (d : Device) (w r : List ℕ) (o : ℕ) where
  register_read_lem : bus_refusal_of d w r o ≡ None → ReadCase d w r o (read_outcome (accepted_read o d.control d.phase d.identity w r) d)
  unfolding accepted_read register_read
  register_read_lem e =
      register_elim
      (λ g. ReadCase d w r o (read_outcome (seen (register_read g (page_at o) (holds (owner d) (page_at o)) d.control d.phase d.identity (declared_size w) (length w) r)) d))
      (place_of o) (λ i. stays e (access_apart (place_of o) i) _) (λ i. stays e (fifo_apart int_enable (int_enable + 3) (place_of o) i (omega arith)) _) (λ i. stays e i.no_fifo _)
      (λ i. stays e (fifo_apart int_status (int_status + 3) (place_of o) i (omega arith)) _) (λ j i. stays e i.no_fifo _) (λ i. stays e (fifo_apart sts (sts + 2) (place_of o) i (omega arith)) _)
      (λ i. fifo i (holds (owner d) (page_at o)) refl) (λ j i. stays e i.no_fifo _) (λ i. stays e i.no_fifo _)
    where
      fifo : in_four data_fifo (place_of o) ≡ true → (t : Bool) → holds (owner d) (page_at o) ≡ t → ReadCase d w r o (read_outcome (seen (read_data_fifo t d.phase r)) d)
      fifo i true h = moves e i h
      fifo i false h = misses e i h

  pub read_case : ReadCase d w r o (read d w r o)
  unfolding read read_cycle
  read_case = by (accepted (bus_refusal_of d w r o)) refl
    where
      by : (t : Bool) → accepted (bus_refusal_of d w r o) ≡ t
          → ReadCase d w r o (read_outcome (cond t (accepted_read o d.control d.phase d.identity w r) (refused_read (bus_refusal_of d w r o) d.phase)) d)
      by true e = register_read_lem (accepts_true (bus_refusal_of d w r o) e)
      by false e = refused refl (accepts_false (bus_refusal_of d w r o) e)

  -- a locality that is not active reads FFh at STS
  pub sts_misses : bus_refusal_of d w r o ≡ None → within sts (sts + 2) (place_of o) ≡ true → holds (owner d) (page_at o) ≡ false → read d w r o ≡ gives None 0xff d
  unfolding read read_cycle accepted_read register_read
  sts_misses e i h = rw (e, register, h) refl
    where
      register : register_for o ≡ Sts (place_of o % 4)
      register =
          let k : _ = within_then sts (sts + 2) (place_of o) i in
          sym (at_sts (place_of o) (omega arith) (omega arith))

-- ---- a write

-- what the kinds of a write make of a record
abbrev pub started_device : Device → Device
started_device d = with_parts d (start_effect d.control).control Idle begun_launch (launched d.pcrs)

abbrev pub ended_device : Device → Device
ended_device d = with_parts d (changed_control d.control (handover d.control.arbiter)) Idle closed_launch (measured d.pcrs d.launch)

abbrev pub joined_device : Device → ℕ → Device
joined_device d v = with_parts d d.control d.phase (joined d.launch v) d.pcrs

abbrev pub with_control : Device → Control → Phase → Device
with_control d k p = with_parts d k p d.launch d.pcrs

-- what a write to an interrupt register makes of them, v being the byte
pub data Sets (o v : ℕ) (s : Interrupts) : Interrupts → Type 0 where
  enables : in_four int_enable (place_of o) ≡ true → Sets o v s (write_enable s (place_of o - int_enable) v)
  clears : in_four int_status (place_of o) ≡ true → Sets o v s (write_status s (place_of o - int_status) v)

-- what a write to STS or the FIFO orders: a command bit, nothing, or a byte to be stored
pub data Orders (o v run size c : ℕ) (p : Phase) : Commanded → Type 0 where
  bit : place_of o ≡ sts → Orders o v run size c p (commanded_by (sts_command v) p run size c)
  nothing : (place_of o ≡ sts → ⊥) → within sts (sts + 2) (place_of o) ≡ true → Orders o v run size c p (ignored p run)
  byte : in_four data_fifo (place_of o) ≡ true → Orders o v run size c p (write_data_fifo p run size c)

-- why an accepted write is ignored
pub data Ignores (d : Device) (o : ℕ) : Type 0 where
  late_start : in_four hash_start o ≡ true → start_counts (owner d) ≡ false → Ignores d o
  late_end : in_four hash_start o ≡ false → in_four hash_end o ≡ true → d.launch.sequence ≡ false → Ignores d o
  page_ignored : Unhashed o → hash_page o d.launch.sequence ≡ true → in_four hash_data o ≡ false → Ignores d o
  -- another's register, or one that takes no write
  missed : Unhashed o → hash_page o d.launch.sequence ≡ false → (place_of o ≡ access → ⊥) → holds (owner d) (page_at o) ≡ false → Ignores d o
  register_ignored : Unhashed o → hash_page o d.launch.sequence ≡ false → (place_of o ≡ access → ⊥) → Inert (place_of o) → Ignores d o

abbrev pub commanded_device : Device → Commanded → Device
commanded_device d c = with_control d (commanded_control d.control c) c.phase

module _ (d : Device) (w r : List ℕ) (o v : ℕ) where
  -- what the arbiter makes of the byte written to ACCESS
  abbrev pub accessed : Change
  accessed = write_access d.control.arbiter (page_at o) v

  -- an accepted write, with the record and the FIFOs that it leaves
  pub data Writes : Device → List ℕ → List ℕ → Type 0 where
    starts : in_four hash_start o ≡ true → start_counts (owner d) ≡ true → Writes (started_device d) (clear_fifo w) (clear_fifo r)
    ends : in_four hash_start o ≡ false → in_four hash_end o ≡ true → d.launch.sequence ≡ true → Writes (ended_device d) (clear_fifo w) (clear_fifo r)
    joins : Unhashed o → hash_page o d.launch.sequence ≡ true → in_four hash_data o ≡ true → d.launch.stream.count < hash_limit → Writes (joined_device d v) w r
    ignores : Ignores d o → Writes d w r
    -- a write to ACCESS that takes the device from its owner, and any other
    aborts : o ≤ last_offset → Unhashed o → hash_page o d.launch.sequence ≡ false → place_of o ≡ access → accessed.abort ≡ true
        → Writes (with_control d (changed_control d.control accessed) Idle) (clear_fifo w) (clear_fifo r)
    keeps : o ≤ last_offset → Unhashed o → hash_page o d.launch.sequence ≡ false → place_of o ≡ access → accessed.abort ≡ false
        → Writes (with_control d (changed_control d.control accessed) d.phase) w r
    -- of the active locality alone: an interrupt register, a command bit of STS or a byte for the FIFO
    sets : Unhashed o → hash_page o d.launch.sequence ≡ false → (place_of o ≡ access → ⊥) → holds (owner d) (page_at o) ≡ true → (s : Interrupts) → Sets o v d.control.interrupts s
        → Writes (with_control d (with_interrupts d.control s) d.phase) w r
    commands : Unhashed o → hash_page o d.launch.sequence ≡ false → (place_of o ≡ access → ⊥) → holds (owner d) (page_at o) ≡ true → (c : Commanded) → CommandCase d.control.run (declared_size w) (length w) d.phase c
        → Orders o v d.control.run (declared_size w) (length w) d.phase c
        → Writes (commanded_device d c) (update_write_fifo c.fifos v w) (update_read_fifo c.fifos bad_size r)

  pub data WriteCase : Result → Type 0 where
    refused : {n : Option Refusal} → n ≡ bus_refusal_of d w r o → (n ≡ None → ⊥) → WriteCase (result n d w r)
    -- hash data beyond the limit
    overlong : bus_refusal_of d w r o ≡ None → hash_page o d.launch.sequence ≡ true → in_four hash_data o ≡ true → hash_limit ≤ d.launch.stream.count
        → WriteCase (result (Some HashLength) d w r)
    accepts : {d' : Device} {w' r' : List ℕ} → bus_refusal_of d w r o ≡ None → Writes d' w' r' → WriteCase (result None d' w' r')

  abbrev left : WriteKind → Result
  left kind = left_by (resolved_write kind o d.control d.phase (hash_progress d.launch) w v) d w r v

  at_access : place_of o ≡ access → register_for o ≡ Access
  unfolding register_at
  at_access q = rw q refl

  module _ (z : bus_refusal_of d w r o ≡ None) where
    l : o ≤ last_offset
    l = (bus_then _ _ o z).1

    -- ACCESS of a page whose writes are not ignored
    access_case : Unhashed o → hash_page o d.launch.sequence ≡ false → place_of o ≡ access → WriteCase (left (Ordinary Access))
    unfolding accepted_write write_effect register_write apply_change launch_after pcrs_after
    access_case u h e = by accessed.abort refl
      where
        by : (t : Bool) → accessed.abort ≡ t
            → WriteCase (left_by (done (Ordinary Access) (cond t (effect (changed_control d.control accessed) Idle Clear) (effect (changed_control d.control accessed) d.phase Keep))) d w r v)
        by true i = accepts z (aborts l u h e i)
        by false i = accepts z (keeps l u h e i)

    -- another register of the active locality's page
    reach_case : Unhashed o → hash_page o d.launch.sequence ≡ false → (place_of o ≡ access → ⊥) → holds (owner d) (page_at o) ≡ true → WriteCase (left (Ordinary (register_for o)))
    unfolding accepted_write write_effect register_write apply_command write_sts launch_after pcrs_after
    reach_case u q n h =
        register_elim (λ g. WriteCase (left (Ordinary g))) (place_of o) (λ e. absurd (n e)) (λ e. accepts z (sets u q n h _ (enables e))) (λ i. still i)
        (λ e. accepts z (sets u q n h _ (clears e))) (λ j i. still i) (λ e. status e (eqb (place_of o - sts) 0) refl)
        (λ e. accepts z (commands u q n h _ (fifo_case d.control.run (declared_size w) (length w) d.phase) (byte e))) (λ j i. still i) (λ i. still i)
      where
        still : Inert (place_of o) → WriteCase (result None d w r)
        still i = accepts z (ignores (register_ignored u q n i))

        status : within sts (sts + 2) (place_of o) ≡ true → (t : Bool) → eqb (place_of o - sts) 0 ≡ t
            → WriteCase (left_by (done (Ordinary (Sts (place_of o - sts))) (apply_command d.control (cond t (commanded_by (sts_command v) d.phase d.control.run (declared_size w) (length w)) (ignored d.phase d.control.run)))) d w r v)
        status e true i =
            let k : _ = within_then sts (sts + 2) (place_of o) e in
            accepts z (commands u q n h _ (order_case d.control.run (declared_size w) (length w) (sts_command v) d.phase) (bit (omega (arith, eqb-true (place_of o - sts) 0 i))))
        status e false i =
            accepts z (commands u q n h _ idle (nothing (λ j. eqb-false (place_of o - sts) 0 i (omega arith)) e))

    resolved_case : (kind : WriteKind) → Resolved o d.launch.sequence (owner d) kind → WriteCase (left kind)
    unfolding accepted_write write_effect apply_change launch_after pcrs_after
    resolved_case kind (resolving.starts i j) = accepts z (starts i j)
    resolved_case kind (resolving.late_start i j) = accepts z (ignores (late_start i j))
    resolved_case kind (resolving.ends i j k) = rw (handover_aborts d.control.arbiter) (accepts z (ends i j k))
    resolved_case kind (resolving.late_end i j k) = accepts z (ignores (late_end i j k))
    resolved_case kind (resolving.joins u h i) = by (leb hash_limit d.launch.stream.count) refl
      where
        by : (t : Bool) → leb hash_limit d.launch.stream.count ≡ t
            → WriteCase (left_by (cond t (refused_write (Some HashLength) d.control d.phase) (accepted_write HashData o d.control d.phase w v)) d w r v)
        by true e = overlong z h i (leb-true hash_limit d.launch.stream.count e)
        by false e = accepts z (joins u h i (leb-false hash_limit d.launch.stream.count e))
    resolved_case kind (resolving.page_ignored u h i) = accepts z (ignores (page_ignored u h i))
    resolved_case kind (resolving.accesses u h e) = subst (λ (g : Register). WriteCase (left (Ordinary g))) (sym (at_access e)) (access_case u h e)
    resolved_case kind (resolving.reaches u h n a) = reach_case u h n a
    resolved_case kind (resolving.misses u h n a) = accepts z (ignores (missed u h n a))

  pub write_case : WriteCase (write d w r o v)
  unfolding write write_cycle launch_after pcrs_after
  write_case = by (accepted (bus_refusal_of d w r o)) refl
    where
      by : (t : Bool) → accepted (bus_refusal_of d w r o) ≡ t
          → WriteCase (left_by (cond t (resolved_write (resolve o d.launch.sequence (owner d)) o d.control d.phase (hash_progress d.launch) w v) (refused_write (bus_refusal_of d w r o) d.control d.phase)) d w r v)
      by true e = resolved_case (accepts_true (bus_refusal_of d w r o) e) (resolve o d.launch.sequence (owner d)) (resolved o d.launch.sequence (owner d))
      by false e = refused refl (accepts_false (bus_refusal_of d w r o) e)
