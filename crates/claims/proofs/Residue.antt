-- No byte of an old owner, command or answer stays in a FIFO: it follows from the mailbox and from what a phase other than Idle needs. Assumes
-- nothing.
use mathlib.Core.Path.{◌≡◌, refl, sym, ap, ◌∙◌}
use mathlib.Core.Bool.{Bool, true, false, true≢false}
use mathlib.Core.List.{List}
use Prim.Native.Nat.{ℕ, ◌-◌}
use lib.ListN.{length, drop, replicate, length-replicate}
use lib.Seq.{drop-append_seam}
use Rattle.arbiter_model.specs.Model.{Model, free, fresh}
use Rattle.arbiter_model.proofs.ModelLaws.{not_free}
use Rattle.arbiter.specs.Agreement.{holder}
use Rattle.arbiter.specs.declared.Change.{Change}
use Rattle.arbiter.specs.declared.Locality.{Locality}
use Rattle.std.specs.Prelude.{Option, Some, None}
use Rattle.arbiter.proofs.Cases as rule
use Rattle.arbiter.proofs.Cases.{AccessCase, access_case}
use Rattle.record.specs.Record.{fresh_device}
use Rattle.record.specs.declared.Phase.{Phase}
use Rattle.record.specs.declared.Phase.TheVariants.{Idle, Ready, Reception, Execution, Completion}
use Rattle.record_shape.specs.Shape as shape
use Rattle.record_shape.specs.Shape.{phase_placed}
use Rattle.bus_resolve.specs.Resolve.{page_at}
use Rattle.call_outcome.specs.Result.{Result}
use Rattle.call_power.proofs.Cases as power
use Rattle.call_power.proofs.Cases.{PowerCase, power_case}
use Rattle.call_bus.proofs.Cases.{owner, starts, ends, joins, ignores, aborts, keeps, sets, commands}
use Rattle.claims.specs.Calls.{Call, power_on, State, left, after, heard}
use Rattle.claims.specs.Demand3.{active_in}
use Rattle.claims.specs.Mailbox.{Mailbox, idle, ready, receiving, executing, answering, Mail, mail, phase_of, command_of, answer_of, padded}
use Rattle.claims.specs.Residue.{Zero, BothZero, received, answered, Tidy, NoResidue, ResidueClaim}
use Rattle.claims.proofs.CallCases.{CallCase, same, powers, resets, looks, reads, writes, responds, call_case}
use Rattle.claims.proofs.Mailbox.{Kept, one_kept, all_kept, first_kept}
use Rattle.claims.proofs.Progress.{Placed, power_placed, all_placed}

-- ---- the bytes

zeros : (n : ℕ) → Zero (replicate n 0)
zeros n = ap (λ (k : ℕ). replicate k 0) (sym (length-replicate n 0))

-- after the bytes in use
zero_after : (c : ℕ) (bs : List ℕ) → Zero (drop (length bs) (padded c bs))
zero_after c bs = rw (drop-append_seam bs (replicate (c - length bs) 0)) (zeros (c - length bs))

received_is : (b : Mailbox) → received (phase_of b) ≡ length (command_of b)
received_is idle = refl
received_is ready = refl
received_is (receiving bs) = refl
received_is (executing bs) = refl
received_is (answering a k) = refl

answered_is : (b : Mailbox) → answered (phase_of b) ≡ length (answer_of b)
answered_is idle = refl
answered_is ready = refl
answered_is (receiving bs) = refl
answered_is (executing bs) = refl
answered_is (answering a k) = refl

tidy : {c : ℕ} {m : Model} {q : Mail} (s : State) → Kept c m q s → Tidy s.device.phase s.write_fifo s.read_fifo
tidy {c} {q = q} s h =
    rw (h.boxed.phase, h.boxed.write_fifo, h.boxed.read_fifo)
    (record { write_fifo = rw (received_is q.box) (zero_after c (command_of q.box)); read_fifo = rw (answered_is q.box) (zero_after c (answer_of q.box)) })

both_zero : (s : State) (p : Phase) → received p ≡ 0 → answered p ≡ 0 → Tidy s.device.phase s.write_fifo s.read_fifo → s.device.phase ≡ p → BothZero s
both_zero s p i j t e = record { write_fifo = rw (ap received e ∙ i) at t.write_fifo; read_fifo = rw (ap answered e ∙ j) at t.read_fifo }

-- ---- the phase

idle_is : (p : Phase) → shape.idle p ≡ true → p ≡ Idle
idle_is Idle e = refl
idle_is Ready e = absurd (true≢false (sym e))
idle_is (Reception n) e = absurd (true≢false (sym e))
idle_is (Execution n) e = absurd (true≢false (sym e))
idle_is (Completion n k) e = absurd (true≢false (sym e))

-- a free device is Idle
free_idle : (o : Option Locality) (p : Phase) (q : Bool) → phase_placed p o q ≡ true → holder o ≡ free → p ≡ Idle
free_idle None p q e f = idle_is p e
free_idle (Some y) p q e f = absurd (not_free f)

-- a call that takes the device from its owner, or gives it to one, leaves Idle
abbrev pub Moved : State → State → Type 0
Moved s s' = active_in s'.device ≡ active_in s.device → ⊥

fresh_idle : (established : Bool) (identity : List ℕ) (n : ℕ) → (fresh_device established identity n).phase ≡ Idle
unfolding fresh_device
fresh_idle established identity n = refl

module _ (s : State) (p : Placed s.device) where
  kept_idle : (x : Locality) (c : Change) → AccessCase s.device.control.arbiter x c → c.abort ≡ false → (holder c.arbiter.active ≡ active_in s.device → ⊥) → s.device.phase ≡ Idle
  kept_idle x c (rule.aborts t) e f = absurd (true≢false (sym t ∙ e))
  kept_idle x c (rule.stays t j) e f = absurd (f (ap holder j))
  kept_idle x c (rule.takes t j k) e f = free_idle (owner s.device) s.device.phase s.device.launch.sequence p.phase (ap holder j)

  power_idle : {established : Bool} {identity w r : List ℕ} {t : Result} → PowerCase established identity w r t → t.device.phase ≡ Idle
  power_idle (power.refused l) = fresh_idle _ _ _
  power_idle (power.powered l) = fresh_idle _ _ _

  pub turned : {c : Call} {n : ℕ} {s' : State} → CallCase s c n s' → Moved s s' → s'.device.phase ≡ Idle
  turned (same q e) f = absurd (f refl)
  turned (powers k) f = power_idle k
  turned (resets e) f = fresh_idle _ _ _
  turned (looks e) f = absurd (f refl)
  turned (reads i e) f = absurd (f refl)
  turned (responds e) f = absurd (f refl)
  turned (writes (starts i j)) f = refl
  turned (writes (ends i j k)) f = refl
  turned (writes (joins u h i l)) f = absurd (f refl)
  turned (writes (ignores i)) f = absurd (f refl)
  turned (writes (aborts l u h e i)) f = refl
  turned (writes {o = o} {v = v} (keeps l u h e i)) f = kept_idle (page_at o) _ (access_case s.device.control.arbiter (page_at o) v) i f
  turned (writes (sets u h n e j t)) f = absurd (f refl)
  turned (writes (commands u h n e c k t)) f = absurd (f refl)

-- ---- the claim

proof : {c : ℕ} {m : Model} {q : Mail} (s : State) → Kept c m q s → Placed s.device → NoResidue s
proof {c} {m} {q} s h p = record {
  unowned = λ e. both_zero s Idle refl refl (tidy s h) (free_idle (owner s.device) s.device.phase s.device.launch.sequence p.phase e);
  idle = both_zero s Idle refl refl (tidy s h);
  ready = both_zero s Ready refl refl (tidy s h);
  tidy = tidy s h;
  turns = λ k f. let i : _ = turned s p (call_case k s) f in (i, both_zero (left k s) Idle refl refl (tidy (left k s) (one_kept c m q s h k)) i);
}

pub no_residue : ResidueClaim
unfolding heard after
no_residue s e i cs z =
    let t : State = left (power_on e i) s in
    let c : ℕ = length s.write_fifo in
    let k : _ = first_kept s e i z in
    proof (after t cs) (all_kept c fresh (mail idle 0) t cs k) (all_placed c fresh (mail idle 0) t cs k (power_placed (power_case e i s.write_fifo s.read_fifo)))
