-- Every entry of the bench sheet holds, by computation. Assumes nothing.
use mathlib.Core.Path.{◌≡◌, refl}
use mathlib.Core.Bool.{true, false}
use mathlib.Core.List.{List, [], ◌∷◌, ◌++◌}
use Prim.Native.Nat.{ℕ, ◌-◌}
use lib.ListN.{length, drop, replicate}
use Rattle.arbiter.specs.State.{locality, with_active, fresh_arbiter}
use Rattle.arbiter.specs.Rules.{access_command, request, release, seize, clear_seized, write_access, handover}
use Rattle.std.specs.Prelude.{Some}
use Rattle.pcr.specs.Bank as bank
use Rattle.pcr.specs.Permission.{permission_table, may_reset, may_extend, permission}
use Rattle.record.specs.Record.{no_causes, closed_launch, fresh_device, with_parts}
use Rattle.record.specs.declared.Causes.{Causes}
use Rattle.record.specs.declared.Device.{Device}
use Rattle.record.specs.declared.Phase.{Phase}
use Rattle.record.specs.declared.Phase.TheVariants.{Reception, Execution, Completion}
use Rattle.record_shape.specs.Shape.{lengths_allowed, in_shape}
use Rattle.reg_map.specs.Map.{register_at}
use Rattle.reg_access.specs.Access.{access_bits}
use Rattle.reg_interrupts.specs.Interrupts.{enable_byte, status_byte, capability_byte, line_asserted, write_enable, write_status}
use Rattle.reg_sts_read.specs.Size.{declared_size}
use Rattle.reg_sts_read.specs.Status.{sts_low, sts_byte}
use Rattle.reg_sts_write.specs.Sts.{sts_command, command_ready_cause, write_sts}
use Rattle.bus_read.specs.Reading.{register_read}
use Rattle.bus_resolve.specs.Resolve.{resolve}
use Rattle.bus_write.specs.Effect.{apply_change, apply_command}
use Rattle.bus_write.specs.Writing.{register_write, write_effect}
use Rattle.launch.specs.Launch.{launch_after, pcrs_after}
use Rattle.call_admission.specs.Refusals.{bus_refusal, lent_refusal, answer_refusal, pcr_refusal}
use Rattle.call_power.specs.Power as power
use Rattle.call_power.specs.Power.{power_on}
use Rattle.call_respond.specs.Respond as engine
use Rattle.call_respond.specs.Respond.{answer_cycle, accepted_answer}
use Rattle.call_query.specs.Query.{window_span, pcr_value}
use Rattle.call_bus.specs.Bus as bus
use Rattle.call_bus.specs.Bus.{read, read_cycle, accepted_read, write_cycle, accepted_write}
use Rattle.claims.specs.Calls as call
use Rattle.claims.specs.Calls.{State, state, left}
use Rattle.conformance_claim.specs.Sheet.{Line, gets, leaves, run, write, ignored, reads, answer, shows, Check, fresh, checks, gots, wants, Holds, head, filler, send, receive, bad_size, complete, runs, burst, p1, p2, p3, p4, p5, p6, p7, p8, p9, p10, p10', p11, p12, seizures, marks, established, interrupts, onlookers, engine_answers, all_wait, pending, high_bytes, registers, bursts, questions, Each, SheetHolds}

-- ---- lines played in two parts

-- what the lines leave
unfoldable played : State → List Line → State
played s [] = s
played s (write o v ∷ l) = played (left (call.write o v) s) l
played s (ignored o v ∷ l) = played (left (call.write o v) s) l
played s (reads o v ∷ l) = played (left (call.read o) s) l
played s (answer n k a ∷ l) = played (left (call.respond k a) s) l
played s (gets c n v ∷ l) = played (left c s) l
played s (leaves c n v ∷ l) = played (left c s) l
played s (run n ∷ l) = played s l

checks_on : (s : State) (l m : List Line) → checks s (l ++ m) ≡ checks s l ++ checks (played s l) m
unfolding checks played
checks_on s [] m = refl
checks_on s (write o v ∷ l) m = rw (checks_on (left (call.write o v) s) l m) refl
checks_on s (ignored o v ∷ l) m = rw (checks_on (left (call.write o v) s) l m) refl
checks_on s (reads o v ∷ l) m = rw (checks_on (left (call.read o) s) l m) refl
checks_on s (answer n k a ∷ l) m = rw (checks_on (left (call.respond k a) s) l m) refl
checks_on s (gets c n v ∷ l) m = rw (checks_on (left c s) l m) refl
checks_on s (leaves c n v ∷ l) m = rw (checks_on (left c s) l m) refl
checks_on s (run n ∷ l) m = rw (checks_on s l m) refl

gots_on : (a b : List Check) → gots (a ++ b) ≡ gots a ++ gots b
gots_on [] b = refl
gots_on (c ∷ a) b = rw (gots_on a b) refl

wants_on : (a b : List Check) → wants (a ++ b) ≡ wants a ++ wants b
wants_on [] b = refl
wants_on (c ∷ a) b = rw (wants_on a b) refl

-- the lines l hold and leave t, from which the lines m hold
holds_on : (s t : State) (l m : List Line) → Holds s l → played s l ≡ t → Holds t m → Holds s (l ++ m)
holds_on s t l m h e k = rw (checks_on s l m, gots_on, wants_on, e, h, k) refl

-- the definitions of the calls: to unfold this is to unfold them
unfoldable pub calls : Unit {0}
unfolding power_on read read_cycle accepted_read bus_refusal lent_refusal fresh_device lengths_allowed in_shape register_at access_bits register_read bus.write write_cycle accepted_write resolve register_write write_effect apply_change apply_command launch_after pcrs_after access_command request release seize write_access handover declared_size sts_low sts_byte sts_command write_sts power.reset engine.respond answer_cycle accepted_answer answer_refusal window_span write_enable write_status enable_byte status_byte capability_byte line_asserted clear_seized
calls = tt

-- by computation
before_8 : (d : Device) → Each (fresh d) (p1 ∷ p2 ∷ p3 ∷ p4 ∷ p5 ∷ p6 ∷ p7 ∷ [])
unfolding checks calls
before_8 d = (refl, (refl, (refl, (refl, (refl, (refl, (refl, tt)))))))

after_8 : (d : Device) → Each (fresh d) (p9 ∷ p10 ∷ [])
unfolding checks calls
after_8 d = (refl, (refl, tt))

after_10 : (d : Device) → Each (fresh d) (p10' ∷ [])
unfolding checks calls
after_10 d = (refl, tt)

last_two : (d : Device) → Each (fresh d) (p11 ∷ p12 ∷ [])
unfolding checks calls
last_two d = (refl, (refl, tt))

-- P8 by parts, since each `ignored` compares all that a call leaves with all that it was handed. Between the parts 0 is active and n bytes
-- are received, b
abbrev owned : ℕ → Phase → Causes → List ℕ → List ℕ → State
owned n p k w r =
    state
    (with_parts (fresh_device false (replicate 5 0) 0)
    (record {
      arbiter = with_active fresh_arbiter (Some (locality 0));
      interrupts = record { global = false; enable = no_causes; status = k };
      established = false;
      run = n;
    })
    p closed_launch bank.fresh)
    w r

abbrev commanded : ℕ → Phase → List ℕ → State
commanded n p b = owned n p command_ready_cause (b ++ replicate (1024 - length b) 0) (replicate 1024 0)

abbrev six : State
six = commanded 0 (Reception 6) (head 0x00 0x0a)

abbrev ten : State
ten = commanded 0 (Reception 10) (head 0x00 0x0a ++ filler 6 4)

abbrev running : State
running = commanded 1 (Execution 10) (head 0x00 0x0a ++ filler 6 4)

abbrev first_part : List Line
first_part = p7 ++ send (head 0x00 0x0a) ++ (reads 0x0018 0x88 ∷ [])

abbrev second_part : List Line
second_part = (ignored 0x0018 0x20 ∷ []) ++ complete 3

abbrev third_part : List Line
third_part = (ignored 0x0024 0xff ∷ []) ++ runs 1 (head 0x00 0x0a ++ filler 6 4)

-- the parts hold, and the first two leave this
parts_of_8 : (d : Device) → Holds (fresh d) first_part × (played (fresh d) first_part ≡ six) × Holds six second_part × (played six second_part ≡ ten) × Holds ten third_part
unfolding checks calls played
parts_of_8 d = (refl, refl, refl, refl, refl)

p8_holds : (d : Device) → Holds (fresh d) p8
p8_holds d =
    let h : _ = parts_of_8 d in
    holds_on (fresh d) six first_part (second_part ++ third_part) h.0 h.1
    (holds_on six ten second_part third_part h.2 h.3 h.4)

-- what P8 leaves runs, and is answered
abbrev fourth_part : List Line
fourth_part =
    (answer 4 1 (filler 0 9) ∷ answer 4 1 (filler 0 1025) ∷ answer 3 0 (filler 0 10) ∷ answer 3 2 (filler 0 10) ∷ reads 0x0018 0x80
    ∷ answer 0 1 (filler 240 10) ∷ answer 3 1 (filler 0 10) ∷ reads 0x0018 0x90 ∷ shows (filler 240 10) ∷ [])
    ++ receive (filler 240 10) ++ burst 0 ++ (reads 0x0024 0xff ∷ shows [] ∷ [])

runs_on : (played ten third_part ≡ running) × Holds running fourth_part
unfolding checks calls played
runs_on = (refl, refl)

engine_holds : (d : Device) → Holds (fresh d) engine_answers
engine_holds d =
    let h : _ = parts_of_8 d in
    holds_on (fresh d) six first_part (second_part ++ third_part ++ fourth_part) h.0 h.1
    (holds_on six ten second_part (third_part ++ fourth_part) h.2 h.3
    (holds_on ten running third_part fourth_part h.4 runs_on.0 runs_on.1))

-- the 19h answer with two bytes read, before and after others looked on
abbrev half_read : State
half_read =
    owned 0 (Completion 10 2) (record { command_ready = true; locality_change = false; data_avail = true }) (replicate 1024 0) (bad_size ++ replicate 1014 0)

abbrev first_look : List Line
first_look =
    p7
    ++ (send (head 0x00 0x09) ++ complete 2
    ++ (write 0x0018 0x20 ∷ reads 0x1018 0xff ∷ reads 0x1024 0xff ∷ reads 0x0024 0x00 ∷ reads 0x0024 0xc4 ∷ []))

abbrev second_look : List Line
second_look =
    (ignored 0x1018 0x02 ∷ ignored 0x2024 0x55 ∷ ignored 0x4018 0x40 ∷ reads 0x3024 0xff ∷ reads 0x0018 0x90 ∷ [])
    ++ receive (drop 2 bad_size) ++ (reads 0x0018 0x80 ∷ [])

looks_on : (d : Device) → Holds (fresh d) first_look × (played (fresh d) first_look ≡ half_read) × Holds half_read second_look
unfolding checks calls played
looks_on d = (refl, refl, refl)

onlookers_hold : (d : Device) → Holds (fresh d) onlookers
onlookers_hold d = let h : _ = looks_on d in holds_on (fresh d) half_read first_look second_look h.0 h.1 h.2

-- the further entries
further : (d : Device) → Each (fresh d) (seizures ∷ marks ∷ established ∷ interrupts ∷ [])
unfolding checks calls
further d = (refl, (refl, (refl, (refl, tt))))

served_down : (d : Device) → Each (fresh d) (all_wait ∷ pending ∷ high_bytes ∷ registers ∷ [])
unfolding checks calls
served_down d = (refl, (refl, (refl, (refl, tt))))

bursts_hold : (d : Device) → Holds (fresh d) bursts
unfolding checks calls
bursts_hold d = refl

-- the questions look at the PCRs and at the permission table
questions_hold : (d : Device) → Holds (fresh d) questions
unfolding checks calls bank.fresh bank.with_dynamic permission_table may_reset may_extend permission pcr_value pcr_refusal
questions_hold d = refl

-- ---- the claim

each_on : (s : State) (a b : List (List Line)) → Each s a → Each s b → Each s (a ++ b)
each_on s [] b h k = k
each_on s (e ∷ a) b h k = (h.0, each_on s a b h.1 k)

pub sheet_holds : SheetHolds
sheet_holds d =
    let s : State = fresh d in
    let last : List (List Line) = bursts ∷ questions ∷ [] in
    let ours : List (List Line) = onlookers ∷ engine_answers ∷ all_wait ∷ pending ∷ high_bytes ∷ registers ∷ last in
    let others : List (List Line) = seizures ∷ marks ∷ established ∷ interrupts ∷ ours in
    let from_eleven : List (List Line) = p11 ∷ p12 ∷ others in
    each_on s (p1 ∷ p2 ∷ p3 ∷ p4 ∷ p5 ∷ p6 ∷ p7 ∷ []) (p8 ∷ p9 ∷ p10 ∷ p10' ∷ from_eleven) (before_8 d) (
      p8_holds d,
      each_on s (p9 ∷ p10 ∷ []) (p10' ∷ from_eleven) (after_8 d) (each_on s (p10' ∷ []) from_eleven (after_10 d) (each_on s (p11 ∷ p12 ∷ []) others (last_two d)
          (each_on s (seizures ∷ marks ∷ established ∷ interrupts ∷ []) ours (further d) (onlookers_hold d, (engine_holds d, each_on s (all_wait ∷ pending ∷ high_bytes ∷ registers ∷ []) last (served_down d) (bursts_hold d, (questions_hold d, tt))))))),
    )
