-- The history of calls is all: what a list of calls leaves, every field of the record and every byte of both FIFOs, is given by C, the calls
-- and their refusal numbers, through the books. Assumes nothing.
use Rattle.std.specs.Prelude.{ℕ, zero, suc, ◌≡◌, cond, List, [], ◌∷◌, ◌++◌, length, replicate, eqb, Option, Some, None}
use Rattle.sha1_block.specs.Sha1.{sha1}
use Rattle.sha1_message.specs.Stream.{nothing as no_stream, begin, join_all}
use Rattle.pcr.specs.Bank.{pcr}
use Rattle.arbiter.specs.State.{locality}
use Rattle.arbiter.specs.declared.Locality.{Locality}
use Rattle.record.specs.declared.Device.{Device}
use Rattle.arbiter_model.specs.Model.{Model, Holder, free, held, is_hash_start, is_hash_end, step, fresh}
use Rattle.claims.specs.Calls.{Call, State, state, Answer, StartsAccepted, OverLists}
use Rattle.claims.specs.Events.{Entry, powered_on, restarted, written, read_at, answered, none, entry_of, event_for, model_after}
use Rattle.claims.specs.Launch.{launch_pcr, is_launch_pcr, start_counts, stream_step, stream_after}
use Rattle.claims.specs.Mailbox.{Mail, mail_after, phase_of, command_of, answer_of, padded}
use Rattle.claims.specs.Signals.{Signals, signals_after}

-- ---- the PCRs' values, by number

-- "PCRs 0 to 16 and 23 all 00h, 17 to 22 all FFh"
abbrev pub fresh_values : ℕ → List ℕ
fresh_values p = cond (is_launch_pcr p) (replicate 20 0xff) (replicate 20 0x00)

-- start: "PCRs 17 to 22 all 00h"; end: "PCR 17 becomes SHA-1 of its 20 bytes followed by the 20-byte digest"; bs is what the sequence took
abbrev pub values_written : Model → List ℕ → (ℕ → List ℕ) → ℕ → ℕ → List ℕ
values_written m bs w o p =
    cond (is_hash_start o) (cond (start_counts m.active) (cond (is_launch_pcr p) (replicate 20 0x00) (w p)) (w p))
    (cond (is_hash_end o) (cond m.sequence (cond (eqb p launch_pcr) (sha1 (w launch_pcr ++ sha1 bs)) (w p)) (w p))
    (w p))

abbrev pub values_step : Model → List ℕ → (ℕ → List ℕ) → Entry → ℕ → List ℕ
values_step m bs w (powered_on established identity) = fresh_values
values_step m bs w restarted = fresh_values
values_step m bs w (written o v) = values_written m bs w o
values_step m bs w (read_at o) = w
values_step m bs w (answered a) = w
values_step m bs w none = w

unfoldable pub values_from : Model → List ℕ → (ℕ → List ℕ) → List (Call × Answer) → ℕ → List ℕ
values_from m bs w [] = w
values_from m bs w (k ∷ ks) =
    let e : Entry = entry_of k.0 k.1.refusal in
    values_from (step m (event_for e)) (stream_step m bs e) (values_step m bs w e) ks

abbrev pub values_after : List (Call × Answer) → ℕ → List ℕ
values_after h = values_from fresh [] fresh_values h

-- ---- the identity bytes: the last power-on's

abbrev pub identity_step : List ℕ → Entry → List ℕ
identity_step i (powered_on established identity) = identity
identity_step i restarted = i
identity_step i (written o v) = i
identity_step i (read_at o) = i
identity_step i (answered a) = i
identity_step i none = i

unfoldable pub identity_from : List ℕ → List (Call × Answer) → List ℕ
identity_from i [] = i
identity_from i (k ∷ ks) = identity_from (identity_step i (entry_of k.0 k.1.refusal)) ks

abbrev pub identity_after : List (Call × Answer) → List ℕ
identity_after h = identity_from [] h

-- ---- the state that the books make up

abbrev pub owner_of : Holder → Option Locality
owner_of free = None
owner_of (held y) = Some (locality y)

-- f 0 to f (n - 1)
abbrev pub listed : {A : Type 0} → ℕ → (ℕ → A) → List A
listed zero f = []
listed (suc n) f = f 0 ∷ listed n (λ i. f (suc i))

-- "none, or 0 to 4"; 24 PCRs; an open sequence stands for its bytes, a closed one keeps nothing
abbrev pub device_of : Model → Mail → Signals → List ℕ → (ℕ → List ℕ) → List ℕ → Device
device_of m p g bs w i =
    record {
      control =
          record {
            arbiter = record { active = owner_of m.active; waiting = listed 5 m.waiting; seized = listed 5 g.seized };
            interrupts = g.interrupts;
            established = g.established;
            run = p.run;
          };
      phase = phase_of p.box;
      identity = i;
      launch = record { sequence = m.sequence; stream = cond m.sequence (join_all begin bs) no_stream };
      pcrs = listed 24 (λ q. pcr (w q));
    }

abbrev pub state_of : ℕ → List (Call × Answer) → State
state_of c h =
    let p : Mail = mail_after c h in
    state (device_of (model_after h) p (signals_after c h) (stream_after h) (values_after h) (identity_after h)) (padded c (command_of p.box)) (padded c (answer_of p.box))

-- ---- the claim: after every list of calls that starts with an accepted power-on; `Progress` says when one is

abbrev pub GivenAfter : State → List (Call × Answer) → State → Type 0
GivenAfter s₀ h s = StartsAccepted h → s ≡ state_of (length s₀.write_fifo) h

abbrev pub HistoryIsAll : Type 0
HistoryIsAll = OverLists GivenAfter
