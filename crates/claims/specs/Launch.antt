-- The launch hash over lists of calls (document 01, 'The launch hash'): the bytes of the open sequence, kept from the calls, their refusal
-- numbers and the waiting model alone; what its end measures; which events change a PCR. Assumes nothing.
use Rattle.std.specs.Prelude.{ℕ, ◌≡◌, Bool, true, false, cond, ◌||◌, List, [], ◌∷◌, ◌++◌, eqb, length}
use Rattle.reg_layout.specs.Offsets.{within}
use Rattle.refusal.specs.Refusal.{accepted}
use Rattle.sha1_block.specs.Sha1.{sha1}
use Rattle.sha1_message.specs.Stream.{nothing as no_stream, begin, join_all}
use Rattle.pcr.specs.Bank.{pcrs, all_bytes, value_at, replaced}
use Rattle.pcr.specs.declared.Pcr.{Pcr}
use Rattle.record.specs.declared.Launch.{Launch}
use Rattle.arbiter_model.specs.Model.{Model, Holder, free, held, is_hash_start, is_hash_end, Event, restart, hash_start, hash_end, access, nothing, step, fresh}
use Rattle.claims.specs.Calls.{Call, write, is_power_on, State, Answer, refusal_of, left, StartsAccepted, OverLists}
use Rattle.claims.specs.Events.{Entry, powered_on, restarted, written, read_at, answered, none, entry_of, event_of, happens, model_after}

-- ---- the bytes of the open sequence: those accepted since the last start that counted

-- "4024..4027 takes hash data while a sequence is open"
abbrev pub is_hash_data : ℕ → Bool
is_hash_data o = within 0x4024 0x4027 o

-- "Start counts if the device is free or 4 is active"
abbrev pub start_counts : Holder → Bool
start_counts free = true
start_counts (held y) = eqb y 4

-- an accepted write: a start that counts begins anew, an end closes, data joins
abbrev pub stream_written : Model → List ℕ → ℕ → ℕ → List ℕ
stream_written m bs o v =
    cond (is_hash_start o) (cond (start_counts m.active) [] bs)
    (cond (is_hash_end o) (cond m.sequence [] bs)
    (cond (is_hash_data o) (cond m.sequence (bs ++ (v ∷ [])) bs)
    bs))

abbrev pub stream_step : Model → List ℕ → Entry → List ℕ
stream_step m bs (powered_on established identity) = []
stream_step m bs restarted = []
stream_step m bs (written o v) = stream_written m bs o v
stream_step m bs (read_at o) = bs
stream_step m bs (answered a) = bs
stream_step m bs none = bs

-- from a model m and bytes bs
unfoldable pub stream_from : Model → List ℕ → List (Call × Answer) → List ℕ
stream_from m bs [] = bs
stream_from m bs (c ∷ cs) = stream_from (step m (event_of c.0 c.1.refusal)) (stream_step m bs (entry_of c.0 c.1.refusal)) cs

-- after a list of calls
abbrev pub stream_after : List (Call × Answer) → List ℕ
stream_after cs = stream_from fresh [] cs

-- ---- the claim

-- an open sequence stands for bs; a closed one keeps nothing
pub record Stands (l : Launch) (bs : List ℕ) : Type 0 where
  pub opened : l.sequence ≡ true → l.stream ≡ join_all begin bs
  pub closed : l.sequence ≡ false → l.stream ≡ no_stream

-- "PCRs 17 to 22 all 00h", "PCR 17 becomes SHA-1 of ..": the numerals are the paper's
abbrev pub launch_pcr : ℕ
launch_pcr = 17

abbrev pub is_launch_pcr : ℕ → Bool
is_launch_pcr p = within 17 22 p

-- the events that change a PCR: power-on and reset, a start that counts, the end of an open sequence
abbrev pub changes_pcrs : Model → Event → Bool
changes_pcrs m restart = true
changes_pcrs m hash_start = start_counts m.active
changes_pcrs m hash_end = m.sequence
changes_pcrs m (access x a) = false
changes_pcrs m nothing = false

-- the event that sets established: "Start .. established set"
abbrev pub establishes : Model → Event → Bool
establishes m restart = false
establishes m hash_start = start_counts m.active
establishes m hash_end = false
establishes m (access x a) = false
establishes m nothing = false

-- 24 PCRs, and 00h in PCRs 17 to 22 while a sequence is open
pub record Banked (m : Model) (b : List Pcr) : Type 0 where
  pub whole : length b ≡ pcrs
  pub zeros : m.sequence ≡ true → (p : ℕ) → is_launch_pcr p ≡ true → value_at b p ≡ all_bytes 0

-- what holds of the state s after calls whose model is m and whose open sequence took bs
pub record Launched (m : Model) (bs : List ℕ) (s : State) : Type 0 where
  -- the record's sequence is open exactly when the model's is
  pub sequence : s.device.launch.sequence ≡ m.sequence
  -- the open sequence stands for exactly the bytes accepted since the last start that counted; a closed one keeps nothing of them
  pub stands : Stands s.device.launch bs
  pub banked : Banked m s.device.pcrs
  -- a start that counts sets PCRs 17 to 22 to 00h, and every other PCR stays
  pub starts : (o v : ℕ) → refusal_of (write o v) s ≡ accepted → is_hash_start o ≡ true → start_counts m.active ≡ true
      → (p : ℕ) → value_at (left (write o v) s).device.pcrs p ≡ cond (is_launch_pcr p) (all_bytes 0) (value_at s.device.pcrs p)
  -- the end measures them: PCR 17 is SHA-1 of its 20 bytes followed by SHA-1 of those bytes ..
  pub measures : (o v : ℕ) → refusal_of (write o v) s ≡ accepted → is_hash_end o ≡ true → m.sequence ≡ true
      → (left (write o v) s).device.pcrs ≡ replaced s.device.pcrs launch_pcr (sha1 (value_at s.device.pcrs launch_pcr ++ sha1 bs))
  -- .. so it is SHA-1 of twenty bytes 00h followed by that digest, and every other PCR stays
  pub value : (o v : ℕ) → refusal_of (write o v) s ≡ accepted → is_hash_end o ≡ true → m.sequence ≡ true
      → (p : ℕ) → value_at (left (write o v) s).device.pcrs p ≡ cond (eqb p launch_pcr) (sha1 (all_bytes 0 ++ sha1 bs)) (value_at s.device.pcrs p)
  -- a start that counts sets established, and else nothing but a power-on changes it
  pub sets : (o v : ℕ) → refusal_of (write o v) s ≡ accepted → is_hash_start o ≡ true → start_counts m.active ≡ true
      → (left (write o v) s).device.control.established ≡ true
  pub established : (c : Call) → is_power_on c ≡ false → establishes m (happens c s) ≡ false
      → (left c s).device.control.established ≡ s.device.control.established
  -- no PCR changes but by power-on, reset, hash start and hash end
  pub keeps : (c : Call) → changes_pcrs m (happens c s) ≡ false → (left c s).device.pcrs ≡ s.device.pcrs

pub record LaunchedAfter (s₀ : State) (h : List (Call × Answer)) (s : State) : Type 0 where
  pub launched : Launched (model_after h) (stream_after h) s
  -- after an accepted power-on every start and every end is accepted
  pub accepts : StartsAccepted h → (o v : ℕ) → (is_hash_start o || is_hash_end o) ≡ true → refusal_of (write o v) s ≡ accepted

-- the claim: after every list of calls that starts with a power-on
abbrev pub LaunchClaim : Type 0
LaunchClaim = OverLists LaunchedAfter
