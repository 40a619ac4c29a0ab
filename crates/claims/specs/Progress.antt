-- A device that was powered on works for good: no call is refused for its FIFOs or for a record out of shape, and which calls are refused is said
-- here in full (document 01, 'When the front says no'). So 'accepted' is no empty premise in the other claims. Assumes nothing.
use Rattle.std.specs.Prelude.{ℕ, ◌≤◌, ◌≡◌, Bool, true, false, cond, ◌&&◌, List, [], ◌∷◌, length, eqb, leb}
use Rattle.reg_layout.specs.Offsets.{within}
use Rattle.record.specs.Limits.{fifo_least, fifo_greatest}
use Rattle.record.specs.Record.{fresh_device}
use Rattle.record.specs.declared.Device.{Device}
use Rattle.record_shape.specs.Shape.{view_of, in_shape}
use Rattle.claims.specs.Calls.{Call, power_on, reset, read, write, respond, pcr_value, interrupt_line, may_reset, may_extend, window, State, Answer, refusal_of, StartsAccepted, OverLists}
use Rattle.claims.specs.Events.{Entry, powered_on, restarted, written, read_at, answered, none, entry_of}
use Rattle.claims.specs.StaleAnswers.{running}

-- ---- after an accepted power-on

-- "7 hash byte number 1,048,577 or later"
abbrev pub overlong : Device → ℕ → Bool
overlong d o = d.launch.sequence && within 0x4024 0x4027 o && leb 1048576 d.launch.stream.count

-- "1 bus offset above 4FFFh; .. 3 engine answer while not in Execution, or with another run number; 4 engine answer shorter than 10 or longer
-- than C; 5 question with PCR above 23 or locality above 4", and 7; c is C
abbrev pub refusal_in : ℕ → Device → Call → ℕ
refusal_in c d (power_on established identity) = 0
refusal_in c d reset = 0
refusal_in c d (read o) = cond (leb o 0x4fff) 0 1
refusal_in c d (write o v) = cond (leb o 0x4fff) (cond (overlong d o) 7 0) 1
refusal_in c d (respond run a) = cond (running d.phase && eqb d.control.run run) (cond (leb 10 (length a) && leb (length a) c) 0 4) 3
refusal_in c d (pcr_value i) = cond (leb i 23) 0 5
refusal_in c d interrupt_line = 0
refusal_in c d (may_reset i x) = cond (leb i 23 && leb x 4) 0 5
refusal_in c d (may_extend i x) = cond (leb i 23 && leb x 4) 0 5
refusal_in c d window = 0

-- what holds of the state s after it was lent FIFOs of c bytes, and any calls
pub record Works (c : ℕ) (s : State) : Type 0 where
  pub least : fifo_least ≤ c
  pub greatest : c ≤ fifo_greatest
  pub write_fifo : length s.write_fifo ≡ c
  pub read_fifo : length s.read_fifo ≡ c
  pub shaped : in_shape (view_of s.device) c ≡ true
  pub refusals : (k : Call) → refusal_of k s ≡ refusal_in c s.device k
  -- in short: no call is refused as 2 or 6
  pub never2 : (k : Call) → refusal_of k s ≡ 2 → ⊥
  pub never6 : (k : Call) → refusal_of k s ≡ 6 → ⊥

-- ---- after a refused one

-- is the call lent FIFOs
abbrev pub is_lent : Call → Bool
is_lent (power_on established identity) = true
is_lent reset = true
is_lent (read o) = true
is_lent (write o v) = true
is_lent (respond run a) = true
is_lent (pcr_value i) = false
is_lent interrupt_line = false
is_lent (may_reset i x) = false
is_lent (may_extend i x) = false
is_lent window = true

-- the record that the last power-on of a list gave, d if there is none
abbrev pub powered_by : Entry → Device → Device
powered_by (powered_on established identity) d = fresh_device established identity 0
powered_by restarted d = d
powered_by (written o v) d = d
powered_by (read_at o) d = d
powered_by (answered a) d = d
powered_by none d = d

unfoldable pub last_powered : Device → List (Call × Answer) → Device
last_powered d [] = d
last_powered d (c ∷ cs) = last_powered (powered_by (entry_of c.0 c.1.refusal) d) cs

-- s₀ was handed to the power-on; h is what was heard, s what is left
pub record Halts (s₀ : State) (h : List (Call × Answer)) (s : State) : Type 0 where
  -- 2 is given for "a FIFO length outside 1,024..8,192, or the two differ", and for nothing else
  pub lengths : (leb fifo_least (length s₀.write_fifo) && leb (length s₀.write_fifo) fifo_greatest && eqb (length s₀.write_fifo) (length s₀.read_fifo)) ≡ false
  -- "a refused power-on gives the fresh record and leaves the FIFOs alone"
  pub device : s.device ≡ last_powered s₀.device h
  pub write_fifo : s.write_fifo ≡ s₀.write_fifo
  pub read_fifo : s.read_fifo ≡ s₀.read_fifo
  -- every call that is lent those FIFOs is refused as 2
  pub refuses : (k : Call) → is_lent k ≡ true → refusal_of k s ≡ 2

-- ---- the claim

pub record ProgressAfter (s₀ : State) (h : List (Call × Answer)) (s : State) : Type 0 where
  pub works : StartsAccepted h → Works (length s₀.write_fifo) s
  pub halts : (StartsAccepted h → ⊥) → Halts s₀ h s

-- after every list of calls that starts with a power-on
abbrev pub ProgressClaim : Type 0
ProgressClaim = OverLists ProgressAfter
