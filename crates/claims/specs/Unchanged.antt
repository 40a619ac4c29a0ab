-- A refusal changes nothing, and what a refused call gives (document 01, 'When the front says no'), whatever call, record and FIFOs. Assumes
-- nothing.
use Rattle.std.specs.Prelude.{◌≡◌, Bool, false, List, [], replicate, ℕ}
use Rattle.refusal.specs.Refusal.{accepted}
use Rattle.record.specs.Record.{fresh_device}
use Rattle.claims.specs.Calls.{Call, power_on, reset, read, write, respond, pcr_value, interrupt_line, may_reset, may_extend, window, is_power_on, State, state, Value, nothing, byte, bytes, flag, called, refusal_of, left}

-- is the call refused
abbrev pub Refuses : Call → State → Type 0
Refuses c s = refusal_of c s ≡ accepted → ⊥

-- "a refused read gives FFh, a refused yes/no gives no, a refused PCR read gives twenty 00h"; the window shows "nothing .. when refused"
abbrev pub refused_value : Call → Value
refused_value (power_on established identity) = nothing
refused_value reset = nothing
refused_value (read o) = byte 0xff
refused_value (write o v) = nothing
refused_value (respond run a) = nothing
refused_value (pcr_value i) = bytes (replicate 20 0)
refused_value interrupt_line = nothing
refused_value (may_reset i x) = flag false
refused_value (may_extend i x) = flag false
refused_value window = bytes []

-- the claim
pub record RefusalsChangeNothing : Type 0 where
  -- "A refusal changes nothing"
  pub unchanged : (c : Call) (s : State) → is_power_on c ≡ false → Refuses c s → left c s ≡ s
  pub value : (c : Call) (s : State) → Refuses c s → (called c s).answer.value ≡ refused_value c
  -- "a refused power-on gives the fresh record and leaves the FIFOs alone"
  pub power_on : (established : Bool) (identity : List ℕ) (s : State) → Refuses (power_on established identity) s
      → left (power_on established identity) s ≡ state (fresh_device established identity 0) s.write_fifo s.read_fifo
