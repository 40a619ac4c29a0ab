-- No residue (document 01, "An old owner's byte left in a FIFO"): after an accepted power-on both FIFOs are all 00h but for the command that
-- is received or run and the answer that is read. Assumes nothing.
use Rattle.std.specs.Prelude.{◌≡◌, List, ℕ, length, drop, replicate}
use Rattle.arbiter_model.specs.Model.{free}
use Rattle.record.specs.declared.Phase.{Phase}
use Rattle.record.specs.declared.Phase.TheVariants.{Idle, Ready, Reception, Execution, Completion}
use Rattle.claims.specs.Calls.{Call, State, Answer, left, StartsAccepted, OverLists}
use Rattle.claims.specs.Demand3.{active_in}

-- every byte is 00h
abbrev pub Zero : List ℕ → Type 0
Zero b = b ≡ replicate (length b) 0

pub record BothZero (s : State) : Type 0 where
  pub write_fifo : Zero s.write_fifo
  pub read_fifo : Zero s.read_fifo

-- the bytes of the WriteFIFO that are the command's, and of the ReadFIFO that are the answer's
abbrev pub received : Phase → ℕ
received Idle = 0
received Ready = 0
received (Reception n) = n
received (Execution n) = n
received (Completion n k) = 0

abbrev pub answered : Phase → ℕ
answered Idle = 0
answered Ready = 0
answered (Reception n) = 0
answered (Execution n) = 0
answered (Completion n k) = n

-- every byte after them is 00h
pub record Tidy (p : Phase) (w r : List ℕ) : Type 0 where
  pub write_fifo : Zero (drop (received p) w)
  pub read_fifo : Zero (drop (answered p) r)

-- what holds of the state s after such a list of calls
pub record NoResidue (s : State) : Type 0 where
  -- while the device is free, or Idle, or Ready, both FIFOs are all 00h
  pub unowned : active_in s.device ≡ free → BothZero s
  pub idle : s.device.phase ≡ Idle → BothZero s
  pub ready : s.device.phase ≡ Ready → BothZero s
  -- in any phase, all is 00h but the bytes of the command that is being received or run, or of its answer
  pub tidy : Tidy s.device.phase s.write_fifo s.read_fifo
  -- a call that takes the device from its owner, or gives it to one, leaves Idle and both FIFOs all 00h: the next owner starts from those
  pub turns : (c : Call) → (active_in (left c s).device ≡ active_in s.device → ⊥) → ((left c s).device.phase ≡ Idle) × BothZero (left c s)

abbrev pub NoResidueAfter : State → List (Call × Answer) → State → Type 0
NoResidueAfter s₀ h s = StartsAccepted h → NoResidue s

-- the claim: after every list of calls that starts with an accepted power-on; `Progress` says when one is
abbrev pub ResidueClaim : Type 0
ResidueClaim = OverLists NoResidueAfter
