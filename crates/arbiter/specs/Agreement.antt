-- When an arbiter state agrees with the waiting book. Assumes nothing.
use Rattle.std.specs.Prelude.{ℕ, ◌≡◌, Bool, length, Option, Some, None}
use Rattle.arbiter_model.specs.Model.{Model, Holder, free, held}
use Rattle.arbiter.specs.declared.Locality.{Locality}
use Rattle.arbiter.specs.declared.Arbiter.{Arbiter}
use Rattle.arbiter.specs.State.{waits}

abbrev pub holder : Option Locality → Holder
holder None = free
holder (Some y) = held y.0

-- the state's active locality and waiting flags are the model's, and a sequence is open in both or in neither
pub record Agrees (m : Model) (s : Arbiter) (sequence : Bool) : Type 0 where
  pub active : m.active ≡ holder s.active
  pub flags : (y : ℕ) → m.waiting y ≡ waits s y
  pub sequence_open : m.sequence ≡ sequence
  pub flag_count : length s.waiting ≡ 5
