-- What a call leaves: what it is refused for, if it is, the record and both FIFOs. Assumes nothing.
use Rattle.std.specs.Prelude.{ℕ, ◌≡◌, List, Option}
use Rattle.refusal.specs.declared.Refusal.{Refusal}
use Rattle.record.specs.declared.Device.{Device}
use Rattle.call_outcome.specs.declared.Outcome.{Outcome}

pub record Result : Type 0 where
  pub refusal : Option Refusal
  pub device : Device
  pub write_fifo : List ℕ
  pub read_fifo : List ℕ

-- the outcome o, with w and r in the FIFOs afterwards, is the result t
pub record Leaves (o : Outcome) (w r : List ℕ) (t : Result) : Type 0 where
  pub refusal : o.refusal ≡ t.refusal
  pub device : o.device ≡ t.device
  pub write_fifo : w ≡ t.write_fifo
  pub read_fifo : r ≡ t.read_fifo

abbrev pub result : Option Refusal → Device → List ℕ → List ℕ → Result
result n d w r = record { refusal = n; device = d; write_fifo = w; read_fifo = r }
