-- A record of a capture as a call of the front (document 02, W1), and the outcome that it gives. Assumes nothing.
use Rattle.std.specs.Prelude.{ℕ, ◌≡◌, cond, List, [], ◌∷◌, eqb}
use Rattle.refusal.specs.Refusal.{number_of}
use Rattle.call_outcome.specs.declared.Outcome.{Outcome}
use Rattle.call_outcome.specs.declared.ReadOutcome.{ReadOutcome}
use Rattle.capture.specs.declared.Cycle.{Cycle}
use Rattle.claims.specs.Calls.{Call, reset, read, write, respond, Value, nothing, byte, bytes, flag, Called}

-- "an engine answer 00 C4 00 00 00 0A 00 00 00 00"
abbrev pub engine_answer : List ℕ
engine_answer = 0x00 ∷ 0xc4 ∷ 0x00 ∷ 0x00 ∷ 0x00 ∷ 0x0a ∷ 0x00 ∷ 0x00 ∷ 0x00 ∷ 0x00 ∷ []

-- "Kinds: 0 read, 1 write, 2 reset, 3 an engine answer .. whose run number is the offset field." No record of a kind above 3 is played
unfoldable pub call_of : Cycle → Call
call_of c =
    cond (eqb c.kind 0) (read c.offset)
    (cond (eqb c.kind 1) (write c.offset c.byte)
    (cond (eqb c.kind 2) reset (respond c.offset engine_answer)))

-- ---- its answer

-- "two hex digits (FF unless a read)"
abbrev pub shown_byte : Value → ℕ
shown_byte nothing = 0xff
shown_byte (byte v) = v
shown_byte (bytes vs) = 0xff
shown_byte (flag b) = 0xff

-- the outcome of a call that is no read
abbrev pub without_byte : Outcome → ReadOutcome
without_byte o = record { refusal = o.refusal; byte = 0xff; device = o.device }

-- an outcome, with w and r in the FIFOs afterwards, is what a call gives
pub record Gives (o : ReadOutcome) (w r : List ℕ) (k : Called) : Type 0 where
  pub refusal : number_of o.refusal ≡ k.answer.refusal
  pub byte : o.byte ≡ shown_byte k.answer.value
  pub device : o.device ≡ k.left.device
  pub write_fifo : w ≡ k.left.write_fifo
  pub read_fifo : r ≡ k.left.read_fifo
