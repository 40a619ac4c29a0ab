-- What is printed for a capture (document 02, W1), byte by byte. Assumes nothing.
use Rattle.std.specs.Prelude.{ℕ, false, List, replicate}
use Rattle.capture.specs.Capture.{count, word}
use Rattle.claims.specs.Calls.{State, heard}
use Rattle.capture_play.specs.Play.{calls_of, shown, powered}
use Rattle.capture_text.specs.Lines.{text_of}

-- "C is 1,024, not established, identity all 0."
unfoldable pub start : State
start = powered false (replicate 5 0) (replicate 1024 0) (replicate 1024 0)

-- "It stops after at most 10,000 cycles"
abbrev pub cycle_limit : ℕ
cycle_limit = 10000

-- the whole output
unfoldable pub output : List ℕ → List ℕ
output capture = text_of (shown (heard start (calls_of cycle_limit capture))) (word cycle_limit capture) (count cycle_limit capture)
