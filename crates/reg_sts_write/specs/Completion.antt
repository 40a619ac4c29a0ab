-- How Completion is entered (document 01, 'Commands'), by an engine's answer and by the answer to a bad size alike. Assumes nothing.
use Rattle.std.specs.Prelude.{ℕ, true, false, List, [], ◌∷◌}
use Rattle.record.specs.Record.{no_causes}
use Rattle.record.specs.declared.Causes.{Causes}
use Rattle.record.specs.declared.Phase.{Phase}
use Rattle.record.specs.declared.Phase.TheVariants.{Completion}
use Rattle.reg_fifo.specs.declared.FifoAction.{FifoAction}
use Rattle.reg_fifo.specs.declared.FifoAction.TheVariants.{Keep, Complete}
use Rattle.reg_sts_write.specs.declared.Commanded.{Commanded}

-- what a command bit, a FIFO write or an answer leaves, which causes it sets, and what it does to the FIFOs
abbrev pub commanded : Phase → ℕ → Causes → FifoAction → Commanded
commanded p run k f = record { phase = p; run = run; causes = k; fifos = f }

-- one that sets no interrupt status
abbrev pub without_cause : Phase → ℕ → FifoAction → Commanded
without_cause p run f = commanded p run no_causes f

-- a cycle that changes nothing
abbrev pub ignored : Phase → ℕ → Commanded
ignored p run = without_cause p run Keep

abbrev pub data_avail_cause : Causes
data_avail_cause = record { command_ready = false; locality_change = false; data_avail = true }

-- "Entering Completion empties the WriteFIFO, puts the answer at the front of the ReadFIFO with 00h behind it, and sets dataAvail status.
-- An accepted engine answer does that." n is the answer's length
abbrev pub enter_completion : ℕ → ℕ → Commanded
enter_completion n run = commanded (Completion n 0) run data_avail_cause Complete

-- "Else Completion with 00 C4 00 00 00 0A 00 00 00 19": the only answer that a bus cycle gives
abbrev pub bad_size : List ℕ
bad_size = 0x00 ∷ 0xc4 ∷ 0x00 ∷ 0x00 ∷ 0x00 ∷ 0x0a ∷ 0x00 ∷ 0x00 ∷ 0x00 ∷ 0x19 ∷ []
