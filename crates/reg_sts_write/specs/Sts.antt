-- STS and the FIFO register (document 01, 'Commands'; TIS 11.3.11, 11.5): what the command bits of STS do, and what a FIFO write does to
-- the phase. Assumes nothing.
use Rattle.std.specs.Prelude.{ℕ, ◌+◌, ◌%◌, ◌^◌, true, false, cond, ◌&&◌, length, ◌==◌, nat_le, Option, None, Some}
use Rattle.bits.specs.Bits.{bit}
use Rattle.reg_layout.specs.StsBits as sts
use Rattle.record.specs.Limits.{header}
use Rattle.record.specs.declared.Causes.{Causes}
use Rattle.record.specs.declared.Phase.{Phase}
use Rattle.record.specs.declared.Phase.TheVariants.{Idle, Ready, Reception, Execution, Completion}
use Rattle.reg_sts_read.specs.Size.{expects_after}
use Rattle.reg_fifo.specs.declared.FifoAction.TheVariants.{Keep, Clear, Store}
use Rattle.reg_sts_write.specs.declared.Commanded.{Commanded}
use Rattle.reg_sts_write.specs.declared.sts.StsCommand.{StsCommand}
use Rattle.reg_sts_write.specs.declared.sts.StsCommand.TheVariants.{CommandReady, TpmGo, ResponseRetry}
use Rattle.reg_sts_write.specs.Completion.{commanded, without_cause, ignored, enter_completion, bad_size}

-- "with exactly one of these bits set, others not counted": 40h, 20h, 02h
unfoldable pub sts_command : ℕ → Option StsCommand
sts_command v =
    cond (bit sts.command_ready v + bit sts.tpm_go v + bit sts.response_retry v == 1)
    (cond (bit sts.command_ready v == 1) (Some CommandReady)
    (cond (bit sts.tpm_go v == 1) (Some TpmGo) (Some ResponseRetry)))
    None

abbrev pub command_ready_cause : Causes
command_ready_cause = record { command_ready = true; locality_change = false; data_avail = false }

-- "40h: Idle goes to Ready (commandReady status set); Ready stays; Reception, Execution and Completion go to Idle, both FIFOs emptied."
abbrev pub command_ready : Phase → ℕ → Commanded
command_ready Idle run = commanded Ready run command_ready_cause Keep
command_ready Ready run = ignored Ready run
command_ready (Reception n) run = without_cause Idle run Clear
command_ready (Execution n) run = without_cause Idle run Clear
command_ready (Completion n k) run = without_cause Idle run Clear

-- "the run number grows by one, 4,294,967,295 being followed by 0"
abbrev pub next_run : ℕ → ℕ
next_run run = (run + 1) % 2 ^ 32

-- "20h: in Reception with no more expected. If the declared size is at least 10 and at most C, Execution .. Else Completion with 00 C4 00
-- 00 00 0A 00 00 00 19. Elsewhere ignored."
abbrev pub tpm_go_after : ℕ → ℕ → ℕ → ℕ → Commanded
tpm_go_after n run size c =
    cond (expects_after n size c) (ignored (Reception n) run)
    (cond (nat_le header size && nat_le size c) (without_cause (Execution n) (next_run run) Keep)
    (enter_completion (length bad_size) run))

abbrev pub tpm_go : Phase → ℕ → ℕ → ℕ → Commanded
tpm_go Idle run size c = ignored Idle run
tpm_go Ready run size c = ignored Ready run
tpm_go (Reception n) run size c = tpm_go_after n run size c
tpm_go (Execution n) run size c = ignored (Execution n) run
tpm_go (Completion n k) run size c = ignored (Completion n k) run

-- "02h: in Completion, reading starts over. Elsewhere ignored."
abbrev pub response_retry : Phase → ℕ → Commanded
response_retry Idle run = ignored Idle run
response_retry Ready run = ignored Ready run
response_retry (Reception n) run = ignored (Reception n) run
response_retry (Execution n) run = ignored (Execution n) run
response_retry (Completion n k) run = without_cause (Completion n 0) run Keep

-- the bit that stands alone, or none
abbrev pub commanded_by : Option StsCommand → Phase → ℕ → ℕ → ℕ → Commanded
commanded_by None p run size c = ignored p run
commanded_by (Some CommandReady) p run size c = command_ready p run
commanded_by (Some TpmGo) p run size c = tpm_go p run size c
commanded_by (Some ResponseRetry) p run size c = response_retry p run

-- a byte written to STS of the active locality: "STS writes act at 0018 only"
unfoldable pub write_sts : Phase → ℕ → ℕ → ℕ → ℕ → ℕ → Commanded
write_sts p run size c i v = cond (i == 0) (commanded_by (sts_command v) p run size c) (ignored p run)

-- "A FIFO write in Ready or in Reception with more expected stores the byte; else it is ignored."
abbrev pub store_after : ℕ → ℕ → ℕ → ℕ → Commanded
store_after n run size c = cond (expects_after n size c) (without_cause (Reception (n + 1)) run (Store n)) (ignored (Reception n) run)

abbrev pub write_data_fifo : Phase → ℕ → ℕ → ℕ → Commanded
write_data_fifo Idle run size c = ignored Idle run
write_data_fifo Ready run size c = without_cause (Reception 1) run (Store 0)
write_data_fifo (Reception n) run size c = store_after n run size c
write_data_fifo (Execution n) run size c = ignored (Execution n) run
write_data_fifo (Completion n k) run size c = ignored (Completion n k) run
