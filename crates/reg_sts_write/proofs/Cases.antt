-- What a command bit of STS, or a byte for the FIFO, can come to. Assumes nothing.
use Rattle.std.proofs.Common.{◌≡◌, ℕ, ◌+◌, Bool, true, false, cond, ◌&&◌, leb, length, refl, Option, None, Some}
use Rattle.record.specs.Limits.{header}
use Rattle.record.specs.declared.Phase.{Phase}
use Rattle.record.specs.declared.Phase.TheVariants.{Idle, Ready, Reception, Execution, Completion}
use Rattle.reg_fifo.specs.declared.FifoAction.TheVariants.{Keep, Clear, Store}
use Rattle.reg_sts_read.specs.Size.{expects_after}
use Rattle.reg_sts_write.specs.declared.Commanded.{Commanded}
use Rattle.reg_sts_write.specs.declared.sts.StsCommand.{StsCommand}
use Rattle.reg_sts_write.specs.declared.sts.StsCommand.TheVariants.{CommandReady, TpmGo, ResponseRetry}
use Rattle.reg_sts_write.specs.Completion.{commanded, without_cause, ignored, enter_completion, bad_size}
use Rattle.reg_sts_write.specs.Sts.{command_ready_cause, command_ready, next_run, tpm_go, response_retry, commanded_by, write_data_fifo}

-- from phase p, size being the declared size and c the FIFOs' length
pub data CommandCase (run size c : ℕ) : Phase → Commanded → Type 0 where
  nothing : {p : Phase} → CommandCase run size c p (ignored p run)
  readies : CommandCase run size c Idle (commanded Ready run command_ready_cause Keep)
  aborts : {p : Phase} → CommandCase run size c p (without_cause Idle run Clear)
  begins : {n : ℕ} → expects_after n size c ≡ false → (leb header size && leb size c) ≡ true
      → CommandCase run size c (Reception n) (without_cause (Execution n) (next_run run) Keep)
  fails : {n : ℕ} → expects_after n size c ≡ false → (leb header size && leb size c) ≡ false
      → CommandCase run size c (Reception n) (enter_completion (length bad_size) run)
  retries : {n k : ℕ} → CommandCase run size c (Completion n k) (without_cause (Completion n 0) run Keep)
  stores_first : CommandCase run size c Ready (without_cause (Reception 1) run (Store 0))
  stores : {n : ℕ} → expects_after n size c ≡ true → CommandCase run size c (Reception n) (without_cause (Reception (n + 1)) run (Store n))

module _ (run size c : ℕ) where
  ready_case : (p : Phase) → CommandCase run size c p (command_ready p run)
  ready_case Idle = readies
  ready_case Ready = nothing
  ready_case (Reception n) = aborts
  ready_case (Execution n) = aborts
  ready_case (Completion n k) = aborts

  go_case : (p : Phase) → CommandCase run size c p (tpm_go p run size c)
  go_case Idle = nothing
  go_case Ready = nothing
  go_case (Reception n) = by (expects_after n size c) refl (leb header size && leb size c) refl
    where
      by : (t : Bool) → expects_after n size c ≡ t → (u : Bool) → (leb header size && leb size c) ≡ u
          → CommandCase run size c (Reception n)
          (cond t (ignored (Reception n) run) (cond u (without_cause (Execution n) (next_run run) Keep) (enter_completion (length bad_size) run)))
      by true e u f = nothing
      by false e true f = begins e f
      by false e false f = fails e f
  go_case (Execution n) = nothing
  go_case (Completion n k) = nothing

  retry_case : (p : Phase) → CommandCase run size c p (response_retry p run)
  retry_case Idle = nothing
  retry_case Ready = nothing
  retry_case (Reception n) = nothing
  retry_case (Execution n) = nothing
  retry_case (Completion n k) = retries

  pub order_case : (j : Option StsCommand) (p : Phase) → CommandCase run size c p (commanded_by j p run size c)
  order_case None p = nothing
  order_case (Some CommandReady) p = ready_case p
  order_case (Some TpmGo) p = go_case p
  order_case (Some ResponseRetry) p = retry_case p

  pub fifo_case : (p : Phase) → CommandCase run size c p (write_data_fifo p run size c)
  fifo_case Idle = nothing
  fifo_case Ready = stores_first
  fifo_case (Reception n) = by (expects_after n size c) refl
    where
      by : (t : Bool) → expects_after n size c ≡ t
          → CommandCase run size c (Reception n) (cond t (without_cause (Reception (n + 1)) run (Store n)) (ignored (Reception n) run))
      by true e = stores e
      by false e = nothing
  fifo_case (Execution n) = nothing
  fifo_case (Completion n k) = nothing
