-- What is proved over lists of calls, on the public functions' own contracts: for each claim of the specs, that it holds of every list that
-- starts with a power-on, each call being any that its function's `ensures` allows. Assumes nothing.
use mathlib.Core.Path.{◌≡◌, ap, sym, ◌∙◌}
use mathlib.Core.Bool.{Bool, false}
use mathlib.Core.List.{List}
use Prim.Native.Nat.{ℕ}
use Rattle.refusal.specs.Refusal.{accepted}
use Rattle.record.specs.Record.{fresh_device}
use Rattle.claims.specs.Calls.{Call, power_on, is_power_on, State, state, Answer, Called}
use Rattle.claims.specs.Unchanged.{Refuses, refused_value}
use Rattle.claims.specs.Demand3.{Demand3After, Demand3Handed}
use Rattle.claims.specs.Launch.{LaunchedAfter}
use Rattle.claims.specs.StaleAnswers.{NoStaleAnswerAfter}
use Rattle.claims.specs.Progress.{ProgressAfter}
use Rattle.claims.specs.Mailbox.{MailedAfter}
use Rattle.claims.specs.Answers.{OwnedAfter}
use Rattle.claims.specs.Signals.{SignalledAfter}
use Rattle.claims.specs.History.{GivenAfter}
use Rattle.claims.specs.Residue.{NoResidueAfter}
use Rattle.claims.proofs.Steps.{Step, OnContracts, OnLentContracts}
use Rattle.claims.proofs.Bridge.{step_called, on_contracts, on_lent_contracts}
use Rattle.claims.proofs.Unchanged.{refusals_change_nothing}
use Rattle.claims.proofs.Demand3 as claim
use Rattle.claims.proofs.StaleAnswers.{stale_answers_refused}
use Rattle.claims.proofs.Residue as fifos
use Rattle.claims.proofs.Progress as working
use Rattle.claims.proofs.Progress.{launch_claim}
use Rattle.claims.proofs.Mailbox.{mailbox_claim}
use Rattle.claims.proofs.Answers as answers
use Rattle.claims.proofs.Signals.{signals_claim}
use Rattle.claims.proofs.History as history

pub demand_3 : OnLentContracts Demand3After
demand_3 = on_lent_contracts Demand3After claim.demand_3

pub demand_3_handed : OnContracts Demand3Handed
demand_3_handed = on_contracts Demand3Handed claim.demand_3_handed

pub progress : OnContracts ProgressAfter
progress = on_contracts ProgressAfter working.progress

pub mailed : OnContracts MailedAfter
mailed = on_contracts MailedAfter mailbox_claim

pub owned : OnContracts OwnedAfter
owned = on_contracts OwnedAfter answers.owned

pub signalled : OnContracts SignalledAfter
signalled = on_contracts SignalledAfter signals_claim

pub history_is_all : OnContracts GivenAfter
history_is_all = on_contracts GivenAfter history.history_is_all

pub launched : OnContracts LaunchedAfter
launched = on_contracts LaunchedAfter launch_claim

pub no_stale_answer : OnContracts NoStaleAnswerAfter
no_stale_answer = on_contracts NoStaleAnswerAfter stale_answers_refused

pub no_residue : OnContracts NoResidueAfter
no_residue = on_contracts NoResidueAfter fifos.no_residue

-- of any call, record and FIFOs, whatever came before: a refused call changes nothing, and gives the value that document 01 names; a refused
-- power-on gives the fresh record and leaves the FIFOs alone
module _ {c : Call} {s s' : State} {a : Answer} (p : Step c s a s') (f : a.refusal ≡ accepted → ⊥) where
  refused : Refuses c s
  refused z = f (sym (ap (λ (t : Called). t.answer.refusal) (step_called p)) ∙ z)

  pub refused_unchanged : is_power_on c ≡ false → s' ≡ s
  refused_unchanged q = sym (ap (λ (t : Called). t.left) (step_called p)) ∙ refusals_change_nothing.unchanged c s q refused

  pub refused_value_lem : a.value ≡ refused_value c
  refused_value_lem = sym (ap (λ (t : Called). t.answer.value) (step_called p)) ∙ refusals_change_nothing.value c s refused

pub refused_power_on : {established : Bool} {identity : List ℕ} {s s' : State} {a : Answer} → Step (power_on established identity) s a s' → (a.refusal ≡ accepted → ⊥)
    → s' ≡ state (fresh_device established identity 0) s.write_fifo s.read_fifo
refused_power_on {established} {identity} {s} p f =
    sym (ap (λ (t : Called). t.left) (step_called p)) ∙ refusals_change_nothing.power_on established identity s (refused p f)
