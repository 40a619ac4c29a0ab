-- Each twenty rounds have their function and constant, and all the rounds are four times twenty. Assumes nothing.
use Rattle.sha1_block.proofs.RoundLaws.{values_to_20, constant_to_20, values_to_40, constant_to_40, values_to_60, constant_to_60, values_to_80, constant_to_80, rounds_after}
use Rattle.sha1_block.proofs.rounds.rounds.Goals as goal

pub twenty-x-requires-clause-values : goal.twenty-x-requires-clause-values
twenty-x-requires-clause-values c = values_to_20

pub twenty-x-requires-clause-constant : goal.twenty-x-requires-clause-constant
twenty-x-requires-clause-constant c = constant_to_20

pub twenty-y-requires-clause-values : goal.twenty-y-requires-clause-values
twenty-y-requires-clause-values c = values_to_40

pub twenty-y-requires-clause-constant : goal.twenty-y-requires-clause-constant
twenty-y-requires-clause-constant c = constant_to_40

pub twenty-z-requires-clause-values : goal.twenty-z-requires-clause-values
twenty-z-requires-clause-values c = values_to_60

pub twenty-z-requires-clause-constant : goal.twenty-z-requires-clause-constant
twenty-z-requires-clause-constant c = constant_to_60

pub twenty-requires-clause-values : goal.twenty-requires-clause-values
twenty-requires-clause-values c = values_to_80

pub twenty-requires-clause-constant : goal.twenty-requires-clause-constant
twenty-requires-clause-constant c = constant_to_80

pub returns : goal.returns
returns c =
    let v = c.args.v in
    let w = c.args.w.now in
    cc (rounds_after w 0 20 20 v, rounds_after w 0 40 20 v, rounds_after w 0 60 20 v)
