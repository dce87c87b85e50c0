-- The operator's workers are disarmed, and have counted no more than its board had.
use Rattle.std.proofs.Common.{sym, subst}
use Rattle.std.specs.Prelude.{option_map}
use Rattle.amber_dataflow.specs.Dataflow.{rows_emitted}
use Rattle.amber_boards.specs.Boards.{CounterState, IsCountedAt, IsWithinTarget}
use Rattle.amber_boards.proofs.Refilled.{disarmed-unarmed, rows-within}
use Rattle.amber_boards.proofs.boards.disarm_one.Goals as goal

pub returns-clause-unarmed : goal.returns-clause-unarmed
returns-clause-unarmed c = disarmed-unarmed c.args.op c.args.dataflow.now c.disarm_operator.new.dataflow c.disarm_operator.ensures.disarms

pub returns-clause-within : goal.returns-clause-within
returns-clause-within c =
    let old = c.args.dataflow.now in
    let new = c.disarm_operator.new.dataflow in
    subst (λ b. IsWithinTarget (option_map (λ (k : CounterState). k.target) b) (rows_emitted new c.args.op)) (sym c.in-Some.is)
    (rows-within c.in-Some.counter c.args.op old new (subst (λ b. IsCountedAt b c.args.op old) c.in-Some.is c.requires.counted) c.disarm_operator.ensures.disarms c.disarm_operator.ensures.within)
