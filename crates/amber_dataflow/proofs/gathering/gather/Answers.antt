-- All have given what they have.
use Rattle.amber_dataflow.proofs.Answered.{answered-if}
use Rattle.amber_dataflow.proofs.gathering.gather.Goals as goal

pub returns : goal.returns
returns c =
    let clauses = c.answer_of.ensures in
    answered-if c.args.flow.now c.args.crew.now c.in_ok-given.given.refused c.in_ok-given.given.rows c.answer_of.result c.in_ok-given.ensures clauses.refused clauses.columns
    clauses.rows
