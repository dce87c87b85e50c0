-- None is left, and what they gave is the answer.
use Rattle.std.proofs.Common.{subst, rules}
use Rattle.std.specs.Result.{IfOk}
use Rattle.amber_dataflow.specs.Dataflow.{DataflowState, IsAnswerOf}
use Rattle.amber_dataflow.proofs.Kept.{answers, none-left}
use Rattle.amber_dataflow.proofs.dataflow.Dataflow.take_answer.Goals as goal

pub invariant_of-self : goal.invariant_of-self
invariant_of-self c =
    let i = c.self.inside in
    none-left (record { flow = i.flow; workers = i.workers.items }) c.self.invariant c.replace-workers.new.dest.items (search rules)

pub returns-clause-answer : goal.returns-clause-answer
returns-clause-answer c =
    let i = c.self.inside in
    subst (λ (d : DataflowState). IfOk c.gather_all.result (IsAnswerOf d)) c.self.view_is
    (answers i.flow i.workers.items c.replace-workers.result.items (search rules) c.gather_all.result c.gather_all.ensures)
