-- What the workers gave is the answer.
use Rattle.std.proofs.Common.{subst}
use Rattle.std.specs.Result.{IfOk}
use Rattle.amber_dataflow.specs.Dataflow.{DataflowState, IsAnswerOf}
use Rattle.amber_dataflow.proofs.Kept.{answers}
use Rattle.amber_dataflow.proofs.dataflow.Dataflow.answer.Goals as goal

pub returns : goal.returns
returns c =
    let i = c.self.inside in
    subst (λ (d : DataflowState). IfOk c.gather.result (IsAnswerOf d)) c.self.view_is
    (answers i.flow i.workers.items c.as_slice.result.now c.as_slice.ensures.value c.gather.result c.gather.ensures)
