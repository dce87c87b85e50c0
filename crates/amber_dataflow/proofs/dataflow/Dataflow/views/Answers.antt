-- What the workers show is what is said of their positions.
use Rattle.std.proofs.Common.{subst}
use Rattle.std.specs.Result.{IfOk}
use Rattle.amber_dataflow.specs.Dataflow.{DataflowState, ShowAt}
use Rattle.amber_dataflow.proofs.Kept.{shows}
use Rattle.amber_dataflow.proofs.dataflow.Dataflow.views.Goals as goal

pub returns : goal.returns
returns c =
    let i = c.self.inside in
    subst (λ (d : DataflowState). IfOk c.views_of.result (ShowAt d c.args.op)) c.self.view_is
    (shows i.flow i.workers.items c.as_slice.result.now c.args.op c.as_slice.ensures.value c.views_of.result c.views_of.ensures)
