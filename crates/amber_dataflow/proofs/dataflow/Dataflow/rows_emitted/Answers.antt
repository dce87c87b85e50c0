-- The rows are those of the operator's workers.
use Rattle.std.proofs.Common.{sym, ap, subst, ◌∙◌, ◌≤◌, ◌^◌}
use Rattle.amber_rows.specs.Topology.{workers_of}
use Rattle.amber_dataflow.specs.AtWork.{emitted_at, steps_by}
use Rattle.amber_dataflow.specs.Dataflow.{DataflowState, rows_emitted, step_count}
use Rattle.amber_dataflow.proofs.dataflow.Dataflow.rows_emitted.Goals as goal

pub emitted_by-requires-clause-few : goal.emitted_by-requires-clause-few
unfolding step_count
emitted_by-requires-clause-few c = subst (λ crew. steps_by crew ≤ 2 ^ 40) (sym c.as_slice.ensures.value) c.self.invariant.few

pub returns : goal.returns
unfolding rows_emitted
returns c =
    c.emitted_by.ensures ∙ ap (λ crew. emitted_at crew (workers_of c.self.inside.flow c.args.op)) c.as_slice.ensures.value
    ∙ ap (λ (d : DataflowState). rows_emitted d c.args.op) c.self.view_is
