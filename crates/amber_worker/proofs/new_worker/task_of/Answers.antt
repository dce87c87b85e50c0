-- Each part is what the workflow says.
use Rattle.std.proofs.Common.{◌∙◌, ap, subst}
use Rattle.amber_rows.specs.Topology.{op_of, what_at}
use Rattle.amber_rows.specs.declared.flow.What.{What}
use Rattle.amber_meaning.specs.Plan.{arrival_columns, built_columns}
use Rattle.amber_operators.specs.States.{IsOperatorStateOf}
use Rattle.amber_worker.specs.Made.{has_build_side}
use Rattle.amber_worker.proofs.new_worker.task_of.Goals as goal

pub returns : goal.returns
returns c =
    let flow = c.args.flow.now in
    let kind = c.what_of-what.ensures in
    record {
      op = c.op_of-op.ensures;
      does = subst (λ (k : What). IsOperatorStateOf c.in_ok-operator_state.operator_state k) kind c.in_ok-operator_state.ensures;
      columns = c.in_ok-columns.ensures
          ∙ ap (λ (k : What). arrival_columns flow c.op_of-op.result k) kind
          ∙ ap (λ op. arrival_columns flow op (what_at flow (op_of flow c.args.worker))) c.op_of-op.ensures;
      build_columns = c.in_ok-build_columns.ensures ∙ ap (built_columns flow) kind;
      building = c.has_build_side.ensures ∙ ap has_build_side kind;
      route = c.in_ok-route.ensures.route;
      sound = c.in_ok-route.ensures.sound;
    }
