-- What the groups give is what the rows give.
use Rattle.std.proofs.Common.{◌∙◌, ap}
use Rattle.amber_group.specs.Finished.{refused_of, finished_rows}
use Rattle.amber_group.specs.Group.{Group}
use Rattle.amber_keys.proofs.Answers.{if_ok}
use Rattle.amber_group.proofs.Finishing.{refused-groups, rows-groups}
use Rattle.amber_group.proofs.state.GroupState.finish.Goals as goal

pub returns-clause-rows : goal.returns-clause-rows
returns-clause-rows c =
    let state = c.args.self.now in
    if_ok c.finish.result _ _ c.finish.ensures.rows
    (λ group_result is rows stands. is ∙ ap finished_rows (ap (λ (one : Group). one.groups) c.self.view_is ∙ stands.1) ∙ rows-groups state.keys state.aggs rows)

pub returns-clause-refused : goal.returns-clause-refused
returns-clause-refused c =
    let state = c.args.self.now in
    if_ok c.finish.result _ _ c.finish.ensures.refused
    (λ group_result is rows stands. is ∙ ap refused_of (ap (λ (one : Group). one.groups) c.self.view_is ∙ stands.1) ∙ refused-groups state.keys state.aggs rows)
