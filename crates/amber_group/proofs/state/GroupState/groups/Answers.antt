-- There is a group for each key.
use Rattle.std.proofs.Common.{◌∙◌, ap, length}
use Rattle.amber_group.specs.Group.{Group}
use Rattle.amber_group.proofs.GroupTables.{length-groups}
use Rattle.amber_group.proofs.state.GroupState.groups.Goals as goal

pub returns : goal.returns
returns c = λ rows stands.
    c.len.ensures ∙ ap length (ap (λ (one : Group). one.groups) c.self.view_is ∙ stands.1) ∙ length-groups c.args.self.now.keys c.args.self.now.aggs rows
