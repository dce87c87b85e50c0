-- No row makes no group.
use Rattle.std.proofs.Common.{◌∙◌, refl, sym}
use Rattle.amber_group.proofs.GroupTables.{no-groups}
use Rattle.amber_group.proofs.state.GroupState.new.Goals as goal

pub returns-clause-rows : goal.returns-clause-rows
returns-clause-rows c = (refl, c.new.ensures ∙ sym (no-groups c.args.keys c.args.aggs))
