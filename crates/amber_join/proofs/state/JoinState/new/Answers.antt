-- No row makes no key.
use Rattle.std.proofs.Common.{◌∙◌}
use Rattle.amber_join.proofs.PlaceTables.{no-table}
use Rattle.amber_join.proofs.state.JoinState.new.Goals as goal

pub invariant_of-result : goal.invariant_of-result
invariant_of-result c = c.new-2.ensures ∙ no-table c.args.build_keys c.new.result.items c.new.ensures.items
