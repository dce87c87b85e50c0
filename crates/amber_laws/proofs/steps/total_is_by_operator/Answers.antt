use Rattle.amber_laws.proofs.Totals.{total_is_by_operator}
use Rattle.amber_laws.proofs.steps.total_is_by_operator.Goals as goal

pub returns : goal.returns
returns c = total_is_by_operator
