use Rattle.amber_laws.proofs.Totals.{dealt_rows_are_the_operators}
use Rattle.amber_laws.proofs.steps.dealt_rows_are_the_operators.Goals as goal

pub returns : goal.returns
returns c = dealt_rows_are_the_operators
