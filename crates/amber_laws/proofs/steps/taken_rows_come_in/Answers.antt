use Rattle.amber_laws.proofs.Totals.{taken_rows_come_in}
use Rattle.amber_laws.proofs.steps.taken_rows_come_in.Goals as goal

pub returns : goal.returns
returns c = taken_rows_come_in
