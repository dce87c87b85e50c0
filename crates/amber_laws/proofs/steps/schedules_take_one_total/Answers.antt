use Rattle.amber_laws.proofs.Counted.{schedules_take_one_total}
use Rattle.amber_laws.proofs.steps.schedules_take_one_total.Goals as goal

pub returns : goal.returns
returns c = schedules_take_one_total
