use Rattle.amber_laws.proofs.Counted.{open_legs_take_one_total}
use Rattle.amber_laws.proofs.steps.open_legs_take_one_total.Goals as goal

pub returns : goal.returns
returns c = open_legs_take_one_total
