use Rattle.amber_judge.proofs.LegalFrom.{logs_are_tested}
use Rattle.amber_judge.proofs.laws.logs_are_tested.Goals as goal

pub returns : goal.returns
returns c = logs_are_tested
