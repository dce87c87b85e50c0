use Rattle.amber_judge.proofs.LegalTests.{rules_are_tested}
use Rattle.amber_judge.proofs.laws.rules_are_tested.Goals as goal

pub returns : goal.returns
returns c = rules_are_tested
