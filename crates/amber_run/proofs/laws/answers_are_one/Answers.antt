use Rattle.amber_run.proofs.ByChange.{answers_are_one}
use Rattle.amber_run.proofs.laws.answers_are_one.Goals as goal

pub returns : goal.returns
returns c = answers_are_one
