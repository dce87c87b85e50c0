use Rattle.amber_run.proofs.ByChange.{stops_are_one}
use Rattle.amber_run.proofs.laws.stops_are_one.Goals as goal

pub returns : goal.returns
returns c = stops_are_one
