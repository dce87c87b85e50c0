use Rattle.amber_script.proofs.WordLaws.{quotes_read_back}
use Rattle.amber_script.proofs.laws.quotes_read_back.Goals as goal

pub returns : goal.returns
returns c = quotes_read_back
