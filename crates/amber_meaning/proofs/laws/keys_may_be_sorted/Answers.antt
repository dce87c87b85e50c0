use Rattle.amber_meaning.proofs.Given.{keys_may_be_sorted}
use Rattle.amber_meaning.proofs.laws.keys_may_be_sorted.Goals as goal

pub returns : goal.returns
returns c = keys_may_be_sorted
