use Rattle.amber_log.proofs.Torn.{texts_read_back}
use Rattle.amber_log.proofs.laws.texts_read_back.Goals as goal

pub returns : goal.returns
returns c = texts_read_back
