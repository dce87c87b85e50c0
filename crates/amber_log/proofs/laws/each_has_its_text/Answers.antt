use Rattle.amber_log.proofs.Torn.{each_has_its_text}
use Rattle.amber_log.proofs.laws.each_has_its_text.Goals as goal

pub returns : goal.returns
returns c = each_has_its_text
