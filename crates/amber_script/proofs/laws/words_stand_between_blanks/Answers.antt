use Rattle.amber_script.proofs.WordLaws.{words_stand_between_blanks}
use Rattle.amber_script.proofs.laws.words_stand_between_blanks.Goals as goal

pub returns : goal.returns
returns c = words_stand_between_blanks
