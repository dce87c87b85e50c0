use Rattle.amber_laws.proofs.Schedules.{schedules_have_one_answer}
use Rattle.amber_laws.proofs.answer_laws.schedules_have_one_answer.Goals as goal

pub returns : goal.returns
returns c = schedules_have_one_answer
