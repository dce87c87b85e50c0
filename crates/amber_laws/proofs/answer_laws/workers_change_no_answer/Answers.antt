use Rattle.amber_laws.proofs.Workers.{workers_change_no_answer}
use Rattle.amber_laws.proofs.answer_laws.workers_change_no_answer.Goals as goal

pub returns : goal.returns
returns c = workers_change_no_answer
