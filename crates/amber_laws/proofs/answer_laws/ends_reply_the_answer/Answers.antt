use Rattle.amber_laws.proofs.Schedules.{ends_reply_the_answer}
use Rattle.amber_laws.proofs.answer_laws.ends_reply_the_answer.Goals as goal

pub returns : goal.returns
returns c = ends_reply_the_answer
