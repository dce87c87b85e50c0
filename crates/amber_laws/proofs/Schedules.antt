-- The answer of a run does not depend on its schedule.
use Rattle.std.proofs.Common.{ℕ, List}
use Rattle.amber_rows.specs.FlowRules.{IsFlow}
use Rattle.amber_rows.specs.declared.flow.Operator.{Operator}
use Rattle.amber_meaning.specs.Legal.{query_over}
use Rattle.amber_meaning.specs.Plain.{answer_of}
use Rattle.amber_laws.proofs.Answered.{IsDealtOut}
use Rattle.amber_laws.proofs.Ended.{ended-answer, ended-reply}
use Rattle.amber_laws.proofs.Sequential.{dealt-out, typed-over}
use Rattle.amber_laws.specs.AnswerLaws.{EndsReplyTheAnswer, SchedulesHaveOneAnswer}

dealt-over : (flow : List Operator) (files : List (List ℕ)) (batch_size most : ℕ) → IsFlow flow → IsDealtOut (query_over flow files batch_size most)
dealt-over flow files batch_size most is = dealt-out (query_over flow files batch_size most) is (typed-over flow files batch_size most is)

pub schedules_have_one_answer : SchedulesHaveOneAnswer
unfolding answer_of
schedules_have_one_answer flow files batch_size most batch done leg is cut plain legal =
    ended-answer (query_over flow files batch_size most) batch done leg is (dealt-over flow files batch_size most is) cut plain legal

pub ends_reply_the_answer : EndsReplyTheAnswer
unfolding answer_of
ends_reply_the_answer flow files batch_size most batch done leg is cut plain legal =
    ended-reply (query_over flow files batch_size most) batch done leg is (dealt-over flow files batch_size most is) cut plain legal
