-- What a run answers does not depend on its schedule.
use Rattle.std.specs.Prelude.{◌≡◌, ℕ, List, [], ◌∷◌, ◌++◌, map}
use Rattle.amber_rows.specs.FlowRules.{IsFlow}
use Rattle.amber_rows.specs.declared.flow.Operator.{Operator}
use Rattle.amber_log.specs.declared.leg.Close.TheVariants as close
use Rattle.amber_log.specs.declared.leg.Leg.{Leg}
use Rattle.amber_log.specs.declared.log.Item.{Item}
use Rattle.amber_log.specs.declared.log.Item.TheVariants as item
use Rattle.amber_log.specs.declared.log.Log.{Log}
use Rattle.amber_meaning.specs.Legal.{IsLegal, IsUnaltered, query_over}
use Rattle.amber_meaning.specs.Plain.{answer_of}
use Rattle.amber_meaning.specs.Replay.{state_after}
use Rattle.amber_meaning.specs.Texts.{answer_text}
use Rattle.amber_meaning.specs.Transcript.{reply_of}
use Rattle.amber_meaning.specs.Views.{answer_in}

-- a log that ends with a whole leg to the end
abbrev pub ended_log : ℕ → List Item → Leg → Log
ended_log batch done leg = record { batch = batch; items = done ++ item.End leg ∷ [] }

-- whatever the order in which the workers of a workflow moved: a legal log that sets no constant, drops no row and ends with a whole
-- leg to the end leads to the sequential answer, with what was refused
abbrev pub SchedulesHaveOneAnswer : Type 0
SchedulesHaveOneAnswer = (flow : List Operator) (files : List (List ℕ)) (batch_size most batch : ℕ) (done : List Item) (leg : Leg)
    → IsFlow flow → leg.close ≡ close.Cut → IsUnaltered (ended_log batch done leg).items
    → (legal : IsLegal (query_over flow files batch_size most) (ended_log batch done leg))
    → answer_in (query_over flow files batch_size most) legal.after ≡ answer_of flow files

-- and that is what is replied to its last item
abbrev pub EndsReplyTheAnswer : Type 0
EndsReplyTheAnswer = (flow : List Operator) (files : List (List ℕ)) (batch_size most batch : ℕ) (done : List Item) (leg : Leg)
    → IsFlow flow → leg.close ≡ close.Cut → IsUnaltered (ended_log batch done leg).items
    → IsLegal (query_over flow files batch_size most) (ended_log batch done leg)
    → reply_of (query_over flow files batch_size most) (state_after (query_over flow files batch_size most) done) (item.End leg) ≡ answer_text flow (answer_of flow files)

-- an operator as it would be with one worker
abbrev pub with_one_worker : Operator → Operator
with_one_worker operator = record operator { workers = 1 }

-- workflows that differ in their numbers of workers alone have one sequential answer
abbrev pub WorkersChangeNoAnswer : Type 0
WorkersChangeNoAnswer = (flow other : List Operator) (files : List (List ℕ))
    → map with_one_worker flow ≡ map with_one_worker other → answer_of flow files ≡ answer_of other files
