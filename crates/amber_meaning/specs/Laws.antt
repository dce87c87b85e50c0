-- Laws of legal logs.
use Rattle.std.specs.Prelude.{◌≡◌, ℕ, ◌<◌, ◌≤◌, ◌==◌, List, [], ◌∷◌, ◌++◌, length, Bool, true, false}
use Rattle.std.specs.List.{list_any}
use Rattle.amber_rows.specs.Topology.{crew_of, senders_of}
use Rattle.amber_rows.specs.FlowRules.{IsFlow}
use Rattle.amber_rows.specs.declared.flow.Operator.{Operator}
use Rattle.amber_log.specs.Grammar.{IsItem, ends_over}
use Rattle.amber_log.specs.declared.leg.Part.{Part}
use Rattle.amber_log.specs.declared.leg.Close.{Close}
use Rattle.amber_log.specs.declared.log.Item.{Item}
use Rattle.amber_log.specs.declared.log.Item.TheVariants as item
use Rattle.amber_log.specs.declared.log.Log.{Log}
use Rattle.amber_meaning.specs.Legal.{AreOffered, ClosesEnd, ClosesRun, IsLegal, IsOpen, IsWorked, Makes, Query, Reaches, after_close, leg_start}
use Rattle.amber_meaning.specs.Replay.{after_item, after_items, state_after, after_leg}
use Rattle.amber_meaning.specs.State.{State, position_at, steps_in}
use Rattle.amber_meaning.specs.Transcript.{reply_of, transcript_of}

-- the first items of a legal log are a legal log
abbrev pub FrontsAreLegal : Type 0
FrontsAreLegal = (query : Query) (batch : ℕ) (items more : List Item)
    → IsLegal query (record { batch = batch; items = items ++ more }) → IsLegal query (record { batch = batch; items = items })

-- an item more, where one may follow and it leads on from the state that was reached
abbrev pub LegalLogsGrow : Type 0
LegalLogsGrow = (query : Query) (batch : ℕ) (items : List Item) (one : Item) (after : State)
    → (legal : IsLegal query (record { batch = batch; items = items })) → ends_over false items ≡ false → IsItem one → Makes query legal.after one after
    → (more : IsLegal query (record { batch = batch; items = items ++ one ∷ [] })) × (more.after ≡ after)

-- how a state stands between two legs: each worker has a position, no hand holds a unit, what was taken is what the senders have
-- made, and the steps are no more than they may be
pub record IsResting (query : Query) (state : State) : Type 0 where
  pub arms : length state.arms ≡ length query.flow
  pub crew : length state.positions ≡ crew_of query.flow
  pub hands : (worker : ℕ) → worker < crew_of query.flow → (position_at state.positions worker).restraint.hand ≡ 0
  pub offered : AreOffered query state.positions
  pub few : steps_in state ≤ query.most

-- so stands the state that a legal log leads to
abbrev pub LegalLogsRest : Type 0
LegalLogsRest = (query : Query) (log : Log) → (legal : IsLegal query log) → IsResting query legal.after

-- a leg may be opened after a legal log, where one may follow
abbrev pub LegsOpen : Type 0
LegsOpen = (query : Query) (log : Log) (to_end : Bool) → (legal : IsLegal query log) → ends_over false log.items ≡ false
    → (leg : IsOpen query log to_end []) × (leg.now ≡ leg_start to_end legal.after)

-- an open leg that may be closed so gives a legal log
abbrev pub RunsClose : Type 0
RunsClose = (query : Query) (log : Log) (parts : List Part) (closed : Close) → (leg : IsOpen query log false parts) → ClosesRun query leg.now closed
    → (more : IsLegal query (record { batch = log.batch; items = log.items ++ item.Run (record { parts = parts; close = closed }) ∷ [] }))
    × (more.after ≡ after_close query leg.now closed)

abbrev pub EndsClose : Type 0
EndsClose = (query : Query) (log : Log) (parts : List Part) (closed : Close) → (leg : IsOpen query log true parts) → ClosesEnd query leg.now closed
    → (more : IsLegal query (record { batch = log.batch; items = log.items ++ item.End (record { parts = parts; close = closed }) ∷ [] }))
    × (more.after ≡ leg.now)

-- whoever sends to a worker has a smaller number
abbrev pub SendersFirst : List Operator → Type 0
SendersFirst flow = (worker sender : ℕ) → list_any (λ one. one == sender) (senders_of flow worker) ≡ true → sender < worker

-- in a workflow whoever sends to a worker has a smaller number
abbrev pub FlowsSendForward : Type 0
FlowsSendForward = (flow : List Operator) → IsFlow flow → SendersFirst flow

-- the state that items lead to is the one that is computed from them
abbrev pub ItemsHaveOneState : Type 0
ItemsHaveOneState = (query : Query) (state after : State) (items : List Item)
    → SendersFirst query.flow → Reaches query state items after → after_items query state items ≡ after

-- a leg's work leads to the state that is computed from its parts
abbrev pub LegsHaveOneState : Type 0
LegsHaveOneState = (query : Query) (before after : State) (parts : List Part)
    → SendersFirst query.flow → IsWorked query before parts after → after_leg query before parts ≡ after

-- a legal log leads to the state that is computed from its items
abbrev pub LegalLogsHaveOneState : Type 0
LegalLogsHaveOneState = (query : Query) (log : Log) → SendersFirst query.flow → (legal : IsLegal query log) → state_after query log.items ≡ legal.after

-- the transcript of an item more is that of the others and its reply
abbrev pub TranscriptsGrow : Type 0
TranscriptsGrow = (query : Query) (items : List Item) (one : Item)
    → (transcript_of query (items ++ one ∷ []) ≡ transcript_of query items ++ reply_of query (state_after query items) one)
    × (state_after query (items ++ one ∷ []) ≡ after_item query (state_after query items) one)
