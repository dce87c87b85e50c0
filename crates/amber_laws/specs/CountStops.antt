-- Where a run stops for a count: what the replies to its legs up to a stop say of counts.
use Rattle.std.specs.Prelude.{◌≡◌, ℕ, List, ◌∷◌, ◌++◌}
use Rattle.amber_log.specs.declared.leg.Leg.{Leg}
use Rattle.amber_log.specs.declared.log.Item.{Item}
use Rattle.amber_log.specs.declared.log.Item.TheVariants as item
use Rattle.amber_meaning.specs.Legal.{Query, stops_in}
use Rattle.amber_meaning.specs.Replay.{state_after}
use Rattle.amber_meaning.specs.State.{arms_at}
use Rattle.amber_meaning.specs.Texts.{stops_text}
use Rattle.amber_meaning.specs.Transcript.{reply_of}
use Rattle.amber_laws.specs.CountLaws.{CountsSinceArmed, CountsToTarget, run_state}

-- a leg up to a stop that comes after these items
pub record StopsForCounts (query : Query) (done : List Item) (leg : Leg) : Type 0 where
  -- its reply is the text of the stops that stand where it is closed, one line for each, and of nothing else
  pub reply : reply_of query (state_after query done) (item.Run leg) ≡ stops_text query.flow (stops_in query (run_state query done leg))
  -- of these, one is of an operator's count where a count is armed there that has counted all of its rows, and none elsewhere
  pub reached : (op : ℕ) → CountsToTarget query (run_state query done leg) op (arms_at (run_state query done leg) op).count
  -- a count was armed by one of the items, and has counted the rows that its operator's workers have emitted since
  pub since : CountsSinceArmed query done (run_state query done leg)

-- so is each leg up to a stop of these items
abbrev pub StopForCounts : Query → List Item → Type 0
StopForCounts query items = (done later : List Item) (leg : Leg) → items ≡ done ++ item.Run leg ∷ later → StopsForCounts query done leg
