-- Each leg up to a stop of a legal log stops for counts exactly at their targets, and its reply says so.
use Rattle.std.proofs.Common.{◌≡◌, ℕ, List, ◌∷◌, refl, sym, subst}
use Rattle.amber_rows.specs.FlowRules.{IsFlow}
use Rattle.amber_log.specs.declared.leg.Close.{Close}
use Rattle.amber_log.specs.declared.leg.Close.TheVariants as close
use Rattle.amber_log.specs.declared.leg.Leg.{Leg}
use Rattle.amber_log.specs.declared.log.Item.{Item}
use Rattle.amber_log.specs.declared.log.Item.TheVariants as item
use Rattle.amber_log.specs.declared.log.Log.{Log}
use Rattle.amber_meaning.specs.Legal.{ClosesRun, IsLegal, Query, Reaches, stops_in}
use Rattle.amber_meaning.specs.Replay.{state_after}
use Rattle.amber_meaning.specs.State.{State, begin_leg, start_of}
use Rattle.amber_meaning.specs.Texts.{stops_text}
use Rattle.amber_meaning.specs.Transcript.{reply_of, run_reply}
use Rattle.amber_meaning.proofs.Fronts.{Reaches-parts}
use Rattle.amber_meaning.proofs.OneState.{after_leg-is, items_have_one_state}
use Rattle.amber_meaning.proofs.Senders.{flows_send_forward}
use Rattle.amber_laws.specs.CountLaws.{log_with_run, run_state}
use Rattle.amber_laws.proofs.Arming.{counts_count_since_armed}
use Rattle.amber_laws.proofs.CountStops.{counts_stop_at_their_target}
use Rattle.amber_laws.specs.CountStops.{StopForCounts}

-- however a leg is closed, its reply is the text of its stops: one that was too long has none
closed-reply : (query : Query) (reached : State) (closed : Close) → ClosesRun query reached closed → run_reply query reached closed ≡ stops_text query.flow (stops_in query reached)
unfolding stops_text
closed-reply query reached close.Cut h = refl
closed-reply query reached close.Long h = rw h.2 refl

leg-reply : (query : Query) (batch : ℕ) (done later : List Item) (leg : Leg) → IsFlow query.flow → IsLegal query (log_with_run batch done leg later)
    → reply_of query (state_after query done) (item.Run leg) ≡ stops_text query.flow (stops_in query (run_state query done leg))
unfolding Reaches reply_of begin_leg state_after
leg-reply query batch done later leg flow legal =
    let first = flows_send_forward query.flow flow in
    let parts = Reaches-parts query (start_of query.flow) legal.after done (item.Run leg ∷ later) legal.reached in
    let is = items_have_one_state query (start_of query.flow) parts.0 done first parts.1 in
    let made = parts.2.1 in
    let same : run_state query done leg ≡ made.0 = rw is (after_leg-is query (begin_leg parts.0) made.0 leg.parts first made.1) in
    subst (λ state. run_reply query state leg.close ≡ stops_text query.flow (stops_in query state)) (sym same) (closed-reply query made.0 leg.close made.2)

pub stop-for-counts : (query : Query) (log : Log) → IsFlow query.flow → IsLegal query log → StopForCounts query log.items
stop-for-counts query log flow legal done later leg is =
    let run : IsLegal query (log_with_run log.batch done leg later) = subst (λ items. IsLegal query (record { batch = log.batch; items = items })) is legal in
    record {
      reply = leg-reply query log.batch done later leg flow run;
      reached = counts_stop_at_their_target query log.batch done later leg flow run;
      since = counts_count_since_armed query log.batch done later leg flow run;
    }
