-- A leg is closed: the log is legal with it, and the workers stand where it says.
use Rattle.std.proofs.Common.{◌≡◌, refl, sym, ap, subst, ◌∙◌, ℕ, ◌<◌, ◌≤◌, List, [], ◌∷◌, ◌++◌, length, Bool, true, false, unwrap_or, arith}
use Rattle.amber_rows.specs.Topology.{crew_of, op_of}
use Rattle.amber_rows.specs.FlowRules.{IsFlow}
use Rattle.amber_rows.specs.declared.flow.Operator.{Operator}
use Rattle.amber_lines.specs.KeptStops.{kept_stops, leg_of}
use Rattle.amber_lines.specs.Moving.{orders_in}
use Rattle.amber_lines.proofs.BoundedLogs.{AreBounded, open-bounded}
use Rattle.amber_lines.proofs.Kept.{legs_keep_their_stops}
use Rattle.amber_log.specs.declared.leg.Close.{Close}
use Rattle.amber_log.specs.declared.leg.Close.TheVariants as close
use Rattle.amber_log.specs.declared.leg.Part.{Part}
use Rattle.amber_log.specs.declared.log.Log.{Log}
use Rattle.amber_meaning.specs.declared.view.Stop.{Stop}
use Rattle.amber_meaning.specs.Legal.{IsLegal, IsOpen, IsWorked, Query, after_close, leg_start, stops_in}
use Rattle.amber_meaning.specs.Replay.{state_after}
use Rattle.amber_meaning.specs.State.{Arms, State, arms_at, no_arms, orders_of, position_at}
use Rattle.amber_meaning.specs.Stops.{arms_left, without_stops}
use Rattle.amber_meaning.proofs.Crews.{op-within}
use Rattle.amber_meaning.proofs.OneState.{legal_logs_have_one_state}
use Rattle.amber_meaning.proofs.Rest.{ends_close, runs_close}
use Rattle.amber_meaning.proofs.Senders.{flows_send_forward}
use Rattle.amber_dataflow.specs.AtWork.{state_reached}
use Rattle.amber_dataflow.specs.Dataflow.{DataflowState, StandAt, handed_out, leg_parts}
use Rattle.amber_dataflow.proofs.Numbered.{nth-numbers}
use Rattle.amber_dataflow.proofs.Standing.{AgreeButCount, handed_out-nothing, stand-at, stand-flow, stand-handed_out, stand-position, stand-steps, stand-text, stand-worked}
use Rattle.amber_boards.specs.Boards.{AreBelow}
use Rattle.amber_worker.specs.WorkerState.{WorkerState}
use Rattle.amber_home.specs.Asked.{Asked, IsInForce}
use Rattle.amber_home.specs.HomeState.{ClosesIn, HomeState, item_of_leg, query_of, rest_state, with_item}
use Rattle.amber_home.specs.Kept.{HaveNoUnits, IsAtRest, IsWithinLeg}
use Rattle.amber_home.specs.Leg.{counts_asked}
use Rattle.amber_home.specs.declared.phase.Phase.TheVariants as phase
use Rattle.amber_home.proofs.Units.{below-kept, empty-kept, keep-handed_out, unarmed-kept}

-- ---- the orders that a close leaves: a count may be taken away

module _ (flow : List Operator) (state : State) where
  left-at : (op : ℕ) → 0 < op → op ≤ length flow → arms_at (without_stops flow state) op ≡ arms_left flow state op
  unfolding without_stops
  left-at op some within = ap (λ found. unwrap_or found no_arms) (nth-numbers (arms_left flow state) flow op some within)

  pub orders-left : (op : ℕ) → 0 < op → op ≤ length flow → AgreeButCount (orders_of (arms_at (without_stops flow state) op)) (orders_of (arms_at state op))
  orders-left op some within = record {
    constants = ap (λ (a : Arms). a.constants) (left-at op some within);
    when = ap (λ (a : Arms). a.when) (left-at op some within);
  }

-- the state after a close
abbrev pub closed_state : Bool → Query → State → Close → State
closed_state true query state closed = state
closed_state false query state closed = after_close query state closed

-- it has the same positions, and nothing else in force but for pauses and counts
module _ (query : Query) (state : State) where
  pub positions-closed : (to_end : Bool) (closed : Close) → (closed_state to_end query state closed).positions ≡ state.positions
  unfolding without_stops
  positions-closed true closed = refl
  positions-closed false close.Cut = refl
  positions-closed false close.Long = refl

  pub orders-closed : (to_end : Bool) (closed : Close) (worker : ℕ) → worker < crew_of query.flow
      → AgreeButCount (orders_in query (closed_state to_end query state closed) worker) (orders_in query state worker)
  orders-closed true closed worker inside = record { constants = refl; when = refl }
  orders-closed false close.Cut worker inside =
      let placed = op-within query.flow worker inside in orders-left query.flow state (op_of query.flow worker) placed.0 placed.1
  orders-closed false close.Long worker inside = record { constants = refl; when = refl }

-- ---- the leg

close-of : (to_end : Bool) (query : Query) (log : Log) (parts : List Part) (closed : Close) (leg : IsOpen query log to_end parts) → ClosesIn to_end query leg.now closed
    → (more : IsLegal query (with_item log (item_of_leg to_end parts closed))) × (more.after ≡ closed_state to_end query leg.now closed)
close-of true query log parts closed leg closes = ends_close query log parts closed leg closes
close-of false query log parts closed leg closes = runs_close query log parts closed leg closes

module _ (to_end : Bool) (e : HomeState) (d : DataflowState) (arms : List Asked) (leg : IsWithinLeg to_end e d arms) (legal : IsLegal (query_of e) e.log) where
  abbrev query : Query
  query = query_of e

  abbrev start : State
  start = leg_start to_end (rest_state e)

  abbrev reached : State
  reached = state_reached query start leg.positions

  flow : IsFlow query.flow
  flow = stand-flow query start d leg.positions leg.at

  first : rest_state e ≡ legal.after
  first = legal_logs_have_one_state query e.log (flows_send_forward query.flow flow) legal

  -- the leg is open
  is-open : IsOpen query e.log to_end (leg_parts d)
  is-open = record {
    legal = legal;
    more = leg.more;
    text = stand-text query start d leg.positions leg.at;
    now = reached;
    worked = subst (λ (s : State). IsWorked query (leg_start to_end s) (leg_parts d) reached) first (stand-worked query start d leg.positions leg.at);
    few = let few = leg.few in let same = stand-steps query start d leg.positions leg.at in omega arith;
  }

  -- each position is bounded
  pub bounded-within : AreBounded query reached.positions
  unfolding is-open
  bounded-within = open-bounded query e.log to_end (leg_parts d) is-open

  -- with it the log is legal
  pub legal-closed : (closed : Close) → ClosesIn to_end query reached closed
      → (more : IsLegal query (with_item e.log (item_of_leg to_end (leg_parts d) closed))) × (more.after ≡ closed_state to_end query reached closed)
  unfolding is-open
  legal-closed closed closes = close-of to_end query e.log (leg_parts d) closed is-open closes

  kept-closed : (closed : Close) → kept_stops query (e.log.items ++ item_of_leg to_end (leg_parts d) closed ∷ []) ≡ stops_in query reached
  unfolding is-open
  kept-closed closed =
      ap (λ item. kept_stops query (e.log.items ++ item ∷ [])) (same-item to_end)
      ∙ legs_keep_their_stops query e.log to_end (leg_parts d) closed reached (flows_send_forward query.flow flow) legal is-open.worked
    where
      same-item : (b : Bool) → item_of_leg b (leg_parts d) closed ≡ leg_of b (leg_parts d) closed
      same-item true = refl
      same-item false = refl

  -- and at rest they stand where it says
  pub rest-closed : (closed : Close) → ClosesIn to_end query reached closed → (now : List Asked) (stops : List Stop) (back : List WorkerState)
      → IsInForce query.flow (closed_state to_end query reached closed) now → stops ≡ stops_in query reached → AreBelow (counts_asked now) d
      → HaveNoUnits [] d
      → IsAtRest (record e { log = with_item e.log (item_of_leg to_end (leg_parts d) closed); phase = phase.Resting; parts = [] })
      (record { dataflow = handed_out d; arms = now; boards = []; stops = stops; back = back })
  rest-closed closed closes now stops back now-is stops-are below units =
      let log = with_item e.log (item_of_leg to_end (leg_parts d) closed) in
      let more = legal-closed closed closes in
      let after = closed_state to_end query reached closed in
      let rest : state_after query log.items ≡ after = legal_logs_have_one_state query log (flows_send_forward query.flow flow) more.0 ∙ more.1 in
      let here : (worker : ℕ) → worker < crew_of query.flow → position_at after.positions worker ≡ leg.positions worker =
      λ worker inside. ap (λ ps. position_at ps worker) (positions-closed query reached to_end closed) ∙ stand-position query start d leg.positions leg.at worker inside in
      let given = stand-handed_out query start d leg.positions leg.at after (orders-closed query reached to_end closed) here in
      record {
        at = subst (λ (s : State). StandAt query s (handed_out d) (position_at s.positions)) (sym rest)
            (stand-at query after (handed_out d) leg.positions given (position_at after.positions) here);
        none = handed_out-nothing d;
        in_force = subst (λ (s : State). IsInForce query.flow s now) (sym rest) now-is;
        below = below-kept d (handed_out d) (keep-handed_out d) (counts_asked now) below;
        units = record {
          none = refl;
          unarmed = unarmed-kept d (handed_out d) (keep-handed_out d) units.unarmed;
          empty = empty-kept d (handed_out d) (keep-handed_out d) units.empty;
        };
        stops_are = stops-are ∙ sym (kept-closed closed);
      }
