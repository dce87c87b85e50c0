-- A home within a leg: the state in which it stands, and what its workers need to go on.
use Rattle.std.proofs.Common.{◌≡◌, refl, sym, ap, subst, ◌∙◌, ℕ, ◌<◌, ◌≤◌, List, Bool, Option, None, Some, is_some, true, false}
use Rattle.amber_rows.specs.Topology.{crew_of, op_of}
use Rattle.amber_rows.specs.declared.flow.Operator.{Operator}
use Rattle.amber_meaning.specs.Legal.{IsLegal, IsSettled, Query, leg_start}
use Rattle.amber_meaning.specs.Position.{Position}
use Rattle.amber_meaning.specs.State.{Arms, Counting, State, arms_at, begin_last_leg, crew_at, no_arms, position_at, steps_in, without_arms}
use Rattle.amber_meaning.proofs.OneState.{legal_logs_have_one_state}
use Rattle.amber_meaning.proofs.Rest.{legal_logs_rest}
use Rattle.amber_meaning.proofs.Senders.{flows_send_forward}
use Rattle.amber_dataflow.specs.AtWork.{state_reached}
use Rattle.amber_dataflow.specs.Dataflow.{DataflowState, hand_of, leg_parts, step_count}
use Rattle.amber_dataflow.proofs.Standing.{stand-after, stand-flow, stand-steps}
use Rattle.amber_boards.specs.Boards.{AreEmptyHanded, AreInForce, AreWithinTargets}
use Rattle.amber_boards.specs.declared.target.Target.{Target}
use Rattle.amber_home.specs.Asked.{Asked, IsCountOf, IsInForce}
use Rattle.amber_home.specs.Going.{GoOn}
use Rattle.amber_home.specs.HomeState.{HomeState, leg_state, query_of, rest_state}
use Rattle.amber_home.specs.Kept.{IsWithinLeg}
use Rattle.amber_home.specs.Leg.{count_at, counts_asked, is_count_asked, pause_at}
use Rattle.amber_home.proofs.Counted.{count-none}
use Rattle.amber_home.proofs.Opened.{position-start}
use Rattle.amber_home.proofs.Places.{at-map}
use Rattle.amber_home.proofs.Reached.{empty-reached, settled-reached}

-- a count is in force just where one is kept
pub in-force-counted : (flow : List Operator) (state : State) (arms : List Asked) → IsInForce flow state arms → AreInForce (is_count_asked arms) state
in-force-counted flow state arms is op = by (crew_at flow state op) (count_at arms op) (arms_at state op).count (is.each op).count
  where
    by : (crew : List Position) (kept : Option Target) (count : Option Counting) → IsCountOf crew kept count → is_some count ≡ is_some kept
    by crew None None is = refl
    by crew None (Some counting) is = absurd is
    by crew (Some kept) None is = absurd is
    by crew (Some kept) (Some counting) is = refl

-- nothing is armed at an operator
abbrev pub IsUnarmed : List Asked → ℕ → Type 0
IsUnarmed arms op = (pause_at arms op ≡ None) × (count_at arms op ≡ None)

-- to the end nothing is armed any more
pub unarmed-start : (query : Query) (state : State) (arms : List Asked) → IsInForce query.flow (leg_start true state) arms → (op : ℕ) → IsUnarmed arms op
unfolding begin_last_leg
unarmed-start query state arms is op =
    let cleared = at-map without_arms state.arms op no_arms no_arms refl in
    let one = is.each op in (
      one.pause ∙ ap (λ (a : Arms). a.pause) cleared,
      count-none (crew_at query.flow (leg_start true state) op) (count_at arms op) (arms_at (leg_start true state) op).count one.count (ap (λ (a : Arms). a.count) cleared),
    )

module _ (to_end : Bool) (e : HomeState) (d : DataflowState) (arms : List Asked) (leg : IsWithinLeg to_end e d arms) (legal : IsLegal (query_of e) e.log) where
  abbrev pub start : State
  start = leg_start to_end (rest_state e)

  first : rest_state e ≡ legal.after
  first = legal_logs_have_one_state (query_of e) e.log (flows_send_forward e.flow (stand-flow (query_of e) start d leg.positions leg.at)) legal

  -- no hand held a unit when it began
  pub hands-begun : (worker : ℕ) → worker < crew_of e.flow → (position_at start.positions worker).restraint.hand ≡ 0
  hands-begun worker inside =
      ap (λ (p : Position). p.restraint.hand) (position-start to_end (rest_state e) worker)
      ∙ ap (λ (s : State). (position_at s.positions worker).restraint.hand) first ∙ (legal_logs_rest (query_of e) e.log legal).hands worker inside

  -- nor does one where no count is in force
  pub empty-here : (worker : ℕ) → worker < crew_of e.flow → is_count_asked arms (op_of e.flow worker) ≡ false → hand_of d worker ≡ 0
  empty-here worker inside uncounted =
      empty-reached (query_of e) start d leg.positions leg.at worker inside (in-force-counted e.flow start arms leg.in_force (op_of e.flow worker) ∙ uncounted) (hands-begun worker inside)

  -- the state in which the home stands
  pub state-here : leg_state e to_end (leg_parts d) ≡ state_reached (query_of e) start leg.positions
  state-here = stand-after (query_of e) start d leg.positions leg.at

  -- there all is settled, and the steps are few enough
  pub settled-here : AreEmptyHanded d → AreWithinTargets (counts_asked arms) d → IsSettled (query_of e) (leg_state e to_end (leg_parts d))
  settled-here empty within =
      subst (IsSettled (query_of e)) (sym state-here) (settled-reached (query_of e) start d leg.positions leg.at arms leg.in_force empty within)

  pub few-here : steps_in (leg_state e to_end (leg_parts d)) ≤ e.most
  few-here = rw (ap steps_in state-here ∙ stand-steps (query_of e) start d leg.positions leg.at) leg.few

-- the workers go on
pub within-on : (to_end : Bool) (e : HomeState) (d after : DataflowState) (arms : List Asked) → IsWithinLeg to_end e d arms → GoOn arms d after → step_count after ≤ e.most
    → IsWithinLeg to_end e after arms
within-on to_end e d after arms leg on few =
    let next = on.on (query_of e) (leg_start to_end (rest_state e)) leg.positions leg.at (in-force-counted e.flow (leg_start to_end (rest_state e)) arms leg.in_force) in
    record { more = leg.more; positions = next.0; at = next.1; in_force = leg.in_force; few = few }
