-- A leg is opened: the workers stand where it begins.
use Rattle.std.proofs.Common.{◌≡◌, refl, sym, ap, subst, ◌∙◌, ℕ, ◌≤◌, List, length, map, Bool, true, false, if◌then◌else◌, arith}
use Rattle.std.proofs.Math.ListN.{get_or-map}
use Rattle.amber_rows.specs.Topology.{op_of}
use Rattle.amber_log.specs.Grammar.{ends_over}
use Rattle.amber_lines.specs.Moving.{orders_in}
use Rattle.amber_meaning.specs.Legal.{IsLegal, Query, leg_start}
use Rattle.amber_meaning.specs.Position.{origin}
use Rattle.amber_meaning.specs.State.{State, begin_last_leg, begin_leg, emitted_by, let_go, no_arms, orders_of, position_at, steps_in, without_arms}
use Rattle.amber_meaning.proofs.OneState.{legal_logs_have_one_state, position-get_or}
use Rattle.amber_meaning.proofs.Rest.{legal_logs_rest}
use Rattle.amber_meaning.proofs.Senders.{flows_send_forward}
use Rattle.amber_log.specs.declared.leg.Part.{Part}
use Rattle.amber_dataflow.specs.AtWork.{state_reached}
use Rattle.amber_dataflow.specs.Dataflow.{leg_begun, rows_emitted, step_count}
use Rattle.amber_dataflow.proofs.Standing.{begun-steps, begun_orders, listed-whole, stand-begun, stand-emitted, stand-flow, stand-steps}
use Rattle.amber_boards.specs.Boards.{AreBelow, IsBelow}
use Rattle.amber_home.specs.Asked.{Asked, no_asked, without_asked}
use Rattle.amber_home.specs.HomeState.{HomeState, query_of, rest_state}
use Rattle.amber_home.specs.Kept.{HaveNoUnits, IsAtRest, IsWithinLeg, LiveState}
use Rattle.amber_home.specs.Leg.{count_at, counts_asked}
use Rattle.amber_home.specs.declared.phase.Counts.TheVariants.{Unarmed}
use Rattle.amber_home.specs.declared.phase.Phase.TheVariants as phase
use Rattle.amber_home.proofs.InForce.{in-force-begun}
use Rattle.amber_home.proofs.Places.{at-map}
use Rattle.amber_home.proofs.Reached.{target-asked}
use Rattle.amber_home.proofs.Units.{below-kept, empty-kept, keep-begun, unarmed-kept}

-- ---- what is in force

module _ (query : Query) (rest : State) where
  pub orders-start : (to_end : Bool) (worker : ℕ) → orders_in query (leg_start to_end rest) worker ≡ begun_orders to_end (orders_in query rest worker)
  unfolding begin_leg begin_last_leg
  orders-start true worker = ap orders_of (at-map without_arms rest.arms (op_of query.flow worker) no_arms no_arms refl)
  orders-start false worker = refl

pub position-start : (to_end : Bool) (rest : State) (worker : ℕ) → position_at (leg_start to_end rest).positions worker ≡ let_go (position_at rest.positions worker)
unfolding begin_leg begin_last_leg
position-start true rest worker = position-get_or (map let_go rest.positions) worker ∙ get_or-map let_go rest.positions worker origin ∙ ap let_go (sym (position-get_or rest.positions worker))
position-start false rest worker = position-get_or (map let_go rest.positions) worker ∙ get_or-map let_go rest.positions worker origin ∙ ap let_go (sym (position-get_or rest.positions worker))

-- what is read of the workers at rest
module _ (e : HomeState) (live : LiveState) (rest : IsAtRest e live) (legal : IsLegal (query_of e) e.log) where
  abbrev query : Query
  query = query_of e

  abbrev state : State
  state = rest_state e

  pub first-rest : state ≡ legal.after
  first-rest = legal_logs_have_one_state query e.log (flows_send_forward query.flow (stand-flow query state live.dataflow (position_at state.positions) rest.at)) legal

  pub listed-rest : state_reached query state (position_at state.positions) ≡ state
  listed-rest = listed-whole query state (ap (λ (s : State). length s.positions) first-rest ∙ (legal_logs_rest query e.log legal).crew)

  pub steps-rest : steps_in state ≡ step_count live.dataflow
  steps-rest = ap steps_in (sym listed-rest) ∙ stand-steps query state live.dataflow (position_at state.positions) rest.at

  -- the rows that an operator has emitted
  pub emitted-rest : (op : ℕ) → emitted_by query.flow state op ≡ rows_emitted live.dataflow op
  emitted-rest op =
      ap (λ s. emitted_by query.flow s op) (sym listed-rest) ∙ stand-emitted query state live.dataflow (position_at state.positions) rest.at op

  pub rest-few : step_count live.dataflow ≤ e.most
  rest-few =
      let few = (legal_logs_rest query e.log legal).few in
      let steps = steps-rest in
      let same = ap steps_in first-rest in
      omega arith

-- the workers begin a leg
pub opened : (e : HomeState) (live : LiveState) → IsAtRest e live → IsLegal (query_of e) e.log → (to_end : Bool) → ends_over false e.log.items ≡ false
    → (now : List Asked) → now ≡ (if to_end then map without_asked live.arms else live.arms) → (parts : List Part)
    → IsWithinLeg to_end (record e { phase = phase.Open to_end Unarmed; parts = parts; alone = 0 }) (leg_begun to_end live.dataflow) now
opened e live rest legal to_end more now now-is parts =
    let query = query_of e in
    let state = rest_state e in
    let positions = position_at state.positions in
    record {
      more = more;
      positions = λ worker. let_go (positions worker);
      at = stand-begun query state live.dataflow positions rest.at (leg_start to_end state)
          to_end (λ worker inside. orders-start query state to_end worker) (λ worker inside. position-start to_end state worker);
      in_force = rw now-is (in-force-begun e.flow state live.arms to_end rest.in_force);
      few = rw (begun-steps to_end live.dataflow) (rest-few e live rest legal);
    }

-- and what is said of counts stays, or nothing is said where all is taken back
pub opened-below : (live : LiveState) (to_end : Bool) → AreBelow (counts_asked live.arms) live.dataflow → (now : List Asked) → now ≡ (if to_end then map without_asked live.arms else live.arms)
    → AreBelow (counts_asked now) (leg_begun to_end live.dataflow)
opened-below live true below now now-is = λ op.
    subst (λ count. IsBelow count (rows_emitted (leg_begun true live.dataflow) op))
    (sym (target-asked now op ∙ ap (λ arms. count_at arms op) now-is ∙ ap (λ (a : Asked). a.count) (at-map without_asked live.arms op no_asked no_asked refl))) tt
opened-below live false below now now-is =
    subst (λ arms. AreBelow (counts_asked arms) (leg_begun false live.dataflow)) (sym now-is)
    (below-kept live.dataflow (leg_begun false live.dataflow) (keep-begun false live.dataflow) (counts_asked live.arms) below)

pub opened-units : (live : LiveState) (to_end : Bool) → HaveNoUnits live.boards live.dataflow → HaveNoUnits live.boards (leg_begun to_end live.dataflow)
opened-units live to_end units =
    let keep = keep-begun to_end live.dataflow in
    record {
      none = units.none;
      unarmed = unarmed-kept live.dataflow (leg_begun to_end live.dataflow) keep units.unarmed;
      empty = empty-kept live.dataflow (leg_begun to_end live.dataflow) keep units.empty;
    }
