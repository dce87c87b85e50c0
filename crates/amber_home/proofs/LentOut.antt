-- Workers leave an open leg with its boards, come back, and are settled.
use Rattle.std.proofs.Common.{◌≡◌, refl, sym, ap, subst, ◌∙◌, ℕ, ◌≤◌, ◌^◌, List, [], length, Bool, true, false, Option, None, Some, arith}
use Rattle.std.proofs.lemmas.Bool.{false≢true}
use Rattle.amber_rows.specs.declared.flow.Operator.{Operator}
use Rattle.amber_meaning.specs.Legal.{IsWorked, leg_start}
use Rattle.amber_meaning.specs.Position.{Position}
use Rattle.amber_meaning.specs.State.{Arms, Counting, State, arms_at, crew_at, steps_in}
use Rattle.amber_worker.specs.WorkerState.{WorkerState}
use Rattle.amber_dataflow.specs.AtWork.{AreJoinedAt, IsSameBesides, steps_by, turned_by, worker_state_at}
use Rattle.amber_dataflow.specs.Dataflow.{AreBack, AreCrewOf, DataflowState, has_room, leg_parts, step_count}
use Rattle.amber_dataflow.specs.Parts.{parts_from}
use Rattle.amber_dataflow.specs.Passing.{AreSameBesides}
use Rattle.amber_dataflow.proofs.AllSettled.{back-parts, back-steps}
use Rattle.amber_dataflow.proofs.Standing.{stand-worked}
use Rattle.amber_boards.specs.Boards.{AreLedBy, CounterState}
use Rattle.amber_boards.specs.declared.target.Target.{Target}
use Rattle.amber_home.specs.Asked.{Asked, IsAskedOf, IsCountOf, IsInForce, asked_at, no_asked}
use Rattle.amber_home.specs.HomeState.{HomeState, IsWorkedLeg, counts_in, is_lent, is_open, has_leg_crew, query_of, rest_state, runs_to_end, state_of}
use Rattle.amber_home.specs.Going.{AreReady}
use Rattle.amber_home.specs.Kept.{AreUnsettled, IsHome, LiveState}
use Rattle.amber_home.specs.Lent.{IsLent}
use Rattle.amber_home.specs.Parts.{open_parts}
use Rattle.amber_home.specs.declared.crew.Crew.{Crew}
use Rattle.amber_home.specs.declared.phase.Counts.{Counts}
use Rattle.amber_home.specs.declared.phase.Counts.TheVariants.{Armed}
use Rattle.amber_home.specs.declared.phase.Phase.{Phase}
use Rattle.amber_home.specs.declared.phase.Phase.TheVariants as phase
use Rattle.amber_home.proofs.Driven.{back-turned}
use Rattle.amber_home.proofs.Homes.{IsLeg, leg-armed, leg-of, open-there}
use Rattle.amber_home.proofs.Legs.{state-here}
use Rattle.amber_home.proofs.Places.{nth-same, nth-some}
use Rattle.amber_home.proofs.Units.{KeepUnits, counted-kept}
use Rattle.amber_home.proofs.Steps.{steps-are}

-- ---- what is in force is kept in one way

count-once : (crew : List Position) (one other : Option Target) (counting : Option Counting) → IsCountOf crew one counting → IsCountOf crew other counting → one ≡ other
count-once crew None None counting is also = refl
count-once crew None (Some kept) None is also = absurd also
count-once crew None (Some kept) (Some counting) is also = absurd is
count-once crew (Some kept) None None is also = absurd is
count-once crew (Some kept) None (Some counting) is also = absurd also
count-once crew (Some kept) (Some other) None is also = absurd is
count-once crew (Some kept) (Some other) (Some counting) is also =
    let since : kept.since ≡ other.since = (let one = is.counted in let two = also.counted in omega arith) in
    (λ i. Some (record { target = (is.target ∙ sym also.target) i; since = since i }))

asked-once : (crew : List Position) (one other : Asked) (arms : Arms) → IsAskedOf crew one arms → IsAskedOf crew other arms → one ≡ other
asked-once crew one other arms is also =
    (λ i. record {
      pause = (is.pause ∙ sym also.pause) i;
      count = count-once crew one.count other.count arms.count is.count also.count i;
      when = (is.when ∙ sym also.when) i;
      constants = (is.constants ∙ sym also.constants) i;
    })

pub in-force-once : (flow : List Operator) (state : State) (one other : List Asked) → IsInForce flow state one → IsInForce flow state other → one ≡ other
in-force-once flow state one other is also =
    let long : length one ≡ length other = is.all ∙ sym also.all in
    nth-same one other long
    (λ op some within.
    nth-some no_asked one op some within
    ∙ ap Some (asked-once (crew_at flow state op) (asked_at one op) (asked_at other op) (arms_at state op) (is.each op) (also.each op))
    ∙ sym (nth-some no_asked other op some (subst (λ n. op ≤ n) long within)))

-- ---- workers that are the same but for their links are counted alike

keep-besides : (old new : DataflowState) → new.flow ≡ old.flow → AreSameBesides old.workers new.workers → KeepUnits old new
keep-besides old new flow besides = record {
  flow = flow;
  each = λ worker.
      let same : IsSameBesides (worker_state_at old.workers worker) (worker_state_at new.workers worker) = besides worker in
      record {
        seat = ap (λ (w : WorkerState). w.seat) same;
        hand = ap (λ (w : WorkerState). w.restraint.hand) same;
        emitted = ap (λ (w : WorkerState). w.emitted) same;
      };
}

room-besides : (old new : DataflowState) → AreSameBesides old.workers new.workers → (worker : ℕ) → has_room new worker ≡ has_room old worker
unfolding has_room
room-besides old new besides worker = ap (λ (w : WorkerState). w.reserved) (besides worker)

ready-kept : (arms : List Asked) (boards : List (Option CounterState)) (old new : DataflowState) → KeepUnits old new
    → ((worker : ℕ) → has_room new worker ≡ has_room old worker) → AreReady arms boards old → AreReady arms boards new
ready-kept arms boards old new keep room ready = record { counted = counted-kept old new keep room boards ready.counted; targets = ready.targets }

-- ---- they leave

module _ (e : HomeState) (live : LiveState) where
  -- the home without them
  pub home-away : (now : Phase) → IsHome (record e { phase = now }) live → is_open now ≡ true → (left : LiveState) → left.arms ≡ live.arms
      → IsHome (record e { phase = phase.Lent (runs_to_end now); parts = [] }) left
  home-away now home within left same =
      let leg = leg-of e live now home within in
      record {
        few = leg.few;
        headed = leg.headed;
        legal = leg.legal;
        stands = record {
          more = leg.leg.more;
          in_force = subst (IsInForce e.flow (leg_start (runs_to_end now) (rest_state e))) (sym same) leg.leg.in_force;
        };
      }

  -- and they
  pub crew-lent : (now : Phase) → IsHome (record e { phase = now }) live → is_open now ≡ true → counts_in now ≡ Armed → live.dataflow.flow ≡ e.flow → (crew : Crew)
      → crew.workers.items ≡ live.dataflow.workers → crew.boards ≡ live.boards → AreLedBy crew.boards crew.chiefs.items
      → IsLent (record e { phase = phase.Lent (runs_to_end now); parts = [] }) crew
  unfolding step_count
  crew-lent now home within armed flow crew workers-are boards-are led =
      let leg = leg-armed e live now home within armed in
      let to_end = runs_to_end now in
      let few = leg.leg.few in
      record {
        workers = record {
          positions = leg.leg.positions;
          at = subst (λ (ws : List WorkerState). AreJoinedAt (query_of e) (leg_start to_end (rest_state e)) ws leg.leg.positions) (sym workers-are) leg.leg.at.work.at;
          few = subst (λ (ws : List WorkerState). steps_by ws ≤ e.most) (sym workers-are) few;
        };
        arms = live.arms;
        in_force = leg.leg.in_force;
        ready =
            subst (λ (boards : List (Option CounterState)). AreReady live.arms boards (record { flow = e.flow; workers = crew.workers.items })) (sym boards-are)
            (subst (λ (d : DataflowState). AreReady live.arms live.boards d) (λ i. record { flow = flow i; workers = sym workers-are i }) leg.stand);
        led = led;
      }

  pub parts-lent : (now : Phase) → is_open now ≡ true → open_parts now live ≡ parts_from 0 live.dataflow.workers
  unfolding leg_parts
  parts-lent phase.Resting within = absurd (false≢true within)
  parts-lent (phase.Open to_end counts) within = refl
  parts-lent (phase.Lent to_end) within = absurd (false≢true within)
  parts-lent (phase.Unsettled to_end) within = absurd (false≢true within)
  parts-lent (phase.Redoing to_end empty) within = absurd (false≢true within)
  parts-lent phase.Over within = absurd (false≢true within)
  parts-lent phase.Spent within = absurd (false≢true within)

  -- they have made as many steps as the state says
  pub lent-steps : (now : Phase) → IsHome (record e { phase = now }) live → (within : is_open now ≡ true) → steps_by live.dataflow.workers ≡ steps_in (state_of (record e { phase = now; parts = open_parts now live }))
  unfolding step_count
  lent-steps now home within = steps-are e live now home (open-there now within)

  -- ---- they come back

  pub home-back : (now : Phase) → IsHome (record e { phase = now }) live → is_lent now ≡ true → (crew : Crew) → IsLent (record e { phase = now }) crew
      → IsHome (record e { phase = phase.Unsettled (runs_to_end now); parts = parts_from 0 crew.workers.items })
      (record live { boards = crew.boards; back = crew.workers.items })
  home-back phase.Resting home away crew lent = absurd (false≢true away)
  home-back (phase.Open to_end counts) home away crew lent = absurd (false≢true away)
  home-back (phase.Unsettled to_end) home away crew lent = absurd (false≢true away)
  home-back (phase.Redoing to_end empty) home away crew lent = absurd (false≢true away)
  home-back phase.Over home away crew lent = absurd (false≢true away)
  home-back phase.Spent home away crew lent = absurd (false≢true away)
  home-back (phase.Lent to_end) home away crew lent =
      let are = lent.workers in
      record {
        few = home.few;
        headed = home.headed;
        legal = home.legal;
        stands = record {
          away = record { more = home.stands.more; in_force = home.stands.in_force };
          workers = record { positions = are.positions; at = are.at; few = are.few };
          ready =
              subst (λ (arms : List Asked). AreReady arms crew.boards (record { flow = e.flow; workers = crew.workers.items }))
              (in-force-once e.flow (leg_start to_end (rest_state e)) lent.arms live.arms lent.in_force home.stands.in_force) lent.ready;
        };
      }

  -- ---- they are settled

  pub unsettled-of : (now : Phase) → IsHome (record e { phase = now }) live → is_open now ≡ false → has_leg_crew now ≡ true
      → AreUnsettled (runs_to_end now) (record e { phase = now }) live
  unsettled-of phase.Resting home apart back = absurd (false≢true back)
  unsettled-of (phase.Open to_end counts) home apart back = absurd (false≢true (sym apart))
  unsettled-of (phase.Lent to_end) home apart back = absurd (false≢true back)
  unsettled-of (phase.Unsettled to_end) home apart back = home.stands
  unsettled-of (phase.Redoing to_end empty) home apart back = absurd (false≢true back)
  unsettled-of phase.Over home apart back = absurd (false≢true back)
  unsettled-of phase.Spent home apart back = absurd (false≢true back)

  -- what they did is what the home shows
  pub parts-back : (now : Phase) → is_open now ≡ false → has_leg_crew now ≡ true → open_parts now live ≡ parts_from 0 live.back
  parts-back phase.Resting apart back = absurd (false≢true back)
  parts-back (phase.Open to_end counts) apart back = absurd (false≢true (sym apart))
  parts-back (phase.Lent to_end) apart back = absurd (false≢true back)
  parts-back (phase.Unsettled to_end) apart back = refl
  parts-back (phase.Redoing to_end empty) apart back = absurd (false≢true back)
  parts-back phase.Over apart back = absurd (false≢true back)
  parts-back phase.Spent apart back = absurd (false≢true back)

  module _ (now : Phase) (home : IsHome (record e { phase = now }) live) (apart : is_open now ≡ false) (back : has_leg_crew now ≡ true) (flow : live.dataflow.flow ≡ e.flow) where
    are : AreUnsettled (runs_to_end now) (record e { phase = now }) live
    are = unsettled-of now home apart back

    -- its counts were armed
    pub counts-back : counts_in now ≡ Armed
    counts-back = by now apart back
      where
        by : (now : Phase) → is_open now ≡ false → has_leg_crew now ≡ true → counts_in now ≡ Armed
        by phase.Resting apart back = absurd (false≢true back)
        by (phase.Open to_end counts) apart back = absurd (false≢true (sym apart))
        by (phase.Lent to_end) apart back = refl
        by (phase.Unsettled to_end) apart back = refl
        by (phase.Redoing to_end empty) apart back = absurd (false≢true back)
        by phase.Over apart back = absurd (false≢true back)
        by phase.Spent apart back = absurd (false≢true back)

    module _ (workers : List WorkerState) (workers-are : workers ≡ live.back) where
      pub crew-back : AreCrewOf live.dataflow.flow workers
      crew-back =
          subst (λ (ws : List WorkerState). AreCrewOf live.dataflow.flow ws) (sym workers-are)
          (query_of e, leg_start (runs_to_end now) (rest_state e), are.workers.positions, sym flow, are.workers.at)

      pub few-back : steps_by workers ≤ 2 ^ 40
      few-back =
          subst (λ (ws : List WorkerState). steps_by ws ≤ 2 ^ 40) (sym workers-are) (let few = are.workers.few in let most = home.few in omega arith)

    module _ (workers : List WorkerState) (workers-are : workers ≡ live.back) (after : DataflowState) (there : AreBack workers after) (same : after.flow ≡ live.dataflow.flow) (rest : List WorkerState) where
      -- as the code has it
      abbrev pub settled_live : LiveState
      settled_live = record live { dataflow = after; back = rest }

      came : AreBack live.back after
      came = subst (λ (ws : List WorkerState). AreBack ws after) workers-are there

      crew-after : AreCrewOf after.flow live.back
      crew-after = (query_of e, leg_start (runs_to_end now) (rest_state e), are.workers.positions, sym (same ∙ flow), are.workers.at)

      pub leg-settled : IsLeg e settled_live (runs_to_end now) Armed
      leg-settled = record {
        few = home.few;
        headed = home.headed;
        legal = home.legal;
        leg = record {
          more = are.away.more;
          positions = are.workers.positions;
          at = came.stand (query_of e) (leg_start (runs_to_end now) (rest_state e)) are.workers.positions (sym (same ∙ flow)) are.workers.at;
          in_force = are.away.in_force;
          few = (let few = are.workers.few in let steps = back-steps live.back after crew-after came in omega arith);
        };
        stand = ready-kept live.arms live.boards (record { flow = e.flow; workers = live.back }) after
            (keep-besides (record { flow = e.flow; workers = live.back }) after (same ∙ flow) came.same)
            (room-besides (record { flow = e.flow; workers = live.back }) after came.same) are.ready;
      }

      pub parts-settled : leg_parts after ≡ parts_from 0 live.back
      parts-settled = back-parts live.back after crew-after came

      pub turned-settled : turned_by after.workers ≡ turned_by live.back
      turned-settled = back-turned live.back after crew-after came

-- ---- within a leg the parts lead to the state

pub worked-leg : (e : HomeState) (live : LiveState) (to_end : Bool) (counts : Counts) → IsLeg e live to_end counts
    → IsWorkedLeg (record e { phase = phase.Open to_end counts; parts = leg_parts live.dataflow })
unfolding state_of
worked-leg e live to_end counts leg =
    let start = leg_start to_end (rest_state e) in
    subst (λ (s : State). IsWorked (query_of e) start (leg_parts live.dataflow) s)
    (sym (state-here to_end e live.dataflow live.arms leg.leg leg.legal))
    (stand-worked (query_of e) start live.dataflow leg.leg.positions leg.leg.at)
