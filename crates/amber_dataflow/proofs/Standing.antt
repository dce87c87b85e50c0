-- Where the workers stand after each call, and what is then read of them.
use Rattle.std.proofs.Common.{None, Option, ◌≡◌, ◌≢◌, refl, sym, ap, subst, ◌∙◌, ℕ, zero, suc, ◌+◌, ◌<◌, ◌≤◌, eqb, List, [], ◌∷◌, ◌++◌, length, map, take, Bool, true, false, if◌then◌else◌, inl, inr, add-one, arith}
use Rattle.std.proofs.lemmas.Bool.Decides.{eqb_tells}
use Rattle.std.proofs.lemmas.List.{map-append, take_all, length-map}
use Rattle.std.proofs.lemmas.Grind.{take_at_read}
use Rattle.amber_rows.specs.Topology.{crew_of, op_of, workers_of}
use Rattle.amber_rows.specs.FlowRules.{IsFlow}
use Rattle.amber_rows.specs.Lists.{numbers_below}
use Rattle.amber_rows.specs.declared.value.Value.{Value}
use Rattle.amber_rows.specs.declared.cond.Cond.{Cond}
use Rattle.amber_log.specs.Grammar.{AreEntries, AreParts}
use Rattle.amber_lines.specs.Moving.{orders_in}
use Rattle.amber_meaning.specs.Legal.{IsWorked, Query, assignment_in, entries_of}
use Rattle.amber_meaning.specs.Position.{Position, origin}
use Rattle.amber_meaning.specs.Replay.{after_leg}
use Rattle.amber_meaning.specs.Rules.{Leads, Orders}
use Rattle.amber_meaning.specs.State.{State, emitted_by, have_finished, let_go, position_at, steps_in}
use Rattle.amber_meaning.proofs.OneState.{position-get_or}
use Rattle.amber_worker.specs.AtPosition.{Context, IsAtPosition, Shows, placement_of}
use Rattle.amber_worker.specs.Changes.{StandsAtLeg, at_leg_start, with_when}
use Rattle.amber_operators.specs.States.{with_value}
use Rattle.amber_worker.specs.WorkerState.{WorkerState, steps_made}
use Rattle.amber_worker.proofs.Commands.{stands-at_leg, stands-watched}
use Rattle.amber_dataflow.specs.AtWork.{AreAtWork, context_in, emitted_at, state_reached, steps_by, worker_state_at}
use Rattle.amber_dataflow.specs.Dataflow.{AreAllThere, DataflowState, FirstHaveFinished, HaveDoneNothing, StandAt, leg_begun, handed_out, has_finished, have_all_finished, journal_of, leg_parts, rows_emitted, step_count, constant_put, when_put, worker_begun, worker_set, worker_watching}
use Rattle.amber_dataflow.specs.Parts.{parts_from, without_journal}
use Rattle.amber_dataflow.proofs.Emitted.{crew-few}
use Rattle.amber_dataflow.proofs.PutAt.{ends-set, ends-watched, journal-set, journal-watched, set-at, stands-set, stays, unwatched, watched-at, watches}
use Rattle.amber_dataflow.proofs.Renewed.{HasItsEnds, renewed}
use Rattle.amber_dataflow.proofs.Said.{all-have, emitted-is, finished-are, has-not, have-all}
use Rattle.amber_dataflow.proofs.Steps.{steps-cons}
use Rattle.amber_dataflow.proofs.Within.{after-is, entries-here, leads-at, parts-text, position-here, steps-reached, worked}

-- ---- a state is what its positions list

listed-front : (ps : List Position) (n : ℕ) → n ≤ length ps → map (position_at ps) (numbers_below n) ≡ take n ps
unfolding numbers_below
listed-front ps zero h = refl
listed-front ps (suc n) h =
    map-append (position_at ps) (numbers_below n) (n ∷ [])
    ∙ ap (λ xs. xs ++ position_at ps n ∷ []) (listed-front ps n (omega arith))
    ∙ ap (λ p. take n ps ++ p ∷ []) (position-get_or ps n)
    ∙ sym ((take_at_read ps n origin (omega (arith, h))).1) ∙ ap (λ m. take m ps) (add-one n)

pub listed-whole : (query : Query) (state : State) → length state.positions ≡ crew_of query.flow → state_reached query state (position_at state.positions) ≡ state
listed-whole query state long =
    ap (λ ps. record state { positions = ps })
    (listed-front state.positions (crew_of query.flow) (omega arith) ∙ take_all (crew_of query.flow) state.positions (omega arith))

-- ---- the workers begin a leg

-- the orders of a worker in it: to the end no condition is in force any more, and no count is armed
abbrev pub begun_orders : Bool → Orders → Orders
begun_orders true orders = record orders { when = None; counted = false }
begun_orders false orders = orders

begun-at : (to_end : Bool) (crew : List WorkerState) (k : ℕ) → k < length crew → worker_state_at (map (worker_begun to_end) crew) k ≡ worker_begun to_end (worker_state_at crew k)
begun-at to_end [] k less = absurd (omega arith)
begun-at to_end (w ∷ crew) zero less = refl
begun-at to_end (w ∷ crew) (suc k) less = begun-at to_end crew k (omega arith)

ends-begun : (to_end : Bool) (crew : List WorkerState) (k : ℕ) → HasItsEnds (worker_state_at crew k) (worker_state_at (map (worker_begun to_end) crew) k)
ends-begun to_end [] k = record { number = refl; ins = refl; outs = refl }
ends-begun true (w ∷ crew) zero = record { number = refl; ins = refl; outs = refl }
ends-begun false (w ∷ crew) zero = record { number = refl; ins = refl; outs = refl }
ends-begun to_end (w ∷ crew) (suc k) = ends-begun to_end crew k

-- one stands where the leg begins, under the orders of that leg
begins : (to_end : Bool) (context : Context) (w : WorkerState) (p : Position) → Shows context w p
    → IsAtPosition (record context { orders = begun_orders to_end context.orders }) (worker_begun to_end w) (let_go p) (let_go p)
unfolding StandsAtLeg
begins true context w p shows = stands-watched context (at_leg_start w) (let_go p) None false (stands-at_leg w context p shows) refl
begins false context w p shows = stands-at_leg w context p shows

-- a change that leaves each one's steps
pub steps-mapped : (f : WorkerState → WorkerState) → ((w : WorkerState) → steps_made (f w) ≡ steps_made w) → (crew : List WorkerState) → steps_by (map f crew) ≡ steps_by crew
steps-mapped f same [] = refl
steps-mapped f same (w ∷ crew) = rw (steps-cons w crew, steps-cons (f w) (map f crew), same w, steps-mapped f same crew) refl

-- ---- the journals were handed out

handed-at : (crew : List WorkerState) (k : ℕ) → worker_state_at (map without_journal crew) k ≡ without_journal (worker_state_at crew k)
handed-at [] k = refl
handed-at (w ∷ crew) zero = refl
handed-at (w ∷ crew) (suc k) = handed-at crew k

-- a worker stands where it stood, with nothing done since
stands-handed : (context : Context) (w : WorkerState) (start p : Position) → IsAtPosition context w start p → IsAtPosition context (without_journal w) p p
unfolding Leads AreEntries
stands-handed context w start p stands = record {
  leads = refl;
  text = tt;
  shows = record {
    op = stands.shows.op;
    number = stands.shows.number;
    operator_state = stands.shows.operator_state;
    state = stands.shows.state;
    columns = stands.shows.columns;
    build_columns = stands.shows.build_columns;
    sides = stands.shows.sides;
    builders = stands.shows.builders;
    building = stands.shows.building;
    when = stands.shows.when;
    rest = stands.shows.rest;
    pending = stands.shows.pending;
    taken = stands.shows.taken;
    emitted = stands.shows.emitted;
    batches = stands.shows.batches;
    within = stands.shows.within;
    produced = stands.shows.produced;
    refused = stands.shows.refused;
    kept = stands.shows.kept;
    restraint = stands.shows.restraint;
    finished = stands.shows.finished;
    ins = stands.shows.ins;
    outs = stands.shows.outs;
    route = stands.shows.route;
  };
}

-- one that has done nothing has done nothing with another condition
watching-nothing : (op : ℕ) (when : Option Cond) (w : WorkerState) → w.journal ≡ [] → (worker_watching op when w).journal ≡ []
watching-nothing op when w none = by (eqb w.op op)
  where
    by : (b : Bool) → (if b then record w { when = when } else w).journal ≡ []
    by true = none
    by false = none

-- orders that are the same but for whether a count is armed
pub record AgreeButCount (now before : Orders) : Type 0 where
  pub constants : now.constants ≡ before.constants
  pub when : now.when ≡ before.when

pub agree-same : (now before : Orders) → now ≡ before → AgreeButCount now before
agree-same now before same = record { constants = ap (λ (o : Orders). o.constants) same; when = ap (λ (o : Orders). o.when) same }

-- where nothing was done, a worker stands where it stood under such orders
recounted : (context : Context) (w : WorkerState) (p : Position) (orders : Orders) → AgreeButCount orders context.orders → w.journal ≡ [] → IsAtPosition context w p p
    → IsAtPosition (record context { orders = orders }) w p p
recounted context w p orders agree none stands =
    let same : record context.orders { when = orders.when; counted = orders.counted } ≡ orders = (λ i. record orders { constants = sym agree.constants i }) in
    let is : record w { when = orders.when } ≡ w = (λ i. record w { when = (agree.when ∙ sym stands.shows.when) i }) in
    subst (λ (v : WorkerState). IsAtPosition (record context { orders = orders }) v p p) is
    (subst (λ (o : Orders). IsAtPosition (record context { orders = o }) (record w { when = orders.when }) p p) same
    (stands-watched context w p orders.when orders.counted stands none))

ends-handed : (crew : List WorkerState) (k : ℕ) → HasItsEnds (worker_state_at crew k) (worker_state_at (map without_journal crew) k)
ends-handed crew k = rw (handed-at crew k) (record { number = refl; ins = refl; outs = refl })

-- ---- where they stand

module _ (query : Query) (start : State) (d : DataflowState) (positions : ℕ → Position) (stand : StandAt query start d positions) where
  abbrev reached : State
  reached = state_reached query start positions

  abbrev work : AreAtWork query start d.workers positions
  work = stand.work

  pub stand-flow : IsFlow query.flow
  stand-flow = work.at.flow

  pub stand-all : length d.workers ≡ crew_of query.flow
  stand-all = work.at.at_positions.all

  pub stand-there : AreAllThere d
  stand-there = stand-all ∙ ap crew_of (sym stand.flow)

  -- ---- what is read of them

  pub stand-position : (worker : ℕ) → worker < crew_of query.flow → position_at reached.positions worker ≡ positions worker
  stand-position worker inside = position-here query start d.workers positions work worker inside

  pub stand-steps : steps_in reached ≡ step_count d
  unfolding step_count
  stand-steps = steps-reached query start d.workers positions work

  pub stand-finished : have_finished reached ≡ have_all_finished d
  unfolding have_all_finished
  stand-finished = finished-are query start d.workers positions work

  pub stand-emitted : (op : ℕ) → emitted_by query.flow reached op ≡ rows_emitted d op
  unfolding rows_emitted
  stand-emitted op = emitted-is query start d.workers positions work op ∙ ap (λ flow. emitted_at d.workers (workers_of flow op)) (sym stand.flow)

  pub stand-one-finished : (worker : ℕ) → worker < crew_of query.flow → (positions worker).finished ≡ has_finished d worker
  unfolding has_finished
  stand-one-finished worker inside = sym (work.at.at_positions.each worker inside).shows.finished

  pub stand-worked : IsWorked query start (leg_parts d) reached
  unfolding leg_parts
  stand-worked = worked query start d.workers positions work

  pub stand-after : after_leg query start (leg_parts d) ≡ reached
  unfolding leg_parts
  stand-after = after-is query start d.workers positions work

  pub stand-text : AreParts 0 (leg_parts d)
  unfolding leg_parts
  stand-text = parts-text query start d.workers positions work (let few = crew-few query.flow stand-flow in let all = stand-all in omega arith)

  -- where nothing was done, they stand where they stood
  pub stand-still : HaveDoneNothing d → (worker : ℕ) → worker < crew_of query.flow → positions worker ≡ position_at start.positions worker
  unfolding journal_of Leads placement_of
  stand-still none worker inside =
      sym (subst (λ journal. Leads (assignment_in query start worker) (position_at start.positions worker) journal (positions worker)) (none worker)
      (leads-at query start d.workers positions work worker inside))

  -- ---- the same workers under another state

  -- at positions that are the same
  pub stand-at : (later : ℕ → Position) → ((worker : ℕ) → worker < crew_of query.flow → later worker ≡ positions worker) → StandAt query start d later
  stand-at later same = record {
    flow = stand.flow;
    work = record {
      at = record {
        flow = work.at.flow;
        at_positions = record {
          bases = work.at.at_positions.bases;
          earlier = work.at.at_positions.earlier;
          all = work.at.at_positions.all;
          each = λ worker inside. rw (same worker inside) (work.at.at_positions.each worker inside);
        };
        joined = work.at.joined;
      };
      settled = work.settled;
    };
  }

  module _ (now : State) where
    -- a leg begins
    pub stand-begun : (to_end : Bool) → ((worker : ℕ) → worker < crew_of query.flow → orders_in query now worker ≡ begun_orders to_end (orders_in query start worker))
        → ((worker : ℕ) → worker < crew_of query.flow → position_at now.positions worker ≡ let_go (positions worker))
        → StandAt query now (leg_begun to_end d) (λ worker. let_go (positions worker))
    stand-begun to_end orders at = record {
      flow = stand.flow;
      work = renewed query start now d.workers (map (worker_begun to_end) d.workers) positions (λ worker. let_go (positions worker)) work
          (length-map d.workers (worker_begun to_end)) (ends-begun to_end d.workers)
          (λ worker inside.
          let here : worker < length d.workers = rw stand-all inside in
          let w = worker_state_at d.workers worker in
          let begin = begins to_end (context_in work.at.at_positions.bases query start worker) w (positions worker) (work.at.at_positions.each worker inside).shows in
          rw (begun-at to_end d.workers worker here, orders worker inside, at worker inside) begin);
    }

    -- the journals were handed out
    pub stand-handed_out : ((worker : ℕ) → worker < crew_of query.flow → AgreeButCount (orders_in query now worker) (orders_in query start worker))
        → ((worker : ℕ) → worker < crew_of query.flow → position_at now.positions worker ≡ positions worker)
        → StandAt query now (handed_out d) positions
    stand-handed_out orders at = record {
      flow = stand.flow;
      work = renewed query start now d.workers (map without_journal d.workers) positions positions work
          (length-map d.workers without_journal) (ends-handed d.workers)
          (λ worker inside.
          rw (handed-at d.workers worker, at worker inside)
          (recounted (context_in work.at.at_positions.bases query start worker) (without_journal (worker_state_at d.workers worker)) (positions worker) (orders_in query now worker) (orders worker inside) refl
          (stands-handed (context_in work.at.at_positions.bases query start worker) (worker_state_at d.workers worker) (position_at start.positions worker) (positions worker)
          (work.at.at_positions.each worker inside))));
    }

    -- another constant, where nothing was done since a leg began
    at-rest : HaveDoneNothing d → (worker : ℕ) → worker < crew_of query.flow → IsAtPosition (context_in work.at.at_positions.bases query start worker) (worker_state_at d.workers worker) (positions worker) (positions worker)
    unfolding journal_of Leads AreEntries
    at-rest none worker inside = record { leads = rw (none worker) refl; text = rw (none worker) tt; shows = (work.at.at_positions.each worker inside).shows }

    module _ (op : ℕ) (value : Value) (none : HaveDoneNothing d) (at : (worker : ℕ) → worker < crew_of query.flow → position_at now.positions worker ≡ positions worker) where
      pub stand-set : ((worker : ℕ) → worker < crew_of query.flow → op_of query.flow worker ≡ op → orders_in query now worker ≡ record (orders_in query start worker) { constants = value ∷ [] })
          → ((worker : ℕ) → worker < crew_of query.flow → op_of query.flow worker ≢ op → orders_in query now worker ≡ orders_in query start worker)
          → StandAt query now (constant_put op value d) positions
      unfolding placement_of journal_of
      stand-set here elsewhere = record {
        flow = stand.flow;
        work = renewed query start now d.workers (map (worker_set op value) d.workers) positions positions work
            (length-map d.workers (worker_set op value)) (ends-set op value d.workers)
            (λ worker inside.
            let there : worker < length d.workers = rw stand-all inside in
            let w = worker_state_at d.workers worker in
            let was = at-rest none worker inside in
            rw (set-at op value d.workers worker there, at worker inside)
            (elim (eqb_tells (op_of query.flow worker) op) [
              | inl same ↦ rw (here worker inside same.1) (stands-set op value (context_in work.at.at_positions.bases query start worker) w (positions worker) same.1 (none worker) was)
              | inr other ↦
                  let apart : w.op ≢ op = λ is. other.1 (sym was.shows.op ∙ is) in
                  rw (elsewhere worker inside other.1, stays op value w apart) was
            ]));
      }

    module _ (op : ℕ) (when : Option Cond) (none : HaveDoneNothing d) (at : (worker : ℕ) → worker < crew_of query.flow → position_at now.positions worker ≡ positions worker) where
      pub stand-watched : ((worker : ℕ) → worker < crew_of query.flow → op_of query.flow worker ≡ op → AgreeButCount (orders_in query now worker) (record (orders_in query start worker) { when = when }))
          → ((worker : ℕ) → worker < crew_of query.flow → op_of query.flow worker ≢ op → AgreeButCount (orders_in query now worker) (orders_in query start worker))
          → StandAt query now (when_put op when d) positions
      unfolding placement_of journal_of
      stand-watched here elsewhere = record {
        flow = stand.flow;
        work = renewed query start now d.workers (map (worker_watching op when) d.workers) positions positions work
            (length-map d.workers (worker_watching op when)) (ends-watched op when d.workers)
            (λ worker inside.
            let there : worker < length d.workers = rw stand-all inside in
            let w = worker_state_at d.workers worker in
            let was = at-rest none worker inside in
            rw (watched-at op when d.workers worker there, at worker inside)
            (elim (eqb_tells (op_of query.flow worker) op) [
              | inl same ↦
                  recounted (with_when when (orders_in query start worker).counted (context_in work.at.at_positions.bases query start worker)) (worker_watching op when w) (positions worker) (orders_in query now worker)
                  (here worker inside same.1) (watching-nothing op when w (none worker))
                  (watches op when (context_in work.at.at_positions.bases query start worker) w (positions worker) same.1 (none worker) was)
              | inr other ↦
                  let apart : w.op ≢ op = λ is. other.1 (sym was.shows.op ∙ is) in
                  rw (unwatched op when w apart)
                  (recounted (context_in work.at.at_positions.bases query start worker) w (positions worker) (orders_in query now worker) (elsewhere worker inside other.1) (none worker) was)
            ]));
      }

    -- nothing else, where nothing was done since a leg began
    pub stand-kept : HaveDoneNothing d → ((worker : ℕ) → worker < crew_of query.flow → AgreeButCount (orders_in query now worker) (orders_in query start worker))
        → ((worker : ℕ) → worker < crew_of query.flow → position_at now.positions worker ≡ positions worker)
        → StandAt query now d positions
    unfolding journal_of Leads AreEntries
    stand-kept none orders at = record {
      flow = stand.flow;
      work = renewed query start now d.workers d.workers positions positions work refl (λ k. record { number = refl; ins = refl; outs = refl })
          (λ worker inside.
          rw (at worker inside)
          (recounted (context_in work.at.at_positions.bases query start worker) (worker_state_at d.workers worker) (positions worker) (orders_in query now worker) (orders worker inside) (none worker)
          (record { leads = rw (none worker) refl; text = rw (none worker) tt; shows = (work.at.at_positions.each worker inside).shows })));
    }

-- ---- journals

pub journal-entries : (d : DataflowState) (worker : ℕ) → entries_of (leg_parts d) worker ≡ journal_of d worker
unfolding leg_parts journal_of
journal-entries d worker = entries-here d.workers worker

pub handed_out-nothing : (d : DataflowState) → HaveDoneNothing (handed_out d)
unfolding journal_of
handed_out-nothing d worker = ap (λ (w : WorkerState). w.journal) (handed-at d.workers worker)

pub watched-nothing : (op : ℕ) (when : Option Cond) (d : DataflowState) → HaveDoneNothing d → HaveDoneNothing (when_put op when d)
unfolding journal_of
watched-nothing op when d none worker = journal-watched op when d.workers worker ∙ none worker

pub set-nothing : (op : ℕ) (value : Value) (d : DataflowState) → HaveDoneNothing d → HaveDoneNothing (constant_put op value d)
unfolding journal_of
set-nothing op value d none worker = journal-set op value d.workers worker ∙ none worker

none-begun : (to_end : Bool) (number : ℕ) (crew : List WorkerState) → parts_from number (map (worker_begun to_end) crew) ≡ []
unfolding parts_from
none-begun to_end number [] = refl
none-begun true number (w ∷ crew) = none-begun true (number + 1) crew
none-begun false number (w ∷ crew) = none-begun false (number + 1) crew

pub begun-parts : (to_end : Bool) (d : DataflowState) → leg_parts (leg_begun to_end d) ≡ []
unfolding leg_parts
begun-parts to_end d = none-begun to_end 0 d.workers

-- ---- steps

pub begun-steps : (to_end : Bool) (d : DataflowState) → step_count (leg_begun to_end d) ≡ step_count d
unfolding step_count
begun-steps true d = steps-mapped (worker_begun true) (λ w. refl) d.workers
begun-steps false d = steps-mapped (worker_begun false) (λ w. refl) d.workers

pub handed_out-steps : (d : DataflowState) → step_count (handed_out d) ≡ step_count d
unfolding step_count
handed_out-steps d = steps-mapped without_journal (λ w. refl) d.workers

pub set-steps : (op : ℕ) (value : Value) (d : DataflowState) → step_count (constant_put op value d) ≡ step_count d
unfolding step_count
set-steps op value d = steps-mapped (worker_set op value) (λ w. same w (eqb w.op op)) d.workers
  where
    same : (w : WorkerState) (b : Bool) → steps_made (if b then record w { operator_state = with_value value w.operator_state } else w) ≡ steps_made w
    same w true = refl
    same w false = refl

pub watched-steps : (op : ℕ) (when : Option Cond) (d : DataflowState) → step_count (when_put op when d) ≡ step_count d
unfolding step_count
watched-steps op when d = steps-mapped (worker_watching op when) (λ w. same w (eqb w.op op)) d.workers
  where
    same : (w : WorkerState) (b : Bool) → steps_made (if b then record w { when = when } else w) ≡ steps_made w
    same w true = refl
    same w false = refl

-- ---- who has finished

pub one-finished : (d : DataflowState) (worker : ℕ) → AreAllThere d → worker < crew_of d.flow → have_all_finished d ≡ true → has_finished d worker ≡ true
unfolding have_all_finished has_finished
one-finished d worker there inside all = all-have d.workers all worker (rw there inside)

pub all-finished : (d : DataflowState) → AreAllThere d → FirstHaveFinished (crew_of d.flow) d → have_all_finished d ≡ true
unfolding have_all_finished has_finished
all-finished d there first = have-all d.workers (λ worker below. first worker (rw (← there) below))

pub one-unfinished : (d : DataflowState) (worker : ℕ) → AreAllThere d → worker < crew_of d.flow → has_finished d worker ≡ false → have_all_finished d ≡ false
unfolding have_all_finished has_finished
one-unfinished d worker there inside not-yet = has-not d.workers worker (rw there inside) not-yet
