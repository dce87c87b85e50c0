-- A command is done at rest: the log is legal with it, and the workers stand where it says.
use Rattle.std.proofs.Common.{◌≡◌, ◌≢◌, refl, sym, ap, subst, ◌∙◌, ℕ, ◌+◌, ◌<◌, ◌≤◌, eqb, List, [], length, Bool, true, false, not, Option, None, Some, unwrap_or, if◌then◌else◌, inl, inr, arith}
use Rattle.std.proofs.lemmas.Bool.{eq-eqb, false≢true, ltb-true, ne_eqb}
use Rattle.std.proofs.lemmas.Bool.Decides.{eqb_tells}
use Rattle.amber_rows.specs.Topology.{crew_of, op_of, workers_in}
use Rattle.amber_rows.specs.FlowRules.{IsFlow}
use Rattle.amber_rows.specs.Lists.{changed_at, nth}
use Rattle.amber_rows.specs.declared.cond.Cond.{Cond}
use Rattle.amber_rows.specs.declared.flow.Operator.{Operator}
use Rattle.amber_rows.specs.declared.value.Value.{Value}
use Rattle.amber_lines.specs.Moving.{orders_in}
use Rattle.amber_lines.proofs.Kept.{commands_keep_stops}
use Rattle.amber_log.specs.Commands.{action_of}
use Rattle.amber_log.specs.Fits.{action_fits, fits_of, has_worker}
use Rattle.amber_log.specs.Grammar.{IsCommand, ends_over}
use Rattle.amber_log.specs.declared.command.Command.{Command}
use Rattle.amber_log.specs.declared.command.Command.TheVariants as command
use Rattle.amber_log.specs.declared.effect.Action.{Action}
use Rattle.amber_log.specs.declared.effect.Action.TheVariants.{AtRest, Leg}
use Rattle.amber_log.specs.declared.effect.Change.{Change}
use Rattle.amber_log.specs.declared.effect.Change.TheVariants as change
use Rattle.amber_log.specs.declared.effect.Effect.{Effect}
use Rattle.amber_log.specs.declared.log.Item.TheVariants as item
use Rattle.amber_log.specs.declared.log.Log.{Log}
use Rattle.amber_meaning.specs.Legal.{IsLegal, Query}
use Rattle.amber_meaning.specs.Position.{origin}
use Rattle.amber_meaning.specs.Replay.{state_after}
use Rattle.amber_meaning.specs.Rules.{Orders}
use Rattle.amber_meaning.specs.State.{Arms, State, after_action, after_command, arms_changed, arms_at, gone_at, no_arms, orders_of, position_at, put, put_constant, without_held, without_row, worker_at}
use Rattle.amber_meaning.proofs.AtRest.{rest-there}
use Rattle.amber_meaning.proofs.Crews.{place-worker, worker-known}
use Rattle.amber_meaning.proofs.Fronts.{legal_logs_grow}
use Rattle.amber_meaning.proofs.OneState.{legal_logs_have_one_state}
use Rattle.amber_meaning.proofs.Rest.{legal_logs_rest}
use Rattle.amber_meaning.proofs.Senders.{flows_send_forward}
use Rattle.amber_dataflow.specs.AtWork.{turned_by}
use Rattle.amber_dataflow.specs.Dataflow.{AreAllThere, AreHeldByRows, DataflowState, HaveDoneNothing, StandAt, row_dropped, rows_emitted}
use Rattle.amber_dataflow.proofs.Dropped.{dropped-nothing, dropped_at, stand-dropped}
use Rattle.amber_dataflow.proofs.Standing.{AgreeButCount, agree-same, set-nothing, stand-at, stand-flow, stand-kept, stand-set, stand-there, stand-watched, watched-nothing}
use Rattle.amber_home.specs.Applied.{HasNamed, HasOperator, arms_after, dataflow_after, with_condition, with_constants, without_dropped}
use Rattle.amber_boards.specs.Boards.{AreBelow}
use Rattle.amber_home.specs.Asked.{Asked, IsInForce}
use Rattle.amber_home.specs.Leg.{counts_asked}
use Rattle.amber_home.specs.HomeState.{HomeState, query_of, rest_state, with_item}
use Rattle.amber_home.specs.Kept.{IsAtRest, IsHome, LiveState, StandsIn}
use Rattle.amber_home.specs.Parts.{open_parts, open_turned}
use Rattle.amber_home.specs.declared.phase.Phase.{Phase}
use Rattle.amber_home.specs.declared.phase.Phase.TheVariants as phase
use Rattle.amber_home.proofs.Driven.{after-turned}
use Rattle.amber_home.proofs.HeldRows.{rows-rest}
use Rattle.amber_home.proofs.Below.{below-after, keep-after}
use Rattle.amber_home.proofs.Homes.{at-rest}
use Rattle.amber_home.proofs.InForce.{in-force-after}
use Rattle.amber_home.proofs.Opened.{emitted-rest, first-rest}
use Rattle.amber_home.proofs.Places.{at-here, nth-other}
use Rattle.amber_home.proofs.Units.{KeepUnits, empty-kept, unarmed-kept}

-- ---- orders, where the arms of one operator were changed

-- the state with the arms of one operator changed
abbrev armed : (Arms → Arms) → ℕ → State → State
armed change op state = record state { arms = changed_at change op state.arms }

module _ (query : Query) (state : State) (change : Arms → Arms) (op : ℕ) (some : 0 < op) (within : op ≤ length state.arms) where
  armed-here : (worker : ℕ) → op_of query.flow worker ≡ op → orders_in query (armed change op state) worker ≡ orders_of (change (arms_at state op))
  armed-here worker same = ap (λ k. orders_of (arms_at (armed change op state) k)) same ∙ ap orders_of (at-here no_arms change op state.arms some within)

  armed-elsewhere : (worker : ℕ) → op_of query.flow worker ≢ op → orders_in query (armed change op state) worker ≡ orders_in query state worker
  armed-elsewhere worker other = ap (λ found. orders_of (unwrap_or found no_arms)) (nth-other change op state.arms (op_of query.flow worker) other)

-- ---- where the workers stand

pub nothing-set : (op : ℕ) (constant : Option Value) (d : DataflowState) → HaveDoneNothing d → HaveDoneNothing (with_constants op constant d)
nothing-set op None d none = none
nothing-set op (Some value) d none = set-nothing op value d none

nothing-watched : (op : ℕ) (when : Change Cond) (d : DataflowState) → HaveDoneNothing d → HaveDoneNothing (with_condition op when d)
nothing-watched op change.Keep d none = none
nothing-watched op change.TakeBack d none = watched-nothing op None d none
nothing-watched op (change.Put cond) d none = watched-nothing op (Some cond) d none

pub nothing-dropped : (op : ℕ) (drops : Option ℕ) (d : DataflowState) → HaveDoneNothing d → HaveDoneNothing (without_dropped op drops d)
nothing-dropped op None d none = none
nothing-dropped op (Some worker) d none = dropped-nothing d (worker_at d.flow op worker) none

pub nothing-after : (effect : Effect) (d : DataflowState) → HaveDoneNothing d → HaveDoneNothing (dataflow_after effect d)
nothing-after effect d none =
    nothing-watched effect.op effect.arming.when (with_constants effect.op effect.arming.constant (without_dropped effect.op effect.drops d))
    (nothing-set effect.op effect.arming.constant (without_dropped effect.op effect.drops d) (nothing-dropped effect.op effect.drops d none))

flow-set : (op : ℕ) (constant : Option Value) (d : DataflowState) → (with_constants op constant d).flow ≡ d.flow
flow-set op None d = refl
flow-set op (Some value) d = refl

flow-watched : (op : ℕ) (when : Change Cond) (d : DataflowState) → (with_condition op when d).flow ≡ d.flow
flow-watched op change.Keep d = refl
flow-watched op change.TakeBack d = refl
flow-watched op (change.Put cond) d = refl

flow-dropped : (op : ℕ) (drops : Option ℕ) (d : DataflowState) → (without_dropped op drops d).flow ≡ d.flow
flow-dropped op None d = refl
flow-dropped op (Some worker) d = refl

flow-after : (effect : Effect) (d : DataflowState) → (dataflow_after effect d).flow ≡ d.flow
flow-after effect d =
    flow-watched effect.op effect.arming.when (with_constants effect.op effect.arming.constant (without_dropped effect.op effect.drops d))
    ∙ flow-set effect.op effect.arming.constant (without_dropped effect.op effect.drops d) ∙ flow-dropped effect.op effect.drops d

module _ (query : Query) (state : State) (d : DataflowState) (stand : StandAt query state d (position_at state.positions)) (none : HaveDoneNothing d)
    (rows : AreHeldByRows d) (long : length state.arms ≡ length query.flow) (crew : length state.positions ≡ crew_of query.flow) where
  module _ (op : ℕ) (there : HasOperator op (length query.flow)) where
    -- a row is dropped
    abbrev lighter : Option ℕ → State
    lighter drops = record state { positions = without_row query.flow op drops state.positions }

    dropped-at : (worker : ℕ) (inside : worker < crew_of query.flow) (k : ℕ)
        → position_at (changed_at without_held (worker + 1) state.positions) k ≡ dropped_at query state d (position_at state.positions) stand none rows worker inside k
    unfolding dropped_at
    dropped-at worker inside k = elim (eqb_tells k worker) [
      | inl same ↦
          ap (position_at (changed_at without_held (worker + 1) state.positions)) same.1
          ∙ at-here origin without_held (worker + 1) state.positions (omega arith) (omega arith)
          ∙ ap (λ b. if b then without_held (position_at state.positions worker) else position_at state.positions worker) (sym (eq-eqb worker worker refl))
          ∙ ap (λ n. if eqb n worker then without_held (position_at state.positions n) else position_at state.positions n) (sym same.1)
      | inr other ↦
          ap (λ found. unwrap_or found origin) (nth-other without_held (worker + 1) state.positions (k + 1) (λ is. other.1 (let is = is in omega arith)))
          ∙ ap (λ b. if b then without_held (position_at state.positions k) else position_at state.positions k) (sym (ne_eqb k worker other.1))
    ]

    stands-dropped : (drops : Option ℕ) → HasNamed d op drops → StandAt query (lighter drops) (without_dropped op drops d) (position_at (lighter drops).positions)
    stands-dropped None inside = stand
    stands-dropped (Some w) inside =
        let worker = worker_at query.flow op w in
        let here : worker < crew_of query.flow = subst (λ (f : List Operator). worker_at f op w < crew_of f) stand.flow inside in
        subst (λ (f : List Operator). StandAt query (lighter (Some w)) (row_dropped (worker_at f op w) d) (position_at (lighter (Some w)).positions)) (sym stand.flow)
        (stand-at query (lighter (Some w)) (row_dropped worker d) (dropped_at query state d (position_at state.positions) stand none rows worker here)
        (stand-dropped query state d (position_at state.positions) stand none rows worker here (lighter (Some w)) (λ k less. refl) (λ k less. dropped-at worker here k))
        (position_at (lighter (Some w)).positions) (λ k less. dropped-at worker here k))

-- another constant, and another condition or none
module _ (query : Query) (state : State) (d : DataflowState) (stand : StandAt query state d (position_at state.positions)) (none : HaveDoneNothing d)
    (long : length state.arms ≡ length query.flow) (effect : Effect) (gone : List ℕ) (there : HasOperator effect.op (length query.flow)) where
  some : 0 < effect.op
  some = there.0

  within : effect.op ≤ length state.arms
  within = rw long there.1

  constant_changed : Arms → Arms
  constant_changed arms = record arms { constants = put_constant effect.arming.constant arms.constants }

  pub asked : Arms → Arms
  asked = arms_changed effect.arming gone

  abbrev set_state : State
  set_state = armed constant_changed effect.op state

  abbrev after : State
  after = armed asked effect.op state

  set-here : (worker : ℕ) → op_of query.flow worker ≡ effect.op
      → orders_in query set_state worker ≡ record (orders_in query state worker) { constants = put_constant effect.arming.constant (orders_in query state worker).constants }
  unfolding constant_changed
  set-here worker same =
      armed-here query state constant_changed effect.op some within worker same
      ∙ ap (λ k. record (orders_of (arms_at state k)) { constants = put_constant effect.arming.constant (arms_at state k).constants }) (sym same)

  -- but for a count
  after-here : (worker : ℕ) → op_of query.flow worker ≡ effect.op
      → AgreeButCount (orders_in query after worker) (record (orders_in query set_state worker) { when = put effect.arming.when (orders_in query set_state worker).when })
  unfolding asked
  after-here worker same =
      let now = armed-here query state asked effect.op some within worker same in
      let was = set-here worker same in
      record {
        constants = ap (λ (o : Orders). o.constants) now ∙ ap (λ k. put_constant effect.arming.constant (arms_at state k).constants) (sym same) ∙ sym (ap (λ (o : Orders). o.constants) was);
        when = ap (λ (o : Orders). o.when) now ∙ ap (λ k. put effect.arming.when (arms_at state k).when) (sym same) ∙ ap (put effect.arming.when) (sym (ap (λ (o : Orders). o.when) was));
      }

  after-elsewhere : (worker : ℕ) → op_of query.flow worker ≢ effect.op → orders_in query after worker ≡ orders_in query set_state worker
  after-elsewhere worker other =
      armed-elsewhere query state asked effect.op some within worker other ∙ sym (armed-elsewhere query state constant_changed effect.op some within worker other)

  stands-set : (constant : Option Value) → effect.arming.constant ≡ constant → StandAt query set_state (with_constants effect.op constant d) (position_at state.positions)
  stands-set None is =
      stand-kept query state d (position_at state.positions) stand set_state none
      (λ worker inside.
      elim (eqb_tells (op_of query.flow worker) effect.op) [
        | inl same ↦
            agree-same (orders_in query set_state worker) (orders_in query state worker)
            (set-here worker same.1 ∙ ap (λ c. record (orders_in query state worker) { constants = put_constant c (orders_in query state worker).constants }) is)
        | inr other ↦
            agree-same (orders_in query set_state worker) (orders_in query state worker) (armed-elsewhere query state constant_changed effect.op some within worker other.1)
      ])
      (λ worker inside. refl)
  stands-set (Some value) is =
      stand-set query state d (position_at state.positions) stand set_state effect.op value none
      (λ worker inside. refl)
      (λ worker inside same. set-here worker same ∙ ap (λ c. record (orders_in query state worker) { constants = put_constant c (orders_in query state worker).constants }) is)
      (λ worker inside other. armed-elsewhere query state constant_changed effect.op some within worker other)

  -- the same, where the change of the condition is this one
  agree-put : (worker : ℕ) (when : Change Cond) → effect.arming.when ≡ when
      → AgreeButCount (orders_in query after worker) (record (orders_in query set_state worker) { when = put effect.arming.when (orders_in query set_state worker).when })
      → AgreeButCount (orders_in query after worker) (record (orders_in query set_state worker) { when = put when (orders_in query set_state worker).when })
  agree-put worker when is agree = record { constants = agree.constants; when = agree.when ∙ ap (λ w. put w (orders_in query set_state worker).when) is }

  stands-watched : (d : DataflowState) → StandAt query set_state d (position_at state.positions) → HaveDoneNothing d → (when : Change Cond) → effect.arming.when ≡ when
      → StandAt query after (with_condition effect.op when d) (position_at state.positions)
  stands-watched d stand none change.Keep is =
      stand-kept query set_state d (position_at state.positions) stand after none
      (λ worker inside.
      elim (eqb_tells (op_of query.flow worker) effect.op) [
        | inl same ↦ agree-put worker change.Keep is (after-here worker same.1)
        | inr other ↦ agree-same (orders_in query after worker) (orders_in query set_state worker) (after-elsewhere worker other.1)
      ])
      (λ worker inside. refl)
  stands-watched d stand none change.TakeBack is =
      stand-watched query set_state d (position_at state.positions) stand after effect.op None none
      (λ worker inside. refl)
      (λ worker inside same. agree-put worker change.TakeBack is (after-here worker same))
      (λ worker inside other. agree-same (orders_in query after worker) (orders_in query set_state worker) (after-elsewhere worker other))
  stands-watched d stand none (change.Put cond) is =
      stand-watched query set_state d (position_at state.positions) stand after effect.op (Some cond) none
      (λ worker inside. refl)
      (λ worker inside same. agree-put worker (change.Put cond) is (after-here worker same))
      (λ worker inside other. agree-same (orders_in query after worker) (orders_in query set_state worker) (after-elsewhere worker other))

  pub stands-armed : StandAt query after (with_condition effect.op effect.arming.when (with_constants effect.op effect.arming.constant d)) (position_at state.positions)
  stands-armed =
      stands-watched (with_constants effect.op effect.arming.constant d) (stands-set effect.arming.constant refl) (nothing-set effect.op effect.arming.constant d none) effect.arming.when refl

-- all of it
pub stands-after : (query : Query) (state : State) (d : DataflowState) → StandAt query state d (position_at state.positions) → HaveDoneNothing d → AreHeldByRows d
    → length state.arms ≡ length query.flow → length state.positions ≡ crew_of query.flow → (effect : Effect) → HasOperator effect.op (length query.flow)
    → HasNamed d effect.op effect.drops
    → StandAt query (after_action query.flow (AtRest effect) state) (dataflow_after effect d) (position_at (after_action query.flow (AtRest effect) state).positions)
unfolding asked
stands-after query state d stand none rows long crew effect there inside =
    stands-armed query (lighter query state d stand none rows long crew effect.op there effect.drops) (without_dropped effect.op effect.drops d)
    (stands-dropped query state d stand none rows long crew effect.op there effect.drops inside)
    (nothing-dropped effect.op effect.drops d none) long effect (gone_at query.flow state effect.op) there

-- ---- the worker whose row is dropped

-- a worker that an operator has
has-count : (found : Option Operator) (worker : ℕ) → has_worker found worker ≡ true → worker < workers_in found
has-count None worker has = absurd (false≢true has)
has-count (Some operator) worker has = ltb-true worker operator.workers has

worker-there : (flow : List Operator) (op worker : ℕ) → has_worker (nth flow op) worker ≡ true → worker_at flow op worker < crew_of flow
worker-there flow op worker has = worker-known flow op (worker_at flow op worker) (place-worker flow op worker (has-count (nth flow op) worker has))

abbrev DropsIn : DataflowState → Action → Type 0
DropsIn d (Leg to_end) = Unit {0}
DropsIn d (AtRest effect) = HasNamed d effect.op effect.drops

drops-in : (d : DataflowState) (one : Command) → action_fits d.flow (action_of one) ≡ true → DropsIn d (action_of one)
drops-in d command.Run fits = tt
drops-in d command.End fits = tt
drops-in d (command.Pause op n) fits = tt
drops-in d (command.Count op n) fits = tt
drops-in d (command.When op cond) fits = tt
drops-in d (command.Clear op) fits = tt
drops-in d (command.Set op value) fits = tt
drops-in d (command.Drop op worker) fits = worker-there d.flow op worker fits
drops-in d (command.Inspect op) fits = tt
drops-in d (command.Lose op worker) fits = tt

drops-there : (d : DataflowState) (one : Command) (effect : Effect) → action_of one ≡ AtRest effect → fits_of d.flow one ≡ true → HasNamed d effect.op effect.drops
unfolding fits_of
drops-there d one effect is fits = subst (DropsIn d) is (drops-in d one fits)

-- nor is one lost that is not there
abbrev LosesIn : DataflowState → Action → Type 0
LosesIn d (Leg to_end) = Unit {0}
LosesIn d (AtRest effect) = HasNamed d effect.op effect.loses

loses-in : (d : DataflowState) (one : Command) → action_fits d.flow (action_of one) ≡ true → LosesIn d (action_of one)
loses-in d command.Run fits = tt
loses-in d command.End fits = tt
loses-in d (command.Pause op n) fits = tt
loses-in d (command.Count op n) fits = tt
loses-in d (command.When op cond) fits = tt
loses-in d (command.Clear op) fits = tt
loses-in d (command.Set op value) fits = tt
loses-in d (command.Drop op worker) fits = tt
loses-in d (command.Inspect op) fits = tt
loses-in d (command.Lose op worker) fits = worker-there d.flow op worker fits

loses-there : (d : DataflowState) (one : Command) (effect : Effect) → action_of one ≡ AtRest effect → fits_of d.flow one ≡ true → HasNamed d effect.op effect.loses
unfolding fits_of
loses-there d one effect is fits = subst (LosesIn d) is (loses-in d one fits)

-- ---- the home

pub not-true : (b : Bool) → not b ≡ true → b ≡ false
not-true true e = sym e
not-true false e = refl

module _ (e : HomeState) (live : LiveState) (home : IsHome e live) (resting : e.phase ≡ phase.Resting) where
  rest : IsAtRest e live
  rest = at-rest e live home resting

  pub nothing-done : HaveDoneNothing live.dataflow
  nothing-done = rest.none

  flow : IsFlow e.flow
  flow = stand-flow (query_of e) (rest_state e) live.dataflow (position_at (rest_state e).positions) rest.at

  first : rest_state e ≡ home.legal.after
  first = first-rest e live rest home.legal

  long : length (rest_state e).arms ≡ length e.flow
  long = ap (λ (s : State). length s.arms) first ∙ (legal_logs_rest (query_of e) e.log home.legal).arms

  crew : length (rest_state e).positions ≡ crew_of e.flow
  crew = ap (λ (s : State). length s.positions) first ∙ (legal_logs_rest (query_of e) e.log home.legal).crew

  pub few-resting : crew_of live.dataflow.flow ≤ 128
  unfolding crew_of
  few-resting = subst (λ (f : List Operator). crew_of f ≤ 128) (sym rest.at.flow) flow.few_workers

  -- who is held stands before a row
  pub rows-resting : AreHeldByRows live.dataflow
  rows-resting = rows-rest e live rest home.legal

  -- the worker is there whose row a command drops
  pub drops-resting : (one : Command) (effect : Effect) → action_of one ≡ AtRest effect → fits_of e.flow one ≡ true → HasNamed live.dataflow effect.op effect.drops
  drops-resting one effect is fits = drops-there live.dataflow one effect is (subst (λ f. fits_of f one ≡ true) (sym rest.at.flow) fits)

  -- the worker is there that a command loses
  pub loses-resting : (one : Command) (effect : Effect) → action_of one ≡ AtRest effect → fits_of e.flow one ≡ true → HasNamed live.dataflow effect.op effect.loses
  loses-resting one effect is fits = loses-there live.dataflow one effect is (subst (λ f. fits_of f one ≡ true) (sym rest.at.flow) fits)

  -- the operator that a command names is there
  pub names-resting : (one : Command) (effect : Effect) → action_of one ≡ AtRest effect → fits_of e.flow one ≡ true → HasOperator effect.op (length live.arms)
  names-resting one effect is fits = rw rest.in_force.all (rest-there e.flow one effect is fits)

  -- the workers are there
  pub there-resting : AreAllThere live.dataflow
  there-resting = stand-there (query_of e) (rest_state e) live.dataflow (position_at (rest_state e).positions) rest.at

  -- and it is one of the workflow
  pub has-operator : (one : Command) (effect : Effect) → action_of one ≡ AtRest effect → fits_of e.flow one ≡ true → HasOperator effect.op (length e.flow)
  has-operator one effect is fits = rest-there e.flow one effect is fits

  pub flow-has : (one : Command) (effect : Effect) → action_of one ≡ AtRest effect → fits_of e.flow one ≡ true → effect.op ≤ length e.flow
  flow-has one effect is fits = (rest-there e.flow one effect is fits).1

  module _ (one : Command) (effect : Effect) (is : action_of one ≡ AtRest effect) (more : ends_over false e.log.items ≡ false) (fits : fits_of e.flow one ≡ true)
      (text : IsCommand one) where
    abbrev next : State
    next = after_action e.flow (AtRest effect) (rest_state e)

    legal-commanded : (grown : IsLegal (query_of e) (with_item e.log (item.Do one))) × (grown.after ≡ next)
    unfolding after_command
    legal-commanded =
        let grown = legal_logs_grow (query_of e) e.log.batch e.log.items (item.Do one) (after_command e.flow one home.legal.after) home.legal more text (fits, refl) in
        (grown.0, grown.1 ∙ ap (after_command e.flow one) (sym first) ∙ ap (λ a. after_action e.flow a (rest_state e)) is)

    -- where the log has the command, and what it asks for is done
    module _ (log : Log) (now : LiveState) (same : live.dataflow.flow ≡ e.flow) (log-is : log ≡ with_item e.log (item.Do one)) (arms-is : now.arms ≡ arms_after effect (rows_emitted live.dataflow effect.op) live.arms)
        (dataflow-is : now.dataflow ≡ dataflow_after effect live.dataflow) (boards-is : now.boards ≡ live.boards) (stops-is : now.stops ≡ live.stops) where
      flow-same : now.dataflow.flow ≡ e.flow
      flow-same = ap (λ (d : DataflowState). d.flow) dataflow-is ∙ flow-after effect live.dataflow ∙ same

      none-open : open_parts e.phase now ≡ []
      none-open = ap (λ (p : Phase). open_parts p now) resting

      pub state-commanded : record e { flow = now.dataflow.flow; log = log; parts = open_parts e.phase now } ≡ record e { log = with_item e.log (item.Do one); parts = [] }
      state-commanded = λ i. record e { flow = flow-same i; log = log-is i; parts = none-open i }

      -- for how many turns the workers were driven is as it was
      turned-commanded : open_turned e.phase now ≡ open_turned e.phase live
      turned-commanded =
          ap (λ (p : Phase). open_turned p now) resting ∙ ap (λ (d : DataflowState). turned_by d.workers) dataflow-is ∙ after-turned effect live.dataflow
          ∙ sym (ap (λ (p : Phase). open_turned p live) resting)

      -- the home is as it was, but for its log
      pub log-commanded : record e { flow = now.dataflow.flow; log = log; parts = open_parts e.phase now; turned = open_turned e.phase now }
          ≡ record e { log = with_item e.log (item.Do one); parts = open_parts e.phase live; turned = open_turned e.phase live }
      log-commanded =
          let parts = none-open ∙ sym (ap (λ (p : Phase). open_parts p live) resting) in
          (λ i. record e { flow = flow-same i; log = log-is i; parts = parts i; turned = turned-commanded i })

      -- no unit changes hands
      kept-units : KeepUnits live.dataflow now.dataflow
      kept-units = subst (KeepUnits live.dataflow) (sym dataflow-is) (keep-after effect live.dataflow there-resting (drops-resting one effect is fits))

      -- what it asks for is in force
      in-force-next : HasOperator effect.op (length e.flow) → IsInForce e.flow next now.arms
      in-force-next there =
          rw (arms-is, ← emitted-rest e live rest home.legal effect.op) (in-force-after e.flow (rest_state e) live.arms rest.in_force effect there long)

      pub home-commanded : IsHome (record e { flow = now.dataflow.flow; log = log; parts = open_parts e.phase now }) now
      home-commanded =
          let query = query_of e in
          let state = rest_state e in
          let grown = legal-commanded in
          let here : state_after query (with_item e.log (item.Do one)).items ≡ next =
          legal_logs_have_one_state query (with_item e.log (item.Do one)) (flows_send_forward e.flow flow) grown.0 ∙ grown.1 in
          subst (λ (h : HomeState). IsHome h now) (sym state-commanded) (record {
            few = home.few;
            headed = home.headed;
            legal = grown.0;
            stands = subst (λ (p : Phase). StandsIn p (record e { log = with_item e.log (item.Do one); parts = [] }) now) (sym resting) (record {
              at = rw (here, dataflow-is)
                  (stands-after query state live.dataflow rest.at rest.none rows-resting long crew effect (rest-there e.flow one effect is fits) (drops-resting one effect is fits));
              none = rw dataflow-is (nothing-after effect live.dataflow rest.none);
              in_force = subst (λ (s : State). IsInForce e.flow s now.arms) (sym here) (in-force-next (rest-there e.flow one effect is fits));
              below = subst (λ (arms : List Asked). AreBelow (counts_asked arms) now.dataflow) (sym arms-is)
                  (below-after e.flow one effect live.arms live.dataflow now.dataflow is fits (names-resting one effect is fits) kept-units rest.below);
              units = record {
                none = boards-is ∙ rest.units.none;
                unarmed = unarmed-kept live.dataflow now.dataflow kept-units rest.units.unarmed;
                empty = empty-kept live.dataflow now.dataflow kept-units rest.units.empty;
              };
              stops_are = stops-is ∙ rest.stops_are ∙ sym (commands_keep_stops query e.log.items (item.Do one) refl);
            });
          })
