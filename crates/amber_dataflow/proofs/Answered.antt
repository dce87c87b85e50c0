-- What the workers give together is the answer in the state that they reached.
use Rattle.std.proofs.Common.{◌≡◌, refl, sym, ap, ◌∙◌, ℕ, zero, suc, ◌+◌, ◌-◌, ◌<◌, List, [], ◌∷◌, length, true, Result, Ok, Err, append-nil, arith}
use Rattle.std.specs.List.{flat_map}
use Rattle.std.specs.Result.{IfOk}
use Rattle.std.proofs.lemmas.Bool.{false≢true}
use Rattle.amber_rows.specs.Columns.{columns_at}
use Rattle.amber_rows.specs.Topology.{crew_of, first_worker_of, kind_at, op_of, what_at, worker_count, workers_in, workers_of}
use Rattle.amber_rows.specs.FlowRules.{IsFlow}
use Rattle.amber_rows.specs.Kinds.{is_sink}
use Rattle.amber_rows.specs.Lists.{numbers_below}
use Rattle.amber_rows.specs.Order.{sort_rows}
use Rattle.amber_rows.specs.declared.flow.Operator.{Operator}
use Rattle.amber_rows.specs.declared.flow.What.{What}
use Rattle.amber_rows.specs.declared.flow.What.TheVariants as what
use Rattle.amber_rows.specs.declared.value.Value.{Value}
use Rattle.amber_lines.specs.Moving.{orders_in}
use Rattle.amber_meaning.specs.declared.answer.Answer.{Answer}
use Rattle.amber_meaning.specs.declared.answer.Refusal.{Refusal}
use Rattle.amber_meaning.specs.Kinds.{kept_rows}
use Rattle.amber_meaning.specs.Legal.{Query, role_in}
use Rattle.amber_meaning.specs.Plan.{role_of, task_of}
use Rattle.amber_meaning.specs.Position.{Position}
use Rattle.amber_meaning.specs.State.{State, position_at}
use Rattle.amber_meaning.specs.Task.{Arrival, Task, rows_in}
use Rattle.amber_meaning.specs.Views.{answer_in, sink_rows, taken_of}
use Rattle.amber_meaning.proofs.Crews.{place-worker, worker-known, worker-op}
use Rattle.amber_meaning.proofs.Flows.{sink-last, there}
use Rattle.amber_meaning.proofs.Numbers.{among, among-first}
use Rattle.amber_worker.specs.AtPosition.{placement_of}
use Rattle.amber_worker.specs.WorkerState.{WorkerState}
use Rattle.amber_dataflow.specs.Answers.{HaveGiven, IsGathered, ShowAll, refused_at, rows_before, sort_refusals}
use Rattle.amber_dataflow.specs.AtWork.{AreAtWork}
use Rattle.amber_dataflow.specs.AtWork.{state_reached}
use Rattle.amber_dataflow.proofs.OperatorNumbers.{last-worker}
use Rattle.amber_dataflow.proofs.Refusing.{all-refuse}
use Rattle.amber_dataflow.proofs.Within.{position-here}

-- workers at work show their positions
pub at-work-show : (query : Query) (start : State) (crew : List WorkerState) (positions : ℕ → Position) → AreAtWork query start crew positions → ShowAll query crew positions
at-work-show query start crew positions work worker inside =
    let here : worker < crew_of query.flow = rw (← work.at.at_positions.all) inside in
    (orders_in query start worker, work.at.at_positions.bases worker, (work.at.at_positions.each worker here).shows)

-- ---- the sink

kept-sink : (kind : What) (task : Task) (arrivals : List Arrival) → is_sink kind ≡ true → kept_rows kind task arrivals ≡ rows_in task arrivals
kept-sink (what.Scan file) task arrivals e = absurd (false≢true e)
kept-sink (what.Filter input cond) task arrivals e = absurd (false≢true e)
kept-sink (what.Project input columns) task arrivals e = absurd (false≢true e)
kept-sink (what.Join build probe build_keys probe_keys) task arrivals e = absurd (false≢true e)
kept-sink (what.Group input keys aggs) task arrivals e = absurd (false≢true e)
kept-sink (what.Sink input) task arrivals e = refl

-- the last operator is a sink with one worker
one-sink : (flow : List Operator) → IsFlow flow → worker_count flow (length flow) ≡ 1
one-sink flow ok =
    let some = ok.some in
    let last = there flow ok (length flow) (omega arith) (omega arith) in
    ap workers_in last.here ∙ last.next.one_at_sink (sym (ap (λ found. is_sink (kind_at found)) last.here) ∙ sink-last flow ok)

sink-workers : (flow : List Operator) (m : ℕ) → IsFlow flow → crew_of flow ≡ suc m → workers_of flow (length flow) ≡ m ∷ []
sink-workers flow m ok all =
    let some = ok.some in
    let n = length flow - 1 in
    let number : length flow ≡ n + 1 = omega arith in
    ap (workers_of flow) number ∙ last-worker flow n m number (ap (worker_count flow) (sym number) ∙ one-sink flow ok) all

sink-kind : (flow : List Operator) (m : ℕ) → IsFlow flow → workers_of flow (length flow) ≡ m ∷ [] → is_sink (what_at flow (op_of flow m)) ≡ true
sink-kind flow m ok workers =
    ap (λ op. is_sink (what_at flow op)) (worker-op flow (length flow) m (ap (among m) workers ∙ among-first m [])) ∙ sink-last flow ok

pub some-crew : (flow : List Operator) → IsFlow flow → 0 < crew_of flow
some-crew flow ok =
    let one = one-sink flow ok in
    let inside = worker-known flow (length flow) (first_worker_of flow (length flow) + 0) (place-worker flow (length flow) 0 (omega arith)) in
    omega arith

rows-are : (query : Query) (positions : ℕ → Position) (state : State) (m : ℕ) → IsFlow query.flow → crew_of query.flow ≡ suc m
    → position_at state.positions m ≡ positions m → rows_before query positions (suc m) ≡ sink_rows query state
unfolding rows_before placement_of role_of task_of
rows-are query positions state m ok all here =
    let workers = sink-workers query.flow m ok all in
    let role = role_in query m in
    let rows : ℕ → List (List Value) = λ worker. rows_in (role_in query worker).task (taken_of (role_in query worker) (position_at state.positions worker)) in
    ap sort_rows (kept-sink (what_at query.flow (op_of query.flow m)) role.task (taken_of role (positions m)) (sink-kind query.flow m ok workers)
    ∙ ap (λ p. rows_in role.task (taken_of role p)) (sym here) ∙ sym (append-nil (rows m)))
    ∙ sym (ap (λ l. sort_rows (flat_map rows l)) workers)

-- ---- together

rows-all : (query : Query) (positions : ℕ → Position) (state : State) (n : ℕ) → IsFlow query.flow → crew_of query.flow ≡ n
    → ((worker : ℕ) → worker < crew_of query.flow → position_at state.positions worker ≡ positions worker) → rows_before query positions n ≡ sink_rows query state
rows-all query positions state zero ok all here = let some = some-crew query.flow ok in absurd (omega arith)
rows-all query positions state (suc m) ok all here = rows-are query positions state m ok all (here m (omega arith))

pub answered : (flow : List Operator) (crew : List WorkerState) (refused : List Refusal) (rows : List (List Value)) (answer : Answer)
    → HaveGiven crew refused rows → answer.refused ≡ sort_refusals refused → answer.columns ≡ columns_at flow (length flow) → answer.rows ≡ rows
    → IsGathered flow crew answer
unfolding HaveGiven IsGathered answer_in
answered flow crew refused rows answer given refused-is columns-are rows-is query start positions same work done =
    let all = work.at.at_positions.all in
    let state = state_reached query start positions in
    let here = position-here query start crew positions work in
    let finished : (worker : ℕ) → worker < crew_of query.flow → (positions worker).finished ≡ true = λ worker inside.
    sym (work.at.at_positions.each worker inside).shows.finished ∙ done worker (rw all inside) in
    let gives = given query positions (at-work-show query start crew positions work) in
    λ i. record {
      refused = (refused-is ∙ ap sort_refusals (gives.0 ∙ ap (λ n. flat_map (refused_at query positions) (numbers_below n)) all)
          ∙ all-refuse query positions state here finished) i;
      columns = (columns-are ∙ ap (λ f. columns_at f (length f)) (sym same)) i;
      rows = (rows-is ∙ gives.1 ∙ ap (rows_before query positions) all ∙ rows-all query positions state (crew_of query.flow) work.at.flow refl here) i;
    }

-- the same, where there is an answer
pub answered-if : {E : Type 0} (flow : List Operator) (crew : List WorkerState) (refused : List Refusal) (rows : List (List Value)) (result : Result Answer E) → HaveGiven crew refused rows
    → IfOk result (λ answer. answer.refused ≡ sort_refusals refused) → IfOk result (λ answer. answer.columns ≡ columns_at flow (length flow)) → IfOk result (λ answer. answer.rows ≡ rows)
    → IfOk result (IsGathered flow crew)
answered-if flow crew refused rows (Ok answer) given refused-is columns-are rows-is = answered flow crew refused rows answer given refused-is columns-are rows-is
answered-if flow crew refused rows (Err why) given refused-is columns-are rows-is = tt
