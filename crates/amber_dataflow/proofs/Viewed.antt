-- What the workers of an operator show, and the operator.
use Rattle.std.proofs.Common.{◌≡◌, sym, ap, subst, ◌∙◌, ℕ, ◌+◌, ◌-◌, ◌<◌, ◌≤◌, List, [], ◌∷◌, ◌++◌, length, get_or, map, add-one, arith}
use Rattle.std.proofs.lemmas.List.{map-append}
use Rattle.amber_rows.specs.Topology.{first_worker_of, worker_count, workers_of}
use Rattle.amber_rows.specs.Lists.{numbers_below}
use Rattle.amber_rows.specs.declared.flow.Operator.{Operator}
use Rattle.amber_meaning.specs.Views.{view_of}
use Rattle.amber_meaning.specs.declared.view.WorkerView.{WorkerView}
use Rattle.amber_rows.proofs.CrewFacts.{count-there}
use Rattle.amber_worker.specs.AtPosition.{Context, IsViewOf, Shows}
use Rattle.amber_worker.specs.WorkerState.{WorkerState}
use Rattle.amber_dataflow.specs.Answers.{ShowWorkers}
use Rattle.amber_dataflow.specs.AtWork.{placement_at, worker_state_at}
use Rattle.amber_dataflow.proofs.Split.{read-at}

pub shown-none : (crew : List WorkerState) (views : List WorkerView) → views ≡ [] → ShowWorkers crew [] views
unfolding ShowWorkers
shown-none crew views none query positions shows = none

-- one worker more shows its view
pub shown-more : (crew : List WorkerState) (first place : ℕ) (w : WorkerState) (view : WorkerView) (views longer : List WorkerView) → first + place < length crew
    → w ≡ get_or crew (first + place) w → ShowWorkers crew (map (λ place. first + place) (numbers_below place)) views → IsViewOf w view → longer ≡ views ++ view ∷ []
    → ShowWorkers crew (map (λ place. first + place) (numbers_below (place + 1))) longer
unfolding ShowWorkers IsViewOf numbers_below
shown-more crew first place w view views longer inside is before gives longer-is query positions shows =
    let worker = first + place in
    let one = shows worker inside in
    let same : worker_state_at crew worker ≡ w = sym (is ∙ read-at crew worker w inside) in
    let context : Context = record { placement = placement_at query worker; orders = one.0; base = one.1 } in
    let here = gives context (positions worker) (subst (λ v. Shows context v (positions worker)) same one.2) in
    let f : ℕ → WorkerView = λ worker. view_of (placement_at query worker).role (positions worker) in
    let workers = map (λ place. first + place) (numbers_below place) in
    longer-is ∙ ap (λ l. l ++ view ∷ []) (before query positions shows)
    ∙ ap (λ v. map f workers ++ v ∷ []) here
    ∙ sym (map-append f workers (worker ∷ []))
    ∙ ap (map f) (sym (map-append (λ place. first + place) (numbers_below place) (place ∷ [])))
    ∙ ap (λ n. map f (map (λ place. first + place) (numbers_below n))) (sym (add-one place))

-- all of the operator do
pub shown-all : (flow operators : List Operator) (crew : List WorkerState) (op place first : ℕ) (o : Operator) (views found : List WorkerView) → operators ≡ flow → 0 < op → op ≤ length flow
    → o ≡ get_or operators (op - 1) o → first ≡ first_worker_of flow op → o.workers ≤ place → place ≤ o.workers
    → ShowWorkers crew (map (λ place. first + place) (numbers_below place)) views → found ≡ views → ShowWorkers crew (workers_of flow op) found
unfolding workers_of
shown-all flow operators crew op place first o views found same some within is first-is least most before found-is =
    let count : o.workers ≡ worker_count flow op = ap (λ (x : Operator). x.workers) (is ∙ ap (λ xs. get_or xs (op - 1) o) same) ∙ count-there flow op o some within in
    let whole : place ≡ worker_count flow op = omega arith in
    let workers : map (λ place. first + place) (numbers_below place) ≡ map (λ place. first_worker_of flow op + place) (numbers_below (worker_count flow op)) =
    ap (λ n. map (λ place. first + place) (numbers_below n)) whole ∙ ap (λ n. map (λ place. n + place) (numbers_below (worker_count flow op))) first-is in
    subst (λ l. ShowWorkers crew l found) workers (subst (λ l. ShowWorkers crew (map (λ place. first + place) (numbers_below place)) l) (sym found-is) before)
