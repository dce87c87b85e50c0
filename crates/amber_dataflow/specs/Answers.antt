-- The answer that workers give, and what an operator shows.
use Rattle.std.specs.Prelude.{◌≡◌, ℕ, zero, suc, ◌<◌, List, [], ◌∷◌, length, map, if◌then◌else◌}
use Rattle.std.specs.List.{flat_map}
use Rattle.std.specs.Ordering.{is_lt, nat_cmp, ordering_then}
use Rattle.std.specs.declared.cmp.Ordering.{Ordering}
use Rattle.std.specs.declared.cmp.Ordering.TheVariants.{Less, Greater}
use Rattle.amber_rows.specs.Lists.{numbers_below}
use Rattle.amber_rows.specs.Order.{row_cmp, sort_rows}
use Rattle.amber_rows.specs.declared.value.Value.{Value}
use Rattle.amber_rows.specs.declared.flow.Operator.{Operator}
use Rattle.amber_meaning.specs.declared.answer.Answer.{Answer}
use Rattle.amber_meaning.specs.declared.answer.Refusal.{Refusal}
use Rattle.amber_meaning.specs.declared.answer.Refusal.TheVariants as refusal
use Rattle.amber_meaning.specs.declared.view.WorkerView.{WorkerView}
use Rattle.amber_meaning.specs.Given.{worker_refusals}
use Rattle.amber_meaning.specs.Kinds.{kept_rows}
use Rattle.amber_meaning.specs.Legal.{Query}
use Rattle.amber_meaning.specs.Position.{Position}
use Rattle.amber_meaning.specs.Rules.{Orders}
use Rattle.amber_meaning.specs.State.{State}
use Rattle.amber_meaning.specs.Views.{answer_in, taken_of, view_of}
use Rattle.amber_worker.specs.AtPosition.{Base, Shows}
use Rattle.amber_worker.specs.WorkerState.{WorkerState}
use Rattle.amber_dataflow.specs.AtWork.{AreAtWork, HaveFinished, placement_at, state_reached, worker_state_at}

-- ---- the order of what was refused

-- the operator that refused
abbrev pub refuser : Refusal → ℕ
refuser (refusal.Record op number fault) = op
refuser (refusal.Group op key) = op

-- records by their numbers, before keys in the order of rows
abbrev pub refused_cmp : Refusal → Refusal → Ordering
refused_cmp (refusal.Record op m fault) (refusal.Record other n why) = nat_cmp m n
refused_cmp (refusal.Record op m fault) (refusal.Group other key) = Less
refused_cmp (refusal.Group op key) (refusal.Record other n why) = Greater
refused_cmp (refusal.Group op key) (refusal.Group other found) = row_cmp key found

-- the same operator by operator
abbrev pub refusal_cmp : Refusal → Refusal → Ordering
refusal_cmp a b = ordering_then (nat_cmp (refuser a) (refuser b)) (refused_cmp a b)

-- a refusal put before the first that is not less
unfoldable pub insert_refusal : Refusal → List Refusal → List Refusal
insert_refusal one [] = one ∷ []
insert_refusal one (other ∷ more) = if is_lt (refusal_cmp other one) then other ∷ insert_refusal one more else one ∷ other ∷ more

-- refusals in their order; those that tie stay as they stood
unfoldable pub sort_refusals : List Refusal → List Refusal
sort_refusals [] = []
sort_refusals (one ∷ more) = insert_refusal one (sort_refusals more)

-- ---- what workers give

-- wherever all of these workers have finished, this is the answer
unfoldable pub IsGathered : List Operator → List WorkerState → Answer → Type 0
IsGathered flow crew answer = (query : Query) (start : State) (positions : ℕ → Position) → query.flow ≡ flow → AreAtWork query start crew positions
    → HaveFinished (length crew) crew → answer ≡ answer_in query (state_reached query start positions)

-- each worker shows its position
abbrev pub ShowAll : Query → List WorkerState → (ℕ → Position) → Type 0
ShowAll query crew positions = (worker : ℕ) → worker < length crew
    → (orders : Orders) × (base : Base) × Shows (record { placement = placement_at query worker; orders = orders; base = base }) (worker_state_at crew worker) (positions worker)

-- what a worker has refused
unfoldable pub refused_at : Query → (ℕ → Position) → ℕ → List Refusal
refused_at query positions worker =
    worker_refusals (placement_at query worker).op (placement_at query worker).role (positions worker)

-- the rows of the last of so many workers
unfoldable pub rows_before : Query → (ℕ → Position) → ℕ → List (List Value)
rows_before query positions zero = []
rows_before query positions (suc worker) =
    let role = (placement_at query worker).role in
    sort_rows (kept_rows role.task.kind role.task (taken_of role (positions worker)))

-- wherever they stand, these workers have refused this, one after the other, and the last has these rows
unfoldable pub HaveGiven : List WorkerState → List Refusal → List (List Value) → Type 0
HaveGiven crew refused rows = (query : Query) (positions : ℕ → Position) → ShowAll query crew positions
    → (refused ≡ flat_map (refused_at query positions) (numbers_below (length crew))) × (rows ≡ rows_before query positions (length crew))

-- wherever these workers stand, each shows this
unfoldable pub ShowWorkers : List WorkerState → List ℕ → List WorkerView → Type 0
ShowWorkers crew workers views = (query : Query) (positions : ℕ → Position) → ShowAll query crew positions
    → views ≡ map (λ worker. view_of (placement_at query worker).role (positions worker)) workers
