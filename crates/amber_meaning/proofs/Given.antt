-- What the workers of an operator have refused together.
use Rattle.std.proofs.Common.{◌≡◌, ℕ, List, [], ◌∷◌, ◌++◌, map, Bool, true, if◌then◌else◌, refl, ap, ◌∙◌, arith}
use Rattle.std.specs.List.{flat_map, list_all}
use Rattle.std.proofs.lemmas.Bool.{and_parts}
use Rattle.std.proofs.lemmas.List.{append-nil}
use Rattle.amber_rows.proofs.Sorting.{sort-bag, times-append, times-sort}
use Rattle.amber_rows.specs.Topology.{workers_of}
use Rattle.amber_rows.specs.Order.{sort_rows, times}
use Rattle.amber_rows.specs.declared.value.Value.{Value}
use Rattle.amber_meaning.specs.declared.answer.Refusal.TheVariants as refusal
use Rattle.amber_meaning.specs.Given.{FinishedOperatorsRefuse, KeysMayBeSorted, OneWorkerRefusesAlone, keys_given, operator_refusals, worker_refusals}
use Rattle.amber_meaning.specs.Legal.{Query, role_in}
use Rattle.amber_meaning.specs.Refused.{refused_groups, refused_in}
use Rattle.amber_meaning.specs.State.{State, position_at}
use Rattle.amber_meaning.specs.Views.{by_number, taken_by, taken_of, worker_refuses}

pub one_worker_refuses_alone : OneWorkerRefusesAlone
unfolding operator_refusals worker_refusals taken_by
one_worker_refuses_alone query state op worker alone =
    let role = role_in query worker in
    let p = position_at state.positions worker in
    rw (alone, append-nil (taken_of role p), append-nil (keys_given role p)) refl

all-finished : (query : Query) (state : State) (workers : List ℕ) → list_all (λ worker. (position_at state.positions worker).finished) workers ≡ true
    → flat_map (λ worker. keys_given (role_in query worker) (position_at state.positions worker)) workers
    ≡ flat_map (λ worker. worker_refuses (role_in query worker) (position_at state.positions worker)) workers
all-finished query state [] e = refl
all-finished query state (worker ∷ workers) e =
    let parts = and_parts (position_at state.positions worker).finished _ e in
    let refuses = worker_refuses (role_in query worker) (position_at state.positions worker) in
    let later = all-finished query state workers parts.1 in
    ap (λ (b : Bool). (if b then refuses else []) ++ flat_map (λ worker. keys_given (role_in query worker) (position_at state.positions worker)) workers) parts.0
    ∙ ap (λ (l : List (List Value)). refuses ++ l) later

pub finished_operators_refuse : FinishedOperatorsRefuse
unfolding operator_refusals
finished_operators_refuse query state op e =
    ap (λ (keys : List (List Value)). refused_in op (by_number (taken_by query state op)) ++ refused_groups op keys) (all-finished query state (workers_of query.flow op) e)

sorted-each : (keys : ℕ → List (List Value)) (workers : List ℕ) (row : List Value)
    → times row (flat_map (λ worker. sort_rows (keys worker)) workers) ≡ times row (flat_map keys workers)
sorted-each keys [] row = refl
sorted-each keys (worker ∷ workers) row =
    let first = times-sort row (keys worker) in
    let later = sorted-each keys workers row in
    let left = times-append row (sort_rows (keys worker)) (flat_map (λ worker. sort_rows (keys worker)) workers) in
    let right = times-append row (keys worker) (flat_map keys workers) in
    omega arith

pub keys_may_be_sorted : KeysMayBeSorted
keys_may_be_sorted op keys workers =
    ap (map (refusal.Group op)) (sort-bag (flat_map (λ worker. sort_rows (keys worker)) workers) (flat_map keys workers) (sorted-each keys workers))
