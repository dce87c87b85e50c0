-- What a task gives that is handed the rows of several workers, all of which suit.
use Rattle.std.proofs.Common.{◌≡◌, ℕ, cond, Bool, true, false, List, [], ◌∷◌, ◌++◌, map, filter, Ok, refl, sym, ◌∙◌, ap}
use Rattle.std.specs.List.{filter_map, flat_map, list_all}
use Rattle.std.proofs.lemmas.Bool.{and_parts}
use Rattle.std.proofs.lemmas.Grind.{flat_map-append}
use Rattle.std.proofs.lemmas.List.{append-nil, map-append}
use Rattle.std.proofs.lemmas.List.Concat.{flat_map_single}
use Rattle.std.proofs.lemmas.List.Elements.{filter-append, filter_map-append}
use Rattle.std.proofs.lemmas.List.Folds.{flat_map-map}
use Rattle.amber_rows.specs.Cond.{holds_of}
use Rattle.amber_rows.specs.Topology.{workers_of}
use Rattle.amber_rows.specs.Operators.{group_result, join_result, matches_of, pick_cells, project_result}
use Rattle.amber_rows.specs.Suits.{suits_of}
use Rattle.amber_rows.specs.declared.agg.Agg.{Agg}
use Rattle.amber_rows.specs.declared.cond.Cond.{Cond}
use Rattle.amber_rows.specs.declared.value.Value.{Value}
use Rattle.amber_rows.specs.declared.flow.What.TheVariants as what
use Rattle.amber_rows.specs.declared.flow.Operator.{Operator}
use Rattle.amber_meaning.specs.Task.{Arrival, Task, built_of, columns_from, is_builder, suiting}
use Rattle.amber_meaning.specs.Produce.{closing, yields}
use Rattle.amber_meaning.specs.Kinds.{yields_row}
use Rattle.amber_meaning.specs.Total.{gives, arrivals_from}
use Rattle.amber_meaning.proofs.Numbers.{among, among-first, among-left, among-more}
use Rattle.amber_laws.proofs.Bags.{equal-among}
use Rattle.amber_laws.proofs.Links.{fed_by, filter_flat}
use Rattle.amber_laws.proofs.Made.{task_with}
use Rattle.amber_laws.proofs.Spread.{flat-flat}

-- each of these workers gives rows that suit the task
abbrev pub AreSuiting : Task → (ℕ → List (List Value)) → List ℕ → Type 0
AreSuiting task dealt senders = (sender : ℕ) → among sender senders ≡ true → list_all (suits_of (columns_from task sender)) (dealt sender) ≡ true

abbrev one_from : ℕ → List Value → Arrival
one_from sender row = record { from = sender; what = Ok row }

fed_each : {Y : Type 0} (f : Arrival → List Y) (dealt : ℕ → List (List Value)) (senders : List ℕ)
    → flat_map f (fed_by dealt senders) ≡ flat_map (λ sender. flat_map (λ row. f (one_from sender row)) (dealt sender)) senders
unfolding fed_by
fed_each f dealt [] = refl
fed_each f dealt (sender ∷ senders) =
    flat_map-append f (arrivals_from sender (dealt sender)) (flat_map (λ other. arrivals_from other (dealt other)) senders)
    ∙ ap (λ l. l ++ flat_map f (flat_map (λ other. arrivals_from other (dealt other)) senders)) (flat_map-map f (one_from sender) (dealt sender))
    ∙ ap (λ l. flat_map (λ row. f (one_from sender row)) (dealt sender) ++ l) (fed_each f dealt senders)

-- rows that suit yield what their kind says
yields_rows : (task : Task) (before : List Arrival) (sender : ℕ) (rows : List (List Value)) → list_all (suits_of (columns_from task sender)) rows ≡ true
    → flat_map (λ row. yields task before (one_from sender row) []) rows ≡ flat_map (yields_row task task.kind before sender []) rows
unfolding yields
yields_rows task before sender [] h = refl
yields_rows task before sender (row ∷ rows) h =
    let parts = and_parts (suits_of (columns_from task sender) row) (list_all (suits_of (columns_from task sender)) rows) h in
    rw parts.0 (ap (λ l. yields_row task task.kind before sender [] row ++ l) (yields_rows task before sender rows parts.1))

yields_fed : (task : Task) (before : List Arrival) (dealt : ℕ → List (List Value)) (senders : List ℕ) → AreSuiting task dealt senders
    → flat_map (λ one. yields task before one []) (fed_by dealt senders) ≡ flat_map (λ sender. flat_map (yields_row task task.kind before sender []) (dealt sender)) senders
yields_fed task before dealt senders h =
    fed_each (λ one. yields task before one []) dealt senders
    ∙ equal-among (λ sender. flat_map (λ row. yields task before (one_from sender row) []) (dealt sender)) (λ sender. flat_map (yields_row task task.kind before sender []) (dealt sender))
    senders (λ sender k. yields_rows task before sender (dealt sender) (h sender k))

suiting_rows : (task : Task) (sender : ℕ) (rows : List (List Value)) → list_all (suits_of (columns_from task sender)) rows ≡ true
    → filter_map (suiting task) (arrivals_from sender rows) ≡ rows
suiting_rows task sender [] h = refl
suiting_rows task sender (row ∷ rows) h =
    let parts = and_parts (suits_of (columns_from task sender) row) (list_all (suits_of (columns_from task sender)) rows) h in
    rw parts.0 (ap (λ l. row ∷ l) (suiting_rows task sender rows parts.1))

-- the rows that suit are all of them
pub rows-fed : (task : Task) (dealt : ℕ → List (List Value)) (senders : List ℕ) → AreSuiting task dealt senders
    → filter_map (suiting task) (fed_by dealt senders) ≡ flat_map dealt senders
unfolding fed_by
rows-fed task dealt [] h = refl
rows-fed task dealt (sender ∷ senders) h =
    let first = suiting_rows task sender (dealt sender) (h sender (among-first sender senders)) in
    let rest = rows-fed task dealt senders (λ other k. h other (among-more other sender senders k)) in
    filter_map-append (suiting task) (arrivals_from sender (dealt sender)) (flat_map (λ other. arrivals_from other (dealt other)) senders) ∙ rw (first, rest) refl

-- ---- filters and projects

kept_rows : (test : List Value → Bool) (rows : List (List Value)) → flat_map (λ row. cond (test row) (row ∷ []) []) rows ≡ filter test rows
kept_rows test [] = refl
kept_rows test (row ∷ rows) = by (test row) (kept_rows test rows)
  where
    by : (b : Bool) → flat_map (λ one. cond (test one) (one ∷ []) []) rows ≡ filter test rows
        → (cond b (row ∷ []) [] ++ flat_map (λ one. cond (test one) (one ∷ []) []) rows) ≡ cond b (row ∷ filter test rows) (filter test rows)
    by true e = ap (λ l. row ∷ l) e
    by false e = e

map_flat : {X Y : Type 0} (f : X → Y) (g : ℕ → List X) (ns : List ℕ) → flat_map (λ n. map f (g n)) ns ≡ map f (flat_map g ns)
map_flat f g [] = refl
map_flat f g (n ∷ ns) = ap (λ l. map f (g n) ++ l) (map_flat f g ns) ∙ sym (map-append f (g n) (flat_map g ns))

pub filter-gives : (flow : List Operator) (op input : ℕ) (test : Cond) (dealt : ℕ → List (List Value)) (senders : List ℕ)
    → AreSuiting (task_with flow op (what.Filter input test)) dealt senders
    → gives (task_with flow op (what.Filter input test)) (fed_by dealt senders) ≡ filter (holds_of test) (flat_map dealt senders)
unfolding gives closing
filter-gives flow op input test dealt senders h =
    let task = task_with flow op (what.Filter input test) in
    append-nil (flat_map (λ one. yields task (fed_by dealt senders) one []) (fed_by dealt senders))
    ∙ yields_fed task (fed_by dealt senders) dealt senders h
    ∙ equal-among (λ sender. flat_map (λ row. cond (holds_of test row) (row ∷ []) []) (dealt sender)) (λ sender. filter (holds_of test) (dealt sender)) senders
    (λ sender k. kept_rows (holds_of test) (dealt sender))
    ∙ sym (filter_flat (holds_of test) dealt senders)

pub project-gives : (flow : List Operator) (op input : ℕ) (from : List ℕ) (dealt : ℕ → List (List Value)) (senders : List ℕ)
    → AreSuiting (task_with flow op (what.Project input from)) dealt senders
    → gives (task_with flow op (what.Project input from)) (fed_by dealt senders) ≡ project_result from (flat_map dealt senders)
unfolding gives closing project_result
project-gives flow op input from dealt senders h =
    let task = task_with flow op (what.Project input from) in
    append-nil (flat_map (λ one. yields task (fed_by dealt senders) one []) (fed_by dealt senders))
    ∙ yields_fed task (fed_by dealt senders) dealt senders h
    ∙ equal-among (λ sender. flat_map (λ row. pick_cells from row ∷ []) (dealt sender)) (λ sender. map (pick_cells from) (dealt sender)) senders
    (λ sender k. flat_map_single (pick_cells from) (dealt sender))
    ∙ map_flat (pick_cells from) dealt senders

-- ---- groups

abbrev nothing : List Value → List (List Value)
nothing row = []

nothing_of : (rows : List (List Value)) → flat_map nothing rows ≡ []
nothing_of [] = refl
nothing_of (row ∷ rows) = nothing_of rows

nothing_each : (dealt : ℕ → List (List Value)) (senders : List ℕ) → flat_map (λ sender. flat_map nothing (dealt sender)) senders ≡ []
nothing_each dealt [] = refl
nothing_each dealt (sender ∷ senders) = rw (nothing_of (dealt sender)) (nothing_each dealt senders)

pub group-gives : (flow : List Operator) (op input : ℕ) (keys : List ℕ) (aggs : List Agg) (dealt : ℕ → List (List Value)) (senders : List ℕ)
    → AreSuiting (task_with flow op (what.Group input keys aggs)) dealt senders
    → gives (task_with flow op (what.Group input keys aggs)) (fed_by dealt senders) ≡ group_result keys aggs (flat_map dealt senders)
unfolding gives closing
group-gives flow op input keys aggs dealt senders h =
    let task = task_with flow op (what.Group input keys aggs) in
    let nothing : flat_map (λ one. yields task (fed_by dealt senders) one []) (fed_by dealt senders) ≡ [] =
    yields_fed task (fed_by dealt senders) dealt senders h ∙ nothing_each dealt senders in
    rw nothing (ap (group_result keys aggs) (rows-fed task dealt senders h))

-- ---- joins

fed_both : (dealt : ℕ → List (List Value)) (xs ys : List ℕ) → fed_by dealt (xs ++ ys) ≡ fed_by dealt xs ++ fed_by dealt ys
unfolding fed_by
fed_both dealt xs ys = flat_map-append (λ sender. arrivals_from sender (dealt sender)) xs ys

all_same : (test : ℕ → Bool) (sender : ℕ) (rows : List (List Value)) → test sender ≡ true → filter (λ one. test one.from) (arrivals_from sender rows) ≡ arrivals_from sender rows
all_same test sender [] e = refl
all_same test sender (row ∷ rows) e = rw e (ap (λ l. one_from sender row ∷ l) (all_same test sender rows e))

none_same : (test : ℕ → Bool) (sender : ℕ) (rows : List (List Value)) → test sender ≡ false → filter (λ one. test one.from) (arrivals_from sender rows) ≡ []
none_same test sender [] e = refl
none_same test sender (row ∷ rows) e = rw e (none_same test sender rows e)

-- the rows of workers that all pass a test of senders, and of workers of which none does
fed_all : (test : ℕ → Bool) (dealt : ℕ → List (List Value)) (senders : List ℕ) → ((sender : ℕ) → among sender senders ≡ true → test sender ≡ true)
    → filter (λ one. test one.from) (fed_by dealt senders) ≡ fed_by dealt senders
unfolding fed_by
fed_all test dealt senders h =
    filter_flat (λ (one : Arrival). test one.from) (λ sender. arrivals_from sender (dealt sender)) senders
    ∙ equal-among (λ sender. filter (λ one. test one.from) (arrivals_from sender (dealt sender))) (λ sender. arrivals_from sender (dealt sender)) senders
    (λ sender k. all_same test sender (dealt sender) (h sender k))

fed_none : (test : ℕ → Bool) (dealt : ℕ → List (List Value)) (senders : List ℕ) → ((sender : ℕ) → among sender senders ≡ true → test sender ≡ false)
    → filter (λ one. test one.from) (fed_by dealt senders) ≡ []
unfolding fed_by
fed_none test dealt [] h = refl
fed_none test dealt (sender ∷ senders) h =
    filter-append (λ (one : Arrival). test one.from) (arrivals_from sender (dealt sender)) (flat_map (λ other. arrivals_from other (dealt other)) senders)
    ∙ rw (none_same test sender (dealt sender) (h sender (among-first sender senders))) (fed_none test dealt senders (λ other k. h other (among-more other sender senders k)))

-- what stands of the build side, where the builders are handed first
built_fed : (task : Task) (dealt : ℕ → List (List Value)) (builders others : List ℕ) → task.builders ≡ builders → AreSuiting task dealt (builders ++ others)
    → ((sender : ℕ) → among sender others ≡ true → among sender builders ≡ false) → built_of task (fed_by dealt (builders ++ others)) ≡ flat_map dealt builders
unfolding built_of
built_fed task dealt builders others e h apart =
    let left : filter (λ one. is_builder task one.from) (fed_by dealt builders) ≡ fed_by dealt builders =
    fed_all (is_builder task) dealt builders (λ sender k. ap (among sender) e ∙ k) in
    let right : filter (λ one. is_builder task one.from) (fed_by dealt others) ≡ [] =
    fed_none (is_builder task) dealt others (λ sender k. ap (among sender) e ∙ apart sender k) in
    let first : filter (λ one. is_builder task one.from) (fed_by dealt (builders ++ others)) ≡ fed_by dealt builders =
    ap (filter (λ one. is_builder task one.from)) (fed_both dealt builders others)
    ∙ filter-append (λ (one : Arrival). is_builder task one.from) (fed_by dealt builders) (fed_by dealt others)
    ∙ rw (left, right) (append-nil (fed_by dealt builders)) in
    ap (filter_map (suiting task)) first ∙ rows-fed task dealt builders (λ sender k. h sender (among-left sender builders others k))

side_rows : (build_keys probe_keys : List ℕ) (built rows : List (List Value)) (b : Bool)
    → flat_map (λ row. cond b [] (matches_of build_keys probe_keys built row)) rows ≡ cond b [] (join_result build_keys probe_keys built rows)
unfolding join_result
side_rows build_keys probe_keys built rows true = nothing_of rows
side_rows build_keys probe_keys built rows false = refl

joined_flat : (build_keys probe_keys : List ℕ) (built : List (List Value)) (dealt : ℕ → List (List Value)) (senders : List ℕ)
    → flat_map (λ sender. join_result build_keys probe_keys built (dealt sender)) senders ≡ join_result build_keys probe_keys built (flat_map dealt senders)
unfolding join_result
joined_flat build_keys probe_keys built dealt senders = flat-flat (matches_of build_keys probe_keys built) dealt senders

no_rows : (builders : List ℕ) (f : ℕ → List (List Value)) → ((sender : ℕ) → among sender builders ≡ true → f sender ≡ []) → flat_map f builders ≡ []
no_rows [] f h = refl
no_rows (sender ∷ builders) f h =
    rw (h sender (among-first sender builders)) (no_rows builders f (λ other k. h other (among-more other sender builders k)))

pub join-gives : (flow : List Operator) (op build probe : ℕ) (build_keys probe_keys : List ℕ) (dealt : ℕ → List (List Value)) (others : List ℕ)
    → AreSuiting (task_with flow op (what.Join build probe build_keys probe_keys)) dealt (workers_of flow build ++ others)
    → ((sender : ℕ) → among sender others ≡ true → among sender (workers_of flow build) ≡ false)
    → gives (task_with flow op (what.Join build probe build_keys probe_keys)) (fed_by dealt (workers_of flow build ++ others))
    ≡ join_result build_keys probe_keys (flat_map dealt (workers_of flow build)) (flat_map dealt others)
unfolding gives closing
join-gives flow op build probe build_keys probe_keys dealt others h apart =
    let task = task_with flow op (what.Join build probe build_keys probe_keys) in
    let builders = workers_of flow build in
    let all = fed_by dealt (builders ++ others) in
    let each = λ (sender : ℕ). cond (among sender builders) [] (join_result build_keys probe_keys (built_of task all) (dealt sender)) in
    append-nil (flat_map (λ one. yields task all one []) all)
    ∙ yields_fed task all dealt (builders ++ others) h
    ∙ equal-among (λ sender. flat_map (λ row. cond (among sender builders) [] (matches_of build_keys probe_keys (built_of task all) row)) (dealt sender)) each (builders ++ others)
    (λ sender k. side_rows build_keys probe_keys (built_of task all) (dealt sender) (among sender builders))
    ∙ flat_map-append each builders others
    ∙ ap (λ l. l ++ flat_map each others) (no_rows builders each (λ sender k. ap (λ b. cond b [] (join_result build_keys probe_keys (built_of task all) (dealt sender))) k))
    ∙ equal-among each (λ sender. join_result build_keys probe_keys (built_of task all) (dealt sender)) others
    (λ sender k. ap (λ b. cond b [] (join_result build_keys probe_keys (built_of task all) (dealt sender))) (apart sender k))
    ∙ joined_flat build_keys probe_keys (built_of task all) dealt others
    ∙ ap (λ built. join_result build_keys probe_keys built (flat_map dealt others)) (built_fed task dealt builders others refl h apart)
