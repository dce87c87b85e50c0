-- What a finished worker has emitted: all that its task gives for what it was handed.
use Rattle.std.proofs.Common.{◌≡◌, ℕ, List, [], ◌∷◌, ◌++◌, length, map, drop, replicate, filter, Option, Some, None, Ok, Bool, true, false, not, if◌then◌else◌, refl, sym, ap, ◌∙◌, arith, append_assoc}
use Rattle.std.specs.List.{filter_map, flat_map, list_all}
use Rattle.std.proofs.lemmas.Bool.{and_from, and_parts, eq-eqb, not-true}
use Rattle.std.proofs.lemmas.List.{append-nil, length-drop, take_all}
use Rattle.std.proofs.lemmas.List.Elements.{filter-append}
use Rattle.std.proofs.lemmas.List.Folds.{list_all-append}
use Rattle.amber_rows.specs.Operators.{matches_of}
use Rattle.amber_rows.specs.declared.value.Value.{Value}
use Rattle.amber_rows.specs.declared.flow.What.{What}
use Rattle.amber_rows.specs.declared.flow.What.TheVariants as what
use Rattle.amber_meaning.specs.Task.{Arrival, Role, Task, built_of, is_builder, suiting}
use Rattle.amber_meaning.specs.Produce.{closing, produce, yields, yields_if}
use Rattle.amber_meaning.specs.Kinds.{yields_row}
use Rattle.amber_meaning.specs.Position.{Position, Taken, emitted_rows, all_arrivals, arrivals_of, have_ended, is_complete, kept, produced_rows, product, share_or}
use Rattle.amber_meaning.specs.State.{first_constants}
use Rattle.amber_meaning.specs.Total.{gives, task_constants}
use Rattle.amber_meaning.specs.Views.{taken_of}
use Rattle.amber_laws.proofs.Sound.{IsBuildFirst, IsSound}

-- ---- a filter's own constant

row-constant : (task : Task) (kind : What) (before : List Arrival) (from : ℕ) (row : List Value)
    → yields_row task kind before from (first_constants kind) row ≡ yields_row task kind before from [] row
row-constant task (what.Scan file) before from row = refl
row-constant task (what.Filter input cond) before from row = refl
row-constant task (what.Project input columns) before from row = refl
row-constant task (what.Join build probe build_keys probe_keys) before from row = refl
row-constant task (what.Group input keys aggs) before from row = refl
row-constant task (what.Sink input) before from row = refl

-- the constants at the start are those in the task
pub yields-constant : (task : Task) (before : List Arrival) (one : Arrival) → yields task before one (first_constants task.kind) ≡ yields task before one (task_constants task)
unfolding yields
yields-constant task before one = by (suiting task one)
  where
    by : (some : Option (List Value)) → yields_if task before one.from (first_constants task.kind) some ≡ yields_if task before one.from [] some
    by None = refl
    by (Some row) = row-constant task task.kind before one.from row

-- ---- the build side first

-- what a join alone needs
abbrev pub ForJoin : What → Type 0 → Type 0
ForJoin (what.Scan file) need = Unit {0}
ForJoin (what.Filter input cond) need = Unit {0}
ForJoin (what.Project input columns) need = Unit {0}
ForJoin (what.Join build probe build_keys probe_keys) need = need
ForJoin (what.Group input keys aggs) need = Unit {0}
ForJoin (what.Sink input) need = Unit {0}

for_join : (kind : What) (A B : Type 0) → (A → B) → ForJoin kind A → ForJoin kind B
for_join (what.Scan file) A B f h = tt
for_join (what.Filter input cond) A B f h = tt
for_join (what.Project input columns) A B f h = tt
for_join (what.Join build probe build_keys probe_keys) A B f h = f h
for_join (what.Group input keys aggs) A B f h = tt
for_join (what.Sink input) A B f h = tt

-- no row of a join's build side stands after one of its probe side
abbrev pub AreBuildFirst : Task → List Arrival → Type 0
AreBuildFirst task [] = Unit {0}
AreBuildFirst task (one ∷ more) = (is_builder task one.from ≡ false → list_all (λ (other : Arrival). not (is_builder task other.from)) more ≡ true) × AreBuildFirst task more

-- rows of one batch, all from one sender, before rows that keep the order
same-sender : (task : Task) (from : ℕ) (rows : List (List Value)) (more : List Arrival)
    → (is_builder task from ≡ false → list_all (λ (other : Arrival). not (is_builder task other.from)) more ≡ true) → AreBuildFirst task more
    → AreBuildFirst task (map (λ row. record { from = from; what = Ok row }) rows ++ more)
same-sender task from [] more h rest = rest
same-sender task from (row ∷ rows) more h rest = (
  λ e. list_all-append (λ (other : Arrival). not (is_builder task other.from)) (map (λ row. record { from = from; what = Ok row }) rows) more
      ∙ and_from _ _ (others e rows) (h e),
  same-sender task from rows more h rest,
)
  where
    others : is_builder task from ≡ false → (rows : List (List Value))
        → list_all (λ (other : Arrival). not (is_builder task other.from)) (map (λ row. record { from = from; what = Ok row }) rows) ≡ true
    others e [] = refl
    others e (row ∷ rows) = and_from _ _ (ap not e) (others e rows)

others-rows : (task : Task) (taken : List Taken) → list_all (λ (other : Taken). not (is_builder task other.from)) taken ≡ true
    → list_all (λ (other : Arrival). not (is_builder task other.from)) (flat_map arrivals_of taken) ≡ true
others-rows task [] e = refl
others-rows task (t ∷ taken) e =
    let parts = and_parts (not (is_builder task t.from)) _ e in
    list_all-append (λ (other : Arrival). not (is_builder task other.from)) (arrivals_of t) (flat_map arrivals_of taken)
    ∙ and_from _ _ (here parts.0 t.batch.rows) (others-rows task taken parts.1)
  where
    here : not (is_builder task t.from) ≡ true → (rows : List (List Value))
        → list_all (λ (other : Arrival). not (is_builder task other.from)) (map (λ row. record { from = t.from; what = Ok row }) rows) ≡ true
    here e [] = refl
    here e (row ∷ rows) = and_from _ _ e (here e rows)

rows-first : (task : Task) (taken : List Taken) → IsBuildFirst task taken → AreBuildFirst task (flat_map arrivals_of taken)
rows-first task [] h = tt
rows-first task (t ∷ taken) h =
    same-sender task t.from t.batch.rows (flat_map arrivals_of taken) (λ e. others-rows task taken (h.0 e)) (rows-first task taken h.1)

fed-first : (kind : What) (task : Task) (share : List Arrival) (taken : List Taken) → IsBuildFirst task taken
    → ForJoin kind (AreBuildFirst task (share_or kind share (flat_map arrivals_of taken)))
fed-first (what.Scan file) task share taken h = tt
fed-first (what.Filter input cond) task share taken h = tt
fed-first (what.Project input columns) task share taken h = tt
fed-first (what.Join build probe build_keys probe_keys) task share taken h = rows-first task taken h
fed-first (what.Group input keys aggs) task share taken h = tt
fed-first (what.Sink input) task share taken h = tt

-- rows of the probe side change nothing in the build side
built-others : (task : Task) (xs ys : List Arrival) → list_all (λ (other : Arrival). not (is_builder task other.from)) ys ≡ true → built_of task (xs ++ ys) ≡ built_of task xs
unfolding built_of
built-others task xs ys e =
    ap (filter_map (suiting task)) (filter-append (λ (one : Arrival). is_builder task one.from) xs ys ∙ ap (λ l. filter (λ (one : Arrival). is_builder task one.from) xs ++ l) (none ys e) ∙ append-nil _)
  where
    none : (ys : List Arrival) → list_all (λ (other : Arrival). not (is_builder task other.from)) ys ≡ true → filter (λ (one : Arrival). is_builder task one.from) ys ≡ []
    none [] e = refl
    none (y ∷ ys) e =
        let parts = and_parts (not (is_builder task y.from)) _ e in
        rw (not-true (is_builder task y.from) parts.0) (none ys parts.1)

row-settled : (task : Task) (kind : What) (before : List Arrival) (one : Arrival) (more : List Arrival) (constants row : List Value)
    → ForJoin kind (AreBuildFirst task (one ∷ more)) → yields_row task kind before one.from constants row ≡ yields_row task kind (before ++ one ∷ more) one.from constants row
row-settled task (what.Scan file) before one more constants row h = refl
row-settled task (what.Filter input cond) before one more constants row h = refl
row-settled task (what.Project input columns) before one more constants row h = refl
row-settled task (what.Join build probe build_keys probe_keys) before one more constants row h = by (is_builder task one.from) refl
  where
    by : (b : Bool) → is_builder task one.from ≡ b
        → (if b then [] else matches_of build_keys probe_keys (built_of task before) row) ≡ (if b then [] else matches_of build_keys probe_keys (built_of task (before ++ one ∷ more)) row)
    by true e = refl
    by false e =
        let others : list_all (λ (other : Arrival). not (is_builder task other.from)) (one ∷ more) ≡ true = and_from _ _ (ap not e) (h.0 e) in
        ap (λ built. matches_of build_keys probe_keys built row) (sym (built-others task before (one ∷ more) others))
row-settled task (what.Group input keys aggs) before one more constants row h = refl
row-settled task (what.Sink input) before one more constants row h = refl

yields-settled : (task : Task) (before : List Arrival) (one : Arrival) (more : List Arrival) (constants : List Value)
    → ForJoin task.kind (AreBuildFirst task (one ∷ more)) → yields task before one constants ≡ yields task (before ++ one ∷ more) one constants
unfolding yields
yields-settled task before one more constants h = by (suiting task one)
  where
    by : (some : Option (List Value)) → yields_if task before one.from constants some ≡ yields_if task (before ++ one ∷ more) one.from constants some
    by None = refl
    by (Some row) = row-settled task task.kind before one more constants row h

-- what is produced along all that was handed, where the build side came first, does not depend on what came before
produce-settled : (task : Task) (before hs : List Arrival) (constants : List Value) → ForJoin task.kind (AreBuildFirst task hs)
    → produce task before hs (replicate (length hs) constants) ≡ flat_map (λ one. yields task (before ++ hs) one constants) hs
unfolding produce
produce-settled task before [] constants h = refl
produce-settled task before (one ∷ more) constants h =
    let next = produce-settled task (before ++ one ∷ []) more constants (for_join task.kind (AreBuildFirst task (one ∷ more)) (AreBuildFirst task more) (λ f. f.1) h) in
    let same : (before ++ one ∷ []) ++ more ≡ before ++ one ∷ more = append_assoc before (one ∷ []) more in
    let later : produce task (before ++ one ∷ []) more (replicate (length more) constants) ≡ flat_map (λ x. yields task (before ++ one ∷ more) x constants) more =
    next ∙ ap (λ l. flat_map (λ x. yields task l x constants) more) same in
    rw (yields-settled task before one more constants h, later) refl

pub flat_map-same : {A B : Type 0} (f g : A → List B) → ((x : A) → f x ≡ g x) → (xs : List A) → flat_map f xs ≡ flat_map g xs
flat_map-same f g h [] = refl
flat_map-same f g h (x ∷ xs) = rw (h x, flat_map-same f g h xs) refl

pub kept-all : {A : Type 0} (xs : List A) → kept xs (replicate (length xs) true) ≡ xs
unfolding kept
kept-all [] = refl
kept-all (x ∷ xs) = ap (λ l. x ∷ l) (kept-all xs)

-- ---- a finished worker

-- it took all that it was handed
pub took-all : (role : Role) (p : Position) → IsSound role p → p.finished ≡ true → length p.constants ≡ length (all_arrivals role p.taken)
took-all role p s e =
    let none : length (drop (length p.constants) (all_arrivals role p.taken)) ≡ 0 = ap length (s.no_rest e) in
    omega (arith, length-drop (length p.constants) (all_arrivals role p.taken), s.within)

pub taken-all : (role : Role) (p : Position) → IsSound role p → p.finished ≡ true → taken_of role p ≡ all_arrivals role p.taken
taken-all role p s e = take_all (length p.constants) (all_arrivals role p.taken) (omega (arith, took-all role p s e))

-- with all batches and all rows it has produced what the task gives
pub product-whole : (role : Role) (p : Position) → IsSound role p → have_ended role.senders p.taken ≡ true → length p.constants ≡ length (all_arrivals role p.taken)
    → produced_rows role p ≡ gives role.task (all_arrivals role p.taken)
unfolding product gives all_arrivals
product-whole role p s ended all =
    let arrivals : List Arrival = all_arrivals role p.taken in
    let complete : is_complete role p.taken (length p.constants) ≡ true = and_from _ _ ended (eq-eqb _ _ all) in
    let steady : p.constants ≡ replicate (length arrivals) (first_constants role.task.kind) = s.steady ∙ ap (λ n. replicate n (first_constants role.task.kind)) all in
    let first = produce-settled role.task [] arrivals (first_constants role.task.kind) (fed-first role.task.kind role.task role.share p.taken s.build_first) in
    let own = flat_map-same (λ one. yields role.task arrivals one (first_constants role.task.kind)) (λ one. yields role.task arrivals one (task_constants role.task)) (yields-constant role.task arrivals) arrivals in
    rw complete (ap (λ l. l ++ closing role.task arrivals) (ap (produce role.task [] arrivals) steady ∙ first ∙ own))

pub emitted-whole : (role : Role) (p : Position) → IsSound role p → p.finished ≡ true → emitted_rows role p ≡ gives role.task (all_arrivals role p.taken)
emitted-whole role p s e =
    let all = took-all role p s e in
    let none : length (drop (length p.outcomes) (produced_rows role p)) ≡ 0 = ap length (s.no_pending e) in
    let gone : length p.outcomes ≡ length (produced_rows role p) = omega (arith, length-drop (length p.outcomes) (produced_rows role p), s.produced) in
    let outcomes : p.outcomes ≡ replicate (length (produced_rows role p)) true = s.all_kept ∙ ap (λ n. replicate n true) gone in
    ap (kept (produced_rows role p)) outcomes ∙ kept-all (produced_rows role p) ∙ product-whole role p s (s.ended e) all
