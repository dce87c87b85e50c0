-- What a task gives, and what a worker is given, do not depend on the order of rows; part of the rows gives part.
use Rattle.std.proofs.Common.{◌≡◌, ℕ, zero, suc, eqb, List, [], ◌∷◌, ◌++◌, map, replicate, Option, Some, None, Ok, Bool, true, false, cond, if◌then◌else◌, refl, sym, ap, ◌∙◌, append_assoc}
use Rattle.std.specs.List.{flat_map, list_all}
use Rattle.std.proofs.lemmas.Bool.{eqb-true}
use Rattle.std.proofs.lemmas.List.{map-append}
use Rattle.std.proofs.lemmas.List.Concat.{flat_map-append}
use Rattle.amber_rows.specs.Kinds.{is_scan}
use Rattle.amber_rows.specs.Topology.{crew_of, senders_of, sends_to}
use Rattle.amber_rows.specs.Lists.{numbers_below}
use Rattle.amber_rows.specs.Operators.{matches_of, pick_cells, same_row}
use Rattle.amber_rows.specs.declared.value.Value.{Value}
use Rattle.amber_rows.specs.declared.flow.What.{What}
use Rattle.amber_rows.specs.declared.flow.What.TheVariants as what
use Rattle.amber_meaning.specs.Legal.{Query, role_in}
use Rattle.amber_meaning.specs.Plan.{role_of}
use Rattle.amber_meaning.specs.Position.{Taken, arrivals_of, share_or, taken_from}
use Rattle.amber_meaning.specs.Task.{Arrival, Task, built_of, is_builder, suiting}
use Rattle.amber_meaning.specs.Produce.{closing, produce, yields, yields_if}
use Rattle.amber_meaning.specs.Kinds.{closing_rows, yields_row}
use Rattle.amber_meaning.specs.Total.{gives, arrivals_from, task_constants}
use Rattle.amber_laws.proofs.Bags.{Same, Empty, Join, Part, equal-among, part-among, part-begin, part-both, part-filter, part-filter_map, part-map, part-none, part-self, part-then, same-among, same-both, same-dealt, same-each, same-filter, same-filter_map, same-flat_map, same-map, same-self, same-turned, sent_to}
use Rattle.amber_meaning.proofs.Numbers.{among, are_different, different-below, different-kept}
use Rattle.amber_meaning.proofs.Chunks.{batch_rows}
use Rattle.amber_laws.proofs.Grouping.{group_result-same}

-- ---- what a task gives

built-same : (task : Task) {xs ys : List Arrival} → Same xs ys → Same (built_of task xs) (built_of task ys)
unfolding built_of
built-same task h = same-filter_map (suiting task) (same-filter (λ (one : Arrival). is_builder task one.from) h)

built-part : (task : Task) {xs ys : List Arrival} → Part xs ys → Part (built_of task xs) (built_of task ys)
unfolding built_of
built-part task h = part-filter_map (suiting task) (part-filter (λ (one : Arrival). is_builder task one.from) h)

matches-part : (build_keys probe_keys : List ℕ) (row : List Value) {xs ys : List (List Value)} → Part xs ys
    → Part (matches_of build_keys probe_keys xs row) (matches_of build_keys probe_keys ys row)
unfolding matches_of
matches-part build_keys probe_keys row h =
    part-map (λ other. row ++ other) (part-filter (λ other. same_row (pick_cells build_keys other) (pick_cells probe_keys row)) h)

matches-same : (build_keys probe_keys : List ℕ) (row : List Value) {xs ys : List (List Value)} → Same xs ys
    → Same (matches_of build_keys probe_keys xs row) (matches_of build_keys probe_keys ys row)
unfolding matches_of
matches-same build_keys probe_keys row h =
    same-map (λ other. row ++ other) (same-filter (λ other. same_row (pick_cells build_keys other) (pick_cells probe_keys row)) h)

row-part : (task : Task) (kind : What) (from : ℕ) (constants row : List Value) {xs ys : List Arrival} → Part xs ys
    → Part (yields_row task kind xs from constants row) (yields_row task kind ys from constants row)
row-part task (what.Scan file) from constants row h = part-self _
row-part task (what.Filter input cond) from constants row h = part-self _
row-part task (what.Project input columns) from constants row h = part-self _
row-part task (what.Join build probe build_keys probe_keys) from constants row {xs} {ys} h = by (is_builder task from)
  where
    by : (b : Bool) → Part (if b then [] else matches_of build_keys probe_keys (built_of task xs) row) (if b then [] else matches_of build_keys probe_keys (built_of task ys) row)
    by true = part-self []
    by false = matches-part build_keys probe_keys row (built-part task h)
row-part task (what.Group input keys aggs) from constants row h = part-self _
row-part task (what.Sink input) from constants row h = part-self _

row-same : (task : Task) (kind : What) (from : ℕ) (constants row : List Value) {xs ys : List Arrival} → Same xs ys
    → Same (yields_row task kind xs from constants row) (yields_row task kind ys from constants row)
row-same task (what.Scan file) from constants row h = same-self _
row-same task (what.Filter input cond) from constants row h = same-self _
row-same task (what.Project input columns) from constants row h = same-self _
row-same task (what.Join build probe build_keys probe_keys) from constants row {xs} {ys} h = by (is_builder task from)
  where
    by : (b : Bool) → Same (if b then [] else matches_of build_keys probe_keys (built_of task xs) row) (if b then [] else matches_of build_keys probe_keys (built_of task ys) row)
    by true = same-self []
    by false = matches-same build_keys probe_keys row (built-same task h)
row-same task (what.Group input keys aggs) from constants row h = same-self _
row-same task (what.Sink input) from constants row h = same-self _

pub yields-part : (task : Task) (one : Arrival) (constants : List Value) {xs ys : List Arrival} → Part xs ys → Part (yields task xs one constants) (yields task ys one constants)
unfolding yields
yields-part task one constants {xs} {ys} h = by (suiting task one)
  where
    by : (some : Option (List Value)) → Part (yields_if task xs one.from constants some) (yields_if task ys one.from constants some)
    by None = part-self []
    by (Some row) = row-part task task.kind one.from constants row h

yields-same : (task : Task) (one : Arrival) (constants : List Value) {xs ys : List Arrival} → Same xs ys → Same (yields task xs one constants) (yields task ys one constants)
unfolding yields
yields-same task one constants {xs} {ys} h = by (suiting task one)
  where
    by : (some : Option (List Value)) → Same (yields_if task xs one.from constants some) (yields_if task ys one.from constants some)
    by None = same-self []
    by (Some row) = row-same task task.kind one.from constants row h

closing_rows-same : (kind : What) {xs ys : List (List Value)} → Same xs ys → Same (closing_rows kind xs) (closing_rows kind ys)
closing_rows-same (what.Scan file) h = Empty
closing_rows-same (what.Filter input cond) h = Empty
closing_rows-same (what.Project input columns) h = Empty
closing_rows-same (what.Join build probe build_keys probe_keys) h = Empty
closing_rows-same (what.Group input keys aggs) h = group_result-same keys aggs h
closing_rows-same (what.Sink input) h = Empty

pub closing-same : (task : Task) {xs ys : List Arrival} → Same xs ys → Same (closing task xs) (closing task ys)
unfolding closing
closing-same task h = closing_rows-same task.kind (same-filter_map (suiting task) h)

-- what a task gives does not depend on the order in which things are handed
pub gives-keeps : (task : Task) {xs ys : List Arrival} → Same xs ys → Same (gives task xs) (gives task ys)
unfolding gives
gives-keeps task {xs} {ys} h =
    let each : Same (flat_map (λ one. yields task xs one (task_constants task)) xs) (flat_map (λ one. yields task ys one (task_constants task)) xs) =
    same-each (λ one. yields task xs one (task_constants task)) (λ one. yields task ys one (task_constants task)) (λ one. yields-same task one (task_constants task) h) xs in
    same-both (Join _ _ _ each (same-flat_map (λ one. yields task ys one (task_constants task)) h)) (closing-same task h)

-- what is produced along the first of what was handed is part of what all of it yields
pub produce-part : (task : Task) (before hs all : List Arrival) (constants : List Value) (n : ℕ) → Part (before ++ hs) all
    → Part (produce task before hs (replicate n constants)) (flat_map (λ one. yields task all one constants) hs)
unfolding produce
produce-part task before [] all constants n h = part-self []
produce-part task before (one ∷ more) all constants zero h = part-none _
produce-part task before (one ∷ more) all constants (suc n) h =
    part-both
    (yields-part task one constants (part-then (part-begin before (one ∷ more)) h))
    (produce-part task (before ++ one ∷ []) more all constants n (rw (append_assoc before (one ∷ []) more) h))

-- ---- what a worker is given

pub share-same : (kind : What) (share : List Arrival) {xs ys : List Arrival} → Same xs ys → Same (share_or kind share xs) (share_or kind share ys)
share-same kind share {xs} {ys} h = by (is_scan kind)
  where
    by : (scan : Bool) → Same (if scan then share else xs) (if scan then share else ys)
    by true = same-self share
    by false = h

pub share-part : (kind : What) (share : List Arrival) {xs ys : List Arrival} → Part xs ys → Part (share_or kind share xs) (share_or kind share ys)
share-part kind share {xs} {ys} h = by (is_scan kind)
  where
    by : (scan : Bool) → Part (if scan then share else xs) (if scan then share else ys)
    by true = part-self share
    by false = h

-- one handed list for each sender
abbrev arrivals_each : List ℕ → (ℕ → List (List Value)) → List Arrival
arrivals_each senders rows = flat_map (λ sender. arrivals_from sender (rows sender)) senders

flat_map-flat : {A B C : Type 0} (f : B → List C) (g : A → List B) (xs : List A) → flat_map f (flat_map g xs) ≡ flat_map (λ x. flat_map f (g x)) xs
flat_map-flat f g [] = refl
flat_map-flat f g (x ∷ xs) = flat_map-append f (g x) (flat_map g xs) ∙ ap (λ l. flat_map f (g x) ++ l) (flat_map-flat f g xs)

abbrev taken_sender : Taken → ℕ
taken_sender t = t.from

-- what was taken of one sender
arrivals-one : (taken : List Taken) (sender : ℕ) → flat_map arrivals_of (sent_to taken_sender taken sender) ≡ arrivals_from sender (flat_map batch_rows (taken_from taken sender))
unfolding taken_from
arrivals-one [] sender = refl
arrivals-one (t ∷ taken) sender = by (eqb t.from sender) refl (arrivals-one taken sender)
  where
    by : (b : Bool) → eqb t.from sender ≡ b
        → flat_map arrivals_of (sent_to taken_sender taken sender) ≡ arrivals_from sender (flat_map batch_rows (map (λ (one : Taken). one.batch) (sent_to taken_sender taken sender)))
        → flat_map arrivals_of (cond b (t ∷ sent_to taken_sender taken sender) (sent_to taken_sender taken sender))
        ≡ arrivals_from sender (flat_map batch_rows (map (λ (one : Taken). one.batch) (cond b (t ∷ sent_to taken_sender taken sender) (sent_to taken_sender taken sender))))
    by true e h =
        let first : arrivals_of t ≡ arrivals_from sender t.batch.rows = ap (λ from. arrivals_from from t.batch.rows) (eqb-true t.from sender e) in
        ap (λ l. arrivals_of t ++ l) h
        ∙ ap (λ l. l ++ arrivals_from sender (flat_map batch_rows (map (λ (one : Taken). one.batch) (sent_to taken_sender taken sender)))) first
        ∙ sym (map-append (λ row. record { from = sender; what = Ok row }) t.batch.rows (flat_map batch_rows (map (λ (one : Taken). one.batch) (sent_to taken_sender taken sender))))
    by false e h = h

-- what was taken, sender by sender
pub taken-each : (senders : List ℕ) (taken : List Taken) → are_different senders ≡ true → list_all (λ (t : Taken). among t.from senders) taken ≡ true
    → Same (flat_map arrivals_of taken) (arrivals_each senders (λ sender. flat_map batch_rows (taken_from taken sender)))
taken-each senders taken apart known =
    let split : Same (flat_map arrivals_of taken) (flat_map arrivals_of (flat_map (sent_to taken_sender taken) senders)) =
    same-flat_map arrivals_of (same-turned (same-dealt taken_sender senders apart taken known)) in
    rw (
      flat_map-flat arrivals_of (sent_to taken_sender taken) senders,
      equal-among (λ sender. flat_map arrivals_of (sent_to taken_sender taken sender)) (λ sender. arrivals_from sender (flat_map batch_rows (taken_from taken sender))) senders
          (λ sender h. arrivals-one taken sender),
    ) at split

pub senders-apart : (query : Query) (worker : ℕ) → are_different (role_in query worker).senders ≡ true
unfolding role_of senders_of
senders-apart query worker = different-kept (λ sender. sends_to query.flow sender worker) (numbers_below (crew_of query.flow)) (different-below (crew_of query.flow))

-- streams that are the same, or part of others
pub each-same : (senders : List ℕ) (f g : ℕ → List (List Value)) → ((sender : ℕ) → among sender senders ≡ true → Same (f sender) (g sender))
    → Same (arrivals_each senders f) (arrivals_each senders g)
each-same senders f g h =
    same-among (λ sender. arrivals_from sender (f sender)) (λ sender. arrivals_from sender (g sender)) senders
    (λ sender known. same-map (λ row. record { from = sender; what = Ok row }) (h sender known))

pub each-part : (senders : List ℕ) (f g : ℕ → List (List Value)) → ((sender : ℕ) → among sender senders ≡ true → Part (f sender) (g sender))
    → Part (arrivals_each senders f) (arrivals_each senders g)
each-part senders f g h =
    part-among (λ sender. arrivals_from sender (f sender)) (λ sender. arrivals_from sender (g sender)) senders
    (λ sender known. part-map (λ row. record { from = sender; what = Ok row }) (h sender known))
