-- What workers have emitted and taken, against what they are dealt: a finished worker all of it, any other part of it.
use Rattle.std.proofs.Common.{◌≡◌, ℕ, zero, suc, ◌<◌, eqb, List, [], ◌∷◌, length, take, drop, replicate, Bool, true, false, if◌then◌else◌, refl, ap, ◌∙◌, arith}
use Rattle.std.specs.List.{flat_map}
use Rattle.std.proofs.lemmas.Bool.{and_parts}
use Rattle.std.proofs.lemmas.List.{take-append-drop}
use Rattle.amber_rows.specs.Topology.{crew_of, receiver_of}
use Rattle.amber_rows.specs.declared.value.Value.{Value}
use Rattle.amber_meaning.specs.Laws.{SendersFirst}
use Rattle.amber_meaning.specs.Legal.{AreOffered, Query, batches_for, role_in, stream_of}
use Rattle.amber_rows.specs.Lists.{IsPrefix}
use Rattle.amber_meaning.specs.Plan.{role_of}
use Rattle.amber_meaning.specs.Position.{Position, Taken, emitted_rows, all_arrivals, has_last, have_ended, is_complete, kept, produced_rows, product, share_or, taken_from}
use Rattle.amber_meaning.specs.State.{State, first_constants, position_at}
use Rattle.amber_meaning.specs.Task.{Arrival, Role}
use Rattle.amber_meaning.specs.Produce.{closing, produce, yields}
use Rattle.amber_meaning.specs.Total.{dealt_stream, dealt_to, total_arrivals, gives, arrivals_from, task_constants}
use Rattle.amber_meaning.specs.Views.{taken_of}
use Rattle.amber_meaning.proofs.Numbers.{among}
use Rattle.amber_meaning.proofs.Lists.{list_all-member}
use Rattle.amber_laws.proofs.Bags.{Join, Part, Same, part-begin, part-both, part-filter, part-flat_map, part-none, part-same, part-then, same-filter}
use Rattle.amber_meaning.proofs.Chunks.{IsWhole, batch_rows, front-rows, front-whole}
use Rattle.amber_laws.proofs.Dealt.{dealt-from}
use Rattle.amber_laws.proofs.Finished.{emitted-whole, flat_map-same, taken-all, yields-constant}
use Rattle.amber_laws.proofs.Given.{closing-same, each-part, each-same, gives-keeps, produce-part, senders-apart, share-part, share-same, taken-each}
use Rattle.amber_laws.proofs.Reached.{IsRun}
use Rattle.amber_laws.proofs.Sound.{IsSound}

-- the position of a worker
abbrev pub stands : State → ℕ → Position
stands state worker = position_at state.positions worker

-- the rows that a worker has emitted
abbrev pub emitted_at : Query → State → ℕ → List (List Value)
emitted_at query state worker = emitted_rows (role_in query worker) (stands state worker)

-- the rows that a worker has taken of a sender, with those of its open batch
abbrev pub rows_taken : State → ℕ → ℕ → List (List Value)
rows_taken state worker sender = flat_map batch_rows (taken_from (stands state worker).taken sender)

-- the batches that were taken of a sender are the first that it has made
pub taken-begins : (query : Query) (state : State) → IsRun query state → (worker sender : ℕ) → worker < crew_of query.flow
    → among sender (role_in query worker).senders ≡ true
    → IsPrefix (taken_from (stands state worker).taken sender) (batches_for query state.positions sender worker)
unfolding AreOffered
taken-begins query state run worker sender less known = run.offered worker less sender known

-- their rows are a front of what it has emitted for this worker
pub rows-front : (query : Query) (state : State) → IsRun query state → (worker sender : ℕ) → worker < crew_of query.flow
    → among sender (role_in query worker).senders ≡ true
    → Part (rows_taken state worker sender) (dealt_stream query (emitted_at query state) worker sender)
unfolding batches_for stream_of
rows-front query state run worker sender less known =
    let begins = taken-begins query state run worker sender less known in
    let front = front-rows query.batch_size (stream_of query state.positions sender worker) (stands state sender).finished
    (taken_from (stands state worker).taken sender) begins.0 run.some begins.1 in
    rw (← front.1) (part-begin (rows_taken state worker sender) front.0)

-- with the last one they are all
pub rows-whole : (query : Query) (state : State) → IsRun query state → (worker sender : ℕ) → worker < crew_of query.flow
    → among sender (role_in query worker).senders ≡ true → has_last (stands state worker).taken sender ≡ true
    → IsWhole query.batch_size (dealt_stream query (emitted_at query state) worker sender) (stands state sender).finished (taken_from (stands state worker).taken sender)
unfolding batches_for stream_of
rows-whole query state run worker sender less known last =
    let begins = taken-begins query state run worker sender less known in
    front-whole query.batch_size (stream_of query state.positions sender worker) (stands state sender).finished
    (taken_from (stands state worker).taken sender) begins.0 run.some begins.1 last

pub has-ended : (senders : List ℕ) (taken : List Taken) (sender : ℕ) → have_ended senders taken ≡ true → among sender senders ≡ true → has_last taken sender ≡ true
unfolding have_ended
has-ended senders taken sender e known = list_all-member (has_last taken) senders sender e known

-- what a worker was handed, sender by sender
fed-each : (query : Query) (state : State) → IsRun query state → (worker : ℕ) → worker < crew_of query.flow
    → Same (all_arrivals (role_in query worker) (stands state worker).taken)
    (share_or (role_in query worker).task.kind (role_in query worker).share
    (flat_map (λ sender. arrivals_from sender (rows_taken state worker sender)) (role_in query worker).senders))
unfolding all_arrivals
fed-each query state run worker less =
    share-same (role_in query worker).task.kind (role_in query worker).share
    (taken-each (role_in query worker).senders (stands state worker).taken (senders-apart query worker) (run.sound worker less).known)

-- ---- whole

-- a worker that was sent all batches, by senders that have emitted what they are dealt, was handed what it is given
given-by : (query : Query) (state : State) → IsRun query state → (worker : ℕ) → worker < crew_of query.flow
    → have_ended (role_in query worker).senders (stands state worker).taken ≡ true
    → ((sender : ℕ) → among sender (role_in query worker).senders ≡ true → (stands state sender).finished ≡ true → Same (emitted_at query state sender) (dealt_to query sender))
    → Same (all_arrivals (role_in query worker) (stands state worker).taken) (total_arrivals query (dealt_to query) worker)
unfolding total_arrivals
given-by query state run worker less ended dealt =
    let role = role_in query worker in
    Join _ _ _ (fed-each query state run worker less)
    (share-same role.task.kind role.share
    (each-same role.senders (rows_taken state worker) (dealt_stream query (dealt_to query) worker)
    (λ sender known.
    let whole = rows-whole query state run worker sender less known (has-ended role.senders (stands state worker).taken sender ended known) in
    rw whole.rows (same-filter (λ row. eqb (receiver_of query.flow sender row) worker) (dealt sender known whole.over)))))

pub sender-before : (query : Query) → SendersFirst query.flow → (worker sender : ℕ) → among sender (role_in query worker).senders ≡ true → sender < worker
unfolding role_of
sender-before query first worker sender known = first worker sender known

finished-below : (query : Query) (state : State) → SendersFirst query.flow → IsRun query state → (n worker : ℕ) → worker < n → worker < crew_of query.flow
    → (stands state worker).finished ≡ true → Same (emitted_at query state worker) (dealt_to query worker)
finished-below query state first run zero worker below less e = absurd (omega arith)
finished-below query state first run (suc n) worker below less e =
    let role = role_in query worker in
    let sound = run.sound worker less in
    let arrivals = given-by query state run worker less (sound.ended e)
    (λ sender known over.
    let before = sender-before query first worker sender known in
    finished-below query state first run n sender (omega arith) (omega arith) over) in
    rw (emitted-whole role (stands state worker) sound e, dealt-from query first worker less) (gives-keeps role.task arrivals)

-- a finished worker has emitted the rows that it is dealt
pub finished-dealt : (query : Query) (state : State) → SendersFirst query.flow → IsRun query state → (worker : ℕ) → worker < crew_of query.flow
    → (stands state worker).finished ≡ true → Same (emitted_at query state worker) (dealt_to query worker)
finished-dealt query state first run worker less e = finished-below query state first run (suc worker) worker (omega arith) less e

-- a worker of which all batches were sent and taken was handed what it is given
pub ended-given : (query : Query) (state : State) → SendersFirst query.flow → IsRun query state → (worker : ℕ) → worker < crew_of query.flow
    → have_ended (role_in query worker).senders (stands state worker).taken ≡ true
    → Same (all_arrivals (role_in query worker) (stands state worker).taken) (total_arrivals query (dealt_to query) worker)
ended-given query state first run worker less ended =
    given-by query state run worker less ended
    (λ sender known over.
    let before = sender-before query first worker sender known in
    finished-dealt query state first run sender (omega arith) over)

-- a finished worker has taken what it is given
pub finished-given : (query : Query) (state : State) → SendersFirst query.flow → IsRun query state → (worker : ℕ) → worker < crew_of query.flow
    → (stands state worker).finished ≡ true → Same (taken_of (role_in query worker) (stands state worker)) (total_arrivals query (dealt_to query) worker)
finished-given query state first run worker less e =
    let sound = run.sound worker less in
    rw (taken-all (role_in query worker) (stands state worker) sound e) (ended-given query state first run worker less (sound.ended e))

-- ---- part

part-by : (query : Query) (state : State) → IsRun query state → (worker : ℕ) → worker < crew_of query.flow
    → ((sender : ℕ) → among sender (role_in query worker).senders ≡ true → Part (emitted_at query state sender) (dealt_to query sender))
    → Part (all_arrivals (role_in query worker) (stands state worker).taken) (total_arrivals query (dealt_to query) worker)
unfolding total_arrivals
part-by query state run worker less dealt =
    let role = role_in query worker in
    part-then (part-same (fed-each query state run worker less))
    (share-part role.task.kind role.share
    (each-part role.senders (rows_taken state worker) (dealt_stream query (dealt_to query) worker)
    (λ sender known.
    part-then (rows-front query state run worker sender less known)
    (part-filter (λ row. eqb (receiver_of query.flow sender row) worker) (dealt sender known)))))

-- what was produced is part of what all yields
product-part : (role : Role) (p : Position) (all : List Arrival) → IsSound role p → Part (all_arrivals role p.taken) all
    → (have_ended role.senders p.taken ≡ true → Same (all_arrivals role p.taken) all) → Part (produced_rows role p) (gives role.task all)
unfolding product gives
product-part role p all s part whole =
    part-both first (by (is_complete role p.taken (length p.constants)) refl)
  where
    own : flat_map (λ one. yields role.task all one (first_constants role.task.kind)) (all_arrivals role p.taken)
        ≡ flat_map (λ one. yields role.task all one (task_constants role.task)) (all_arrivals role p.taken)
    own = flat_map-same (λ one. yields role.task all one (first_constants role.task.kind)) (λ one. yields role.task all one (task_constants role.task))
        (yields-constant role.task all) (all_arrivals role p.taken)

    so-far : Part (produce role.task [] (all_arrivals role p.taken) (replicate (length p.constants) (first_constants role.task.kind)))
        (flat_map (λ one. yields role.task all one (task_constants role.task)) (all_arrivals role p.taken))
    so-far = rw (← own) (produce-part role.task [] (all_arrivals role p.taken) all (first_constants role.task.kind) (length p.constants) part)

    first : Part (produce role.task [] (all_arrivals role p.taken) p.constants) (flat_map (λ one. yields role.task all one (task_constants role.task)) all)
    first = part-then (rw s.steady so-far) (part-flat_map (λ one. yields role.task all one (task_constants role.task)) part)

    by : (b : Bool) → is_complete role p.taken (length p.constants) ≡ b → Part (if b then closing role.task (all_arrivals role p.taken) else []) (closing role.task all)
    by true e = part-same (closing-same role.task (whole (and_parts _ _ e).0))
    by false e = part-none (closing role.task all)

kept-front : {A : Type 0} (xs : List A) (n : ℕ) → kept xs (replicate n true) ≡ take n xs
unfolding kept
kept-front [] zero = refl
kept-front [] (suc n) = refl
kept-front (x ∷ xs) zero = refl
kept-front (x ∷ xs) (suc n) = ap (λ l. x ∷ l) (kept-front xs n)

-- the emitted rows are the first that were produced
pub emitted-front : (role : Role) (p : Position) → IsSound role p → emitted_rows role p ≡ take (length p.outcomes) (produced_rows role p)
emitted-front role p s = ap (kept (produced_rows role p)) s.all_kept ∙ kept-front (produced_rows role p) (length p.outcomes)

emitted-below : (query : Query) (state : State) → SendersFirst query.flow → IsRun query state → (n worker : ℕ) → worker < n → worker < crew_of query.flow
    → Part (emitted_at query state worker) (dealt_to query worker)
emitted-below query state first run zero worker below less = absurd (omega arith)
emitted-below query state first run (suc n) worker below less =
    let role = role_in query worker in
    let sound = run.sound worker less in
    let arrivals = part-by query state run worker less
    (λ sender known.
    let before = sender-before query first worker sender known in
    emitted-below query state first run n sender (omega arith) (omega arith)) in
    let made = product-part role (stands state worker) (total_arrivals query (dealt_to query) worker) sound arrivals (ended-given query state first run worker less) in
    let produced : List (List Value) = produced_rows role (stands state worker) in
    let gone : ℕ = length (stands state worker).outcomes in
    let begin : Part (take gone produced) produced = rw (take-append-drop gone produced) at (part-begin (take gone produced) (drop gone produced)) in
    rw (emitted-front role (stands state worker) sound, dealt-from query first worker less) (part-then begin made)

-- what a worker has emitted is part of what it is dealt
pub emitted-part : (query : Query) (state : State) → SendersFirst query.flow → IsRun query state → (worker : ℕ) → worker < crew_of query.flow
    → Part (emitted_at query state worker) (dealt_to query worker)
emitted-part query state first run worker less = emitted-below query state first run (suc worker) worker (omega arith) less

-- what a worker was handed is part of what it is given
pub fed-part : (query : Query) (state : State) → SendersFirst query.flow → IsRun query state → (worker : ℕ) → worker < crew_of query.flow
    → Part (all_arrivals (role_in query worker) (stands state worker).taken) (total_arrivals query (dealt_to query) worker)
fed-part query state first run worker less =
    part-by query state run worker less
    (λ sender known.
    let before = sender-before query first worker sender known in
    emitted-part query state first run sender (omega arith))
