-- The steps of a worker and of all workers, against the work that they have.
use Rattle.std.proofs.Common.{◌≡◌, ℕ, zero, suc, ◌+◌, ◌/◌, ◌<◌, ◌≤◌, eqb, List, [], ◌∷◌, length, take, get_or, replicate, Bool, true, false, if◌then◌else◌, refl, sym, ap, ◌∙◌, arith, add-one}
use Rattle.std.specs.List.{list_all, sum_by}
use Rattle.std.proofs.Math.Nat.{div-mul-le_self}
use Rattle.std.proofs.lemmas.Bool.{and_from, and_parts}
use Rattle.std.proofs.lemmas.List.{length-map, length-take-le, take_all}
use Rattle.std.proofs.lemmas.List.Concat.{length-flat_map}
use Rattle.std.proofs.lemmas.List.Folds.{sum_by-replicate}
use Rattle.std.proofs.lemmas.List.Sums.{sum_by_more, sum_by_push}
use Rattle.std.proofs.lemmas.Nat.{le-div}
use Rattle.amber_rows.specs.Lists.{numbers_below}
use Rattle.amber_rows.specs.Topology.{crew_of, receiver_of}
use Rattle.amber_meaning.specs.Laws.{SendersFirst}
use Rattle.amber_meaning.specs.Legal.{Query, batches_for, role_in, stream_of}
use Rattle.amber_meaning.specs.Position.{Position, Taken, emitted_count, emitted_rows, have_ended, is_emitted, one_if, origin, produced_rows, steps_of, taken_from}
use Rattle.amber_meaning.specs.State.{State, position_at, steps_in}
use Rattle.amber_meaning.specs.Task.{Role}
use Rattle.amber_meaning.specs.Total.{dealt_stream, dealt_to, step_total, work_of}
use Rattle.amber_meaning.proofs.Numbers.{among, below-in, in-below}
use Rattle.amber_meaning.proofs.OneState.{position-get_or}
use Rattle.amber_meaning.proofs.Senders.{flows_send_forward}
use Rattle.amber_laws.proofs.Bags.{part-filter, part-length, same-dealt, same-filter, same-length, sent_to, sum-equal, sum-most, sum-whole}
use Rattle.amber_meaning.proofs.Chunks.{front-count}
use Rattle.amber_laws.proofs.Emitted.{emitted-front, emitted-part, ended-given, fed-part, finished-dealt, has-ended, rows-whole, sender-before, stands, taken-begins}
use Rattle.amber_laws.proofs.Finished.{took-all}
use Rattle.amber_laws.proofs.Given.{senders-apart}
use Rattle.amber_laws.proofs.Reached.{IsRun, legal-run, open-run}
use Rattle.amber_laws.proofs.Sound.{IsSound}
use Rattle.amber_laws.specs.StepLaws.{KeepsTotal, OpenLegsTakeOneTotal, SchedulesTakeOneTotal}

-- ---- what is counted

abbrev taken_sender : Taken → ℕ
taken_sender t = t.from

-- batches, sender by sender
batches-each : (query : Query) (state : State) → IsRun query state → (worker : ℕ) → worker < crew_of query.flow
    → length (stands state worker).taken ≡ sum_by (λ sender. length (taken_from (stands state worker).taken sender)) (role_in query worker).senders
unfolding taken_from
batches-each query state run worker less =
    let taken : List Taken = (stands state worker).taken in
    let senders : List ℕ = (role_in query worker).senders in
    let split = same-length (same-dealt taken_sender senders (senders-apart query worker) taken (run.sound worker less).known) in
    sym split ∙ length-flat_map (sent_to taken_sender taken) senders
    ∙ sum-equal (λ sender. length (sent_to taken_sender taken sender)) (λ sender. length (taken_from taken sender)) senders (λ sender known. sym (one taken sender))
  where
    one : (taken : List Taken) (sender : ℕ) → length (taken_from taken sender) ≡ length (sent_to taken_sender taken sender)
    one taken sender = length-map (sent_to taken_sender taken sender) (λ (t : Taken). t.batch)

div-most : (m n size : ℕ) → 0 < size → m ≤ n → m / size ≤ n / size
div-most m n size some h = le-div (m / size) n size some (omega (arith, div-mul-le_self m size))

-- a sender's batches are no more than those of the rows that it is dealt
batches-most : (query : Query) (state : State) → SendersFirst query.flow → IsRun query state → (worker sender : ℕ) → worker < crew_of query.flow
    → among sender (role_in query worker).senders ≡ true
    → length (taken_from (stands state worker).taken sender) ≤ length (dealt_stream query (dealt_to query) worker sender) / query.batch_size + 1
unfolding batches_for stream_of
batches-most query state first run worker sender less known =
    let begins = taken-begins query state run worker sender less known in
    let before = sender-before query first worker sender known in
    let few = front-count query.batch_size (stream_of query state.positions sender worker) (stands state sender).finished
    (taken_from (stands state worker).taken sender) begins.0 begins.1 in
    let shorter = part-length (part-filter (λ row. eqb (receiver_of query.flow sender row) worker) (emitted-part query state first run sender (omega arith))) in
    let most = div-most (length (stream_of query state.positions sender worker)) (length (dealt_stream query (dealt_to query) worker sender)) query.batch_size run.some shorter in
    omega arith

-- and as many once all were taken
batches-whole : (query : Query) (state : State) → SendersFirst query.flow → IsRun query state → (worker sender : ℕ) → worker < crew_of query.flow
    → have_ended (role_in query worker).senders (stands state worker).taken ≡ true → among sender (role_in query worker).senders ≡ true
    → length (taken_from (stands state worker).taken sender) ≡ length (dealt_stream query (dealt_to query) worker sender) / query.batch_size + 1
batches-whole query state first run worker sender less ended known =
    let whole = rows-whole query state run worker sender less known (has-ended (role_in query worker).senders (stands state worker).taken sender ended known) in
    let before = sender-before query first worker sender known in
    let dealt = finished-dealt query state first run sender (omega arith) whole.over in
    let same = same-length (same-filter (λ row. eqb (receiver_of query.flow sender row) worker) dealt) in
    whole.count ∙ ap (λ n. n / query.batch_size + 1) same

-- rows that were emitted
emitted-count : (role : Role) (p : Position) → IsSound role p → emitted_count p.outcomes ≡ length (emitted_rows role p)
emitted-count role p s =
    let gone : emitted_count (replicate (length p.outcomes) true) ≡ length p.outcomes =
    omega (arith, sum_by-replicate (λ outcome. if is_emitted outcome then 1 else 0) (length p.outcomes) true) in
    ap emitted_count s.all_kept ∙ gone
    ∙ sym (ap length (emitted-front role p s) ∙ length-take-le (length p.outcomes) (produced_rows role p) s.produced)

-- ---- one worker

one_if-most : (b : Bool) → one_if b ≤ 1
one_if-most true = omega arith
one_if-most false = omega arith

-- without the end
worker-counts : (query : Query) (state : State) → SendersFirst query.flow → IsRun query state → (worker : ℕ) → worker < crew_of query.flow
    → steps_of (stands state worker) + 1 ≤ work_of query worker + one_if (stands state worker).finished
unfolding work_of
worker-counts query state first run worker less =
    let role = role_in query worker in
    let p : Position = stands state worker in
    let sound = run.sound worker less in
    let taken = part-length (fed-part query state first run worker less) in
    let within = sound.within in
    let emitted = part-length (emitted-part query state first run worker less) in
    let counted = emitted-count role p sound in
    let each = batches-each query state run worker less in
    let most = sum-most (λ sender. length (taken_from p.taken sender)) (λ sender. length (dealt_stream query (dealt_to query) worker sender) / query.batch_size + 1) role.senders
    (λ sender known. batches-most query state first run worker sender less known) in
    omega arith

-- a worker makes at most the steps that it has to
worker-most : (query : Query) (state : State) → SendersFirst query.flow → IsRun query state → (worker : ℕ) → worker < crew_of query.flow
    → steps_of (stands state worker) ≤ work_of query worker
worker-most query state first run worker less =
    let counts = worker-counts query state first run worker less in
    let most = one_if-most (stands state worker).finished in
    omega arith

-- all of them once it has finished
worker-whole : (query : Query) (state : State) → SendersFirst query.flow → IsRun query state → (worker : ℕ) → worker < crew_of query.flow
    → (stands state worker).finished ≡ true → steps_of (stands state worker) ≡ work_of query worker
unfolding work_of
worker-whole query state first run worker less e =
    let role = role_in query worker in
    let p : Position = stands state worker in
    let sound = run.sound worker less in
    let ended = sound.ended e in
    let taken = same-length (ended-given query state first run worker less ended) in
    let all = took-all role p sound e in
    let emitted = same-length (finished-dealt query state first run worker less e) in
    let counted = emitted-count role p sound in
    let each = batches-each query state run worker less in
    let whole = sum-equal (λ sender. length (taken_from p.taken sender)) (λ sender. length (dealt_stream query (dealt_to query) worker sender) / query.batch_size + 1) role.senders
    (λ sender known. batches-whole query state first run worker sender less ended known) in
    let over = ap one_if e in
    omega arith

-- and only then
worker-over : (query : Query) (state : State) → SendersFirst query.flow → IsRun query state → (worker : ℕ) → worker < crew_of query.flow
    → steps_of (stands state worker) ≡ work_of query worker → (stands state worker).finished ≡ true
worker-over query state first run worker less e =
    let counts = worker-counts query state first run worker less in
    by (stands state worker).finished counts
  where
    by : (b : Bool) → steps_of (stands state worker) + 1 ≤ work_of query worker + one_if b → b ≡ true
    by true counts = refl
    by false counts = absurd (omega arith)

-- ---- all workers

sum-places : {A : Type 0} (f : A → ℕ) (xs : List A) (d : A) (n : ℕ) → n ≤ length xs → sum_by f (take n xs) ≡ sum_by (λ k. f (get_or xs k d)) (numbers_below n)
unfolding numbers_below
sum-places f xs d zero h = refl
sum-places f xs d (suc n) h =
    rw (← add-one n) (sum_by_more f xs n d (omega arith))
    ∙ ap (λ m. m + f (get_or xs n d)) (sum-places f xs d n (omega arith))
    ∙ sym (sum_by_push (λ k. f (get_or xs k d)) (numbers_below n) n)

steps-each : (positions : List Position) → sum_by steps_of positions ≡ sum_by (λ worker. steps_of (position_at positions worker)) (numbers_below (length positions))
steps-each positions =
    ap (sum_by steps_of) (sym (take_all (length positions) positions (omega arith)))
    ∙ sum-places steps_of positions origin (length positions) (omega arith)
    ∙ sum-equal (λ k. steps_of (get_or positions k origin)) (λ worker. steps_of (position_at positions worker)) (numbers_below (length positions))
    (λ worker known. ap steps_of (sym (position-get_or positions worker)))

pub all-at : (positions : List Position) (n : ℕ) → list_all (λ (p : Position). p.finished) positions ≡ true → n < length positions → (get_or positions n origin).finished ≡ true
all-at [] n e h = absurd (omega arith)
all-at (p ∷ positions) zero e h = (and_parts p.finished _ e).0
all-at (p ∷ positions) (suc n) e h = all-at positions n (and_parts p.finished _ e).1 (omega arith)

all-from : (positions : List Position) → ((n : ℕ) → n < length positions → (get_or positions n origin).finished ≡ true) → list_all (λ (p : Position). p.finished) positions ≡ true
all-from [] h = refl
all-from (p ∷ positions) h = and_from _ _ (h 0 (omega arith)) (all-from positions (λ n less. h (suc n) (omega arith)))

run-total : (query : Query) (state : State) → SendersFirst query.flow → IsRun query state → KeepsTotal query state
unfolding steps_in step_total
run-total query state first run =
    let each : sum_by steps_of state.positions ≡ sum_by (λ worker. steps_of (stands state worker)) (numbers_below (crew_of query.flow)) =
    steps-each state.positions ∙ ap (λ n. sum_by (λ worker. steps_of (stands state worker)) (numbers_below n)) run.crew in
    let most = λ (worker : ℕ) (known : among worker (numbers_below (crew_of query.flow)) ≡ true). worker-most query state first run worker (below-in (crew_of query.flow) worker known) in
    let few = sum-most (λ worker. steps_of (stands state worker)) (work_of query) (numbers_below (crew_of query.flow)) most in (
      omega arith,
      (
        λ same. all-from state.positions (λ worker less.
            let below : worker < crew_of query.flow = omega (arith, run.crew) in
            rw (← position-get_or state.positions worker)
            (worker-over query state first run worker below
            (sum-whole (λ worker. steps_of (stands state worker)) (work_of query) (numbers_below (crew_of query.flow)) most (sym each ∙ same) worker (in-below (crew_of query.flow) worker below)))),
        λ over. each ∙ sum-equal (λ worker. steps_of (stands state worker)) (work_of query) (numbers_below (crew_of query.flow))
            (λ worker known.
            let below = below-in (crew_of query.flow) worker known in
            worker-whole query state first run worker below
            (rw (position-get_or state.positions worker) (all-at state.positions worker over (omega (arith, run.crew))))),
      ),
    )

pub schedules_take_one_total : SchedulesTakeOneTotal
schedules_take_one_total query log flow plain legal = run-total query legal.after (flows_send_forward query.flow flow) (legal-run query log legal plain)

pub open_legs_take_one_total : OpenLegsTakeOneTotal
open_legs_take_one_total query log to_end parts flow plain leg = run-total query leg.now (flows_send_forward query.flow flow) (open-run query log to_end parts leg plain)
