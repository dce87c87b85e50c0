-- The workers of one operator are armed on a new board, after they were disarmed or when they had none.
use Rattle.std.proofs.Common.{◌≡◌, ◌≢◌, refl, sym, ap, subst, ◌∙◌, ℕ, ◌+◌, ◌-◌, ◌^◌, ◌<◌, ◌≤◌, ◌==◌, ◌&&◌, ◌++◌, length, List, [], ◌∷◌, All, Some, Bool, true, false, is_some, if◌then◌else◌, inl, inr, arith, zero-add}
use Rattle.std.proofs.lemmas.Bool.{and_parts, cases_lt, eq-eqb, eqb-true, ne_eqb}
use Rattle.std.proofs.lemmas.Bool.Decides.{eqb_tells}
use Rattle.std.proofs.lemmas.List.Elements.{All-from_get_or, All-from_recursion}
use Rattle.std.proofs.lemmas.List.Sums.{sum_by-cons}
use Rattle.amber_rows.specs.Topology.{crew_of, first_worker_of, op_of, worker_count, workers_of}
use Rattle.amber_rows.specs.declared.flow.Operator.{Operator}
use Rattle.amber_meaning.proofs.Crews.{own-worker, worker-known, worker-op, worker-within}
use Rattle.amber_meaning.proofs.Numbers.{among, among-first, among-more}
use Rattle.amber_board.specs.declared.types.Board.{Board}
use Rattle.amber_board.specs.declared.types.ChiefSeat.{ChiefSeat}
use Rattle.amber_board.specs.declared.types.WorkSeat.{WorkSeat}
use Rattle.amber_board.specs.declared.view.View.{View}
use Rattle.amber_board.specs.Opening.{AreDealt, Opening}
use Rattle.amber_board.specs.Seats.{target_of, work_view}
use Rattle.amber_log.specs.declared.entry.Entry.{Entry}
use Rattle.amber_log.specs.declared.entry.Entry.TheVariants as entry
use Rattle.amber_worker.specs.Changes.{disarmed_at}
use Rattle.amber_worker.specs.Counting.{mine_in, with_back, with_grant}
use Rattle.amber_worker.specs.WorkerState.{WorkerState, is_armed, is_starved, needs_unit}
use Rattle.amber_dataflow.specs.AtWork.{units_at, worker_state_at}
use Rattle.amber_dataflow.specs.Dataflow.{AreAllThere, DataflowState, hand_of, has_finished, has_room, is_short, journal_of, rows_emitted, seat_of, units_counted}
use Rattle.amber_boards.specs.declared.target.Target.{Target}
use Rattle.amber_boards.specs.Boards.{AreForWorking, AreUnarmedAt, ArmsOperator, CounterState, DisarmsOperator, HasLeft, HasSeat, IsArmedNow, IsCountedOn, IsMadeSo, IsSameButUnits, IsSince, IsWorkerOf, Seating, WritesBack}
use Rattle.amber_boards.proofs.OthersKept.{finished-same, nobody-there, rows-same, worker-before}

-- ---- one worker

-- it has written what it was granted
armed-journal : (board : Board) (hand : ℕ) (old new : WorkerState) → IsArmedNow board hand old new → new.journal ≡ with_grant hand old.journal
armed-journal board hand old new armed = ap (λ (w : WorkerState). w.journal) armed.is ∙ ap (λ n. with_grant n old.journal) armed.hand_is

-- and has it in hand
armed-hand : (board : Board) (hand : ℕ) (old new : WorkerState) → IsArmedNow board hand old new → new.restraint.hand ≡ hand
armed-hand board hand old new armed = ap (λ (w : WorkerState). w.restraint.hand) armed.is ∙ armed.hand_is

-- it has counted nothing
armed-mine : (board : Board) (hand : ℕ) (old new : WorkerState) → IsArmedNow board hand old new → mine_in new.seat ≡ 0
armed-mine board hand old new armed = ap (λ (w : WorkerState). mine_in w.seat) armed.is ∙ armed.none

-- nothing granted, nothing given back: nothing written
no-grant : (hand : ℕ) (journal : List Entry) → hand ≡ 0 → with_grant hand journal ≡ journal
no-grant hand journal none = ap (λ n. with_grant n journal) none

no-back : (hand : ℕ) (journal : List Entry) → hand ≡ 0 → with_back hand journal ≡ journal
no-back hand journal none = ap (λ n. with_back n journal) none

-- units that were granted are written down
some-grant : (hand : ℕ) (journal : List Entry) → 0 < hand → with_grant hand journal ≡ journal ++ entry.Grant hand ∷ []
some-grant hand journal some = ap (λ b. if b then journal else journal ++ entry.Grant hand ∷ []) (ne_eqb hand 0 (λ none. absurd (omega arith)))

-- a condition that does not hold
never : (a b c : Bool) → b ≡ false → ((a && b) && c) ≡ false
never true b c without = ap (λ x. x && c) without
never false b c without = refl

-- with a unit in hand it needs none
fed : (w : WorkerState) → 0 < w.restraint.hand → needs_unit w ≡ false
fed w some = never (is_armed w) (w.restraint.hand == 0) _ (ne_eqb w.restraint.hand 0 (λ none. absurd (omega arith)))

-- who needs a unit has none in hand
short-hand : (w : WorkerState) → needs_unit w ≡ true → w.restraint.hand ≡ 0
short-hand w short = eqb-true w.restraint.hand 0 (and_parts (is_armed w) (w.restraint.hand == 0) (and_parts (is_starved w) _ short).0).1

-- and has a seat
short-armed : (w : WorkerState) → needs_unit w ≡ true → is_armed w ≡ true
short-armed w short = (and_parts (is_armed w) (w.restraint.hand == 0) (and_parts (is_starved w) _ short).0).0

-- so it is with a worker of several
pub hand-empty : (d : DataflowState) (worker : ℕ) → is_short d worker ≡ true → hand_of d worker ≡ 0
unfolding is_short hand_of
hand-empty d worker short = short-hand (worker_state_at d.workers worker) short

pub short-seat : (d : DataflowState) (worker : ℕ) → is_short d worker ≡ true → is_some (seat_of d worker) ≡ true
unfolding is_short seat_of
short-seat d worker short = short-armed (worker_state_at d.workers worker) short

-- ---- seats that were dealt

-- they have counted nothing
pub dealt-empty : (board : Board) (dealt : List WorkSeat) (given : ℕ → ℕ) → AreDealt board dealt given → All (λ seat. (work_view seat).mine ≡ 0) dealt
dealt-empty board [] given is = All-from_recursion (λ (one : WorkSeat). (work_view one).mine ≡ 0) [] tt
dealt-empty board (seat ∷ more) given is =
    All-from_get_or (λ (one : WorkSeat). (work_view one).mine ≡ 0) (seat ∷ more) seat (λ place less. ap (λ (v : View). v.mine) (is place seat less).1)

-- ---- all workers of the operator

-- each has its place
pub worker-place : (d : DataflowState) (op worker : ℕ) → IsWorkerOf d op worker → (first_worker_of d.flow op ≤ worker) × (worker < first_worker_of d.flow op + worker_count d.flow op)
worker-place d op worker is = worker-within d.flow op worker (subst (λ n. among worker (workers_of d.flow n) ≡ true) is.1 (own-worker d.flow worker is.0))

-- who have counted nothing have counted nothing together
no-units : (crew : List WorkerState) (workers : List ℕ) → ((worker : ℕ) → among worker workers ≡ true → mine_in (worker_state_at crew worker).seat ≡ 0) → units_at crew workers ≡ 0
no-units crew [] none = refl
no-units crew (worker ∷ more) none =
    sum_by-cons (λ w. mine_in (worker_state_at crew w).seat) worker more
    ∙ ap (λ n. n + units_at crew more) (none worker (among-first worker more))
    ∙ zero-add (units_at crew more)
    ∙ no-units crew more (λ w known. none w (among-more w worker more known))

module _ (seating : Seating) (old new : DataflowState) (arms : ArmsOperator seating old new) where
  -- one that was armed
  pub armed-worker : (worker : ℕ) → IsWorkerOf old seating.op worker
      → IsArmedNow seating.board (seating.given (worker - first_worker_of old.flow seating.op)) (worker_state_at old.workers worker) (worker_state_at new.workers worker)
  armed-worker worker is =
      let first = first_worker_of old.flow seating.op in
      let within = worker-place old seating.op worker is in
      let low = within.0 in
      let high = within.1 in
      let back : first + (worker - first) ≡ worker = omega arith in
      subst (λ w. IsArmedNow seating.board (seating.given (worker - first)) (worker_state_at old.workers w) (worker_state_at new.workers w)) back
      (arms.here (worker - first) (omega arith))

  -- it has a seat of the board
  armed-seat : (worker : ℕ) → IsWorkerOf old seating.op worker → HasSeat seating.board new worker
  unfolding seat_of has_room
  armed-seat worker is =
      let armed = armed-worker worker is in
      record {
        seat = armed.seat;
        is = ap (λ (w : WorkerState). w.seat) armed.is;
        own = armed.own;
        room = ap (λ (w : WorkerState). w.reserved) armed.is;
      }

  -- they have counted nothing together
  none-counted : units_counted new seating.op ≡ 0
  unfolding units_counted
  none-counted =
      ap (λ f. units_at new.workers (workers_of f seating.op)) arms.change.flow
      ∙ no-units new.workers (workers_of old.flow seating.op) (λ worker known.
      let is : IsWorkerOf old seating.op worker = (worker-known old.flow seating.op worker known, worker-op old.flow seating.op worker known) in
      let armed = armed-worker worker is in
      armed-mine seating.board (seating.given (worker - first_worker_of old.flow seating.op)) (worker_state_at old.workers worker) (worker_state_at new.workers worker) armed)

-- a count is counted on a board that was made for what is left to its target
pub counted-now : (counter : CounterState) (chief : ChiefSeat) (dealt : List WorkSeat) (opening : Opening) (op : ℕ) (old new : DataflowState) → IsMadeSo counter chief dealt opening
    → opening.workers ≡ worker_count old.flow op → ArmsOperator (record { board = counter.board; op = op; given = opening.given }) old new
    → IsSince counter.target (rows_emitted old op) → opening.target + rows_emitted old op ≡ counter.target.target + counter.target.since → IsCountedOn counter op new
counted-now counter chief dealt opening op old new made workers arms since left =
    let seating : Seating = record { board = counter.board; op = op; given = opening.given } in
    let rows = rows-same old new arms.change.flow arms.change.same op in
    let none = none-counted seating old new arms in
    let count : opening.workers ≡ worker_count new.flow op = workers ∙ ap (λ f. worker_count f op) (sym arms.change.flow) in
    let target = made.made.target in
    record {
      workers = made.made.workers ∙ count;
      none = made.none;
      room = subst (λ n. n ≤ counter.room) count made.room;
      seats = λ worker is. armed-seat seating old new arms worker (worker-before old new op worker arms.change.flow is);
      since = record { since = subst (λ n. counter.target.since ≤ n) (sym rows) since.since; few = since.few };
      units = omega arith;
    }

-- ---- empty hands

-- nothing is given to anyone, so all may have finished
pub for-nobody : (board : Board) (d : DataflowState) (op : ℕ) (dealt : List WorkSeat) → AreDealt board dealt (λ place. 0) → AreForWorking d op dealt
for-nobody board d op dealt is place one less some = let none = ap (λ (v : View). v.hand) (is place one less).1 in absurd (omega arith)

-- nobody has written anything
pub silent : (board : Board) (op : ℕ) (old new : DataflowState) → AreAllThere old → ArmsOperator (record { board = board; op = op; given = λ place. 0 }) old new
    → (worker : ℕ) → journal_of new worker ≡ journal_of old worker
unfolding journal_of
silent board op old new all arms worker =
    elim (cases_lt worker (crew_of old.flow)) [
      | inr beyond ↦
          let end : length old.workers ≤ worker = omega arith in
          ap (λ (w : WorkerState). w.journal) (nobody-there old new worker arms.change.long end)
      | inl there ↦
          elim (eqb_tells (op_of old.flow worker) op) [
            | inl same ↦
                armed-journal board 0 (worker_state_at old.workers worker) (worker_state_at new.workers worker)
                (armed-worker (record { board = board; op = op; given = λ place. 0 }) old new arms worker (there, same.1))
            | inr other ↦ ap (λ (w : WorkerState). w.journal) (arms.change.others worker other.1)
          ]
    ]

-- ---- one hand with all units

-- so many at one place
abbrev pub given_at : ℕ → ℕ → ℕ → ℕ
given_at place units = λ w. if w == place then units else 0

-- it has them
given-here : (place units : ℕ) → given_at place units place ≡ units
given-here place units = ap (λ b. if b then units else 0) (eq-eqb place place refl)

-- the others have none
given-there : (place units other : ℕ) → other ≢ place → given_at place units other ≡ 0
given-there place units other apart = ap (λ b. if b then units else 0) (ne_eqb other place apart)

-- they are for a worker that has not finished
pub for-worker : (board : Board) (d : DataflowState) (op place units : ℕ) (dealt : List WorkSeat) → AreDealt board dealt (given_at place units)
    → has_finished d (first_worker_of d.flow op + place) ≡ false → AreForWorking d op dealt
for-worker board d op place units dealt is unfinished k one less some =
    elim (eqb_tells k place) [
      | inl same ↦ subst (λ n. has_finished d (first_worker_of d.flow op + n) ≡ false) (sym same.1) unfinished
      | inr other ↦
          let hand = ap (λ (v : View). v.hand) (is k one less).1 in
          let none = given-there place units k other.1 in
          absurd (omega arith)
    ]

module _ (board : Board) (worker place units : ℕ) (old mid new : DataflowState) (there : worker < crew_of old.flow)
    (place-is : place ≡ worker - first_worker_of old.flow (op_of old.flow worker)) (disarms : DisarmsOperator (op_of old.flow worker) old mid)
    (arms : ArmsOperator (record { board = board; op = op_of old.flow worker; given = given_at place units }) mid new) where
  abbrev op : ℕ
  op = op_of old.flow worker

  abbrev seating : Seating
  seating = record { board = board; op = op; given = given_at place units }

  -- a worker of the operator after both
  twice : (other : ℕ) → IsWorkerOf old op other
      → IsArmedNow board (given_at place units (other - first_worker_of old.flow op)) (disarmed_at (worker_state_at old.workers other)) (worker_state_at new.workers other)
  twice other is =
      let first : first_worker_of mid.flow op ≡ first_worker_of old.flow op = ap (λ f. first_worker_of f op) disarms.change.flow in
      subst (λ w. IsArmedNow board (given_at place units (other - first_worker_of old.flow op)) w (worker_state_at new.workers other)) (disarms.here other is)
      (subst (λ n. IsArmedNow board (given_at place units (other - n)) (worker_state_at mid.workers other) (worker_state_at new.workers other)) first
      (armed-worker seating mid new arms other (worker-before mid old op other (sym disarms.change.flow) is)))

  -- the one was given the units
  own-hand : given_at place units (worker - first_worker_of old.flow op) ≡ units
  own-hand = ap (given_at place units) (sym place-is) ∙ given-here place units

  -- so it needs none
  pub refilled-fed : 0 < units → is_short new worker ≡ false
  unfolding is_short
  refilled-fed some =
      let hand = armed-hand board (given_at place units (worker - first_worker_of old.flow op)) (disarmed_at (worker_state_at old.workers worker)) (worker_state_at new.workers worker)
      (twice worker (there, refl)) ∙ own-hand in
      fed (worker_state_at new.workers worker) (subst (λ n. 0 < n) (sym hand) some)

  -- it has written what it was granted
  pub refilled-grant : 0 < units → hand_of old worker ≡ 0 → journal_of new worker ≡ journal_of old worker ++ entry.Grant units ∷ []
  unfolding journal_of hand_of
  refilled-grant some empty =
      let was = worker_state_at old.workers worker in
      armed-journal board (given_at place units (worker - first_worker_of old.flow op)) (disarmed_at was) (worker_state_at new.workers worker) (twice worker (there, refl))
      ∙ ap (λ n. with_grant n (with_back was.restraint.hand was.journal)) own-hand
      ∙ ap (with_grant units) (no-back was.restraint.hand was.journal empty)
      ∙ some-grant units was.journal some

  -- the others have given theirs back
  pub refilled-others : (other : ℕ) → IsWorkerOf old op other → other ≢ worker → WritesBack old new other
  unfolding journal_of hand_of
  refilled-others other is apart =
      let was = worker_state_at old.workers other in
      let low = (worker-place old op other is).0 in
      let own = (worker-place old op worker (there, refl)).0 in
      let elsewhere : other - first_worker_of old.flow op ≢ place = λ e. apart (omega arith) in
      armed-journal board (given_at place units (other - first_worker_of old.flow op)) (disarmed_at was) (worker_state_at new.workers other) (twice other is)
      ∙ no-grant (given_at place units (other - first_worker_of old.flow op)) (with_back was.restraint.hand was.journal)
      (given-there place units (other - first_worker_of old.flow op) elsewhere)

-- ---- what is asked of the operator in between

-- after it was disarmed nobody of it has a seat
pub disarmed-unarmed : (op : ℕ) (old new : DataflowState) → DisarmsOperator op old new → AreUnarmedAt op new
unfolding seat_of
disarmed-unarmed op old new disarms worker is =
    ap (λ (w : WorkerState). w.seat) (disarms.here worker (worker-before old new op worker disarms.change.flow is))

-- it has emitted no more rows than its count asks for
pub rows-within : (counter : CounterState) (op : ℕ) (old new : DataflowState) → IsCountedOn counter op old → DisarmsOperator op old new → units_counted old op ≤ target_of counter.board
    → IsSince counter.target (rows_emitted new op) × (rows_emitted new op ≤ counter.target.target + counter.target.since)
rows-within counter op old new on disarms within =
    let rows = rows-same old new disarms.change.flow disarms.change.same op in
    let units = on.units in
    (record { since = subst (λ n. counter.target.since ≤ n) (sym rows) on.since.since; few = on.since.few }, omega arith)

-- what is left to it is a unit at least and 2^40 at most, as it was before
pub some-left : (counter : CounterState) (target : Target) (op : ℕ) (old new : DataflowState) (rows units : ℕ) → counter.target ≡ target → IsCountedOn counter op old → DisarmsOperator op old new
    → units_counted old op ≤ target_of counter.board → HasLeft (Some counter) (rows_emitted old op) → rows ≡ rows_emitted new op → units ≡ target.target + target.since - rows
    → (1 ≤ units) × (units ≤ 2 ^ 40) × (units + rows_emitted new op ≡ target.target + target.since) × (units ≡ target.target + target.since - rows_emitted old op)
some-left counter target op old new rows units is on disarms within left rows-are units-are =
    let same = rows-same old new disarms.change.flow disarms.change.same op in
    let both = rows-within counter op old new on disarms within in
    let most = both.1 in
    let since = both.0.since in
    let few = both.0.few in
    let one = ap (λ (t : Target). t.target) is in
    let two = ap (λ (t : Target). t.since) is in
    let apart : rows_emitted old op ≢ counter.target.target + counter.target.since = left in
    (omega arith, omega arith, omega arith, omega arith)

-- the same, where its operator has no board yet
pub units-left : (counter target : Target) (rows units : ℕ) → counter ≡ target → units ≡ target.target + target.since - rows → rows < target.target + target.since
    → units + rows ≡ counter.target + counter.since
units-left counter target rows units is units-are below =
    let one = ap (λ (t : Target). t.target) is in
    let two = ap (λ (t : Target). t.since) is in
    omega arith

-- a worker's operator, its first worker, and its place behind that one
pub own-place : (flow f g : List Operator) (worker op first : ℕ) → worker < crew_of flow → f ≡ flow → g ≡ flow → op ≡ op_of f worker → first ≡ first_worker_of g op
    → (op ≡ op_of flow worker) × (first ≡ first_worker_of flow (op_of flow worker)) × (first ≤ worker) × (worker < first + worker_count flow (op_of flow worker))
own-place flow f g worker op first there f-is g-is op-is first-is =
    let o = op-is ∙ ap (λ h. op_of h worker) f-is in
    let own = first-is ∙ ap (λ h. first_worker_of h op) g-is ∙ ap (first_worker_of flow) o in
    let within = worker-within flow (op_of flow worker) worker (own-worker flow worker there) in
    let low = within.0 in
    let high = within.1 in
    (o, own, omega arith, omega arith)

-- the one at its place has not finished, where it had not before
pub unfinished-there : (old new : DataflowState) (op worker first : ℕ) → new.flow ≡ old.flow → ((one : ℕ) → IsSameButUnits (worker_state_at old.workers one) (worker_state_at new.workers one))
    → op ≡ op_of old.flow worker → first ≡ first_worker_of old.flow (op_of old.flow worker) → first ≤ worker → has_finished old worker ≡ false
    → has_finished new (first_worker_of new.flow op + (worker - first)) ≡ false
unfinished-there old new op worker first flow same op-is first-is low unfinished =
    let at : first_worker_of new.flow op ≡ first = ap (λ f. first_worker_of f op) flow ∙ ap (first_worker_of old.flow) op-is ∙ sym first-is in
    let back : first_worker_of new.flow op + (worker - first) ≡ worker = omega arith in
    ap (has_finished new) back ∙ finished-same old new flow same worker ∙ unfinished
