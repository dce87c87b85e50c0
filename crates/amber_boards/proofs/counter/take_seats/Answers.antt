-- The next worker gives its seat back.
use Rattle.std.proofs.Common.{◌≡◌, ◌+◌, ◌-◌, ◌<◌, refl, sym, ap, subst, ◌∙◌, get_or, arith}
use Rattle.amber_rows.specs.Topology.{first_worker_of, worker_count}
use Rattle.amber_rows.proofs.CrewFacts.{count-there}
use Rattle.amber_boards.specs.Boards.{CounterState}
use Rattle.amber_boards.specs.contracts.counter.Counter.{the_view}
use Rattle.amber_boards.proofs.Disarming.{AreBack, IsDisarmed, back-next, back-none, disarmed-next, disarms-operator, holds-seats, own-next, room-next}
use Rattle.amber_boards.proofs.OneByOne.{changed-none, next-there, next-under}
use Rattle.amber_boards.proofs.counter.take_seats.Goals as goal

pub workers-init : goal.workers-init
workers-init c =
    let d = c.args.dataflow.now in
    let op = c.args.op in
    let first = c.first_worker-first.result in
    let first-is : first ≡ first_worker_of d.flow op = c.first_worker-first.ensures.first ∙ ap (λ f. first_worker_of f op) c.flow.ensures in
    record {
      disarmed = changed-none op first (IsDisarmed first d) d;
      back = back-none c.counter.inside.board first d c.counter.inside.seats.items (ap (λ (x : CounterState). x.seats) c.counter.view_is ∙ c.requires.counted.none);
      board = refl;
      target = refl;
      room = refl;
    }

pub disarm-seat-requires-clause-there : goal.disarm-seat-requires-clause-there
disarm-seat-requires-clause-there c =
    let d = c.args.dataflow.now in
    let op = c.args.op in
    let first = c.first_worker-first.result in
    let first-is : first ≡ first_worker_of d.flow op = c.first_worker-first.ensures.first ∙ ap (λ f. first_worker_of f op) c.flow.ensures in
    let one = c.index-get-op.result in
    let count : (get_or c.get.result.now (op - 1) one).workers ≡ worker_count d.flow op =
    ap (λ xs. (get_or xs (op - 1) one).workers) (c.get.ensures.operators ∙ c.flow-2.ensures) ∙ count-there d.flow op one c.requires.some c.requires.there in
    let less : c.workers.place < worker_count d.flow op = omega (arith, count, c.workers-test.true) in
    next-there op first c.workers.place (IsDisarmed first d) d c.workers.dataflow c.workers.invariant.disarmed c.requires.workers first-is less

pub disarm-seat-requires-clause-own : goal.disarm-seat-requires-clause-own
disarm-seat-requires-clause-own c =
    let d = c.args.dataflow.now in
    let op = c.args.op in
    let first = c.first_worker-first.result in
    let first-is : first ≡ first_worker_of d.flow op = c.first_worker-first.ensures.first ∙ ap (λ f. first_worker_of f op) c.flow.ensures in
    let one = c.index-get-op.result in
    let count : (get_or c.get.result.now (op - 1) one).workers ≡ worker_count d.flow op =
    ap (λ xs. (get_or xs (op - 1) one).workers) (c.get.ensures.operators ∙ c.flow-2.ensures) ∙ count-there d.flow op one c.requires.some c.requires.there in
    let less : c.workers.place < worker_count d.flow op = omega (arith, count, c.workers-test.true) in
    let same-board = c.workers.invariant.board ∙ ap (λ (x : CounterState). x.board) c.counter.view_is in
    own-next op first c.workers.place d c.workers.dataflow c.workers.invariant.disarmed c.requires.workers first-is less
    c.args.counter.now c.requires.counted c.workers.counter-inside.board same-board

pub disarm-seat-requires-clause-reserved : goal.disarm-seat-requires-clause-reserved
disarm-seat-requires-clause-reserved c =
    let d = c.args.dataflow.now in
    let op = c.args.op in
    let first = c.first_worker-first.result in
    let first-is : first ≡ first_worker_of d.flow op = c.first_worker-first.ensures.first ∙ ap (λ f. first_worker_of f op) c.flow.ensures in
    let one = c.index-get-op.result in
    let count : (get_or c.get.result.now (op - 1) one).workers ≡ worker_count d.flow op =
    ap (λ xs. (get_or xs (op - 1) one).workers) (c.get.ensures.operators ∙ c.flow-2.ensures) ∙ count-there d.flow op one c.requires.some c.requires.there in
    let less : c.workers.place < worker_count d.flow op = omega (arith, count, c.workers-test.true) in
    room-next op first c.workers.place d c.workers.dataflow c.workers.invariant.disarmed c.requires.workers first-is less c.args.counter.now c.requires.counted

pub disarm-seat-requires-clause-under : goal.disarm-seat-requires-clause-under
disarm-seat-requires-clause-under c =
    let d = c.args.dataflow.now in
    let op = c.args.op in
    let first = c.first_worker-first.result in
    let first-is : first ≡ first_worker_of d.flow op = c.first_worker-first.ensures.first ∙ ap (λ f. first_worker_of f op) c.flow.ensures in
    let one = c.index-get-op.result in
    let count : (get_or c.get.result.now (op - 1) one).workers ≡ worker_count d.flow op =
    ap (λ xs. (get_or xs (op - 1) one).workers) (c.get.ensures.operators ∙ c.flow-2.ensures) ∙ count-there d.flow op one c.requires.some c.requires.there in
    let less : c.workers.place < worker_count d.flow op = omega (arith, count, c.workers-test.true) in
    next-under op first c.workers.place (IsDisarmed first d) d c.workers.dataflow c.workers.invariant.disarmed c.requires.workers first-is less c.requires.stand

pub push_reserved-requires : goal.push_reserved-requires
push_reserved-requires c =
    let d = c.args.dataflow.now in
    let op = c.args.op in
    let first = c.first_worker-first.result in
    let first-is : first ≡ first_worker_of d.flow op = c.first_worker-first.ensures.first ∙ ap (λ f. first_worker_of f op) c.flow.ensures in
    let one = c.index-get-op.result in
    let count : (get_or c.get.result.now (op - 1) one).workers ≡ worker_count d.flow op =
    ap (λ xs. (get_or xs (op - 1) one).workers) (c.get.ensures.operators ∙ c.flow-2.ensures) ∙ count-there d.flow op one c.requires.some c.requires.there in
    let less : c.workers.place < worker_count d.flow op = omega (arith, count, c.workers-test.true) in
    let held = c.workers.invariant.back.all in
    let room = c.workers.invariant.room ∙ ap (λ (x : CounterState). x.room) c.counter.view_is in
    let fits = c.requires.counted.room in
    let long = c.workers.counter-inside.seats.ok.0 in
    omega arith

pub workers-preserved : goal.workers-preserved
workers-preserved c =
    let d = c.args.dataflow.now in
    let op = c.args.op in
    let first = c.first_worker-first.result in
    let first-is : first ≡ first_worker_of d.flow op = c.first_worker-first.ensures.first ∙ ap (λ f. first_worker_of f op) c.flow.ensures in
    let one = c.index-get-op.result in
    let count : (get_or c.get.result.now (op - 1) one).workers ≡ worker_count d.flow op =
    ap (λ xs. (get_or xs (op - 1) one).workers) (c.get.ensures.operators ∙ c.flow-2.ensures) ∙ count-there d.flow op one c.requires.some c.requires.there in
    let less : c.workers.place < worker_count d.flow op = omega (arith, count, c.workers-test.true) in
    record {
      disarmed = disarmed-next op first c.workers.place d c.workers.dataflow c.workers.invariant.disarmed c.requires.workers first-is less
          c.disarm-seat.new.self c.disarm-seat.ensures.only c.disarm-seat.ensures.stand;
      back = subst (AreBack c.workers.counter-inside.board first (c.workers.place + 1) d) (sym c.push_reserved.ensures.items)
          (back-next op first c.workers.place d c.workers.dataflow c.workers.invariant.disarmed c.requires.workers first-is less
          c.args.counter.now c.requires.counted c.workers.counter-inside.board c.workers.counter-inside.seats.items c.disarm-seat.result c.workers.invariant.back
          c.disarm-seat.ensures.own c.disarm-seat.ensures.gives);
      board = c.workers.invariant.board;
      target = c.workers.invariant.target;
      room = c.push_reserved.ensures.capacity ∙ c.workers.invariant.room;
    }

pub returns-clause-disarms : goal.returns-clause-disarms
returns-clause-disarms c =
    let d = c.args.dataflow.now in
    let op = c.args.op in
    let first = c.first_worker-first.result in
    let first-is : first ≡ first_worker_of d.flow op = c.first_worker-first.ensures.first ∙ ap (λ f. first_worker_of f op) c.flow.ensures in
    let one = c.index-get-op.result in
    let count : (get_or c.get.result.now (op - 1) one).workers ≡ worker_count d.flow op =
    ap (λ xs. (get_or xs (op - 1) one).workers) (c.get.ensures.operators ∙ c.flow-2.ensures) ∙ count-there d.flow op one c.requires.some c.requires.there in
    let whole : c.workers.place ≡ worker_count d.flow op = omega (arith, count, c.workers-test.false, c.workers.auto.place-end) in
    disarms-operator op first c.workers.place d c.workers.dataflow c.workers.invariant.disarmed first-is (omega arith)

pub returns-clause-seats : goal.returns-clause-seats
returns-clause-seats c =
    let d = c.args.dataflow.now in
    let op = c.args.op in
    let first = c.first_worker-first.result in
    let first-is : first ≡ first_worker_of d.flow op = c.first_worker-first.ensures.first ∙ ap (λ f. first_worker_of f op) c.flow.ensures in
    let one = c.index-get-op.result in
    let count : (get_or c.get.result.now (op - 1) one).workers ≡ worker_count d.flow op =
    ap (λ xs. (get_or xs (op - 1) one).workers) (c.get.ensures.operators ∙ c.flow-2.ensures) ∙ count-there d.flow op one c.requires.some c.requires.there in
    let whole : c.workers.place ≡ worker_count d.flow op = omega (arith, count, c.workers-test.false, c.workers.auto.place-end) in
    let same-board = c.workers.invariant.board ∙ ap (λ (x : CounterState). x.board) c.counter.view_is in
    holds-seats c.args.counter.now (the_view c.workers.counter-inside) op first c.workers.place d c.requires.counted same-board c.workers.invariant.back first-is whole
