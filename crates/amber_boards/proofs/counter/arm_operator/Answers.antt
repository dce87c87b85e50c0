-- The next worker gets the next seat.
use Rattle.std.proofs.Common.{◌≡◌, sym, ap, ◌∙◌, ◌+◌, ◌<◌, ◌++◌, [], ◌∷◌, length, subst, append_assoc, length-append, arith, rules}
use Rattle.std.specs.Vec.Iter.{into_iter_items}
use Rattle.std.proofs.lemmas.List.{nil_from_length}
use Rattle.amber_rows.specs.Topology.{first_worker_of, worker_count}
use Rattle.amber_board.specs.Seats.{work_view}
use Rattle.amber_worker.specs.WorkerState.{WorkerState}
use Rattle.amber_dataflow.specs.AtWork.{worker_state_at}
use Rattle.amber_dataflow.specs.Dataflow.{has_finished, seat_of}
use Rattle.amber_boards.proofs.Arming.{IsSeated, arms-operator, next-seat, seated-next}
use Rattle.amber_boards.proofs.OneByOne.{next-still, next-there, next-under, own-place, place-few}
use Rattle.amber_boards.proofs.counter.arm_operator.Goals as goal

pub overflow_add-first : goal.overflow_add-first
overflow_add-first c =
    let d = c.args.dataflow.now in
    let dealt = c.args.dealt.items in
    let first = c.first_worker-first.result in
    let first-is : first ≡ first_worker_of d.flow c.args.op = c.first_worker-first.ensures.first ∙ ap (λ f. first_worker_of f c.args.op) c.flow.ensures in
    let step : into_iter_items c.seats.seat-iterator ≡ c.in-Some.seat ∷ into_iter_items c.next.new.self = search rules in
    let next =
    next-seat c.seats.yielded (into_iter_items c.seats.seat-iterator) (into_iter_items c.next.new.self) dealt
    c.in-Some.seat c.seats.place c.seats.invariant.all step c.seats.invariant.place in
    let at-next = next.less in
    let all = c.requires.all in
    let less : c.seats.place < worker_count d.flow c.args.op = omega arith in
    let few = place-few d c.args.op first c.seats.place c.requires.stand first-is less in
    omega arith

pub overflow_add-place : goal.overflow_add-place
overflow_add-place c =
    let d = c.args.dataflow.now in
    let dealt = c.args.dealt.items in
    let first = c.first_worker-first.result in
    let first-is : first ≡ first_worker_of d.flow c.args.op = c.first_worker-first.ensures.first ∙ ap (λ f. first_worker_of f c.args.op) c.flow.ensures in
    let step : into_iter_items c.seats.seat-iterator ≡ c.in-Some.seat ∷ into_iter_items c.next.new.self = search rules in
    let next =
    next-seat c.seats.yielded (into_iter_items c.seats.seat-iterator) (into_iter_items c.next.new.self) dealt
    c.in-Some.seat c.seats.place c.seats.invariant.all step c.seats.invariant.place in
    let at-next = next.less in
    let all = c.requires.all in
    let less : c.seats.place < worker_count d.flow c.args.op = omega arith in
    let few = place-few d c.args.op first c.seats.place c.requires.stand first-is less in
    omega arith

pub arm_worker-requires-clause-there : goal.arm_worker-requires-clause-there
arm_worker-requires-clause-there c =
    let d = c.args.dataflow.now in
    let dealt = c.args.dealt.items in
    let first = c.first_worker-first.result in
    let first-is : first ≡ first_worker_of d.flow c.args.op = c.first_worker-first.ensures.first ∙ ap (λ f. first_worker_of f c.args.op) c.flow.ensures in
    let step : into_iter_items c.seats.seat-iterator ≡ c.in-Some.seat ∷ into_iter_items c.next.new.self = search rules in
    let next =
    next-seat c.seats.yielded (into_iter_items c.seats.seat-iterator) (into_iter_items c.next.new.self) dealt
    c.in-Some.seat c.seats.place c.seats.invariant.all step c.seats.invariant.place in
    let at-next = next.less in
    let all = c.requires.all in
    let less : c.seats.place < worker_count d.flow c.args.op = omega arith in
    next-there c.args.op first c.seats.place (IsSeated first dealt d) d c.seats.dataflow c.seats.invariant.armed c.requires.workers first-is less

pub arm_worker-requires-clause-unarmed : goal.arm_worker-requires-clause-unarmed
unfolding seat_of
arm_worker-requires-clause-unarmed c =
    let d = c.args.dataflow.now in
    let dealt = c.args.dealt.items in
    let first = c.first_worker-first.result in
    let first-is : first ≡ first_worker_of d.flow c.args.op = c.first_worker-first.ensures.first ∙ ap (λ f. first_worker_of f c.args.op) c.flow.ensures in
    let step : into_iter_items c.seats.seat-iterator ≡ c.in-Some.seat ∷ into_iter_items c.next.new.self = search rules in
    let next =
    next-seat c.seats.yielded (into_iter_items c.seats.seat-iterator) (into_iter_items c.next.new.self) dealt
    c.in-Some.seat c.seats.place c.seats.invariant.all step c.seats.invariant.place in
    let at-next = next.less in
    let all = c.requires.all in
    let less : c.seats.place < worker_count d.flow c.args.op = omega arith in
    ap (λ (w : WorkerState). w.seat) (next-still c.args.op first c.seats.place (IsSeated first dealt d) d c.seats.dataflow c.seats.invariant.armed c.requires.workers)
    ∙ c.requires.unarmed (first + c.seats.place) (own-place d c.args.op first c.seats.place first-is less)

pub arm_worker-requires-clause-unfinished : goal.arm_worker-requires-clause-unfinished
unfolding has_finished
arm_worker-requires-clause-unfinished c some =
    let d = c.args.dataflow.now in
    let dealt = c.args.dealt.items in
    let first = c.first_worker-first.result in
    let first-is : first ≡ first_worker_of d.flow c.args.op = c.first_worker-first.ensures.first ∙ ap (λ f. first_worker_of f c.args.op) c.flow.ensures in
    let step : into_iter_items c.seats.seat-iterator ≡ c.in-Some.seat ∷ into_iter_items c.next.new.self = search rules in
    let next =
    next-seat c.seats.yielded (into_iter_items c.seats.seat-iterator) (into_iter_items c.next.new.self) dealt
    c.in-Some.seat c.seats.place c.seats.invariant.all step c.seats.invariant.place in
    let hand = subst (λ s. 0 < (work_view s).hand) (sym (next.is c.in-Some.seat)) some in
    ap (λ (w : WorkerState). w.finished) (next-still c.args.op first c.seats.place (IsSeated first dealt d) d c.seats.dataflow c.seats.invariant.armed c.requires.workers)
    ∙ ap (λ n. (worker_state_at d.workers (n + c.seats.place)).finished) first-is ∙ c.requires.hands c.seats.place c.in-Some.seat next.less hand

pub arm_worker-requires-clause-under : goal.arm_worker-requires-clause-under
arm_worker-requires-clause-under c =
    let d = c.args.dataflow.now in
    let dealt = c.args.dealt.items in
    let first = c.first_worker-first.result in
    let first-is : first ≡ first_worker_of d.flow c.args.op = c.first_worker-first.ensures.first ∙ ap (λ f. first_worker_of f c.args.op) c.flow.ensures in
    let step : into_iter_items c.seats.seat-iterator ≡ c.in-Some.seat ∷ into_iter_items c.next.new.self = search rules in
    let next =
    next-seat c.seats.yielded (into_iter_items c.seats.seat-iterator) (into_iter_items c.next.new.self) dealt
    c.in-Some.seat c.seats.place c.seats.invariant.all step c.seats.invariant.place in
    let at-next = next.less in
    let all = c.requires.all in
    let less : c.seats.place < worker_count d.flow c.args.op = omega arith in
    next-under c.args.op first c.seats.place (IsSeated first dealt d) d c.seats.dataflow c.seats.invariant.armed c.requires.workers first-is less c.requires.stand

pub seats-preserved : goal.seats-preserved
seats-preserved c =
    let d = c.args.dataflow.now in
    let dealt = c.args.dealt.items in
    let first = c.first_worker-first.result in
    let first-is : first ≡ first_worker_of d.flow c.args.op = c.first_worker-first.ensures.first ∙ ap (λ f. first_worker_of f c.args.op) c.flow.ensures in
    let step : into_iter_items c.seats.seat-iterator ≡ c.in-Some.seat ∷ into_iter_items c.next.new.self = search rules in
    let next =
    next-seat c.seats.yielded (into_iter_items c.seats.seat-iterator) (into_iter_items c.next.new.self) dealt
    c.in-Some.seat c.seats.place c.seats.invariant.all step c.seats.invariant.place in
    record {
      all = append_assoc c.seats.yielded (c.in-Some.seat ∷ []) (into_iter_items c.next.new.self) ∙ ap (λ xs. c.seats.yielded ++ xs) (sym step) ∙ c.seats.invariant.all;
      place = omega (arith, length-append c.seats.yielded (c.in-Some.seat ∷ []), c.seats.invariant.place);
      armed = seated-next c.args.op first c.seats.place dealt d c.seats.dataflow c.arm_worker.new.dataflow c.in-Some.seat c.seats.invariant.armed c.requires.workers first-is
          c.requires.all next c.in_ok-arm_worker.ensures.armed c.in_ok-arm_worker.ensures.stand;
    }

pub returns-clause-arms : goal.returns-clause-arms
returns-clause-arms c =
    let d = c.args.dataflow.now in
    let dealt = c.args.dealt.items in
    let first = c.first_worker-first.result in
    let first-is : first ≡ first_worker_of d.flow c.args.op = c.first_worker-first.ensures.first ∙ ap (λ f. first_worker_of f c.args.op) c.flow.ensures in
    let none : into_iter_items c.seats.seat-iterator ≡ [] = nil_from_length (into_iter_items c.seats.seat-iterator) (search rules) in
    let whole : c.seats.place ≡ length dealt =
    omega (arith, c.seats.invariant.place, ap length c.seats.invariant.all, length-append c.seats.yielded (into_iter_items c.seats.seat-iterator), ap length none) in
    arms-operator c.args.op dealt first c.seats.place d c.seats.dataflow c.seats.invariant.armed first-is whole c.requires.all
