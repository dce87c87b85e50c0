-- What is known after room was made, and after the worker was armed.
use Rattle.std.proofs.Common.{◌≡◌, ◌<◌, ◌∙◌, ℕ, length}
use Rattle.std.proofs.lemmas.Result.{on_ok_weaker}
use Rattle.amber_rows.specs.Topology.{crew_of}
use Rattle.amber_dataflow.specs.Dataflow.{AreAllThere, DataflowState, room_kept}
use Rattle.amber_boards.proofs.Arming.{is-armed, moves-armed, roomy-finished, roomy-room, roomy-seat, roomy-under}
use Rattle.amber_boards.proofs.counter.arm_worker.Goals as goal

-- the worker is there
inside : (d : DataflowState) (worker : ℕ) → AreAllThere d → worker < crew_of d.flow → worker < length d.workers
inside d worker all there = rw all there

pub arm-requires-clause-unarmed : goal.arm-requires-clause-unarmed
arm-requires-clause-unarmed c =
    let d = c.args.dataflow.now in
    roomy-seat d c.reserve.new.self c.args.worker (inside d c.args.worker c.requires.workers c.requires.there) c.in_ok-reserve.ensures.ok ∙ c.requires.unarmed

pub arm-requires-clause-unfinished : goal.arm-requires-clause-unfinished
arm-requires-clause-unfinished c some =
    let d = c.args.dataflow.now in
    roomy-finished d c.reserve.new.self c.args.worker (inside d c.args.worker c.requires.workers c.requires.there) c.in_ok-reserve.ensures.ok ∙ c.requires.unfinished some

pub arm-requires-clause-reserved : goal.arm-requires-clause-reserved
arm-requires-clause-reserved c some =
    let d = c.args.dataflow.now in
    roomy-room d c.reserve.new.self c.args.worker (inside d c.args.worker c.requires.workers c.requires.there) c.in_ok-reserve.ensures.ok

pub arm-requires-clause-under : goal.arm-requires-clause-under
arm-requires-clause-under c =
    let d = c.args.dataflow.now in
    roomy-under d c.reserve.new.self c.args.worker (inside d c.args.worker c.requires.workers c.requires.there) c.in_ok-reserve.ensures.ok c.requires.under

pub returns-clause-armed : goal.returns-clause-armed
returns-clause-armed c =
    let d = c.args.dataflow.now in
    on_ok_weaker c.reserve-2.result
    (λ (last : c.reserve-2.new.self ≡ room_kept c.args.worker c.arm.new.self).
    is-armed d c.reserve.new.self c.arm.new.self c.reserve-2.new.self c.args.worker c.args.seat (inside d c.args.worker c.requires.workers c.requires.there)
    c.in_ok-reserve.ensures.ok c.arm.ensures.only last)
    c.reserve-2.ensures.ok

pub returns-clause-stand : goal.returns-clause-stand
returns-clause-stand c =
    let d = c.args.dataflow.now in
    on_ok_weaker c.reserve-2.result
    (λ (last : c.reserve-2.new.self ≡ room_kept c.args.worker c.arm.new.self).
    moves-armed d c.reserve.new.self c.arm.new.self c.reserve-2.new.self c.args.worker c.args.seat (inside d c.args.worker c.requires.workers c.requires.there)
    c.in_ok-reserve.ensures.ok c.arm.ensures.only last c.arm.ensures.stand)
    c.reserve-2.ensures.ok
