-- One of them has made turns, and they are still those of the leg.
use Rattle.std.proofs.Common.{◌≡◌, ◌+◌, ◌<◌, ◌≤◌, ◌^◌, refl, sym, ap, subst, ◌∙◌, arith}
use Rattle.std.specs.Option.{option_copied}
use Rattle.amber_rows.specs.Topology.{crew_of, op_of}
use Rattle.amber_worker.specs.Counting.{IsBoardOf}
use Rattle.amber_worker.specs.Turning.{MakesTurns}
use Rattle.amber_worker.specs.WorkerState.{WorkerState, steps_made}
use Rattle.amber_dataflow.specs.AtWork.{worker_state_at}
use Rattle.amber_dataflow.proofs.Split.{read-at}
use Rattle.amber_dataflow.proofs.Steps.{sum-member}
use Rattle.amber_home.specs.Lent.{board_of}
use Rattle.amber_home.proofs.GoneOn.{op-is, own-lent}
use Rattle.amber_debug_tests.proofs.StillLent.{few-set, still-lent}
use Rattle.amber_debug_tests.proofs.lent.drive_at.Goals as goal

pub drive_one-requires-clause-few : goal.drive_one-requires-clause-few
drive_one-requires-clause-few c =
    let crew = c.args.crew.now in
    let is = c.index_mut.ensures.value ∙ read-at crew.workers.items c.args.number c.index_mut.result.now c.requires.there in
    let part = sum-member crew.workers.items c.args.number in
    let few = c.requires.few in
    let most = c.most-most.ensures.most in
    let small = c.most-most.ensures.few in
    subst (λ (w : WorkerState). steps_made w + 40 ≤ 2 ^ 40) (sym is) (omega arith)

pub drive_one-requires-clause-own : goal.drive_one-requires-clause-own
drive_one-requires-clause-own c =
    let crew = c.args.crew.now in
    let e = c.args.home.now in
    let lent = c.requires.lent in
    let inside : c.args.number < crew_of e.flow = rw (← lent.workers.at.at_positions.all) c.requires.there in
    let is = c.index_mut.ensures.value ∙ read-at crew.workers.items c.args.number c.index_mut.result.now c.requires.there in
    let was = c.index.ensures ∙ read-at crew.workers.items c.args.number c.index.result.now c.requires.there in
    let op : c.op-op.result ≡ op_of e.flow c.args.number = c.op-op.ensures ∙ ap (λ (w : WorkerState). w.op) was ∙ op-is e crew lent c.args.number inside in
    subst (λ (w : WorkerState). IsBoardOf (option_copied c.board_at-board.result) w.seat) (sym is)
    (subst (λ board. IsBoardOf board (worker_state_at crew.workers.items c.args.number).seat) (ap (board_of crew.boards) (sym op) ∙ sym c.board_at-board.ensures)
    (own-lent e crew lent c.args.number inside))

pub returns-clause-lent : goal.returns-clause-lent
returns-clause-lent c =
    let crew = c.args.crew.now in
    let e = c.args.home.now in
    let lent = c.requires.lent in
    let inside : c.args.number < crew_of e.flow = rw (← lent.workers.at.at_positions.all) c.requires.there in
    let is = c.index_mut.ensures.value ∙ read-at crew.workers.items c.args.number c.index_mut.result.now c.requires.there in
    let was = c.index.ensures ∙ read-at crew.workers.items c.args.number c.index.result.now c.requires.there in
    let op : c.op-op.result ≡ op_of e.flow c.args.number = c.op-op.ensures ∙ ap (λ (w : WorkerState). w.op) was ∙ op-is e crew lent c.args.number inside in
    let drove = c.in_ok-drive_one.ensures in
    still-lent e crew _ lent c.args.number c.drive_one.new.worker c.requires.there refl refl refl
    (subst (λ (w : WorkerState). MakesTurns 40 w c.drive_one.new.worker) is drove.made)
    (subst (λ board. IsBoardOf board c.drive_one.new.worker.seat) (c.board_at-board.ensures ∙ ap (board_of crew.boards) op) drove.own)
    c.requires.few

pub returns-clause-few : goal.returns-clause-few
returns-clause-few c =
    let crew = c.args.crew.now in
    let is = c.index_mut.ensures.value ∙ read-at crew.workers.items c.args.number c.index_mut.result.now c.requires.there in
    few-set crew.workers.items c.args.number c.drive_one.new.worker c.requires.there
    (subst (λ (w : WorkerState). MakesTurns 40 w c.drive_one.new.worker) is c.in_ok-drive_one.ensures.made)
