-- One worker more goes on.
use Rattle.std.proofs.Common.{◌≡◌, refl, sym, ap, ◌∙◌, subst, get_or, set, ◌<◌}
use Rattle.amber_worker.proofs.Turns.{keeps-same}
use Rattle.amber_worker.specs.WorkerState.{WorkerState, is_armed}
use Rattle.amber_dataflow.specs.AtWork.{KeepsPosition, worker_state_at}
use Rattle.amber_dataflow.specs.Dataflow.{worker_resumed}
use Rattle.amber_dataflow.proofs.Changed.{read-left, write-left}
use Rattle.amber_dataflow.proofs.Crews.{at-each, here-now, there-still}
use Rattle.amber_dataflow.proofs.Split.{read-at}
use Rattle.amber_dataflow.proofs.setting.resume_all.Goals as goal

pub workers-init : goal.workers-init
workers-init c = record {
  crew = refl;
  keeps = λ worker. keeps-same (is_armed (worker_state_at c.args.crew.now worker)) (worker_state_at c.args.crew.now worker) (worker_state_at c.args.crew.now worker) refl;
}

pub resume_worker-requires : goal.resume_worker-requires
resume_worker-requires c =
    let d = c.index-crew-number.result in
    ap (λ (w : WorkerState). w.restraint.held) (read-left worker_resumed c.args.crew.now c.workers.crew c.workers.number d c.workers-test.true c.workers.invariant.crew)
    ∙ c.requires c.workers.number d c.workers-test.true

pub workers-preserved : goal.workers-preserved
workers-preserved c =
    let number = c.workers.number in
    let d = c.index-crew-number.result in
    let old = c.args.crew.now in
    let crew = c.workers.crew in
    let x = c.resume_worker.new.worker in
    let inside = c.workers-test.true in
    let here = subst (λ n. number < n) (sym c.workers.auto.crew) inside in
    let done = c.in_ok-resume_worker.ensures in
    let was : get_or crew number d ≡ worker_state_at old number = read-left worker_resumed old crew number d inside c.workers.invariant.crew ∙ read-at old number d inside in
    record {
      crew = write-left worker_resumed old crew number d x inside c.workers.invariant.crew done.resumed;
      keeps = at-each (λ k. KeepsPosition (worker_state_at old k) (worker_state_at (set crew number x) k)) number
          (subst (KeepsPosition (worker_state_at old number)) (sym (here-now crew number x here)) (subst (λ w. KeepsPosition w x) was done.keeps))
          (λ k ne. subst (KeepsPosition (worker_state_at old k)) (sym (there-still crew number x here k ne)) (c.workers.invariant.keeps k));
    }
