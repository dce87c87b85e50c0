-- The first that has not finished, of which there is one.
use Rattle.std.proofs.Common.{sym, ap, ◌∙◌, arith, rules}
use Rattle.std.proofs.lemmas.Bool.{false≢true}
use Rattle.amber_worker.specs.WorkerState.{WorkerState}
use Rattle.amber_dataflow.proofs.Going.{finished-more}
use Rattle.amber_dataflow.proofs.Said.{have-all}
use Rattle.amber_dataflow.proofs.stepping.first_unfinished.Goals as goal

pub workers-init : goal.workers-init
workers-init c k below = absurd (omega arith)

pub workers-preserved : goal.workers-preserved
workers-preserved c = finished-more c.args.crew.now c.workers.number c.index-crew-number.result (search rules) (ap (λ (w : WorkerState). w.finished) (sym c.index-crew-number.is) ∙ sym c.is_finished.ensures ∙ c.if-not-is_finished.false) c.workers.invariant

pub unreachable-requires : goal.unreachable-requires
unreachable-requires c =
    let past = c.workers-test.false in
    false≢true (sym c.requires.unfinished ∙ have-all c.args.crew.now (λ k less. c.workers.invariant k (omega arith)))
