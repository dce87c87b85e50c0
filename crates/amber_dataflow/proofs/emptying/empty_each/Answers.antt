-- One worker more has given the seat back.
use Rattle.std.proofs.Common.{◌≡◌, ◌<◌, None, ap, refl, subst, sym, ◌∙◌}
use Rattle.amber_worker.specs.WorkerState.{WorkerState}
use Rattle.amber_dataflow.specs.Redoing.{emptied}
use Rattle.amber_dataflow.proofs.Changed.{map-whole, read-left, write-left}
use Rattle.amber_dataflow.proofs.Split.{read-at}
use Rattle.amber_dataflow.proofs.emptying.empty_each.Goals as goal

pub workers-init : goal.workers-init
workers-init c = record { crew = refl; bare = c.requires.bare }

pub bounds-crew-number : goal.bounds-crew-number
bounds-crew-number c = subst (λ n. c.workers.number < n) (sym c.workers.auto.crew) c.workers-test.true

pub take_and_give-requires-clause-unarmed : goal.take_and_give-requires-clause-unarmed
take_and_give-requires-clause-unarmed c =
    ap (λ (w : WorkerState). w.seat)
    (read-left emptied c.args.crew.now c.workers.crew c.workers.number c.index-crew-number.result c.workers-test.true c.workers.invariant.crew
    ∙ read-at c.args.crew.now c.workers.number c.index-crew-number.result c.workers-test.true)
    ∙ c.requires.seats c.workers.number

pub workers-preserved : goal.workers-preserved
workers-preserved c = record {
  crew = write-left emptied c.args.crew.now c.workers.crew c.workers.number c.index-crew-number.result c.take_and_give.new.worker c.workers-test.true c.workers.invariant.crew
      c.in_ok-seat.ensures.emptied;
  bare = c.in_ok-seat.ensures.bare;
}

pub returns : goal.returns
returns c = map-whole emptied c.args.crew.now c.workers.crew c.workers.number c.workers-test.false c.workers.invariant.crew

pub take_and_give-requires-clause-bare : goal.take_and_give-requires-clause-bare
take_and_give-requires-clause-bare c = c.workers.invariant.bare
