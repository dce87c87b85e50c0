-- A worker is made of a task and of ends.
use Rattle.std.proofs.Common.{◌∙◌, List, All, map, ap, sym, subst}
use Rattle.amber_link.specs.declared.ends.In.{In}
use Rattle.amber_link.specs.declared.ends.Out.{Out}
use Rattle.amber_worker.specs.Changes.{StandsNew}
use Rattle.amber_worker.specs.Made.{IsFresh, IsFreshIn, IsFreshOut, end_of, link_of, roomless}
use Rattle.amber_worker.specs.WorkerState.{WorkerState}
use Rattle.amber_worker.proofs.FreshStands.{few-made, fresh-stands, made-fresh, roomless-links}
use Rattle.amber_worker.proofs.worker.Worker.new.Goals as goal

pub fresh-requires : goal.fresh-requires
fresh-requires c = record {
  few = few-made c.args.flow.now c.args.worker c.args.batch_size c.args.share c.in_ok-task.task c.in_ok-ends.ends c.in_ok-task.ensures c.in_ok-ends.ensures.numbers
      (subst (λ (l : List Out). All (IsFreshOut c.args.batch_size) l) (sym c.in_ok-ends.ensures.outs) c.requires.fresh_outs) c.requires.shared c.requires.typed;
}

pub returns-clause-stands : goal.returns-clause-stands
unfolding StandsNew
returns-clause-stands c records has =
    fresh-stands c.args.flow.now records c.args.batch_size c.args.worker c.args.share _ c.requires.some c.requires.shared has
    (subst (λ (w : WorkerState). IsFresh (record { flow = c.args.flow.now; number = c.args.worker; batch_size = c.args.batch_size; share = c.args.share }) w) (sym c.fresh.ensures)
    (made-fresh c.args.flow.now c.args.worker c.args.batch_size c.args.share c.in_ok-task.task c.in_ok-ends.ends c.in_ok-task.ensures c.in_ok-ends.ensures.numbers
    (subst (λ (l : List Out). All (IsFreshOut c.args.batch_size) l) (sym c.in_ok-ends.ensures.outs) c.requires.fresh_outs)
    (subst (λ (l : List In). All IsFreshIn l) (sym c.in_ok-ends.ensures.ins) c.requires.fresh_ins)))

pub returns-clause-journal : goal.returns-clause-journal
returns-clause-journal c = ap (λ (w : WorkerState). w.journal) c.fresh.ensures

pub returns-clause-outs : goal.returns-clause-outs
returns-clause-outs c = ap (λ (w : WorkerState). map link_of w.outs) c.fresh.ensures ∙ roomless-links c.in_ok-ends.ends.outs.items ∙ ap (map roomless) c.in_ok-ends.ensures.outs

pub returns-clause-ins : goal.returns-clause-ins
returns-clause-ins c = ap (λ (w : WorkerState). map end_of w.ins) c.fresh.ensures ∙ c.in_ok-ends.ensures.ins

pub returns-clause-unarmed : goal.returns-clause-unarmed
returns-clause-unarmed c = ap (λ (w : WorkerState). w.seat) c.fresh.ensures
