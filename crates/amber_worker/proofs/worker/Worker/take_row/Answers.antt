-- A row is taken, where the worker has a unit.
use Rattle.std.proofs.Common.{sym, ap, ◌∙◌, subst}
use Rattle.amber_worker.specs.Steps.{TakesRow}
use Rattle.amber_worker.specs.Turning.{TurnsDealing}
use Rattle.amber_worker.specs.WorkerState.{is_starved}
use Rattle.amber_worker.specs.declared.turn.Turn.TheVariants as turn
use Rattle.amber_worker.proofs.Dealings.{starves-given, starves-plain, takes-plain}
use Rattle.amber_worker.proofs.worker.Worker.take_row.Goals as goal

pub returns-then-is_starved-clause-ok : goal.returns-then-is_starved-clause-ok
returns-then-is_starved-clause-ok c =
    let starved = ap is_starved (sym c.self.view_is) ∙ sym c.if-is_starved.ensures in
    subst (λ how. TurnsDealing how c.args.self.now c.args.self.now turn.Starved) (sym c.in-Nothing.is) (starves-plain c.args.self.now c.requires.free c.requires.none c.requires.some starved)

pub returns-in_ok-take_left-in-Nothing-clause-ok : goal.returns-in_ok-take_left-in-Nothing-clause-ok
returns-in_ok-take_left-in-Nothing-clause-ok c =
    let fed = ap is_starved (sym c.self.view_is) ∙ sym c.if-is_starved.ensures in
    let takes = subst (λ w. TakesRow w c.take_left.new.self) c.fetch_used.ensures c.in_ok-take_left-in-Nothing.ensures.ok in
    subst (λ how. TurnsDealing how c.args.self.now c.take_left.new.self turn.Moved) (sym c.in-Nothing.is)
    (takes-plain c.args.self.now c.take_left.new.self c.requires.free c.requires.none c.requires.some fed takes)

pub returns-in_ok-deal_with-in-Returns-clause-ok : goal.returns-in_ok-deal_with-in-Returns-clause-ok
returns-in_ok-deal_with-in-Returns-clause-ok c =
    let may = rw c.in-Returns.is at c.requires.may in
    subst (λ how. TurnsDealing how c.args.self.now c.deal_with.new.self turn.Starved) (sym c.in-Returns.is)
    (starves-given c.args.self.now c.deal_with.new.self c.requires.free c.requires.none c.requires.some may.0 (rw c.in-Returns.is at c.in_ok-deal_with-in-Returns.ensures.ok))
