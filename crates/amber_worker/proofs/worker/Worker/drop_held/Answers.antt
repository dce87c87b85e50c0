-- The row that holds the worker is dropped.
use Rattle.std.proofs.Common.{rules, sym, subst}
use Rattle.amber_worker.specs.Changes.{ShowsDropped}
use Rattle.amber_worker.proofs.Commands.{shows-dropped}
use Rattle.amber_worker.proofs.worker.Worker.drop_held.Goals as goal

pub returns-then-not-self-clause-only : goal.returns-then-not-self-clause-only
returns-then-not-self-clause-only c = search rules

pub returns-clause-only : goal.returns-clause-only
returns-clause-only c = search rules

pub returns-then-not-self-clause-shows : goal.returns-then-not-self-clause-shows
returns-then-not-self-clause-shows c = subst (ShowsDropped c.args.self.now) (sym (returns-then-not-self-clause-only c)) (shows-dropped c.args.self.now)

pub returns-clause-shows : goal.returns-clause-shows
returns-clause-shows c = subst (ShowsDropped c.args.self.now) (sym (returns-clause-only c)) (shows-dropped c.args.self.now)
