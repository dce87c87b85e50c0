-- It stands where it stood, over the links that it had.
use Rattle.std.proofs.Common.{rules, ap, subst, sym}
use Rattle.amber_worker.specs.AtPosition.{HasSameEnds}
use Rattle.amber_worker.specs.Replacing.{ShowsReplaced, StandsReplaced}
use Rattle.amber_worker.specs.WorkerState.{WorkerState}
use Rattle.amber_worker.proofs.Replaced.{ends-replaced, few-replaced, shows-replaced, stands-replaced}
use Rattle.amber_worker.proofs.worker.Worker.replace_with.Goals as goal

pub invariant_of-self : goal.invariant_of-self
invariant_of-self c =
    few-replaced _ _ c.args.self.now c.args.made c.made.invariant c.self.invariant c.requires.alike
    (ap (λ (w : WorkerState). w.ins) c.made.view_is) (ap (λ (w : WorkerState). w.ins) c.self.view_is)
    (ap (λ (w : WorkerState). w.emitted) c.made.view_is) (ap (λ (w : WorkerState). w.emitted) c.self.view_is)
    (ap (λ (w : WorkerState). w.finished) c.made.view_is) (ap (λ (w : WorkerState). w.finished) c.self.view_is)

pub returns-clause-only : goal.returns-clause-only
returns-clause-only c = search rules

pub returns-clause-shows : goal.returns-clause-shows
returns-clause-shows c = subst (ShowsReplaced c.args.self.now c.args.made) (sym (returns-clause-only c)) (shows-replaced c.args.self.now c.args.made)

pub returns-clause-stands : goal.returns-clause-stands
returns-clause-stands c = subst (StandsReplaced c.args.self.now c.args.made) (sym (returns-clause-only c)) (stands-replaced c.args.self.now c.args.made)

pub returns-clause-ends : goal.returns-clause-ends
returns-clause-ends c = subst (HasSameEnds c.args.self.now) (sym (returns-clause-only c)) (ends-replaced c.args.self.now c.args.made c.requires.alike)
