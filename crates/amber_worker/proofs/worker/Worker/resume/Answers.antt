-- It goes on, that was paused.
use Rattle.std.proofs.Common.{◌≡◌, false, true, rules, ap, sym, ◌∙◌, subst}
use Rattle.amber_worker.specs.AtPosition.{KeepsUnder}
use Rattle.amber_worker.specs.WorkerState.{WorkerState, is_armed}
use Rattle.amber_worker.proofs.Bounds.{few-resumed}
use Rattle.amber_worker.proofs.KeptPosition.{Keeps-refl}
use Rattle.amber_worker.proofs.Stills.{Keeps-resumed_at}
use Rattle.amber_worker.proofs.Unchanged.{same-journal}
use Rattle.amber_worker.proofs.worker.Worker.resume.Goals as goal

pub returns-clause-ok : goal.returns-clause-ok
returns-clause-ok c = search rules

pub returns-in_err-reserve-clause-keeps : goal.returns-in_err-reserve-clause-keeps
returns-in_err-reserve-clause-keeps c =
    let old = c.args.self.now in
    subst (KeepsUnder (is_armed old) old) (sym (same-journal _ _ _ _ c.reserve.ensures.items c.reserve.ensures.reserved c.self.view_is)) (Keeps-refl (is_armed old) old)

pub returns-clause-keeps : goal.returns-clause-keeps
returns-clause-keeps c =
    let old = c.args.self.now in
    let paused : c.self.inside.flags.paused ≡ true = ap (λ (w : WorkerState). w.restraint.paused) c.self.view_is ∙ c.requires.paused in
    let unfinished : old.finished ≡ false = ap (λ (w : WorkerState). w.finished) (sym c.self.view_is) ∙ c.self.invariant.unfinished paused in
    subst (KeepsUnder (is_armed old) old) (sym (returns-clause-ok c)) (Keeps-resumed_at (is_armed old) old unfinished c.requires.loose c.requires.paused)

pub invariant_of-self-2 : goal.invariant_of-self-2
invariant_of-self-2 c = rw (c.push.ensures.items, c.reserve.ensures.items) (few-resumed _ c.self.invariant)
