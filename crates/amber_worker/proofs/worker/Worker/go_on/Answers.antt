-- A batch is taken, or the end is reached, or nothing is found.
use Rattle.std.proofs.Common.{sym, ap, ◌∙◌}
use Rattle.amber_link.specs.Sides.{have_all_ended}
use Rattle.amber_worker.specs.WorkerState.{WorkerState}
use Rattle.amber_worker.proofs.Dealings.{finishes-then, idles-then, takes-then}
use Rattle.amber_worker.proofs.worker.Worker.go_on.Goals as goal

pub returns-in-Some-clause-ok : goal.returns-in-Some-clause-ok
returns-in-Some-clause-ok c =
    let same = c.pass_used.ensures ∙ c.return_used.ensures in
    takes-then c.args.how c.args.self.now c.ready.new.self c.ready.ensures.looked c.requires.free c.requires.none c.requires.used c.take_from.new.self c.in-Some.ensures.some
    (rw same at c.in_ok-take_from.ensures.ok)

pub returns-then-have_ended-clause-ok : goal.returns-then-have_ended-clause-ok
returns-then-have_ended-clause-ok c =
    let ended = ap (λ (w : WorkerState). have_all_ended w.ins) (sym c.self.view_is) ∙ ap have_all_ended (sym c.as_slice.ensures.value) ∙ sym c.if-have_ended.ensures in
    finishes-then c.args.how c.args.self.now c.ready.new.self c.ready.ensures.looked c.requires.free c.requires.none c.requires.used c.finish.new.self c.in_default.ensures.none ended
    c.in_ok-finish.ensures.ok

pub returns-clause-ok : goal.returns-clause-ok
returns-clause-ok c =
    let ended = ap (λ (w : WorkerState). have_all_ended w.ins) (sym c.self.view_is) ∙ ap have_all_ended (sym c.as_slice.ensures.value) ∙ sym c.if-have_ended.ensures in
    idles-then c.args.how c.args.self.now c.ready.new.self c.ready.ensures.looked c.requires.free c.requires.none c.requires.used c.deal_with.new.self c.in_default.ensures.none ended
    c.in_ok-deal_with.ensures.ok
