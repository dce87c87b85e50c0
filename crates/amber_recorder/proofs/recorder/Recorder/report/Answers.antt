-- The item is written, and then the reply is put.
use Rattle.std.proofs.Common.{◌≡◌, Result, Ok, Err, ap, subst, sym, ◌∙◌, rules}
use Rattle.std.specs.Result.{IfOk}
use Rattle.amber_io.specs.Folder.{IsThere}
use Rattle.amber_io.specs.World.{World}
use Rattle.amber_io.proofs.Told.{more_there}
use Rattle.amber_recorder.proofs.Recording.{reports-none, reports-reply}
use Rattle.amber_recorder.proofs.recorder.Recorder.report.Goals as goal

pub returns-in_err-append-clause-reports : goal.returns-in_err-append-clause-reports
returns-in_err-append-clause-reports g c =
    let e : c.from_residual.result ≡ Err c.in_err-append.field-0.0 = search rules in
    rw e (reports-none c.in_err-append.field-0.0 c.args.self.now.log_name.now c.args.done.now (g.W.Outside.world c.args.self.now.outside.now)
    (g.W.Outside.world c.append.new.self.outside.now) (rw c.get.ensures at c.in_err-append.ensures.wrote) (ap (λ (w : World). w.got) c.append.ensures.only))

pub returns-clause-reports : goal.returns-clause-reports
returns-clause-reports g c =
    reports-reply c.answer.result c.args.self.now.log_name.now c.args.done.now (g.W.Outside.world c.args.self.now.outside.now)
    (g.W.Outside.world c.append.new.self.outside.now) (g.W.Outside.world c.answer.new.self.outside.now) (rw c.get.ensures at c.in_ok-append.ensures.wrote)
    (ap (λ (w : World). w.got) c.append.ensures.only) (rw c.get-2.ensures at c.answer.ensures.sent) (ap (λ (w : World). w.files) c.answer.ensures.only)

pub returns-clause-there : goal.returns-clause-there
returns-clause-there g c =
    let before = g.W.Outside.world c.args.self.now.outside.now in
    let files = ap (λ (w : World). w.files) c.answer.ensures.only ∙ c.in_ok-append.ensures.wrote in
    by-result c.answer.result (subst (λ now. IsThere now c.args.self.now.log_name.now) (sym files) (more_there before.files c.args.self.now.log_name.now c.get.result.now c.requires.there))
  where
    by-result : {X Y : Type 0} {P : Type 0} (r : Result X Y) → P → IfOk r (λ done. P)
    by-result (Ok x) h = h
    by-result (Err e) h = tt
