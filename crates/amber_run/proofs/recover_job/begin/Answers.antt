-- The log is made, and what was done is written and put.
use Rattle.std.proofs.Common.{◌≡◌, ◌≢◌, [], Ok, Err, ap, length, sym, ◌∙◌, rules}
use Rattle.std.proofs.lemmas.Bool.{eqb-false, eqb-true}
use Rattle.amber_io.specs.World.{World}
use Rattle.amber_run.proofs.Begun.{go-none, go-reported, go-unopened, no-items, some-items}
use Rattle.amber_run.proofs.recover_job.begin.Goals as goal

pub returns-in_err-create_log-clause-begins : goal.returns-in_err-create_log-clause-begins
returns-in_err-create_log-clause-begins g c =
    λ t h told.
    let e : c.from_residual.result ≡ Err c.in_err-create_log.field-0.0 = search rules in
    rw e (go-unopened c.in_err-create_log.field-0.0 t c.args.old.now c.args.recorder.now.log_name.now (g.W.Outside.world c.args.recorder.now.outside.now)
    (g.W.Outside.world c.create_log.new.self.outside.now) h c.requires.old.batch c.in_err-create_log.ensures.makes (ap (λ (w : World). w.got) c.create_log.ensures.only))

pub returns-then-is_empty-clause-begins : goal.returns-then-is_empty-clause-begins
returns-then-is_empty-clause-begins g c =
    λ t h told.
    let none : c.args.old.now.items ≡ [] = no-items c.args.old.now.items (rw c.get.ensures at (eqb-true (length c.get.result.now) 0 (sym c.is_empty.ensures ∙ c.if-is_empty.true))) in
    go-none t c.args.old.now c.args.recorder.now.log_name.now (g.W.Outside.world c.args.recorder.now.outside.now) (g.W.Outside.world c.create_log.new.self.outside.now) h c.requires.old.batch
    c.in_ok-create_log.ensures.makes (ap (λ (w : World). w.got) c.create_log.ensures.only) none

pub returns-clause-begins : goal.returns-clause-begins
returns-clause-begins g c =
    λ t h told.
    let some : c.args.old.now.items ≢ [] = some-items c.args.old.now.items (rw c.get.ensures at (eqb-false (length c.get.result.now) 0 (sym c.is_empty.ensures ∙ c.if-is_empty.false))) in
    go-reported c.report.result t c.args.old.now c.args.recorder.now.log_name.now c.args.done.now (g.W.Outside.world c.args.recorder.now.outside.now)
    (g.W.Outside.world c.create_log.new.self.outside.now) (g.W.Outside.world c.report.new.self.outside.now) h c.requires.old.batch c.in_ok-create_log.ensures.makes
    (ap (λ (w : World). w.got) c.create_log.ensures.only) some c.requires.text told (rw c.create_log.ensures.same_log at c.report.ensures.reports)
