-- The log is made, and then come the commands.
use Rattle.std.proofs.Common.{◌≡◌, ◌++◌, [], Ok, Err, ap, subst, sym, refl, rules}
use Rattle.amber_io.specs.World.{World}
use Rattle.amber_run.specs.RunTask.{IsSession, RunTask, end_alone}
use Rattle.amber_run.specs.UnderWay.{IsUnderWay}
use Rattle.amber_run.proofs.Finishing.{opens-failure, worked-script}
use Rattle.amber_run.proofs.Working.{opens-made, stands-start}
use Rattle.amber_run.proofs.run_job.record_run.Goals as goal

pub returns-in_err-create_log-clause-worked : goal.returns-in_err-create_log-clause-worked
returns-in_err-create_log-clause-worked g c =
    let t : RunTask = record {
      before = g.W.Outside.world c.args.recorder.now.outside.now;
      name = c.args.recorder.now.log_name.now;
      flow = c.args.debugger.now.flow;
      inputs = c.args.debugger.now.files;
      batch_size = c.args.batch_size;
      begun = [];
      commands = c.args.commands.now ++ end_alone;
    } in
    let now : World = g.W.Outside.world c.create_log.new.self.outside.now in
    let e : c.from_residual.result ≡ Err c.in_err-create_log.field-0.0 = search rules in
    rw e (opens-failure c.in_err-create_log.field-0.0 t now
    (opens-made (Err c.in_err-create_log.field-0.0) t c.args.batch_size now c.requires.batch refl c.in_err-create_log.ensures.makes
    (ap (λ (w : World). w.got) c.create_log.ensures.only)))

pub returns-clause-worked : goal.returns-clause-worked
returns-clause-worked g c =
    let t : RunTask = record {
      before = g.W.Outside.world c.args.recorder.now.outside.now;
      name = c.args.recorder.now.log_name.now;
      flow = c.args.debugger.now.flow;
      inputs = c.args.debugger.now.files;
      batch_size = c.args.batch_size;
      begun = [];
      commands = c.args.commands.now ++ end_alone;
    } in
    let mid : World = g.W.Outside.world c.create_log.new.self.outside.now in
    let session : IsSession t c.args.debugger.now = record { flow = refl; inputs = refl; most = c.requires.most } in
    let made = stands-start t c.args.batch_size mid c.requires.batch refl c.in_ok-create_log.ensures.makes
    (ap (λ (w : World). w.got) c.create_log.ensures.only) refl in
    let way = subst (λ log. IsUnderWay t t.commands log mid) (sym c.requires.begun) made in
    worked-script c.do_script.result t c.args.commands.now c.do_script.new.debugger (g.W.Outside.world c.do_script.new.recorder.outside.now) c.requires.flow refl
    (c.do_script.ensures.did t (sym c.create_log.ensures.same_log) (record { session = session; way = way }))
