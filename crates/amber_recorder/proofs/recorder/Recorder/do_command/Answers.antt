-- What was done is reported, or a leg that was too long is written.
use Rattle.std.proofs.Common.{◌≡◌, Err, ap, rules}
use Rattle.amber_io.specs.World.{World}
use Rattle.amber_recorder.proofs.Recording.{open-next, performs-long, performs-none, performs-unlogged, reported-all, reported-none}
use Rattle.amber_recorder.proofs.recorder.Recorder.do_command.Goals as goal

pub returns-in_ok-report-in-Ok-clause-open : goal.returns-in_ok-report-in-Ok-clause-open
returns-in_ok-report-in-Ok-clause-open g c =
    λ other. open-next c.args.debugger.now c.command.new.self c.args.command.now c.in-Ok.done c.in-Ok.ensures.does other
