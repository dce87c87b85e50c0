-- The line was put whole.
use Rattle.amber_course.specs.declared.status.Status.TheVariants as status
use Rattle.amber_commands.specs.Refusal.{refusal_line}
use Rattle.amber_commands.specs.declared.refusal.Refusal.TheVariants as refusal
use Rattle.amber_commands.proofs.Reporting.{reports-whole}
use Rattle.amber_commands.proofs.refusal.refuse_log.Goals as goal

pub returns-in-Ok-clause-reports : goal.returns-in-Ok-clause-reports
returns-in-Ok-clause-reports g c =
    let lined = rw c.word.ensures at c.in-Ok.ensures.lined in
    reports-whole (refusal_line (refusal.Log c.args.line c.args.why)) status.BadLog (g.W.Outside.world c.args.outside.now) (g.W.Outside.world c.put_reason_line.new.outside) lined.0 lined.1
