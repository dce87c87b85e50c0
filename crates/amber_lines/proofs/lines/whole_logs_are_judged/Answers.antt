use Rattle.amber_lines.proofs.Beginnings.{whole_logs_are_judged}
use Rattle.amber_lines.proofs.lines.whole_logs_are_judged.Goals as goal

pub returns : goal.returns
returns c = whole_logs_are_judged
