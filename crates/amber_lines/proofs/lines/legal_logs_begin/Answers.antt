use Rattle.amber_lines.proofs.Beginnings.{legal_logs_begin}
use Rattle.amber_lines.proofs.lines.legal_logs_begin.Goals as goal

pub returns : goal.returns
returns c = legal_logs_begin
