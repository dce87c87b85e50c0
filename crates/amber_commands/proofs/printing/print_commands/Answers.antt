-- The script, or the line of a refusal.
use Rattle.std.proofs.Common.{map, string_bytes}
use Rattle.amber_commands.proofs.Ending.{answered-refused}
use Rattle.amber_commands.proofs.printing.print_commands.Goals as goal

pub returns-in-Err : goal.returns-in-Err
returns-in-Err g c =
    answered-refused c.in-Err.refusal (map string_bytes c.args.words.now) c.report.result (g.W.Outside.world c.args.outside.now) (g.W.Outside.world c.print.new.outside)
    (g.W.Outside.world c.report.new.outside) c.in-Err.ensures.prepares c.in-Err.ensures.named c.in-Err.ensures.only c.report.ensures.reports c.report.ensures.told c.report.ensures.only
