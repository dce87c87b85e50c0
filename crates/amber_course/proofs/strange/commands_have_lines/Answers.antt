-- From each command to the next.
use Rattle.std.proofs.Common.{subst}
use Rattle.std.specs.List.{All}
use Rattle.std.proofs.lemmas.List.{take_all}
use Rattle.amber_log.specs.Grammar.{IsLine}
use Rattle.amber_log.specs.Items.{opening_of}
use Rattle.amber_course.proofs.Commanded.{lines-more}
use Rattle.amber_course.proofs.strange.commands_have_lines.Goals as goal

pub loop-command-preserved : goal.loop-command-preserved
loop-command-preserved c =
    lines-more c.args.commands.now c.loop-command.command-index c.command-item.result c.loop-command-test.true c.command-item.is c.command_has_line.ensures c.loop-command.invariant

pub returns : goal.returns
returns c =
    subst (All (λ command. IsLine (opening_of command))) (take_all c.loop-command.command-index c.args.commands.now c.loop-command-test.false) c.loop-command.invariant
