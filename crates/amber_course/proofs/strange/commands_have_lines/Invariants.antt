-- Each of the commands so far has a line.
use Rattle.std.proofs.Common.{take}
use Rattle.std.specs.List.{All}
use Rattle.amber_log.specs.Grammar.{IsLine}
use Rattle.amber_log.specs.Items.{opening_of}
use Rattle.amber_course.proofs.strange.commands_have_lines.Given as goal

abbrev pub invariant-loop-command : goal.invariant-loop-command
invariant-loop-command l = All (λ command. IsLine (opening_of command)) (take l.command-index l.commands)
