-- What was read so far, then what the lines that are left mean.
use Rattle.std.proofs.Common.{◌≡◌, ◌+◌, ◌≤◌, cond, length, true}
use Rattle.std.specs.List.{list_all}
use Rattle.amber_log.specs.Fits.{fits_of}
use Rattle.amber_script.specs.Answers.{after, lines_left}
use Rattle.amber_script.specs.Commands.{is_scripted}
use Rattle.amber_script.specs.Script.{commands_from, script_of}
use Rattle.amber_script.proofs.read.read_script.Given as goal

abbrev pub invariant-loop-more : goal.invariant-loop-more
invariant-loop-more l = record {
  meant : script_of l.fn.bytes l.fn.flow ≡ after l.commands.items (commands_from l.number l.fn.flow (lines_left l.more l.rest));
  fit : list_all (fits_of l.fn.flow) l.commands.items ≡ true;
  scripted : list_all is_scripted l.commands.items ≡ true;
  nth : l.number + length l.rest ≤ length l.fn.bytes + 1;
}

abbrev pub decreases-loop-more : goal.decreases-loop-more
decreases-loop-more l = cond l.more (length l.rest + 1) 0
