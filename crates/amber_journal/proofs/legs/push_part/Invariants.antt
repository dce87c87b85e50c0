-- The worker's line and the entries so far are written.
use Rattle.std.proofs.Common.{◌≡◌, ◌++◌, take}
use Rattle.std.specs.List.{flat_map}
use Rattle.amber_log.specs.LogText.{line_text}
use Rattle.amber_log.specs.declared.line.Line.TheVariants as line
use Rattle.amber_journal.specs.Written.{entry_text}
use Rattle.amber_journal.proofs.legs.push_part.Given as goal

abbrev pub invariant-loop-entry : goal.invariant-loop-entry
invariant-loop-entry l =
    l.out.items ≡ l.fn.out.items ++ (line_text (line.Worker l.part.worker) ++ flat_map entry_text (take l.entry-index l.entries))
