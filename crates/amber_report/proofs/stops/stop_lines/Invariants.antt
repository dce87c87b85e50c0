-- The stops so far are printed.
use Rattle.std.proofs.Common.{◌≡◌, take}
use Rattle.std.specs.List.{flat_map}
use Rattle.amber_meaning.specs.Texts.{stop_text}
use Rattle.amber_report.proofs.stops.stop_lines.Given as goal

abbrev pub invariant-loop-stop : goal.invariant-loop-stop
invariant-loop-stop l = l.text.items ≡ flat_map (stop_text l.flow) (take l.stop-index l.stop-items)
