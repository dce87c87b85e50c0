-- The lines before this place were noted.
use Rattle.std.proofs.Common.{◌≡◌, ◌<◌, ◌-◌, ◌++◌, drop, length, map}
use Rattle.std.specs.List.{All}
use Rattle.amber_cut.specs.Lines.{StandApart, line_at, lines}
use Rattle.amber_cut.proofs.starts.line_starts.Given as goal

abbrev pub invariant-lines : goal.invariant-lines
invariant-lines l = record {
  start_if_filled : lines (drop l.from l.bytes) ≡ map (line_at l.bytes) l.starts.items ++ lines (drop l.at l.bytes);
  within : All (λ start. start < length l.bytes) l.starts.items;
  apart : StandApart l.bytes l.from l.starts.items l.at;
}

abbrev pub decreases-lines : goal.decreases-lines
decreases-lines l = length l.bytes - l.at
