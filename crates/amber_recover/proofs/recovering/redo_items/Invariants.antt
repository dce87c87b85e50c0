-- The items so far were done, the next one begins at this line, and no line before it is bad.
use Rattle.std.proofs.Common.{◌≡◌, ◌+◌, drop, false, length, take}
use Rattle.std.specs.List.{flat_map}
use Rattle.amber_log.specs.LogText.{item_lines}
use Rattle.amber_meaning.specs.Transcript.{transcript_of}
use Rattle.amber_lines.specs.Lines.{Between, bad_line_from}
use Rattle.amber_home.specs.HomeState.{query_of, rest_state}
use Rattle.amber_home.specs.declared.phase.Phase.TheVariants as phase
use Rattle.amber_recover.specs.Recovering.{bad_behind_head}
use Rattle.amber_recover.proofs.Walked.{HasDoneItems, told_of}
use Rattle.amber_recover.proofs.recovering.redo_items.Given as goal

abbrev pub invariant-loop-item : goal.invariant-loop-item
invariant-loop-item l = record {
  place : l.line ≡ 2 + length (flat_map item_lines (take l.item-index l.items));
  done : HasDoneItems l.items l.item-index l.initial.home l.home;
  silent : l.tells ≡ false → l.home.phase ≡ phase.Resting;
  left : bad_line_from (query_of l.initial.home) (Between (rest_state l.home)) l.line (flat_map item_lines (drop l.item-index l.items))
      ≡ bad_behind_head (query_of l.initial.home) l.items;
  told : l.text.items ≡ told_of l.tells (transcript_of (query_of l.initial.home) (take l.item-index l.items));
}
