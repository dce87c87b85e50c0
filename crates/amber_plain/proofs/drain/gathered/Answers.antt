-- Rows that stand in a list, after which no stage is left, are as they are. Else the holder is a list as before, and had no row.
use Rattle.std.proofs.Common.{[], None}
use Rattle.amber_plain.specs.Stages.{count_through, rows_through}
use Rattle.amber_plain.proofs.drain.gathered.Goals as goal

pub returns-in-Ok-clause-rows : goal.returns-in-Ok-clause-rows
unfolding rows_through
returns-in-Ok-clause-rows c = rw c.in-Ok.ensures.rows c.counted.ensures.rows

pub returns-in-Ok-clause-left : goal.returns-in-Ok-clause-left
unfolding count_through
returns-in-Ok-clause-left c = rw c.in-Ok.ensures.rows c.counted.ensures.left

pub unreachable-requires : goal.unreachable-requires
unreachable-requires c =
    let held = c.in_ok-holder.ensures.taken None [] c.new.ensures.items in rw c.in-Group.is at held

pub returns-clause-rows : goal.returns-clause-rows
returns-clause-rows c =
    let held = c.in_ok-holder.ensures.taken None [] c.new.ensures.items in rw (c.in-Rows.is, c.in-Err.ensures.other) at held
