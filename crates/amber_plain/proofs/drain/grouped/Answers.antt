-- The holder is a group as before, which had no row.
use Rattle.std.proofs.Common.{[], List, ℕ, Some}
use Rattle.amber_rows.specs.declared.agg.Agg.{Agg}
use Rattle.amber_plain.proofs.drain.grouped.Goals as goal

pub unreachable-requires : goal.unreachable-requires
unreachable-requires c =
    let state = c.in_ok-state.ensures in
    let held = c.in_ok-holder.ensures.taken (Some (c.args.keys.now, c.args.aggs.now)) [] (state.keys, state.aggs, state.rows) in rw c.in-Rows.is at held

pub returns-clause-rows : goal.returns-clause-rows
returns-clause-rows c =
    let state = c.in_ok-state.ensures in
    let by : List ℕ × List Agg = (c.args.keys.now, c.args.aggs.now) in
    let held = c.in_ok-holder.ensures.taken (Some by) [] (state.keys, state.aggs, state.rows) in
    let group = rw c.in-Group.is at held in
    let made = c.in_ok-finish-in-Group.ensures.rows _ group.2 in
    rw (group.0, group.1) at made

pub returns-clause-refused : goal.returns-clause-refused
returns-clause-refused c =
    let state = c.in_ok-state.ensures in
    let by : List ℕ × List Agg = (c.args.keys.now, c.args.aggs.now) in
    let held = c.in_ok-holder.ensures.taken (Some by) [] (state.keys, state.aggs, state.rows) in
    let group = rw c.in-Group.is at held in
    let made = c.in_ok-finish-in-Group.ensures.refused _ group.2 in
    rw (group.0, group.1) at made
