use Rattle.std.proofs.Common.{◌≡◌, [], ◌++◌, append-nil, sym, ap, ◌∙◌}
use Rattle.std.specs.List.{cons_option}
use Rattle.serde_json.specs.View.{view}
use Rattle.amber_flow.specs.Columns.{renaming_of}
use Rattle.amber_flow.proofs.ListFacts.{kept-end, kept-more}
use Rattle.amber_flow.proofs.project.rename_all.Goals as goal
use Rattle.amber_flow.proofs.project.rename_all.Goals.{in-Some+in_ok-push, in_default}

pub loop-pair-preserved : goal.loop-pair-preserved
loop-pair-preserved c =
    let step : c.match-branch-2.made.items ≡ c.loop-pair.made.items ++ cons_option (c.in_ok-column.field-0) [] = elim c.match-branch-2.branch [
      | in-Some+in_ok-push w ↦ rw (w.made-is, w.in-Some.is) w.in_ok-push.ensures.items
      | in_default w ↦ rw (w.made-is, w.in_default.is) (sym (append-nil _))
    ] in
    kept-more (renaming_of c.args.columns.now) view c.args.pairs.now c.loop-pair.pair-index _ c.loop-pair.made.items c.match-branch-2.made.items c.loop-pair-test.true c.pair-item.is c.loop-pair.invariant
    (step ∙ ap (λ found. c.loop-pair.made.items ++ cons_option found []) c.in_ok-column.ensures)

pub returns : goal.returns
returns c = kept-end (renaming_of c.args.columns.now) view c.args.pairs.now c.loop-pair.pair-index c.loop-pair.made.items c.loop-pair-test.false c.loop-pair.invariant
