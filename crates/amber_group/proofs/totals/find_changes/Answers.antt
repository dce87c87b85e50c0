-- One change more.
use Rattle.std.proofs.Common.{◌∙◌, ◌++◌, ◌∷◌, [], ap, map, sym, take_all}
use Rattle.std.proofs.lemmas.List.{map_more}
use Rattle.amber_group.specs.Steps.{change_of}
use Rattle.amber_group.proofs.totals.find_changes.Goals as goal

pub loop-running-preserved : goal.loop-running-preserved
loop-running-preserved c =
    let change = change_of c.args.row.now in
    let i = c.loop-running.running-index in
    c.in_ok-push.ensures.items ∙ (λ j. c.loop-running.invariant j ++ (c.in_ok-change.ensures ∙ ap change c.running-item.is) j ∷ [])
    ∙ sym (map_more change c.args.runnings.now i c.running-item.result c.loop-running-test.true)

pub returns : goal.returns
returns c =
    let runnings = c.args.runnings.now in
    c.loop-running.invariant ∙ ap (map (change_of c.args.row.now)) (take_all c.loop-running.running-index runnings c.loop-running-test.false)
