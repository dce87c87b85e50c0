-- From each stop to the next.
use Rattle.std.proofs.Common.{[], ap, ◌∙◌}
use Rattle.std.specs.List.{flat_map}
use Rattle.amber_meaning.specs.Texts.{stop_text, stops_text}
use Rattle.amber_report.proofs.Lines.{told_all, told_more}
use Rattle.amber_report.proofs.stops.stop_lines.Goals as goal

pub loop-stop-preserved : goal.loop-stop-preserved
loop-stop-preserved c =
    told_more (stop_text c.args.flow.now) [] c.loop-stop.text.items c.push_stop.new.text.items c.get-stop-items.result.now c.loop-stop.stop-index c.stop-item.result c.stop-item.result c.loop-stop-test.true c.stop-item.is
    c.loop-stop.invariant c.in_ok-push_stop.ensures

pub returns : goal.returns
unfolding stops_text
returns c =
    let stops = c.get-stop-items.result.now in
    c.new.ensures ∙ told_all (stop_text c.args.flow.now) [] c.loop-stop.text.items stops c.loop-stop.stop-index c.loop-stop-test.false c.loop-stop.invariant
    ∙ ap (flat_map (stop_text c.args.flow.now)) c.get-stop-items.ensures
