-- The aggregate at the place, or none past the last.
use Rattle.std.proofs.Common.{◌∙◌, ◌<◌, ◌≤◌, suc, ap, arith, length, refl, sym}
use Rattle.std.proofs.lemmas.Bool.{leb-false}
use Rattle.std.proofs.lemmas.Option.{slice_get_past, slice_get_read}
use Rattle.amber_group.specs.Totals.{blank_for}
use Rattle.amber_group.proofs.totals.blank_at.Goals as goal

pub returns-in-Some : goal.returns-in-Some
returns-in-Some c =
    let aggs = c.args.aggs.now in
    let at = c.in-Some.ensures.lookup in
    c.new.ensures ∙ ap blank_for (sym (slice_get_read aggs (length aggs) c.args.place c.in-Some.agg.now refl at.3.0 at.1))

pub returns-in-None : goal.returns-in-None
returns-in-None c =
    let aggs = c.args.aggs.now in
    let outside : length aggs < suc c.args.place = leb-false (suc c.args.place) (length aggs) (sym c.in-None.ensures.lookup.0) in
    let past : length aggs ≤ c.args.place = omega (arith, outside) in
    ap blank_for (sym (slice_get_past aggs c.args.place past))
