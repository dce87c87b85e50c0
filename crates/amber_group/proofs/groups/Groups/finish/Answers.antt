-- Group by group.
use Rattle.std.proofs.Common.{◌∙◌, ◌∷◌, ◌++◌, [], List, map}
use Rattle.std.specs.Map.Iter.{deref_pair}
use Rattle.std.proofs.lemmas.List.{map-append}
use Rattle.amber_rows.specs.declared.value.Value.{Value}
use Rattle.amber_group.specs.declared.running.Running.{Running}
use Rattle.amber_group.specs.Finished.{finished_rows, refused_of}
use Rattle.amber_group.proofs.Finishing.{refused-next, rows-next}
use Rattle.amber_group.proofs.groups.Groups.finish.Goals as goal

pub loop-key-preserved : goal.loop-key-preserved
loop-key-preserved c =
    let shown = deref_pair {K = List Value} {X = List Running} in
    let before = map shown c.loop-key.yielded in
    let group : List Value × List Running = (c.in-Some.key.now, c.in-Some.totals.now) in
    let next = map-append shown c.loop-key.yielded ((c.in-Some.key, c.in-Some.totals) ∷ []) in
    record {
      rows = rows-next before _ c.loop-key.rows.items c.add_group.new.rows.items group next c.loop-key.invariant.rows
          (c.in_ok-add_group.ensures.rows ∙ (λ j. c.loop-key.rows.items ++ finished_rows ((c.row.ensures j, c.get.ensures j) ∷ [])));
      refused = refused-next before _ c.loop-key.refused.items c.add_group.new.refused.items group next c.loop-key.invariant.refused
          (c.in_ok-add_group.ensures.refused ∙ (λ j. c.loop-key.refused.items ++ refused_of ((c.row.ensures j, c.get.ensures j) ∷ [])));
    }
