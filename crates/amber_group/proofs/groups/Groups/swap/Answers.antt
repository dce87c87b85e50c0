-- What the place had is given back.
use Rattle.std.proofs.Common.{◌∙◌, List, Some, ap, is_some, sym}
use Rattle.std.specs.Map.{lookup}
use Rattle.std.proofs.lemmas.Bool.{false≢true}
use Rattle.amber_rows.specs.Operators.{same_row}
use Rattle.amber_keys.proofs.Tables.{lookup-at, set-at, set-same}
use Rattle.amber_keys.specs.Tables.{replaced}
use Rattle.amber_group.specs.declared.running.Running.{Running}
use Rattle.amber_group.proofs.groups.Groups.swap.Goals as goal

pub unreachable-requires : goal.unreachable-requires
unreachable-requires c =
    let key = c.args.key.now in
    absurd (false≢true (sym (ap is_some c.in_default.ensures.absent) ∙ ap (λ groups. is_some (lookup (same_row key) groups)) c.self.view_is ∙ c.requires))

pub returns : goal.returns
returns c =
    let entries = c.self.inside.table.entries in
    let key = c.args.key.now in
    let place = c.in-Some.place in
    let found = c.in-Some.ensures in
    let old = c.value_mut.result.now in
    let at = λ (new : List Running). set-at key new entries place found.distinct found.place in
    record {
      kept = at c.swap.new.x ∙ (λ i. replaced key (c.swap.ensures.x_after i) (c.self.view_is i));
      given = ap (lookup (same_row key)) (sym c.self.view_is) ∙ lookup-at key entries place found.distinct found.place ∙ c.value_mut.ensures.value ∙ ap Some (sym c.swap.ensures.y_after);
      back = (λ i. replaced key (c.swap.ensures.y_after i) (sym c.self.view_is i)) ∙ sym (at old) ∙ set-same entries place old c.value_mut.ensures.value ∙ c.self.view_is;
    }
