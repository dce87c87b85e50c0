-- What was there is put back.
use Rattle.std.proofs.Common.{◌∙◌, ap, is_some}
use Rattle.std.specs.Map.{lookup}
use Rattle.amber_rows.specs.Operators.{same_row}
use Rattle.amber_keys.specs.Tables.{replaced}
use Rattle.amber_keys.proofs.Tables.{lookup-replaced, replaced-twice}
use Rattle.amber_group.proofs.groups.Groups.change.Goals as goal

pub swap-requires-in-Err : goal.swap-requires-in-Err
swap-requires-in-Err c =
    let key = c.args.key.now in
    ap is_some (ap (lookup (same_row key)) c.swap.ensures.kept) ∙ lookup-replaced key c.args.totals c.args.self.now ∙ c.requires

pub returns-in-Err-clause-groups_on_err : goal.returns-in-Err-clause-groups_on_err
returns-in-Err-clause-groups_on_err c =
    let key = c.args.key.now in
    c.swap-in-Err.ensures.kept ∙ ap (replaced key c.swap.new.totals) c.swap.ensures.kept ∙ replaced-twice key c.args.totals c.swap.new.totals c.args.self.now ∙ c.swap.ensures.back
