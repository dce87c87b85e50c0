-- The workflow is that of the example, with so many workers for its scan.
use Rattle.std.proofs.Common.{◌≡◌, refl, sym, subst, ◌∙◌}
use Rattle.amber_rows.specs.FlowRules.{IsFlow}
use Rattle.amber_debug_tests.specs.Query.{operators_by}
use Rattle.amber_debug_tests.proofs.Scans.{flow-by, one-scan}
use Rattle.amber_debug_tests.proofs.query.query_by.Goals as goal

pub new-requires : goal.new-requires
new-requires c =
    let made : c.add-3.new.operators.items ≡ operators_by c.args.scans =
    rw (c.in_ok-add-3.ensures, c.in_ok-add-2.ensures, c.in_ok-add.ensures, c.new-operators.ensures.items, c.in_ok-file.ensures) refl in
    subst IsFlow (sym made) (flow-by c.args.scans c.requires.some c.requires.few)

pub returns : goal.returns
returns c =
    let made : c.add-3.new.operators.items ≡ operators_by c.args.scans =
    rw (c.in_ok-add-3.ensures, c.in_ok-add-2.ensures, c.in_ok-add.ensures, c.new-operators.ensures.items, c.in_ok-file.ensures) refl in
    rw (c.new.ensures ∙ made) (one-scan c.args.scans)
