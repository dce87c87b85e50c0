-- Rows are kept of the build side.
use Rattle.std.proofs.Common.{refl, subst, sym}
use Rattle.amber_operators.specs.ReadiedRows.{AreBuiltReady, FeedsReadied, Reading}
use Rattle.amber_operators.specs.declared.readied_rows.ReadiedRows.{ReadiedRows}
use Rattle.amber_operators.specs.declared.operator_state.OperatorState.TheVariants as operator_state
use Rattle.amber_operators.specs.declared.taking_rows.Rest.{Rest}
use Rattle.amber_operators.proofs.ReadiedFacts.{built-fed, ok-both}
use Rattle.amber_operators.proofs.taking_ready.feed_rows.Goals as goal

pub returns-in-Join-clause-ok : goal.returns-in-Join-clause-ok
returns-in-Join-clause-ok c =
    ok-both _ _ _ c.build_rows.result c.build_rows.ensures.state c.build_rows.ensures.rows
    (λ state rows builds ready.
    let how : Reading = record { count = c.args.count; columns = c.args.columns.now; builds = builds; state = c.args.operator_state.now } in
    let r : AreBuiltReady how c.args.rest.now = rw c.in-Built.is at ready in
    let now : Rest = record c.args.rest.now { rows = c.build_rows.new.rows } in
    subst (λ (x : ReadiedRows). FeedsReadied how c.args.rest.now now (operator_state.Join c.build_rows.new.state) x) (sym c.in-Built.is)
    (built-fed how c.args.rest.now now c.in-Join.state c.build_rows.new.state r c.in-Join.is state refl refl rows))
