use Rattle.std.proofs.Common.{◌<◌, List, ℕ, Bor, length, map, subst, sym, arith, refl}
use Rattle.std.proofs.lemmas.List.{length-map}
use Rattle.amber_rows.specs.Columns.{HasInput}
use Rattle.amber_rows.specs.declared.column.Column.{Column}
use Rattle.amber_flow.specs.Joins.{join_over}
use Rattle.amber_flow.proofs.JoinFacts.{join-kind}
use Rattle.amber_flow.proofs.PartFacts.{parts-handed_on, parts-no_memory}
use Rattle.amber_flow.proofs.join.read_over.Goals as goal

pub returns : goal.returns
unfolding join_over
returns c =
    let now = λ (name : Bor (List ℕ)). name.now in
    let before = c.args.before.now in
    let build = c.args.build in
    let probe = c.args.probe in
    let names = c.args.build_names.now in
    let has_build = subst (λ (columns : List Column). HasInput before build columns) (sym c.get-built.ensures) c.schema_at.ensures.input in
    let has_probe = subst (λ (columns : List Column). HasInput before probe columns) (sym c.get-probed.ensures) c.schema_at-2.ensures.input in
    let some : 0 < length (map now names) = omega (arith, c.requires.some, length-map names now) in
    record {
      parts = rw (c.schema_at.ensures.columns, c.schema_at-2.ensures.columns, ← c.get-built.ensures, ← c.get-probed.ensures, ← c.in_ok-keys.ensures.keys, c.in_ok-schema.ensures) refl;
      kind = join-kind before build probe c.get-built.result.now c.get-probed.result.now (map now names) c.in_ok-keys.keys c.in_ok-schema.schema c.requires.build c.requires.probe has_build has_probe some c.in_ok-keys.ensures.fit c.in_ok-schema.ensures;
      sink = refl;
    }

pub returns-in_err-keys : goal.returns-in_err-keys
unfolding join_over
returns-in_err-keys c =
    rw (c.schema_at.ensures.columns, c.schema_at-2.ensures.columns, ← c.get-built.ensures, ← c.get-probed.ensures)
    (parts-handed_on c.from_residual.result c.in_err-keys.field-0.0 _ _ c.from_residual.ensures.1 c.in_err-keys.ensures.keys (λ why is. rw (← is)))

pub returns-in_err-schema : goal.returns-in_err-schema
returns-in_err-schema c = parts-no_memory c.from_residual-in_err-schema.result c.from_residual-in_err-schema.ensures.1
