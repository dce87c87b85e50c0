-- From each place to the next, whose numbers have kinds.
use Rattle.std.proofs.Common.{◌<◌, length, sym, ◌∙◌, arith}
use Rattle.std.specs.List.{filter_map}
use Rattle.amber_rows.specs.Columns.{column_kind_at}
use Rattle.amber_rows.specs.declared.column.ColKind.TheVariants.{Int}
use Rattle.amber_flow.proofs.JoinFacts.{alike-end, alike-next, alike-stop, alike-uneven, kind-at, kinds-length}
use Rattle.amber_flow.proofs.join.are_same.Goals as goal

pub returns-then-build_keys-probe_keys : goal.returns-then-build_keys-probe_keys
returns-then-build_keys-probe_keys c =
    let kinds = filter_map (column_kind_at c.args.build.now) c.args.build_keys.now in
    let others = filter_map (column_kind_at c.args.probe.now) c.args.probe_keys.now in
    let count = kinds-length c.args.build.now c.args.build_keys.now c.requires.build in
    let other_count = kinds-length c.args.probe.now c.args.probe_keys.now c.requires.probe in
    sym (alike-uneven kinds others (λ even. omega (arith, even, count, other_count)))

pub loop-index-preserved : goal.loop-index-preserved
loop-index-preserved c =
    let kinds = filter_map (column_kind_at c.args.build.now) c.args.build_keys.now in
    let others = filter_map (column_kind_at c.args.probe.now) c.args.probe_keys.now in
    let i = c.loop-index.index in
    let within : i < length c.args.probe_keys.now = omega arith in
    let count = kinds-length c.args.build.now c.args.build_keys.now c.requires.build in
    let other_count = kinds-length c.args.probe.now c.args.probe_keys.now c.requires.probe in
    let kind = kind-at c.args.build.now c.args.build_keys.now c.requires.build i 0 c.loop-index-test.true in
    let other = kind-at c.args.probe.now c.args.probe_keys.now c.requires.probe i 0 within in
    let same = rw (c.kind_of_column-kind.ensures, c.kind_of_column-other.ensures, kind, other) at c.if-not-is_same.ensures in
    c.loop-index.invariant ∙ alike-next kinds others i Int Int (omega (arith, count)) (omega (arith, other_count, within)) same

pub returns-then-not-is_same : goal.returns-then-not-is_same
returns-then-not-is_same c =
    let kinds = filter_map (column_kind_at c.args.build.now) c.args.build_keys.now in
    let others = filter_map (column_kind_at c.args.probe.now) c.args.probe_keys.now in
    let i = c.loop-index.index in
    let within : i < length c.args.probe_keys.now = omega arith in
    let count = kinds-length c.args.build.now c.args.build_keys.now c.requires.build in
    let other_count = kinds-length c.args.probe.now c.args.probe_keys.now c.requires.probe in
    let kind = kind-at c.args.build.now c.args.build_keys.now c.requires.build i 0 c.loop-index-test.true in
    let other = kind-at c.args.probe.now c.args.probe_keys.now c.requires.probe i 0 within in
    let apart = rw (c.kind_of_column-kind.ensures, c.kind_of_column-other.ensures, kind, other) at c.if-not-is_same.ensures in
    sym (c.loop-index.invariant ∙ alike-stop kinds others i Int Int (omega (arith, count)) (omega (arith, other_count, within)) apart)

pub returns : goal.returns
returns c =
    let kinds = filter_map (column_kind_at c.args.build.now) c.args.build_keys.now in
    let others = filter_map (column_kind_at c.args.probe.now) c.args.probe_keys.now in
    let count = kinds-length c.args.build.now c.args.build_keys.now c.requires.build in
    let other_count = kinds-length c.args.probe.now c.args.probe_keys.now c.requires.probe in
    sym (c.loop-index.invariant ∙ alike-end kinds others c.loop-index.index (omega (arith, count)) (omega (arith, other_count)))
