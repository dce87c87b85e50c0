-- The keys that were meant, step by step.
use Rattle.std.proofs.Common.{List, ℕ, Bor, map, refl, sym, ap}
use Rattle.std.specs.List.{filter_map}
use Rattle.amber_rows.specs.Columns.{column_kind_at}
use Rattle.amber_flow.specs.Joins.{keys_of}
use Rattle.amber_flow.proofs.JoinFacts.{are-keys, found-kinds}
use Rattle.amber_flow.proofs.ReadFacts.{handed_on, ok_or-some}
use Rattle.amber_flow.proofs.join.read_keys.Goals as goal

pub are_same-requires-clause-build : goal.are_same-requires-clause-build
are_same-requires-clause-build c =
    let now = λ (name : Bor (List ℕ)). name.now in
    rw c.get.ensures (found-kinds c.args.build.now (map now c.args.build_names.now) c.in_ok-build_keys.build_keys (ok_or-some _ _ _ c.in_ok-build_keys.ensures))

pub are_same-requires-clause-probe : goal.are_same-requires-clause-probe
are_same-requires-clause-probe c =
    let now = λ (name : Bor (List ℕ)). name.now in
    rw c.get-2.ensures (found-kinds c.args.probe.now (map now c.args.probe_names.now) c.in_ok-probe_keys.probe_keys (ok_or-some _ _ _ c.in_ok-probe_keys.ensures))

pub returns-clause-fit : goal.returns-clause-fit
returns-clause-fit c =
    let now = λ (name : Bor (List ℕ)). name.now in
    are-keys c.args.build.now c.args.probe.now (map now c.args.build_names.now) (map now c.args.probe_names.now) c.in_ok-build_keys.build_keys c.in_ok-probe_keys.probe_keys
    (filter_map (column_kind_at c.args.build.now) c.get.result.now) (filter_map (column_kind_at c.args.probe.now) c.get-2.result.now)
    (ok_or-some _ _ _ c.in_ok-build_keys.ensures) (ok_or-some _ _ _ c.in_ok-probe_keys.ensures)
    (ap (filter_map (column_kind_at c.args.build.now)) c.get.ensures) (ap (filter_map (column_kind_at c.args.probe.now)) c.get-2.ensures)
    (sym c.if-not-are_same.ensures) (record { build = c.in_ok-build_keys.build_keys; probe = c.in_ok-probe_keys.probe_keys }) refl refl

pub returns-clause-keys : goal.returns-clause-keys
unfolding keys_of
returns-clause-keys c =
    let alike = rw (c.get.ensures, c.get-2.ensures) at c.if-not-are_same.ensures in
    rw (← c.in_ok-build_keys.ensures, ← c.in_ok-probe_keys.ensures, ← alike) refl

pub returns-in_err-build_keys-clause-keys : goal.returns-in_err-build_keys-clause-keys
unfolding keys_of
returns-in_err-build_keys-clause-keys c =
    handed_on c.from_residual.result c.in_err-build_keys.field-0.0 _ _ c.from_residual.ensures.1 c.in_err-build_keys.ensures (λ why is. rw (← is))

pub returns-in_err-probe_keys-clause-keys : goal.returns-in_err-probe_keys-clause-keys
unfolding keys_of
returns-in_err-probe_keys-clause-keys c =
    rw (← c.in_ok-build_keys.ensures)
    (handed_on c.from_residual-in_err-probe_keys.result c.in_err-probe_keys.field-0.0 _ _ c.from_residual-in_err-probe_keys.ensures.1 c.in_err-probe_keys.ensures (λ why is. rw (← is)))

pub returns-then-not-are_same-clause-keys : goal.returns-then-not-are_same-clause-keys
unfolding keys_of
returns-then-not-are_same-clause-keys c =
    let alike = rw (c.get.ensures, c.get-2.ensures) at c.if-not-are_same.ensures in
    rw (← c.in_ok-build_keys.ensures, ← c.in_ok-probe_keys.ensures, ← alike) refl
