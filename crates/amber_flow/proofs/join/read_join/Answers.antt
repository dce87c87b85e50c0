-- The join that was meant, step by step.
use Rattle.std.proofs.Common.{refl}
use Rattle.amber_flow.specs.Joins.{join_of}
use Rattle.amber_flow.proofs.PartFacts.{none-meant, parts-handed_on, parts-refused}
use Rattle.amber_flow.proofs.join.read_join.Goals as goal

pub returns : goal.returns
unfolding join_of
returns c =
    rw (← c.in_ok-build_id.ensures, ← c.in_ok-probe_id.ensures, ← c.in_ok-build_names.ensures, ← c.in_ok-probe_names.ensures, ← c.as_slice-build_names.ensures.value, ← c.as_slice-probe_names.ensures.value, ← c.if-not-may_be_keys.ensures.paired, ← c.in_ok-build.ensures.number, ← c.in_ok-probe.ensures.number) c.read_over.ensures

pub returns-in_err-build_id : goal.returns-in_err-build_id
unfolding join_of
returns-in_err-build_id c =
    rw (← c.in_err-build_id.ensures) (parts-refused c.from_residual.result c.in_err-build_id.field-0.0 c.from_residual.ensures.1)

pub returns-in_err-probe_id : goal.returns-in_err-probe_id
unfolding join_of
returns-in_err-probe_id c =
    rw (← c.in_ok-build_id.ensures, ← c.in_err-probe_id.ensures) (parts-refused c.from_residual-in_err-probe_id.result c.in_err-probe_id.field-0.0 c.from_residual-in_err-probe_id.ensures.1)

pub returns-in_err-build_names : goal.returns-in_err-build_names
unfolding join_of
returns-in_err-build_names c =
    rw (← c.in_ok-build_id.ensures, ← c.in_ok-probe_id.ensures)
    (parts-handed_on c.from_residual-in_err-build_names.result c.in_err-build_names.field-0.0 _ _ c.from_residual-in_err-build_names.ensures.1 c.in_err-build_names.ensures (λ why is. rw (← is)))

pub returns-in_err-probe_names : goal.returns-in_err-probe_names
unfolding join_of
returns-in_err-probe_names c =
    rw (← c.in_ok-build_id.ensures, ← c.in_ok-probe_id.ensures, ← c.in_ok-build_names.ensures)
    (parts-handed_on c.from_residual-in_err-probe_names.result c.in_err-probe_names.field-0.0 _ _ c.from_residual-in_err-probe_names.ensures.1 c.in_err-probe_names.ensures (λ why is. rw (← is)))

pub returns-then-not-may_be_keys : goal.returns-then-not-may_be_keys
unfolding join_of
returns-then-not-may_be_keys c =
    rw (← c.in_ok-build_id.ensures, ← c.in_ok-probe_id.ensures, ← c.in_ok-build_names.ensures, ← c.in_ok-probe_names.ensures, ← c.as_slice-build_names.ensures.value, ← c.as_slice-probe_names.ensures.value, ← c.if-not-may_be_keys.ensures.paired) none-meant

pub returns-in_err-build : goal.returns-in_err-build
unfolding join_of
returns-in_err-build c =
    rw (← c.in_ok-build_id.ensures, ← c.in_ok-probe_id.ensures, ← c.in_ok-build_names.ensures, ← c.in_ok-probe_names.ensures, ← c.as_slice-build_names.ensures.value, ← c.as_slice-probe_names.ensures.value, ← c.if-not-may_be_keys.ensures.paired, ← c.in_err-build.ensures.number) (parts-refused c.from_residual-in_err-build.result c.in_err-build.field-0.0 c.from_residual-in_err-build.ensures.1)

pub returns-in_err-probe : goal.returns-in_err-probe
unfolding join_of
returns-in_err-probe c =
    rw (← c.in_ok-build_id.ensures, ← c.in_ok-probe_id.ensures, ← c.in_ok-build_names.ensures, ← c.in_ok-probe_names.ensures, ← c.as_slice-build_names.ensures.value, ← c.as_slice-probe_names.ensures.value, ← c.if-not-may_be_keys.ensures.paired, ← c.in_ok-build.ensures.number, ← c.in_err-probe.ensures.number) (parts-refused c.from_residual-in_err-probe.result c.in_err-probe.field-0.0 c.from_residual-in_err-probe.ensures.1)

pub find_input-requires : goal.find_input-requires
find_input-requires c = c.requires.few

pub find_input-requires-2 : goal.find_input-requires-2
find_input-requires-2 c = c.requires.few

pub read_over-requires-clause-narrow : goal.read_over-requires-clause-narrow
read_over-requires-clause-narrow c = c.requires.narrow

pub read_over-requires-clause-build : goal.read_over-requires-clause-build
read_over-requires-clause-build c = c.in_ok-build.ensures.there

pub read_over-requires-clause-probe : goal.read_over-requires-clause-probe
read_over-requires-clause-probe c = c.in_ok-probe.ensures.there

pub read_over-requires-clause-some : goal.read_over-requires-clause-some
read_over-requires-clause-some c = c.if-not-may_be_keys.ensures.some refl
