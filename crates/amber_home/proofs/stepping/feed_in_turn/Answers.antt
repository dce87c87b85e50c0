-- It is fed unless it has finished, or a stop stands at its operator.
use Rattle.std.proofs.Common.{◌≡◌, sym, ap, ◌∙◌, List, inl, inr}
use Rattle.std.proofs.lemmas.Bool.{false≢true}
use Rattle.std.proofs.lemmas.Result.{on_ok_weaker}
use Rattle.amber_rows.specs.Topology.{op_of}
use Rattle.amber_rows.specs.declared.flow.Operator.{Operator}
use Rattle.amber_meaning.proofs.Crews.{op-within}
use Rattle.amber_home.specs.Leg.{is_stopped}
use Rattle.amber_home.proofs.stepping.feed_in_turn.Goals as goal

pub returns-then-has_finished-clause-short : goal.returns-then-has_finished-clause-short
returns-then-has_finished-clause-short c short = inl (sym c.has_finished.ensures ∙ c.if-has_finished.true)

pub is_stopped-requires-clause-some : goal.is_stopped-requires-clause-some
is_stopped-requires-clause-some c = rw (c.op_of-op.ensures, c.flow.ensures) (op-within c.args.dataflow.now.flow c.args.worker c.requires.there).0

pub is_stopped-requires-clause-within : goal.is_stopped-requires-clause-within
is_stopped-requires-clause-within c = rw (c.op_of-op.ensures, c.flow.ensures) (op-within c.args.dataflow.now.flow c.args.worker c.requires.there).1

pub returns-then-is_stopped-clause-short : goal.returns-then-is_stopped-clause-short
returns-then-is_stopped-clause-short c short =
    let old = c.args.dataflow.now in
    let own : c.op_of-op.result ≡ op_of old.flow c.args.worker = c.op_of-op.ensures ∙ ap (λ (f : List Operator). op_of f c.args.worker) c.flow.ensures in
    inr (ap (is_stopped c.args.arms.now old) (sym own) ∙ sym c.is_stopped.ensures ∙ c.if-is_stopped.true)

pub feed-requires-clause-none : goal.feed-requires-clause-none
feed-requires-clause-none c =
    let old = c.args.dataflow.now in
    let own : c.op_of-op.result ≡ op_of old.flow c.args.worker = c.op_of-op.ensures ∙ ap (λ (f : List Operator). op_of f c.args.worker) c.flow.ensures in
    ap (is_stopped c.args.arms.now old) (sym own) ∙ sym c.is_stopped.ensures ∙ c.if-is_stopped.false

pub returns-clause-short : goal.returns-clause-short
returns-clause-short c = on_ok_weaker c.feed.result (λ none short. absurd (false≢true (sym none ∙ short))) c.feed.ensures.short
