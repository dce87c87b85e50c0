-- The cases of the definition.
use Rattle.std.proofs.Common.{◌∙◌, ◌==◌, ap, sym}
use Rattle.amber_rows.specs.Kinds.{is_keyed}
use Rattle.amber_rows.specs.Topology.{op_of, reads}
use Rattle.amber_rows.proofs.CrewFacts.{has-reader, placed, sends-follower, sends-keyed, sends-not}
use Rattle.amber_rows.proofs.flow.Flow.sends_to.Goals as goal

pub returns-then-not-reads : goal.returns-then-not-reads
returns-then-not-reads c =
    let flow = c.args.self.now in
    let read = sym c.reads.ensures ∙ c.if-not-reads.true in
    sends-not flow c.args.sender c.args.worker (ap (λ kind. reads kind (op_of flow c.args.sender)) (sym c.kind_of-kind.ensures) ∙ ap (λ op. reads c.kind_of-kind.result.now op) (sym c.op_of.ensures) ∙ read)

pub follower-requires-clause-read : goal.follower-requires-clause-read
follower-requires-clause-read c =
    let flow = c.args.self.now in
    let at = placed flow c.args.worker c.requires.worker in
    let read = sym c.reads.ensures ∙ c.if-not-reads.false in
    has-reader flow (op_of flow c.args.sender) (op_of flow c.args.worker) at.some at.within
    (ap (λ kind. reads kind (op_of flow c.args.sender)) (sym c.kind_of-kind.ensures) ∙ ap (λ op. reads c.kind_of-kind.result.now op) (sym c.op_of.ensures) ∙ read)

pub returns-then-is_keyed : goal.returns-then-is_keyed
returns-then-is_keyed c =
    let flow = c.args.self.now in
    let read = sym c.reads.ensures ∙ c.if-not-reads.false in
    c.if-is_keyed.true
    ∙ sends-keyed flow c.args.sender c.args.worker
    (ap (λ kind. reads kind (op_of flow c.args.sender)) (sym c.kind_of-kind.ensures) ∙ ap (λ op. reads c.kind_of-kind.result.now op) (sym c.op_of.ensures) ∙ read)
    (ap is_keyed (sym c.kind_of-kind.ensures) ∙ sym c.is_keyed.ensures ∙ c.if-is_keyed.true)

pub returns-else-is_keyed : goal.returns-else-is_keyed
returns-else-is_keyed c =
    let flow = c.args.self.now in
    let read = sym c.reads.ensures ∙ c.if-not-reads.false in
    ap (λ follower. follower == c.args.worker) c.follower.ensures
    ∙ sends-follower flow c.args.sender c.args.worker
    (ap (λ kind. reads kind (op_of flow c.args.sender)) (sym c.kind_of-kind.ensures) ∙ ap (λ op. reads c.kind_of-kind.result.now op) (sym c.op_of.ensures) ∙ read)
    (ap is_keyed (sym c.kind_of-kind.ensures) ∙ sym c.is_keyed.ensures ∙ c.if-is_keyed.false)
