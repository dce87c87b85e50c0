-- Both operators are there.
use Rattle.std.proofs.Common.{◌≡◌, ◌∙◌, ◌-◌, ap, arith, refl, take}
use Rattle.amber_rows.specs.Topology.{crew_of, first_worker_of, follower_of, op_of, reader_of}
use Rattle.amber_rows.proofs.CrewFacts.{placed}
use Rattle.amber_rows.proofs.flow.Flow.follower.Goals as goal

pub first_worker-requires-clause-some : goal.first_worker-requires-clause-some
first_worker-requires-clause-some c = let at = placed c.args.self.now c.args.sender c.requires.there in omega (arith, c.op_of-op.ensures, at.some)

pub first_worker-requires-clause-there : goal.first_worker-requires-clause-there
first_worker-requires-clause-there c = let at = placed c.args.self.now c.args.sender c.requires.there in omega (arith, c.op_of-op.ensures, at.within)

pub overflow_sub-place : goal.overflow_sub-place
unfolding first_worker_of
overflow_sub-place c =
    let at = placed c.args.self.now c.args.sender c.requires.there in
    omega (arith, c.first_worker.ensures.first, ap (λ op. crew_of (take (op - 1) c.args.self.now)) c.op_of-op.ensures, at.first)

pub returns : goal.returns
unfolding follower_of
returns c =
    let flow = c.args.self.now in
    let reader = c.in-Some.ensures in
    let op = c.op_of-op.ensures in
    let is : c.in-Some.reader ≡ reader_of flow (op_of flow c.args.sender) = reader.some ∙ ap (λ n. reader_of flow n) op in
    rw (c.first_worker-2.ensures.first, c.first_worker.ensures.first, c.worker_count.ensures.count, is, op) refl
