-- One more was made.
use Rattle.std.proofs.Common.{◌≡◌, ◌∙◌, [], ap, replicate, arith}
use Rattle.amber_dataflow.proofs.Copies.{copies-more}
use Rattle.amber_dataflow.proofs.linking.no_ins.Goals as goal

pub loop-init : goal.loop-init
loop-init c = c.in_ok-ins.ensures.items

pub loop-preserved : goal.loop-preserved
loop-preserved c = copies-more c.loop.counter [] c.new.result c.loop.ins.items c.push.new.self.items c.loop.invariant c.new.ensures c.in_ok-push.ensures.items

pub returns : goal.returns
returns c =
    let all : c.loop.counter ≡ c.args.workers = omega arith in
    c.loop.invariant ∙ ap (λ n. replicate n []) all
