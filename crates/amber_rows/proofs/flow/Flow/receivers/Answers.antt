-- One number more is tested.
use Rattle.std.proofs.Common.{◌≡◌, ◌∙◌, ◌++◌, ◌∷◌, [], ap, arith, cond, filter, sym, ℕ}
use Rattle.amber_rows.specs.Lists.{numbers_below}
use Rattle.amber_rows.specs.Topology.{crew_of, receivers_of, sends_to}
use Rattle.amber_rows.proofs.CrewFacts.{below-next, below-none}
use Rattle.amber_rows.proofs.flow.Flow.receivers.Goals as goal

pub loop-receiver-init : goal.loop-receiver-init
loop-receiver-init c = c.new-found.ensures.items ∙ sym (below-none (λ (receiver : ℕ). sends_to c.args.self.now c.args.worker receiver))

pub loop-receiver-preserved : goal.loop-receiver-preserved
loop-receiver-preserved c =
    let test = λ (receiver : ℕ). sends_to c.args.self.now c.args.worker receiver in
    let receiver = c.loop-receiver.receiver in
    c.in_ok-push_if.ensures
    ∙ ap (λ sends. c.loop-receiver.found.items ++ cond sends (receiver ∷ []) []) c.sends_to-sends.ensures
    ∙ ap (λ before. before ++ cond (test receiver) (receiver ∷ []) []) c.loop-receiver.invariant
    ∙ sym (below-next test receiver)

pub returns : goal.returns
unfolding receivers_of
returns c =
    let all : c.loop-receiver.receiver ≡ crew_of c.args.self.now = omega (arith, c.workers-receiver-end.ensures, c.loop-receiver-test.false, c.loop-receiver.auto.receiver-end) in
    c.new.ensures ∙ c.loop-receiver.invariant ∙ ap (λ n. filter (λ (receiver : ℕ). sends_to c.args.self.now c.args.worker receiver) (numbers_below n)) all
