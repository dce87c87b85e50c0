-- One number more is tested.
use Rattle.std.proofs.Common.{◌≡◌, ◌∙◌, ◌++◌, ◌∷◌, [], ap, arith, cond, filter, sym, ℕ}
use Rattle.amber_rows.specs.Lists.{numbers_below}
use Rattle.amber_rows.specs.Topology.{crew_of, senders_of, sends_to}
use Rattle.amber_rows.proofs.CrewFacts.{below-next, below-none}
use Rattle.amber_rows.proofs.flow.Flow.senders.Goals as goal

pub loop-sender-init : goal.loop-sender-init
loop-sender-init c = c.new-found.ensures.items ∙ sym (below-none (λ (sender : ℕ). sends_to c.args.self.now sender c.args.worker))

pub loop-sender-preserved : goal.loop-sender-preserved
loop-sender-preserved c =
    let test = λ (sender : ℕ). sends_to c.args.self.now sender c.args.worker in
    let sender = c.loop-sender.sender in
    c.in_ok-push_if.ensures
    ∙ ap (λ sends. c.loop-sender.found.items ++ cond sends (sender ∷ []) []) c.sends_to-sends.ensures
    ∙ ap (λ before. before ++ cond (test sender) (sender ∷ []) []) c.loop-sender.invariant
    ∙ sym (below-next test sender)

pub returns : goal.returns
unfolding senders_of
returns c =
    let all : c.loop-sender.sender ≡ crew_of c.args.self.now = omega (arith, c.workers-sender-end.ensures, c.loop-sender-test.false, c.loop-sender.auto.sender-end) in
    c.new.ensures ∙ c.loop-sender.invariant ∙ ap (λ n. filter (λ (sender : ℕ). sends_to c.args.self.now sender c.args.worker) (numbers_below n)) all
