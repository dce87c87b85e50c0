-- The bound is that of the rows so far.
use Rattle.std.proofs.Common.{◌≡◌, ap, arith}
use Rattle.amber_group.specs.Group.{Group}
use Rattle.amber_group.proofs.state.GroupState.take.Goals as goal

pub take-requires : goal.take-requires
take-requires c =
    let same : c.self.inside.fed ≡ c.args.self.now.fed = ap (λ (state : Group). state.fed) c.self.view_is in
    (c.self.inside.fed, omega (arith, c.requires), c.self.invariant)

pub invariant_of-self-2 : goal.invariant_of-self-2
invariant_of-self-2 c = c.in_ok-taken.ensures.ok.within c.self.inside.fed c.self.invariant
