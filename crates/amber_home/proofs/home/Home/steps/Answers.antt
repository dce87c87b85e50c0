-- The steps of the state are those of the workers.
use Rattle.std.proofs.Common.{◌≤◌, ap, subst, ◌∙◌, arith}
use Rattle.amber_meaning.specs.State.{steps_in}
use Rattle.amber_home.specs.HomeState.{HomeState, has_crew, state_of}
use Rattle.amber_home.proofs.Steps.{steps-are, steps-few}
use Rattle.amber_home.proofs.Inside.{kept, seen}
use Rattle.amber_home.proofs.home.Home.steps.Goals as goal

pub returns-clause-steps : goal.returns-clause-steps
returns-clause-steps c =
    let i = c.self.inside in
    let e = seen i in
    let live = kept i in
    c.steps.ensures ∙ steps-are e live i.phase c.self.invariant (ap (λ (h : HomeState). has_crew h.phase) c.self.view_is ∙ c.requires.there)
    ∙ ap (λ (h : HomeState). steps_in (state_of h)) c.self.view_is

pub returns-clause-few : goal.returns-clause-few
returns-clause-few c =
    let i = c.self.inside in
    let few = steps-few (seen i) (kept i) i.phase c.self.invariant (ap (λ (h : HomeState). has_crew h.phase) c.self.view_is ∙ c.requires.there) in
    subst (λ (h : HomeState). c.steps.result ≤ h.most) c.self.view_is (let made = c.steps.ensures in omega arith)
