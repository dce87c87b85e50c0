-- The pause that is kept is that of the state.
use Rattle.std.proofs.Common.{◌≡◌, ap, subst, ◌∙◌}
use Rattle.amber_meaning.specs.State.{arms_at}
use Rattle.amber_home.specs.HomeState.{HomeState, has_crew, state_of}
use Rattle.amber_home.proofs.Inside.{kept, seen}
use Rattle.amber_home.proofs.Saying.{stands-somewhere}
use Rattle.amber_home.proofs.home.Home.pause_at.Goals as goal

pub returns : goal.returns
returns c =
    let i = c.self.inside in
    let h = stands-somewhere (seen i) (kept i) i.phase c.self.invariant (ap (λ (h : HomeState). has_crew h.phase) c.self.view_is ∙ c.requires.there) in
    subst (λ (h : HomeState). c.pause_at.result ≡ (arms_at (state_of h) c.args.op).pause) c.self.view_is
    (c.pause_at.ensures ∙ (h.in_force.each c.args.op).pause)
