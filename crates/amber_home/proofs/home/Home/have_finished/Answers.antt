-- The workers that have finished are those of the state.
use Rattle.std.proofs.Common.{◌≡◌, ap, ◌∙◌, true}
use Rattle.amber_meaning.specs.State.{have_finished}
use Rattle.amber_home.specs.HomeState.{HomeState, has_crew, query_of, state_of}
use Rattle.amber_home.proofs.Saying.{finished-state, stands-somewhere}
use Rattle.amber_home.proofs.Inside.{kept, seen}
use Rattle.amber_home.proofs.home.Home.have_finished.Goals as goal

pub returns : goal.returns
returns c =
    let i = c.self.inside in
    let e = seen i in
    let live = kept i in
    let there : has_crew i.phase ≡ true = ap (λ (h : HomeState). has_crew h.phase) c.self.view_is ∙ c.requires.there in
    c.have_all_finished.ensures
    ∙ finished-state (query_of e) (state_of e) i.dataflow i.arms (stands-somewhere e live i.phase c.self.invariant there)
    ∙ ap (λ (h : HomeState). have_finished (state_of h)) c.self.view_is
