-- What is said of the workers is said of the state.
use Rattle.std.proofs.Common.{◌≡◌, ap, subst, ◌∙◌, IfOk, true}
use Rattle.amber_meaning.specs.State.{have_finished}
use Rattle.amber_meaning.specs.Views.{answer_in}
use Rattle.amber_home.specs.HomeState.{HomeState, has_crew, query_of, state_of}
use Rattle.amber_home.proofs.Saying.{answers-state, ok-map, stands-somewhere}
use Rattle.amber_home.proofs.Inside.{kept, seen}
use Rattle.amber_home.proofs.home.Home.take_answer.Goals as goal

pub returns-clause-answer : goal.returns-clause-answer
returns-clause-answer c =
    let i = c.self.inside in
    let e = seen i in
    let live = kept i in
    let there : has_crew i.phase ≡ true = ap (λ (h : HomeState). has_crew h.phase) c.self.view_is ∙ ap has_crew c.requires.resting in
    let h = stands-somewhere e live i.phase c.self.invariant there in
    let done : have_finished (state_of e) ≡ true = ap (λ (at : HomeState). have_finished (state_of at)) c.self.view_is ∙ c.requires.finished in
    subst (λ (at : HomeState). IfOk c.take_answer.result (λ answer. answer ≡ answer_in (query_of at) (state_of at))) c.self.view_is
    (ok-map c.take_answer.result (λ answer is. answers-state (query_of e) (state_of e) i.dataflow i.arms h answer done is) c.take_answer.ensures.answer)
