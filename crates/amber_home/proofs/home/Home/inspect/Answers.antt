-- What is said of the workers is said of the state.
use Rattle.std.proofs.Common.{◌≡◌, ap, subst, ◌∙◌, IfOk, true}
use Rattle.amber_meaning.specs.Views.{inspected_of}
use Rattle.amber_home.specs.HomeState.{HomeState, has_crew, query_of, state_of}
use Rattle.amber_home.proofs.Saying.{ok-map, shows-operator, stands-somewhere}
use Rattle.amber_home.proofs.Inside.{all-there, kept, seen}
use Rattle.amber_home.proofs.home.Home.inspect.Goals as goal

pub inspect-requires-clause-workers : goal.inspect-requires-clause-workers
inspect-requires-clause-workers c = all-there c.self.inside c.self.invariant c.args.self.now c.self.view_is c.requires.there

pub returns : goal.returns
returns c =
    let i = c.self.inside in
    let e = seen i in
    let live = kept i in
    let there : has_crew i.phase ≡ true = ap (λ (h : HomeState). has_crew h.phase) c.self.view_is ∙ c.requires.there in
    let h = stands-somewhere e live i.phase c.self.invariant there in
    subst (λ (at : HomeState). IfOk c.inspect.result (λ shown. shown ≡ inspected_of (query_of at) (state_of at) c.args.op)) c.self.view_is
    (ok-map c.inspect.result (λ shown is. shows-operator (query_of e) (state_of e) i.dataflow i.arms h c.args.op shown is) c.inspect.ensures)
