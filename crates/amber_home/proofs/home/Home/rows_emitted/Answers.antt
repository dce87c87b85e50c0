-- The rows of the state are those that the workers have emitted.
use Rattle.std.proofs.Common.{◌≡◌, ap, ◌∙◌, true}
use Rattle.amber_meaning.specs.State.{emitted_by}
use Rattle.amber_home.specs.HomeState.{HomeState, has_crew, state_of}
use Rattle.amber_home.proofs.AsFar.{rows-are}
use Rattle.amber_home.proofs.Inside.{kept, seen}
use Rattle.amber_home.proofs.home.Home.rows_emitted.Goals as goal

pub returns : goal.returns
returns c =
    let i = c.self.inside in
    let there : has_crew i.phase ≡ true = ap (λ (h : HomeState). has_crew h.phase) c.self.view_is ∙ c.requires.there in
    c.rows_emitted.ensures
    ∙ rows-are (seen i) (kept i) i.phase c.self.invariant there c.args.op
    ∙ ap (λ (h : HomeState). emitted_by h.flow (state_of h) c.args.op) c.self.view_is
