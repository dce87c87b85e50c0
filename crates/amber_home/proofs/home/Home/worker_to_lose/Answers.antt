-- The worker that is named is there.
use Rattle.std.specs.Prelude.{IfSome}
use Rattle.std.proofs.Common.{◌<◌, sym, ap, subst, ◌∙◌}
use Rattle.amber_rows.specs.Topology.{crew_of}
use Rattle.amber_log.specs.Fits.{fits_of}
use Rattle.amber_home.specs.HomeState.{HomeState, lost_by, lost_by_action}
use Rattle.amber_home.proofs.Commanded.{few-resting, has-operator, loses-resting}
use Rattle.amber_home.proofs.Inside.{kept, seen}
use Rattle.amber_home.proofs.home.Home.worker_to_lose.Goals as goal

pub worker_to_lose-requires-clause-operator : goal.worker_to_lose-requires-clause-operator
worker_to_lose-requires-clause-operator c =
    let i = c.self.inside in
    has-operator (seen i) (kept i) c.self.invariant (ap (λ (h : HomeState). h.phase) c.self.view_is ∙ c.requires.resting) c.args.command.now c.in-AtRest.effect
    (sym c.action.ensures ∙ c.in-AtRest.is) (ap (λ (h : HomeState). fits_of h.flow c.args.command.now) c.self.view_is ∙ c.requires.fits)

pub worker_to_lose-requires-clause-few : goal.worker_to_lose-requires-clause-few
worker_to_lose-requires-clause-few c =
    let i = c.self.inside in
    few-resting (seen i) (kept i) c.self.invariant (ap (λ (h : HomeState). h.phase) c.self.view_is ∙ c.requires.resting)

pub worker_to_lose-requires-clause-there : goal.worker_to_lose-requires-clause-there
worker_to_lose-requires-clause-there c =
    let i = c.self.inside in
    loses-resting (seen i) (kept i) c.self.invariant (ap (λ (h : HomeState). h.phase) c.self.view_is ∙ c.requires.resting) c.args.command.now c.in-AtRest.effect
    (sym c.action.ensures ∙ c.in-AtRest.is) (ap (λ (h : HomeState). fits_of h.flow c.args.command.now) c.self.view_is ∙ c.requires.fits)

pub returns-in-AtRest-clause-is : goal.returns-in-AtRest-clause-is
returns-in-AtRest-clause-is c =
    let i = c.self.inside in
    c.worker_to_lose.ensures.is ∙ ap (lost_by_action (seen i)) (sym (sym c.action.ensures ∙ c.in-AtRest.is))
    ∙ ap (λ (h : HomeState). lost_by h c.args.command.now) c.self.view_is

pub returns-in-AtRest-clause-there : goal.returns-in-AtRest-clause-there
returns-in-AtRest-clause-there c =
    subst (λ (h : HomeState). IfSome c.worker_to_lose.result (λ worker. worker < crew_of h.flow)) c.self.view_is c.worker_to_lose.ensures.there
