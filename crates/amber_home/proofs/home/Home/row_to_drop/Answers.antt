-- The row is that of the state.
use Rattle.std.proofs.Common.{sym, ap, ◌∙◌}
use Rattle.amber_log.specs.Fits.{fits_of}
use Rattle.amber_home.specs.HomeState.{HomeState, dropped_by, dropped_by_action}
use Rattle.amber_home.proofs.Commanded.{drops-resting, few-resting, has-operator, there-resting}
use Rattle.amber_home.proofs.Inside.{kept, seen}
use Rattle.amber_home.proofs.RowsHeld.{dropped-resting}
use Rattle.amber_home.proofs.home.Home.row_to_drop.Goals as goal

pub row_to_drop-requires-clause-workers : goal.row_to_drop-requires-clause-workers
row_to_drop-requires-clause-workers c =
    let i = c.self.inside in
    there-resting (seen i) (kept i) c.self.invariant (ap (λ (h : HomeState). h.phase) c.self.view_is ∙ c.requires.resting)

pub row_to_drop-requires-clause-operator : goal.row_to_drop-requires-clause-operator
row_to_drop-requires-clause-operator c =
    let i = c.self.inside in
    has-operator (seen i) (kept i) c.self.invariant (ap (λ (h : HomeState). h.phase) c.self.view_is ∙ c.requires.resting) c.args.command.now c.in-AtRest.effect
    (sym c.action.ensures ∙ c.in-AtRest.is) (ap (λ (h : HomeState). fits_of h.flow c.args.command.now) c.self.view_is ∙ c.requires.fits)

pub row_to_drop-requires-clause-few : goal.row_to_drop-requires-clause-few
row_to_drop-requires-clause-few c =
    let i = c.self.inside in
    few-resting (seen i) (kept i) c.self.invariant (ap (λ (h : HomeState). h.phase) c.self.view_is ∙ c.requires.resting)

pub row_to_drop-requires-clause-there : goal.row_to_drop-requires-clause-there
row_to_drop-requires-clause-there c =
    let i = c.self.inside in
    drops-resting (seen i) (kept i) c.self.invariant (ap (λ (h : HomeState). h.phase) c.self.view_is ∙ c.requires.resting) c.args.command.now c.in-AtRest.effect
    (sym c.action.ensures ∙ c.in-AtRest.is) (ap (λ (h : HomeState). fits_of h.flow c.args.command.now) c.self.view_is ∙ c.requires.fits)

pub returns-in-AtRest : goal.returns-in-AtRest
returns-in-AtRest c =
    let i = c.self.inside in
    c.row_to_drop.ensures
    ∙ dropped-resting (seen i) (kept i) c.self.invariant (ap (λ (h : HomeState). h.phase) c.self.view_is ∙ c.requires.resting) c.in-AtRest.effect
    (drops-resting (seen i) (kept i) c.self.invariant (ap (λ (h : HomeState). h.phase) c.self.view_is ∙ c.requires.resting) c.args.command.now c.in-AtRest.effect
    (sym c.action.ensures ∙ c.in-AtRest.is) (ap (λ (h : HomeState). fits_of h.flow c.args.command.now) c.self.view_is ∙ c.requires.fits))
    ∙ ap (dropped_by_action (seen i)) (sym (sym c.action.ensures ∙ c.in-AtRest.is))
    ∙ ap (λ (h : HomeState). dropped_by h c.args.command.now) c.self.view_is
