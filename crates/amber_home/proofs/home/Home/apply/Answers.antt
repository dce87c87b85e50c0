-- The command stands in the log, and what it changes is in force.
use Rattle.std.proofs.Common.{refl, ap, sym, ◌∙◌, false}
use Rattle.amber_log.specs.Fits.{fits_of}
use Rattle.amber_log.specs.Grammar.{ends_over}
use Rattle.amber_log.specs.declared.log.Item.TheVariants as item
use Rattle.amber_home.specs.HomeState.{HomeState, dropped_by, dropped_by_action, with_item}
use Rattle.amber_home.specs.Parts.{open_turned}
use Rattle.amber_home.proofs.Commanded.{drops-resting, few-resting, flow-has, home-commanded, log-commanded, names-resting, nothing-done, rows-resting, there-resting}
use Rattle.amber_home.proofs.Driven.{home-driven}
use Rattle.amber_home.proofs.RowsHeld.{dropped-resting}
use Rattle.amber_home.proofs.Inside.{kept, seen}
use Rattle.amber_home.proofs.home.Home.apply.Goals as goal

pub put_in_force-requires-clause-there : goal.put_in_force-requires-clause-there
put_in_force-requires-clause-there c =
    let i = c.self.inside in
    let e = seen i in
    let live = kept i in
    names-resting e live c.self.invariant (ap (λ (h : HomeState). h.phase) c.self.view_is ∙ c.requires.resting) c.args.command.now c.in-AtRest.effect
    (sym c.action.ensures ∙ c.in-AtRest.is) (ap (λ (h : HomeState). fits_of h.flow c.args.command.now) c.self.view_is ∙ c.requires.fits)

pub put_in_force-requires-clause-within : goal.put_in_force-requires-clause-within
put_in_force-requires-clause-within c =
    let i = c.self.inside in
    let e = seen i in
    let live = kept i in
    flow-has e live c.self.invariant (ap (λ (h : HomeState). h.phase) c.self.view_is ∙ c.requires.resting) c.args.command.now c.in-AtRest.effect
    (sym c.action.ensures ∙ c.in-AtRest.is) (ap (λ (h : HomeState). fits_of h.flow c.args.command.now) c.self.view_is ∙ c.requires.fits)

pub put_in_force-requires-clause-workers : goal.put_in_force-requires-clause-workers
put_in_force-requires-clause-workers c =
    let i = c.self.inside in
    let e = seen i in
    let live = kept i in
    there-resting e live c.self.invariant (ap (λ (h : HomeState). h.phase) c.self.view_is ∙ c.requires.resting)

pub put_in_force-requires-clause-rest : goal.put_in_force-requires-clause-rest
put_in_force-requires-clause-rest c =
    let i = c.self.inside in
    let e = seen i in
    let live = kept i in
    nothing-done e live c.self.invariant (ap (λ (h : HomeState). h.phase) c.self.view_is ∙ c.requires.resting)

pub put_in_force-requires-clause-rows : goal.put_in_force-requires-clause-rows
put_in_force-requires-clause-rows c =
    let i = c.self.inside in
    rows-resting (seen i) (kept i) c.self.invariant (ap (λ (h : HomeState). h.phase) c.self.view_is ∙ c.requires.resting)

pub put_in_force-requires-clause-few : goal.put_in_force-requires-clause-few
put_in_force-requires-clause-few c =
    let i = c.self.inside in
    few-resting (seen i) (kept i) c.self.invariant (ap (λ (h : HomeState). h.phase) c.self.view_is ∙ c.requires.resting)

pub put_in_force-requires-clause-worker : goal.put_in_force-requires-clause-worker
put_in_force-requires-clause-worker c =
    let i = c.self.inside in
    drops-resting (seen i) (kept i) c.self.invariant (ap (λ (h : HomeState). h.phase) c.self.view_is ∙ c.requires.resting) c.args.command.now c.in-AtRest.effect
    (sym c.action.ensures ∙ c.in-AtRest.is) (ap (λ (h : HomeState). fits_of h.flow c.args.command.now) c.self.view_is ∙ c.requires.fits)

pub returns-clause-row : goal.returns-clause-row
returns-clause-row c =
    let i = c.self.inside in
    c.put_in_force.ensures.row
    ∙ dropped-resting (seen i) (kept i) c.self.invariant (ap (λ (h : HomeState). h.phase) c.self.view_is ∙ c.requires.resting) c.in-AtRest.effect
    (drops-resting (seen i) (kept i) c.self.invariant (ap (λ (h : HomeState). h.phase) c.self.view_is ∙ c.requires.resting) c.args.command.now c.in-AtRest.effect
    (sym c.action.ensures ∙ c.in-AtRest.is) (ap (λ (h : HomeState). fits_of h.flow c.args.command.now) c.self.view_is ∙ c.requires.fits))
    ∙ ap (dropped_by_action (seen i)) (sym (sym c.action.ensures ∙ c.in-AtRest.is))
    ∙ ap (λ (h : HomeState). dropped_by h c.args.command.now) c.self.view_is

pub invariant_of-self-2 : goal.invariant_of-self-2
invariant_of-self-2 c =
    let i = c.self.inside in
    let e = seen i in
    let live = kept i in
    home-driven (open_turned i.phase (record { dataflow = c.put_in_force.new.dataflow; arms = c.put_in_force.new.arms; boards = i.boards; stops = i.stops; back = i.back.items }))
    (home-commanded e live c.self.invariant (ap (λ (h : HomeState). h.phase) c.self.view_is ∙ c.requires.resting) c.args.command.now c.in-AtRest.effect
    (sym c.action.ensures ∙ c.in-AtRest.is)
    (ap (λ (h : HomeState). ends_over false h.log.items) c.self.view_is ∙ c.requires.open) (ap (λ (h : HomeState). fits_of h.flow c.args.command.now) c.self.view_is ∙ c.requires.fits)
    c.commands_have_text.ensures
    (record { batch = i.log.batch; items = c.push_command.new.items })
    (record { dataflow = c.put_in_force.new.dataflow; arms = c.put_in_force.new.arms; boards = i.boards; stops = i.stops; back = i.back.items })
    refl (ap (λ items. record i.log { items = items }) c.in_ok-push_command.ensures.ok) c.put_in_force.ensures.arms c.put_in_force.ensures.dataflow refl refl)

pub returns-clause-ok : goal.returns-clause-ok
returns-clause-ok c =
    let i = c.self.inside in
    let e = seen i in
    let live = kept i in
    log-commanded e live c.self.invariant (ap (λ (h : HomeState). h.phase) c.self.view_is ∙ c.requires.resting) c.args.command.now c.in-AtRest.effect
    (sym c.action.ensures ∙ c.in-AtRest.is)
    (ap (λ (h : HomeState). ends_over false h.log.items) c.self.view_is ∙ c.requires.open) (ap (λ (h : HomeState). fits_of h.flow c.args.command.now) c.self.view_is ∙ c.requires.fits)
    c.commands_have_text.ensures
    (record { batch = i.log.batch; items = c.push_command.new.items })
    (record { dataflow = c.put_in_force.new.dataflow; arms = c.put_in_force.new.arms; boards = i.boards; stops = i.stops; back = i.back.items })
    refl (ap (λ items. record i.log { items = items }) c.in_ok-push_command.ensures.ok) c.put_in_force.ensures.arms c.put_in_force.ensures.dataflow refl refl
    ∙ ap (λ (h : HomeState). record h { log = with_item h.log (item.Do c.args.command.now) }) c.self.view_is
