-- The workflow does not take the command, or it is done.
use Rattle.std.proofs.Common.{List, ap, refl, sym, ◌∙◌}
use Rattle.amber_rows.specs.declared.flow.Operator.{Operator}
use Rattle.amber_log.specs.Fits.{fits_of}
use Rattle.amber_log.specs.declared.log.Item.TheVariants as item
use Rattle.amber_recover.proofs.ItemsDone.{command-bad, command-done, item-good}
use Rattle.amber_recover.proofs.items.redo_command.Goals as goal

pub returns-then-not-fits-clause-found : goal.returns-then-not-fits-clause-found
returns-then-not-fits-clause-found c =
    sym (command-bad c.args.home.now c.args.line c.args.command.now
    (ap (λ (flow : List Operator). fits_of flow c.args.command.now) (sym c.flow.ensures) ∙ sym c.fits.ensures ∙ c.if-not-fits.true))

pub returns-clause-done : goal.returns-clause-done
returns-clause-done c none =
    command-done c.args.home.now c.apply.new.self c.args.command.now c.requires.resting c.requires.fresh
    (ap (λ (flow : List Operator). fits_of flow c.args.command.now) (sym c.flow.ensures) ∙ sym c.fits.ensures ∙ c.if-not-fits.false) c.in_ok-apply.ensures.ok

pub returns-clause-found : goal.returns-clause-found
returns-clause-found c = sym (item-good c.args.home.now c.apply.new.self c.args.line (item.Do c.args.command.now) (returns-clause-done c refl))
