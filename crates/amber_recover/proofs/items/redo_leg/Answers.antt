-- A line of the parts is bad, or the leg may not be closed so, or it stands in the log.
use Rattle.std.proofs.Common.{◌≡◌, ◌+◌, ◌∷◌, [], ℕ, List, Some, ap, refl, subst, sym, ◌∙◌, arith, length, length-append}
use Rattle.std.specs.List.{flat_map}
use Rattle.amber_log.specs.LogText.{part_lines}
use Rattle.amber_log.specs.declared.leg.Part.{Part}
use Rattle.amber_log.specs.declared.line.Line.TheVariants as line
use Rattle.amber_home.specs.HomeState.{item_of_leg}
use Rattle.amber_home.specs.Redoing.{ClosesRedone}
use Rattle.amber_recover.specs.Redone.{HasDoneParts, bad_in_parts}
use Rattle.amber_recover.proofs.ItemsDone.{item-good, leg-close-bad, leg-finished, leg-found, leg-redone, opened-by}
use Rattle.amber_recover.proofs.PartsDone.{none-found}
use Rattle.amber_recover.proofs.items.redo_leg.Goals as goal

pub returns-then-is_some-clause-found : goal.returns-then-is_some-clause-found
returns-then-is_some-clause-found c =
    let leg = c.args.leg.now in
    let opened = c.open_leg.new.self in
    leg-found c.args.to_end c.args.home.now opened c.args.line leg.parts leg.close c.in_ok-bad.bad
    (opened-by c.args.to_end c.args.home.now opened c.open_leg.ensures.opens c.open_leg.ensures.begins) (sym c.is_some.ensures ∙ c.if-is_some.true)
    (c.in_ok-bad.ensures.found ∙ ap (bad_in_parts opened (c.args.line + 1)) c.get.ensures)

pub returns-then-branch-clause-done : goal.returns-then-branch-clause-done
returns-then-branch-clause-done c none =
    let leg = c.args.leg.now in
    let opened = c.open_leg.new.self in
    leg-redone c.args.to_end c.args.home.now opened c.redo_parts.new.home c.close_redone.new.self leg.parts leg.close
    (opened-by c.args.to_end c.args.home.now opened c.open_leg.ensures.opens c.open_leg.ensures.begins)
    (subst (λ (parts : List Part). HasDoneParts parts opened c.redo_parts.new.home) c.get.ensures
    (c.in_ok-bad.ensures.done (none-found c.in_ok-bad.bad (sym c.is_some.ensures ∙ c.if-is_some.false))))
    (subst (ClosesRedone leg.close c.redo_parts.new.home c.close_redone.new.self) c.if-branch.true c.in_ok-close_redone.ensures.ok)

pub returns-then-branch-clause-found : goal.returns-then-branch-clause-found
returns-then-branch-clause-found c =
    let leg = c.args.leg.now in
    sym (item-good c.args.home.now c.close_redone.new.self c.args.line (item_of_leg c.args.to_end leg.parts leg.close) (returns-then-branch-clause-done c refl))

pub returns-then-branch-clause-finished : goal.returns-then-branch-clause-finished
returns-then-branch-clause-finished c none =
    let leg = c.args.leg.now in
    let opened = c.open_leg.new.self in
    leg-finished c.args.to_end c.args.home.now opened c.redo_parts.new.home c.close_redone.new.self leg.parts leg.close
    (opened-by c.args.to_end c.args.home.now opened c.open_leg.ensures.opens c.open_leg.ensures.begins)
    (subst (λ (parts : List Part). HasDoneParts parts opened c.redo_parts.new.home) c.get.ensures
    (c.in_ok-bad.ensures.done (none-found c.in_ok-bad.bad (sym c.is_some.ensures ∙ c.if-is_some.false))))
    (subst (ClosesRedone leg.close c.redo_parts.new.home c.close_redone.new.self) c.if-branch.true c.in_ok-close_redone.ensures.ok)

pub returns-else-branch-clause-found : goal.returns-else-branch-clause-found
returns-else-branch-clause-found c =
    let leg = c.args.leg.now in
    let opened = c.open_leg.new.self in
    let lines = length-append (flat_map part_lines leg.parts) (line.Close leg.close ∷ []) in
    let place : c.args.line + c.leg_length.result ≡ c.args.line + 1 + length (flat_map part_lines leg.parts) = omega (arith, lines, c.leg_length.ensures) in
    ap (λ (n : ℕ). Some n) place
    ∙ sym (leg-close-bad c.args.to_end c.args.home.now opened c.redo_parts.new.home c.close_redone.new.self c.args.line leg.parts leg.close
    (opened-by c.args.to_end c.args.home.now opened c.open_leg.ensures.opens c.open_leg.ensures.begins)
    (subst (λ (parts : List Part). HasDoneParts parts opened c.redo_parts.new.home) c.get.ensures
    (c.in_ok-bad.ensures.done (none-found c.in_ok-bad.bad (sym c.is_some.ensures ∙ c.if-is_some.false))))
    (subst (ClosesRedone leg.close c.redo_parts.new.home c.close_redone.new.self) c.if-branch.false c.in_ok-close_redone.ensures.ok))
