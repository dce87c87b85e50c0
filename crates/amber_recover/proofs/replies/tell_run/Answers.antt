-- The stops are told behind the leg.
use Rattle.std.proofs.Common.{◌++◌, List, ℕ, ap, sym, ◌∙◌}
use Rattle.amber_recover.proofs.PartsDone.{none-found}
use Rattle.amber_recover.proofs.Told.{stops-told}
use Rattle.amber_recover.proofs.replies.tell_run.Goals as goal

pub returns-clause-told : goal.returns-clause-told
returns-clause-told c none =
    let leg = c.args.leg.now in
    let all = none-found c.in_ok-bad.bad (sym c.is_some.ensures ∙ c.if-is_some.false) in
    c.in_ok-tell_stops.ensures
    ∙ ap (λ (reply : List ℕ). c.args.text.now.items ++ reply)
    (stops-told c.args.home.now c.redo_leg.new.home leg.parts leg.close (c.in_ok-bad.ensures.done all) (c.in_ok-bad.ensures.rests all))
