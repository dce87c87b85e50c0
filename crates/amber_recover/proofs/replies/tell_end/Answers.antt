-- The answer is told behind the leg, and the workers may have gone.
use Rattle.std.proofs.Common.{◌++◌, List, ℕ, ap, refl, sym, ◌∙◌}
use Rattle.amber_recover.proofs.PartsDone.{none-found}
use Rattle.amber_recover.proofs.Told.{answer-told, redone-over}
use Rattle.amber_recover.proofs.replies.tell_end.Goals as goal

pub tell_answer-requires-clause-finished : goal.tell_answer-requires-clause-finished
tell_answer-requires-clause-finished c cut = c.in_ok-bad.ensures.finished (none-found c.in_ok-bad.bad (sym c.is_some.ensures ∙ c.if-is_some.false)) refl cut

pub returns-clause-done : goal.returns-clause-done
returns-clause-done c none =
    let leg = c.args.leg.now in
    let all = none-found c.in_ok-bad.bad (sym c.is_some.ensures ∙ c.if-is_some.false) in
    redone-over c.args.home.now c.redo_leg.new.home c.tell_answer.new.home leg.parts leg.close (c.in_ok-bad.ensures.done all) c.tell_answer.ensures.home

pub returns-clause-told : goal.returns-clause-told
returns-clause-told c none =
    let leg = c.args.leg.now in
    let all = none-found c.in_ok-bad.bad (sym c.is_some.ensures ∙ c.if-is_some.false) in
    c.in_ok-tell_answer.ensures.text
    ∙ ap (λ (reply : List ℕ). c.args.text.now.items ++ reply)
    (answer-told c.args.home.now c.redo_leg.new.home leg.parts leg.close (c.in_ok-bad.ensures.done all) (c.in_ok-bad.ensures.rests all))
