-- The last item, where there is one.
use Rattle.std.proofs.Common.{false, sym, ap, ◌∙◌}
use Rattle.amber_log.specs.Grammar.{ends_over}
use Rattle.amber_home.specs.HomeState.{HomeState}
use Rattle.amber_home.proofs.Steps.{over-last}
use Rattle.amber_home.proofs.home.Home.closed.Goals as goal

pub returns-in-Some : goal.returns-in-Some
returns-in-Some c =
    let at = c.in-Some.ensures.item in
    c.is_last.ensures ∙ sym (over-last c.get.result.now false c.in-Some.item.now at.3.0 at.1) ∙ ap (ends_over false) (c.get.ensures ∙ ap (λ (h : HomeState). h.log.items) c.self.view_is)
