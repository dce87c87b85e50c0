-- What is divided is granted, all of it and to workers that are there.
use Rattle.std.proofs.Common.{◌≡◌, ◌+◌, true, drop, ap, ◌∙◌, rules}
use Rattle.std.specs.Prelude.{All, sum}
use Rattle.std.specs.List.{list_any}
use Rattle.amber_principal.specs.Shares.{is_in_need}
use Rattle.amber_principal.specs.declared.dividing.Need.TheVariants as need
use Rattle.amber_principal.proofs.Totals.{absent-none, shares-behind, shares-total, starved-shares}
use Rattle.amber_principal.proofs.rounds.Principal.round.Goals as goal

pub returns-then-hit-clause-exact : goal.returns-then-hit-clause-exact
returns-then-hit-clause-exact c = λ _. c.hit.ensures.exact c.if-hit.true

pub grant_all-requires-clause-all : goal.grant_all-requires-clause-all
grant_all-requires-clause-all c =
    let needs = c.args.needs.now in
    let any : list_any is_in_need needs ≡ true = search rules in
    ap sum c.divide-shares.ensures ∙ shares-total c.hand.result needs (starved-shares needs any) ∙ c.hand.ensures

pub grant_all-requires-clause-none : goal.grant_all-requires-clause-none
grant_all-requires-clause-none c =
    let needs = c.args.needs.now in
    let w = c.self.inside.workers in
    let absent : All (λ one. one ≡ need.Absent) (drop w needs) = rw c.self.view_is c.requires.absent in
    ap (λ shares. sum (drop w shares)) c.divide-shares.ensures ∙ ap sum (shares-behind c.hand.result needs 0 w needs) ∙ absent-none c.hand.result needs (0 + w) (drop w needs) absent
