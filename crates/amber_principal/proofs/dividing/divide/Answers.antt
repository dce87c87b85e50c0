-- Where nobody shares there are no shares.
use Rattle.std.proofs.Common.{◌≡◌, sym, ap, ◌∙◌, arith, replicate}
use Rattle.std.proofs.lemmas.Bool.Decides.{nat_tests}
use Rattle.amber_principal.specs.Shares.{sharer_count}
use Rattle.amber_principal.proofs.Totals.{shares-none}
use Rattle.amber_principal.proofs.dividing.divide.Goals as goal

pub returns-then-starved-able-eq0 : goal.returns-then-starved-able-eq0
returns-then-starved-able-eq0 c =
    let none : sharer_count c.args.needs.now ≡ 0 = grind (arith, nat_tests, c.starved_count-starved.ensures, c.able_count-able.ensures, c.if-starved-able-eq0.true) in
    sym (shares-none c.args.rest c.args.needs.now 0 c.args.needs.now none ∙ ap (λ n. replicate n 0) c.told-needs)
