-- As many rows were fed at most.
use Rattle.std.proofs.Common.{arith, take}
use Rattle.std.proofs.lemmas.List.{length-take}
use Rattle.amber_rows.specs.Suits.{suits_of}
use Rattle.amber_operators.proofs.Lists.{filter-few}
use Rattle.amber_operators.proofs.redone_groups.feed_rows.Goals as goal

pub returns-in-Ok-clause-fed : goal.returns-in-Ok-clause-fed
returns-in-Ok-clause-fed c =
    let few = filter-few (suits_of c.args.columns.now) (take c.args.count c.args.rows.now.items) in
    let long = length-take c.args.count c.args.rows.now.items in
    omega (arith, few, long, c.in_ok-taken.ensures.ok.fed, c.requires.there)
