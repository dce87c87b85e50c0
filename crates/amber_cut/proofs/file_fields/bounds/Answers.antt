-- The end of the piece before, or 0.
use Rattle.std.proofs.Common.{◌≡◌, ◌∙◌, ◌+◌, ◌-◌, ap, arith, sym}
use Rattle.csv.specs.Records.{prev}
use Rattle.csv.proofs.RecordFacts.{prev-first, prev-next}
use Rattle.amber_cut.proofs.file_fields.bounds.Goals as goal

pub returns-then-number-eq0-clause-start : goal.returns-then-number-eq0-clause-start
returns-then-number-eq0-clause-start c = sym (ap (prev 0 c.args.ends.now) c.if-number-eq0.true ∙ prev-first c.args.ends.now)

pub returns-clause-start : goal.returns-clause-start
returns-clause-start c =
    let ends = c.args.ends.now in
    let number = c.args.number in
    let back : number - 1 + 1 ≡ number = omega (arith, c.if-number-eq0.false) in
    sym (ap (prev 0 ends) (sym back) ∙ prev-next 0 ends (number - 1) _ (omega (arith, back, c.requires)))
