-- What is parsed is the number if it is not too large and was written so.
use Rattle.std.proofs.Common.{arith, sym, ◌∙◌, rules}
use Rattle.std.proofs.lemmas.Bool.{false≢true}
use Rattle.std.proofs.lemmas.Bool.Decides.{Decides-eqb}
use Rattle.std.proofs.lemmas.Slice.Eq.{slice_eq-Decides}
use Rattle.amber_journal.proofs.Spelled.{none-no_text, none-not_parsed, none-other, some-number}
use Rattle.amber_journal.proofs.numbers.number.Goals as goal

pub returns-in_default-clause-value : goal.returns-in_default-clause-value
returns-in_default-clause-value c = none-no_text c.args.most c.args.digits.now c.ranges.most.fits c.in_default.ensures.cases.0

pub returns-in_default-parse-clause-value : goal.returns-in_default-parse-clause-value
returns-in_default-parse-clause-value c =
    none-not_parsed c.args.most c.args.digits.now c.in-Ok.text.now c.parse.result c.in_default-parse.field-0 c.ranges.most.fits c.in-Ok.ensures.cases.0 c.parse.ensures.value.0 c.in_default-parse.is

pub returns-then-value-most-clause-value : goal.returns-then-value-most-clause-value
returns-then-value-most-clause-value c =
    none-other c.args.most c.in-Ok-parse.value c.args.digits.now c.in-Ok.text.now c.parse.result c.ranges.most.fits c.in-Ok.ensures.cases.0 c.parse.ensures.value.0 c.in-Ok-parse.is
    (λ fits e. omega (arith, fits, c.if-value-most.true))

pub returns-then-eq-clause-value : goal.returns-then-eq-clause-value
returns-then-eq-clause-value c =
    some-number c.args.most c.in-Ok-parse.value c.args.digits.now c.ranges.most.fits c.if-value-most.false (search rules)

pub returns-else-eq-clause-value : goal.returns-else-eq-clause-value
returns-else-eq-clause-value c =
    none-other c.args.most c.in-Ok-parse.value c.args.digits.now c.in-Ok.text.now c.parse.result c.ranges.most.fits c.in-Ok.ensures.cases.0 c.parse.ensures.value.0 c.in-Ok-parse.is
    (λ fits e. absurd (false≢true (sym c.if-eq.false
    ∙ (slice_eq-Decides Decides-eqb _ _ _ c.eq.ensures).1 (c.as_bytes.ensures.value ∙ c.format.ensures.text ∙ e))))
