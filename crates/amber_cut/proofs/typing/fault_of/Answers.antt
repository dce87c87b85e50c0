-- Field by field, as many as there may be.
use Rattle.std.proofs.Common.{◌≡◌, ◌∙◌, ◌∷◌, [], drop, length, length-drop, sym, ap, arith}
use Rattle.std.proofs.lemmas.List.{drop-drop}
use Rattle.amber_cut.specs.Lines.{cut}
use Rattle.amber_cut.specs.Typing.{fields_if}
use Rattle.amber_cut.proofs.TypedLines.{cut-some}
use Rattle.amber_cut.proofs.typing.fault_of.Goals as goal

pub returns-then-not-more-clause-same : goal.returns-then-not-more-clause-same
returns-then-not-more-clause-same c same =
    let all = fields_if c.args.more c.args.line.now in
    let none : drop c.fields.counter all ≡ [] = rw c.if-not-more.true at c.fields.invariant.rest in
    absurd (omega (arith, length-drop c.fields.counter all, ap length none, c.fields-test.true, same))

pub fields-preserved : goal.fields-preserved
fields-preserved c =
    let all = fields_if c.args.more c.args.line.now in
    let i = c.fields.counter in
    let more = fields_if c.next_field-comma.result.2 c.next_field-comma.result.1.now in
    let here = rw c.if-not-more.false at c.fields.invariant.rest in
    let parts : drop i all ≡ c.next_field-comma.result.0.now ∷ more = here ∙ c.next_field-comma.ensures in
    record {
      rest = sym (drop-drop 1 i all) ∙ ap (drop 1) parts;
      passed = omega (arith, length-drop i all, ap length parts);
    }

pub returns-then-more-clause-same : goal.returns-then-more-clause-same
returns-then-more-clause-same c same =
    let all = fields_if c.args.more c.args.line.now in
    let some : drop c.fields.counter all ≡ cut c.fields.rest.now = rw c.if-more.true at c.fields.invariant.rest in
    absurd (omega (arith, length-drop c.fields.counter all, ap length some, cut-some c.fields.rest.now, c.fields-test.false, same))

pub returns-else-more-clause-width : goal.returns-else-more-clause-width
returns-else-more-clause-width c other =
    let all = fields_if c.args.more c.args.line.now in
    let none : drop c.fields.counter all ≡ [] = rw c.if-more.false at c.fields.invariant.rest in
    absurd (other (omega (arith, length-drop c.fields.counter all, ap length none, c.fields-test.false, c.fields.auto.counter-end, c.fields.invariant.passed)))
