-- The filter that was meant, over the columns of its input.
use Rattle.std.proofs.Common.{Option, ok_or, refl, sym, ap, ◌∙◌}
use Rattle.amber_rows.specs.declared.cond.Cmp.{Cmp}
use Rattle.amber_flow.specs.Names.{sign_named}
use Rattle.amber_flow.specs.Operators.{filter_of}
use Rattle.amber_flow.specs.declared.error.FlowWhy.TheVariants.{Shape}
use Rattle.amber_flow.proofs.PartFacts.{parts-handed_on, parts-no_memory, parts-refused}
use Rattle.amber_flow.proofs.ReadFacts.{ok_or-none, ok_or-some, ok_or-then}
use Rattle.amber_flow.proofs.filter.read_filter.Goals as goal

pub returns : goal.returns
unfolding filter_of
returns c =
    let word = ok_or-some _ _ _ c.in_ok-text_field.ensures in
    let sign = sym c.in_ok-op.ensures.ok_part ∙ c.sign.ensures in
    let constant = rw c.in_ok-constant.ensures.ok_part at c.get.ensures in
    record {
      parts = rw (← c.in_ok-id.ensures, ← c.in_ok-name.ensures, word, ← sign, ← constant, ← c.in_ok-input.ensures.number, c.schema_at-columns.ensures.columns, ← c.in_ok-cond.ensures.cond, c.in_ok-schema.ensures.cases) refl;
      kind = rw c.in_ok-schema.ensures.cases (c.schema_at-columns.ensures.input, c.in_ok-cond.ensures.fits);
      sink = refl;
    }

pub returns-in_err-id : goal.returns-in_err-id
unfolding filter_of
returns-in_err-id c = rw (← c.in_err-id.ensures) (parts-refused c.from_residual.result c.in_err-id.field-0.0 c.from_residual.ensures.1)

pub returns-in_err-name : goal.returns-in_err-name
unfolding filter_of
returns-in_err-name c =
    rw (← c.in_ok-id.ensures, ← c.in_err-name.ensures) (parts-refused c.from_residual-in_err-name.result c.in_err-name.field-0.0 c.from_residual-in_err-name.ensures.1)

pub returns-in_err-text_field : goal.returns-in_err-text_field
unfolding filter_of
returns-in_err-text_field c =
    let why = ok_or-then sign_named _ Shape c.in_err-text_field.field-0.0 c.in_err-text_field.ensures in
    rw (← c.in_ok-id.ensures, ← c.in_ok-name.ensures, ← why) (parts-refused c.from_residual-in_err-text_field.result c.in_err-text_field.field-0.0 c.from_residual-in_err-text_field.ensures.1)

pub returns-in_err-op : goal.returns-in_err-op
unfolding filter_of
returns-in_err-op c =
    let word = ok_or-some _ _ _ c.in_ok-text_field.ensures in
    let why = c.in_err-op.ensures.value ∙ ap (λ (sign : Option Cmp). ok_or sign Shape) c.sign.ensures in
    rw (← c.in_ok-id.ensures, ← c.in_ok-name.ensures, word, ← why) (parts-refused c.from_residual-in_err-op.result c.in_err-op.field-0.0 c.from_residual-in_err-op.ensures.1)

pub returns-in_err-constant : goal.returns-in_err-constant
unfolding filter_of
returns-in_err-constant c =
    let word = ok_or-some _ _ _ c.in_ok-text_field.ensures in
    let sign = sym c.in_ok-op.ensures.ok_part ∙ c.sign.ensures in
    let why = ok_or-none c.get.result _ Shape c.in_err-constant.field-0.0 c.in_err-constant.ensures.ok_part c.in_err-constant.ensures.value (rw c.in_err-constant.ensures.ok_part at c.get.ensures) in
    rw (← c.in_ok-id.ensures, ← c.in_ok-name.ensures, word, ← sign, ← why) (parts-refused c.from_residual-in_err-constant.result c.in_err-constant.field-0.0 c.from_residual-in_err-constant.ensures.1)

pub returns-in_err-input : goal.returns-in_err-input
unfolding filter_of
returns-in_err-input c =
    let word = ok_or-some _ _ _ c.in_ok-text_field.ensures in
    let sign = sym c.in_ok-op.ensures.ok_part ∙ c.sign.ensures in
    let constant = rw c.in_ok-constant.ensures.ok_part at c.get.ensures in
    rw (← c.in_ok-id.ensures, ← c.in_ok-name.ensures, word, ← sign, ← constant, ← c.in_err-input.ensures.number) (parts-refused c.from_residual-in_err-input.result c.in_err-input.field-0.0 c.from_residual-in_err-input.ensures.1)

pub returns-in_err-cond : goal.returns-in_err-cond
unfolding filter_of
returns-in_err-cond c =
    let word = ok_or-some _ _ _ c.in_ok-text_field.ensures in
    let sign = sym c.in_ok-op.ensures.ok_part ∙ c.sign.ensures in
    let constant = rw c.in_ok-constant.ensures.ok_part at c.get.ensures in
    rw (← c.in_ok-id.ensures, ← c.in_ok-name.ensures, word, ← sign, ← constant, ← c.in_ok-input.ensures.number, c.schema_at-columns.ensures.columns)
    (parts-handed_on c.from_residual-in_err-cond.result c.in_err-cond.field-0.0 _ _ c.from_residual-in_err-cond.ensures.1 c.in_err-cond.ensures.cond (λ why is. rw (← is)))

pub returns-in_err-schema : goal.returns-in_err-schema
returns-in_err-schema c = parts-no_memory c.from_residual-in_err-schema.result c.from_residual-in_err-schema.ensures.1
