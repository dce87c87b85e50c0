use Rattle.std.proofs.Common.{List, ℕ, [], Option, get_or, ok_or, sym, ap, ◌∙◌, Bor}
use Rattle.std.proofs.lemmas.List.{get_or_default}
use Rattle.amber_rows.specs.declared.agg.Agg.{Agg}
use Rattle.amber_flow.specs.Aggregates.{agg_of}
use Rattle.amber_flow.specs.declared.error.FlowWhy.TheVariants.{Column as NoColumn}
use Rattle.amber_flow.proofs.ListFacts.{each-end, each-more, each-start, each-stop}
use Rattle.amber_flow.proofs.ReadFacts.{ok_or-none, refused}
use Rattle.amber_flow.proofs.aggregates.read_aggs.Goals as goal

pub loop-text-init : goal.loop-text-init
loop-text-init c = rw c.new-aggs.ensures.items (each-start _)

pub returns-in_err-ok_or : goal.returns-in_err-ok_or
returns-in_err-ok_or c =
    let none : Bor (List ℕ) = record { ref_ptr = (0, 0); now = [] } in
    let names = c.args.texts.now in
    let i = c.loop-text.text-index in
    let now = λ (name : Bor (List ℕ)). name.now in
    let x = get_or names i none in
    let found = sym c.in_err-ok_or.ensures.ok_part ∙ c.read_agg.ensures in
    let stop = sym (c.loop-text.invariant ∙ each-stop (agg_of c.args.columns.now) now names i x c.loop-text.aggs.items c.loop-text-test.true (get_or_default names i none x c.loop-text-test.true) found) in
    let why = ok_or-none c.read_agg.result _ NoColumn c.in_err-ok_or.field-0.0 c.in_err-ok_or.ensures.ok_part c.in_err-ok_or.ensures.value stop in
    rw (← why) (refused c.from_residual.result c.in_err-ok_or.field-0.0 c.from_residual.ensures.1)

pub loop-text-preserved : goal.loop-text-preserved
loop-text-preserved c =
    let none : Bor (List ℕ) = record { ref_ptr = (0, 0); now = [] } in
    let names = c.args.texts.now in
    let i = c.loop-text.text-index in
    let now = λ (name : Bor (List ℕ)). name.now in
    let x = get_or names i none in
    let found = sym c.in_ok-ok_or.ensures.ok_part ∙ c.read_agg.ensures in
    rw c.in_ok-push.ensures.items (c.loop-text.invariant ∙ each-more (agg_of c.args.columns.now) now names i x c.loop-text.aggs.items c.in_ok-ok_or.field-0 c.loop-text-test.true (get_or_default names i none x c.loop-text-test.true) found)

pub returns : goal.returns
returns c =
    let now = λ (name : Bor (List ℕ)). name.now in
    rw c.new.ensures (ap (λ (found : Option (List Agg)). ok_or found NoColumn) (sym (c.loop-text.invariant ∙ each-end (agg_of c.args.columns.now) now c.args.texts.now c.loop-text.text-index c.loop-text.aggs.items c.loop-text-test.false)))
