use Rattle.std.proofs.Common.{List, ℕ, [], Option, get_or, ok_or, sym, ap, ◌∙◌, Bor}
use Rattle.std.proofs.lemmas.List.{get_or_default}
use Rattle.amber_flow.specs.Columns.{column_number}
use Rattle.amber_flow.specs.declared.error.FlowWhy.TheVariants.{Column as NoColumn}
use Rattle.amber_flow.proofs.ListFacts.{each-end, each-more, each-start, each-stop}
use Rattle.amber_flow.proofs.ReadFacts.{ok_or-none, refused}
use Rattle.amber_flow.proofs.columns.find_columns.Goals as goal

pub loop-name-init : goal.loop-name-init
loop-name-init c = rw c.new-numbers.ensures.items (each-start _)

pub returns-in_err-ok_or : goal.returns-in_err-ok_or
returns-in_err-ok_or c =
    let none : Bor (List ℕ) = record { ref_ptr = (0, 0); now = [] } in
    let names = c.args.names.now in
    let i = c.loop-name.name-index in
    let now = λ (name : Bor (List ℕ)). name.now in
    let x = get_or names i none in
    let found = sym c.in_err-ok_or.ensures.ok_part ∙ c.find_column.ensures.number in
    let stop = sym (c.loop-name.invariant ∙ each-stop (column_number c.args.columns.now) now names i x c.loop-name.numbers.items c.loop-name-test.true (get_or_default names i none x c.loop-name-test.true) found) in
    let why = ok_or-none c.find_column.result _ NoColumn c.in_err-ok_or.field-0.0 c.in_err-ok_or.ensures.ok_part c.in_err-ok_or.ensures.value stop in
    rw (← why) (refused c.from_residual.result c.in_err-ok_or.field-0.0 c.from_residual.ensures.1)

pub loop-name-preserved : goal.loop-name-preserved
loop-name-preserved c =
    let none : Bor (List ℕ) = record { ref_ptr = (0, 0); now = [] } in
    let names = c.args.names.now in
    let i = c.loop-name.name-index in
    let now = λ (name : Bor (List ℕ)). name.now in
    let x = get_or names i none in
    let found = sym c.in_ok-ok_or.ensures.ok_part ∙ c.find_column.ensures.number in
    rw c.in_ok-push.ensures.items (c.loop-name.invariant ∙ each-more (column_number c.args.columns.now) now names i x c.loop-name.numbers.items c.in_ok-ok_or.field-0 c.loop-name-test.true (get_or_default names i none x c.loop-name-test.true) found)

pub returns : goal.returns
returns c =
    let now = λ (name : Bor (List ℕ)). name.now in
    rw c.new.ensures (ap (λ (found : Option (List ℕ)). ok_or found NoColumn) (sym (c.loop-name.invariant ∙ each-end (column_number c.args.columns.now) now c.args.names.now c.loop-name.name-index c.loop-name.numbers.items c.loop-name-test.false)))
