use Rattle.std.proofs.Common.{◌≡◌, List, option_map, ℕ, [], ◌∷◌, ◌++◌, get_or, append-nil, sym, ap, ◌∙◌, Bor}
use Rattle.std.proofs.lemmas.List.{get_or_default}
use Rattle.std.specs.List.{cons_option}
use Rattle.amber_flow.specs.Columns.{column_named}
use Rattle.amber_flow.proofs.ListFacts.{kept-after, kept-after_end}
use Rattle.amber_flow.proofs.columns.add_named.Goals as goal
use Rattle.amber_flow.proofs.columns.add_named.Goals.{in-Some+in_ok-clone+in_ok-push, in_default}

pub loop-name-preserved : goal.loop-name-preserved
loop-name-preserved c =
    let step : c.match-column_with.made.items ≡ c.loop-name.made.items ++ cons_option (option_map (λ column. column.now) c.column_with.result) [] = elim c.match-column_with.branch [
      | in-Some+in_ok-clone+in_ok-push w ↦ rw (w.made-is, w.in-Some.is) (w.in_ok-push.ensures.items ∙ ap (λ column. c.loop-name.made.items ++ column ∷ []) w.in_ok-clone.ensures.cases)
      | in_default w ↦ rw (w.made-is, w.in_default.is) (sym (append-nil _))
    ] in
    let none : Bor (List ℕ) = record { ref_ptr = (0, 0); now = [] } in
    let names = c.args.names.now in
    let i = c.loop-name.name-index in
    let now = λ (name : Bor (List ℕ)). name.now in
    let x = get_or names i none in
    kept-after (column_named c.args.columns.now) now names i x c.args.made.now.items c.loop-name.made.items c.match-column_with.made.items c.loop-name-test.true (get_or_default names i none x c.loop-name-test.true) c.loop-name.invariant
    (step ∙ ap (λ found. c.loop-name.made.items ++ cons_option found []) c.column_with.ensures)

pub returns : goal.returns
returns c =
    let now = λ (name : Bor (List ℕ)). name.now in
    kept-after_end (column_named c.args.columns.now) now c.args.names.now c.loop-name.name-index c.args.made.now.items c.loop-name.made.items c.loop-name-test.false c.loop-name.invariant
