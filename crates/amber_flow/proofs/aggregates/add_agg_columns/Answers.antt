use Rattle.std.proofs.Common.{◌≡◌, List, ℕ, [], ◌++◌, get_or, append-nil, sym, ap, ◌∙◌, Bor}
use Rattle.std.proofs.lemmas.List.{get_or_default}
use Rattle.std.specs.List.{cons_option}
use Rattle.amber_flow.specs.Aggregates.{agg_column}
use Rattle.amber_flow.proofs.ListFacts.{kept-after, kept-after_end}
use Rattle.amber_flow.proofs.aggregates.add_agg_columns.Goals as goal
use Rattle.amber_flow.proofs.aggregates.add_agg_columns.Goals.{in-Some+in_ok-push, in_default}

pub loop-text-preserved : goal.loop-text-preserved
loop-text-preserved c =
    let step : c.match-branch-2.made.items ≡ c.loop-text.made.items ++ cons_option (c.in_ok-column.field-0) [] = elim c.match-branch-2.branch [
      | in-Some+in_ok-push w ↦ rw (w.made-is, w.in-Some.is) w.in_ok-push.ensures.items
      | in_default w ↦ rw (w.made-is, w.in_default.is) (sym (append-nil _))
    ] in
    let none : Bor (List ℕ) = record { ref_ptr = (0, 0); now = [] } in
    let texts = c.args.texts.now in
    let i = c.loop-text.text-index in
    let now = λ (text : Bor (List ℕ)). text.now in
    let x = get_or texts i none in
    kept-after (agg_column c.args.columns.now) now texts i x c.args.made.now.items c.loop-text.made.items c.match-branch-2.made.items c.loop-text-test.true (get_or_default texts i none x c.loop-text-test.true) c.loop-text.invariant
    (step ∙ ap (λ found. c.loop-text.made.items ++ cons_option found []) c.in_ok-column.ensures)

pub returns : goal.returns
returns c =
    let now = λ (text : Bor (List ℕ)). text.now in
    kept-after_end (agg_column c.args.columns.now) now c.args.texts.now c.loop-text.text-index c.args.made.now.items c.loop-text.made.items c.loop-text-test.false c.loop-text.invariant
