use Rattle.std.proofs.Common.{List, ℕ, Option, map, ok_or, sym, ap, ◌∙◌, Bor}
use Rattle.std.proofs.lemmas.List.{map-append}
use Rattle.std.proofs.lemmas.Result.{err_from_is_err_and}
use Rattle.serde_json.specs.Find.{as_str}
use Rattle.serde_json.specs.View.{view}
use Rattle.amber_flow.specs.declared.error.FlowWhy.TheVariants.{Shape}
use Rattle.amber_flow.proofs.ListFacts.{each-end, each-more, each-start, each-stop}
use Rattle.amber_flow.proofs.ReadFacts.{ok_or-none}
use Rattle.amber_flow.proofs.fields.read_texts.Goals as goal

pub loop-tree-init : goal.loop-tree-init
loop-tree-init c = rw c.new-texts.ensures.items (each-start _)

pub returns-in_err-ok_or : goal.returns-in_err-ok_or
returns-in_err-ok_or c =
    let now = λ (text : Bor (List ℕ)). text.now in
    let stop = sym (c.loop-tree.invariant ∙ each-stop as_str view c.args.trees.now c.loop-tree.tree-index _ (map now c.loop-tree.texts.items) c.loop-tree-test.true c.tree-item.is (rw c.in_err-ok_or.ensures.ok_part at c.as_str.ensures)) in
    let p = err_from_is_err_and c.from_residual.result c.from_residual.ensures.1 in
    rw (p.1, p.2) (ok_or-none c.as_str.result _ Shape c.in_err-ok_or.field-0.0 c.in_err-ok_or.ensures.ok_part c.in_err-ok_or.ensures.value stop)

pub loop-tree-preserved : goal.loop-tree-preserved
loop-tree-preserved c =
    let now = λ (text : Bor (List ℕ)). text.now in
    rw (c.in_ok-push.ensures.items, map-append) (c.loop-tree.invariant ∙ each-more as_str view c.args.trees.now c.loop-tree.tree-index _ (map now c.loop-tree.texts.items) c.in_ok-ok_or.field-0.now c.loop-tree-test.true c.tree-item.is (rw c.in_ok-ok_or.ensures.ok_part at c.as_str.ensures))

pub returns : goal.returns
returns c =
    let now = λ (text : Bor (List ℕ)). text.now in
    ap (λ (found : Option (List (List ℕ))). ok_or found Shape) (sym (c.loop-tree.invariant ∙ each-end as_str view c.args.trees.now c.loop-tree.tree-index (map now c.loop-tree.texts.items) c.loop-tree-test.false))
