use Rattle.std.proofs.Common.{List, ℕ, Option, map, ok_or, sym, ap, ◌∙◌, Bor}
use Rattle.std.proofs.lemmas.List.{map-append}
use Rattle.std.proofs.lemmas.Result.{err_from_is_err_and}
use Rattle.serde_json.specs.View.{view}
use Rattle.amber_flow.specs.Columns.{source_of}
use Rattle.amber_flow.specs.declared.error.FlowWhy.TheVariants.{Shape}
use Rattle.amber_flow.proofs.ListFacts.{each-end, each-more, each-start, each-stop}
use Rattle.amber_flow.proofs.ReadFacts.{ok_or-none}
use Rattle.amber_flow.proofs.project.read_sources.Goals as goal

pub loop-pair-init : goal.loop-pair-init
loop-pair-init c = rw c.new-names.ensures.items (each-start _)

pub returns-in_err-ok_or : goal.returns-in_err-ok_or
returns-in_err-ok_or c =
    let now = λ (text : Bor (List ℕ)). text.now in
    let stop = sym (c.loop-pair.invariant ∙ each-stop source_of view c.args.pairs.now c.loop-pair.pair-index _ (map now c.loop-pair.names.items) c.loop-pair-test.true c.pair-item.is (rw c.in_err-ok_or.ensures.ok_part at c.source.ensures)) in
    let p = err_from_is_err_and c.from_residual.result c.from_residual.ensures.1 in
    rw (p.1, p.2) (ok_or-none c.source.result _ Shape c.in_err-ok_or.field-0.0 c.in_err-ok_or.ensures.ok_part c.in_err-ok_or.ensures.value stop)

pub loop-pair-preserved : goal.loop-pair-preserved
loop-pair-preserved c =
    let now = λ (text : Bor (List ℕ)). text.now in
    rw (c.in_ok-push.ensures.items, map-append) (c.loop-pair.invariant ∙ each-more source_of view c.args.pairs.now c.loop-pair.pair-index _ (map now c.loop-pair.names.items) c.in_ok-ok_or.field-0.now c.loop-pair-test.true c.pair-item.is (rw c.in_ok-ok_or.ensures.ok_part at c.source.ensures))

pub returns : goal.returns
returns c =
    let now = λ (text : Bor (List ℕ)). text.now in
    ap (λ (found : Option (List (List ℕ))). ok_or found Shape) (sym (c.loop-pair.invariant ∙ each-end source_of view c.args.pairs.now c.loop-pair.pair-index (map now c.loop-pair.names.items) c.loop-pair-test.false))
