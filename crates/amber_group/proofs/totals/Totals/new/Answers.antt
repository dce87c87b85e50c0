-- The few or the many are blank.
use Rattle.std.proofs.Common.{◌∙◌, ◌++◌, ◌∷◌, [], ap, length, map, sym, take, take_all}
use Rattle.std.proofs.lemmas.List.{map-append, take_more}
use Rattle.amber_group.specs.Running.{running_of}
use Rattle.amber_group.proofs.FewOrMany.{few-blank, in-few, in-many}
use Rattle.amber_group.proofs.totals.Totals.new.Goals.{then-aggs-gt-FEW+in_ok-reserve+else-loop-agg-test, else-aggs-gt-FEW}
use Rattle.amber_group.proofs.totals.Totals.new.Goals as goal

pub loop-agg-preserved : goal.loop-agg-preserved
loop-agg-preserved c =
    let aggs = c.args.aggs.now in
    let i = c.loop-agg.agg-index in
    c.push_reserved.ensures.items ∙ (λ j. c.loop-agg.invariant j ++ c.new.ensures j ∷ [])
    ∙ sym (ap (map (running_of [])) (take_more aggs i _ c.loop-agg-test.true) ∙ map-append (running_of []) (take i aggs) _)

pub returns : goal.returns
returns c =
    let aggs = c.args.aggs.now in
    let count = length aggs in
    let few = c.blank_at.result ∷ c.blank_at-2.result ∷ c.blank_at-3.result ∷ c.blank_at-4.result ∷ [] in
    let many = c.if-aggs-gt-FEW.many.items in
    elim c.if-aggs-gt-FEW.branch [
      | then-aggs-gt-FEW+in_ok-reserve+else-loop-agg-test w ↦
          in-many count few many w.if-aggs-gt-FEW.true ∙ (λ i. (w.many-is i).items) ∙ w.loop-agg.invariant
          ∙ ap (map (running_of [])) (take_all w.loop-agg.agg-index aggs w.loop-agg-test.false)
      | else-aggs-gt-FEW w ↦
          in-few count few many w.if-aggs-gt-FEW.false
          ∙ (λ i. take count (c.blank_at.ensures i ∷ c.blank_at-2.ensures i ∷ c.blank_at-3.ensures i ∷ c.blank_at-4.ensures i ∷ []))
          ∙ few-blank aggs w.if-aggs-gt-FEW.false
    ]

pub loop-agg-init : goal.loop-agg-init
loop-agg-init c = c.in_ok-reserve.ensures.items ∙ c.new-many.ensures.items
