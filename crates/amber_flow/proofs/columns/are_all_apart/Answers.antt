use Rattle.std.proofs.Common.{is_some, sym, ap, ◌∙◌}
use Rattle.amber_rows.specs.Columns.{is_among, names_of}
use Rattle.amber_flow.proofs.ColumnFacts.{apart-end, apart-more, apart-stop, named-found}
use Rattle.amber_flow.proofs.columns.are_all_apart.Goals as goal

pub returns-then-is_some : goal.returns-then-is_some
returns-then-is_some c =
    let again = c.if-is_some.ensures ∙ ap is_some c.place_of.ensures.place ∙ named-found c.get.result.now c.split_at.result.1.now ∙ ap (λ name. is_among name (names_of c.split_at.result.1.now)) c.get.ensures in
    sym (c.loop-index.invariant ∙ apart-stop c.args.columns.now c.loop-index.index _ _ c.loop-index-test.true c.index-columns-index.is c.split_at.ensures.back again)

pub loop-index-preserved : goal.loop-index-preserved
loop-index-preserved c =
    let again = c.if-is_some.ensures ∙ ap is_some c.place_of.ensures.place ∙ named-found c.get.result.now c.split_at.result.1.now ∙ ap (λ name. is_among name (names_of c.split_at.result.1.now)) c.get.ensures in
    c.loop-index.invariant ∙ apart-more c.args.columns.now c.loop-index.index _ _ c.loop-index-test.true c.index-columns-index.is c.split_at.ensures.back again

pub returns : goal.returns
returns c = sym (c.loop-index.invariant ∙ apart-end c.args.columns.now c.loop-index.index c.loop-index-test.false)
