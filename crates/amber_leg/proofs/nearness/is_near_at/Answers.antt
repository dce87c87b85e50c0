-- Where the pause is far, as many rows are left as may come.
use Rattle.std.proofs.Common.{◌≡◌, ℕ, List, Option, slice_index_or, unwrap_or, sym, ap, ◌∙◌, arith}
use Rattle.amber_rows.specs.declared.flow.Operator.{Operator}
use Rattle.amber_leg.proofs.Near.{workers-at}
use Rattle.amber_leg.proofs.nearness.is_near_at.Goals as goal

pub returns : goal.returns
returns c = record {
  far = λ far n armed.
      let rows : n ≡ c.in-Some.rows = ap (λ (found : Option ℕ). unwrap_or found 0) (sym armed ∙ sym c.pause_at.ensures ∙ c.in-Some.is) in
      let left = c.may_come_to.ensures far in
      let workers = workers-at c.args.home.now.flow c.args.place c.requires.there c.index-operators-place.result in
      let same = ap (λ (flow : List Operator). (slice_index_or flow c.args.place c.index-operators-place.result).workers) (c.get-operators.ensures.operators ∙ c.flow-flow.ensures) in
      omega (arith, rows, left, workers, same);
}
