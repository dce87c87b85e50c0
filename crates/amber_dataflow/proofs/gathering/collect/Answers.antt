-- One worker more has given what it has.
use Rattle.std.proofs.Common.{◌≡◌, ◌∷◌, ◌++◌, [], append_assoc, sym, ap, ◌∙◌, rules}
use Rattle.std.proofs.lemmas.List.{nil_from_length}
use Rattle.std.specs.Vec.Iter.{into_iter_items}
use Rattle.amber_dataflow.proofs.Gathered.{given-all, given-more, given-none}
use Rattle.amber_dataflow.proofs.gathering.collect.Goals as goal

pub returns : goal.returns
returns c =
    let none : into_iter_items c.loop-worker.worker-iterator ≡ [] = nil_from_length (into_iter_items c.loop-worker.worker-iterator) (search rules) in
    given-all c.loop-worker.yielded (into_iter_items c.loop-worker.worker-iterator) c.args.crew.items c.loop-worker.refused.items c.new-2.result
    c.loop-worker.rows c.loop-worker.invariant.all none c.loop-worker.invariant.given c.new-2.ensures

pub loop-worker-init : goal.loop-worker-init
loop-worker-init c = record {
  all = search rules;
  given = given-none c.new-refused.result.items c.new-rows.result c.new-refused.ensures.items (c.new-rows.ensures ∙ c.new.ensures.items);
}

pub loop-worker-preserved : goal.loop-worker-preserved
loop-worker-preserved c =
    let step : into_iter_items c.loop-worker.worker-iterator ≡ c.in-Some.worker ∷ into_iter_items c.next.new.self = search rules in
    let longer : c.append.new.self.items ≡ c.loop-worker.refused.items ++ c.in_ok-given.given.refused = search rules in record {
      all = append_assoc c.loop-worker.yielded (c.in-Some.worker ∷ []) (into_iter_items c.next.new.self)
          ∙ ap (λ xs. c.loop-worker.yielded ++ xs) (sym step) ∙ c.loop-worker.invariant.all;
      given = given-more c.loop-worker.yielded c.in-Some.worker c.in_ok-given.given c.loop-worker.refused.items c.append.new.self.items c.loop-worker.rows
          c.loop-worker.invariant.given c.in_ok-given.ensures longer;
    }
