-- One receiver more.
use Rattle.std.proofs.Common.{◌≡◌, ◌∙◌, append-nil, append_assoc, length, rules, refl, sym, ◌++◌, [], ◌∷◌, length-append, map, ap, arith}
use Rattle.std.specs.Vec.Iter.{into_iter_items}
use Rattle.std.proofs.lemmas.List.{map-append, nil_from_length, take_all}
use Rattle.amber_worker.specs.Made.{out_of, to_of}
use Rattle.amber_worker.proofs.Fresh.{one-more}
use Rattle.std.proofs.lemmas.Result.{IfOk-from_err}
use Rattle.amber_worker.proofs.new_worker.downstreams_of.Goals as goal

pub loop-link-preserved : goal.loop-link-preserved
loop-link-preserved c =
    let step : into_iter_items c.loop-link.link-iterator ≡ c.in-Some.link ∷ into_iter_items c.next.new.self = search rules in record {
      all = append_assoc c.loop-link.yielded (c.in-Some.link ∷ []) (into_iter_items c.next.new.self) ∙ ap (λ xs. c.loop-link.yielded ++ xs) (sym step) ∙ c.loop-link.invariant.all;
      place = omega (arith, length-append c.loop-link.yielded (c.in-Some.link ∷ []), c.loop-link.invariant.place);
      numbers = ap (map to_of) c.in_ok-push.ensures.items
          ∙ one-more to_of c.get-numbers.result.now c.loop-link.place c.loop-link.receivers.items c.downstream_at.result c.downstream_at.ensures.there c.loop-link.invariant.numbers c.downstream_at.ensures.to;
      links = ap (map out_of) c.in_ok-push.ensures.items ∙ map-append out_of c.loop-link.receivers.items (c.downstream_at.result ∷ [])
          ∙ ap (λ l. l ++ c.downstream_at.result.link ∷ []) c.loop-link.invariant.links ∙ ap (λ one. c.loop-link.yielded ++ one ∷ []) c.downstream_at.ensures.link;
    }

pub downstream_at-requires : goal.downstream_at-requires
downstream_at-requires c =
    let step : into_iter_items c.loop-link.link-iterator ≡ c.in-Some.link ∷ into_iter_items c.next.new.self = search rules in
    omega (
      arith,
      ap length (c.get-numbers.ensures ∙ c.in_ok-found.ensures),
      c.requires.all,
      c.loop-link.invariant.place,
      ap length c.loop-link.invariant.all,
      length-append c.loop-link.yielded (into_iter_items c.loop-link.link-iterator),
      ap length step,
    )

pub returns-clause-numbers : goal.returns-clause-numbers
returns-clause-numbers c =
    let none : into_iter_items c.loop-link.link-iterator ≡ [] = nil_from_length (into_iter_items c.loop-link.link-iterator) (search rules) in
    let all = sym (ap (λ xs. c.loop-link.yielded ++ xs) none ∙ append-nil c.loop-link.yielded) ∙ c.loop-link.invariant.all in
    let found = c.get-numbers.ensures ∙ c.in_ok-found.ensures in
    c.loop-link.invariant.numbers
    ∙ take_all c.loop-link.place c.get-numbers.result.now (omega (arith, ap length found, c.requires.all, c.loop-link.invariant.place, ap length all)) ∙ found

pub returns-clause-links : goal.returns-clause-links
returns-clause-links c =
    let none : into_iter_items c.loop-link.link-iterator ≡ [] = nil_from_length (into_iter_items c.loop-link.link-iterator) (search rules) in
    c.loop-link.invariant.links ∙ sym (ap (λ xs. c.loop-link.yielded ++ xs) none ∙ append-nil c.loop-link.yielded) ∙ c.loop-link.invariant.all

pub returns-in_err-found-clause-links : goal.returns-in_err-found-clause-links
returns-in_err-found-clause-links c = IfOk-from_err _ _ c.from_residual.ensures.0

pub returns-in_err-push-clause-links : goal.returns-in_err-push-clause-links
returns-in_err-push-clause-links c = IfOk-from_err _ _ c.from_residual-in_err-push.ensures.0

pub returns-in_err-found-clause-numbers : goal.returns-in_err-found-clause-numbers
returns-in_err-found-clause-numbers c = IfOk-from_err _ _ c.from_residual.ensures.0

pub returns-in_err-push-clause-numbers : goal.returns-in_err-push-clause-numbers
returns-in_err-push-clause-numbers c = IfOk-from_err _ _ c.from_residual-in_err-push.ensures.0

pub loop-link-init : goal.loop-link-init
loop-link-init c =
    record {
      all = c.into_iter-link-iterator.ensures.into_iter_gives.0;
      place = refl;
      numbers = ap (map to_of) c.new-receivers.ensures.items;
      links = ap (map out_of) c.new-receivers.ensures.items;
    }
