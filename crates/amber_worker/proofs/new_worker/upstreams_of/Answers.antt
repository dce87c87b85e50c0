-- One sender more.
use Rattle.std.proofs.Common.{◌≡◌, ◌∙◌, append-nil, append_assoc, length, rules, refl, sym, ◌<◌, ◌++◌, ℕ, [], ◌∷◌, All, length-append, map, ap, subst, arith}
use Rattle.std.specs.Vec.Iter.{into_iter_items}
use Rattle.std.proofs.lemmas.List.{map-append, nil_from_length, take_all}
use Rattle.std.proofs.lemmas.List.Elements.{All-push}
use Rattle.amber_rows.specs.Topology.{crew_of}
use Rattle.amber_link.specs.declared.upstreams.Upstream.{Upstream}
use Rattle.amber_worker.specs.Made.{IsFreshSender, end_of, from_of}
use Rattle.amber_worker.proofs.Fresh.{one-more, senders-within}
use Rattle.std.proofs.lemmas.Result.{IfOk-from_err}
use Rattle.amber_worker.proofs.new_worker.upstreams_of.Goals as goal

pub upstream_at-requires-clause-known : goal.upstream_at-requires-clause-known
upstream_at-requires-clause-known c =
    subst (λ ns. All (λ (n : ℕ). n < crew_of c.args.flow.now) ns) (sym (c.get-numbers.ensures ∙ c.in_ok-found.ensures)) (senders-within c.args.flow.now c.args.worker)

pub loop-link-preserved : goal.loop-link-preserved
loop-link-preserved c =
    let step : into_iter_items c.loop-link.link-iterator ≡ c.in-Some.link ∷ into_iter_items c.next.new.self = search rules in record {
      all = append_assoc c.loop-link.yielded (c.in-Some.link ∷ []) (into_iter_items c.next.new.self) ∙ ap (λ xs. c.loop-link.yielded ++ xs) (sym step) ∙ c.loop-link.invariant.all;
      place = omega (arith, length-append c.loop-link.yielded (c.in-Some.link ∷ []), c.loop-link.invariant.place);
      numbers = ap (map from_of) c.in_ok-push.ensures.items
          ∙ one-more from_of c.get-numbers.result.now c.loop-link.place c.loop-link.senders.items c.upstream_at.result c.upstream_at.ensures.there c.loop-link.invariant.numbers c.upstream_at.ensures.from;
      ends = ap (map end_of) c.in_ok-push.ensures.items ∙ map-append end_of c.loop-link.senders.items (c.upstream_at.result ∷ [])
          ∙ ap (λ l. l ++ c.upstream_at.result.link ∷ []) c.loop-link.invariant.ends ∙ ap (λ one. c.loop-link.yielded ++ one ∷ []) c.upstream_at.ensures.link;
      fresh = subst (λ l. All (λ (one : Upstream). IsFreshSender c.args.flow.now c.args.what.now one) l) (sym c.in_ok-push.ensures.items)
          (All-push (λ (one : Upstream). IsFreshSender c.args.flow.now c.args.what.now one) c.loop-link.senders.items c.upstream_at.result c.loop-link.invariant.fresh c.upstream_at.ensures.fresh);
    }

pub upstream_at-requires-clause-there : goal.upstream_at-requires-clause-there
upstream_at-requires-clause-there c =
    let step : into_iter_items c.loop-link.link-iterator ≡ c.in-Some.link ∷ into_iter_items c.next.new.self = search rules in
    omega (
      arith,
      ap length (c.get-numbers.ensures ∙ c.in_ok-found.ensures),
      c.requires.all,
      c.loop-link.invariant.place,
      ap length c.loop-link.invariant.all,
      length-append c.loop-link.yielded (into_iter_items c.loop-link.link-iterator),
      ap length step,
    )

pub returns-clause-numbers : goal.returns-clause-numbers
returns-clause-numbers c =
    let none : into_iter_items c.loop-link.link-iterator ≡ [] = nil_from_length (into_iter_items c.loop-link.link-iterator) (search rules) in
    let all = sym (ap (λ xs. c.loop-link.yielded ++ xs) none ∙ append-nil c.loop-link.yielded) ∙ c.loop-link.invariant.all in
    let found = c.get-numbers.ensures ∙ c.in_ok-found.ensures in
    c.loop-link.invariant.numbers
    ∙ take_all c.loop-link.place c.get-numbers.result.now (omega (arith, ap length found, c.requires.all, c.loop-link.invariant.place, ap length all)) ∙ found

pub returns-clause-ends : goal.returns-clause-ends
returns-clause-ends c =
    let none : into_iter_items c.loop-link.link-iterator ≡ [] = nil_from_length (into_iter_items c.loop-link.link-iterator) (search rules) in
    c.loop-link.invariant.ends ∙ sym (ap (λ xs. c.loop-link.yielded ++ xs) none ∙ append-nil c.loop-link.yielded) ∙ c.loop-link.invariant.all

pub returns-in_err-found-clause-ends : goal.returns-in_err-found-clause-ends
returns-in_err-found-clause-ends c = IfOk-from_err _ _ c.from_residual.ensures.0

pub returns-in_err-push-clause-ends : goal.returns-in_err-push-clause-ends
returns-in_err-push-clause-ends c = IfOk-from_err _ _ c.from_residual-in_err-push.ensures.0

pub returns-in_err-found-clause-fresh : goal.returns-in_err-found-clause-fresh
returns-in_err-found-clause-fresh c = IfOk-from_err _ _ c.from_residual.ensures.0

pub returns-in_err-push-clause-fresh : goal.returns-in_err-push-clause-fresh
returns-in_err-push-clause-fresh c = IfOk-from_err _ _ c.from_residual-in_err-push.ensures.0

pub returns-in_err-found-clause-numbers : goal.returns-in_err-found-clause-numbers
returns-in_err-found-clause-numbers c = IfOk-from_err _ _ c.from_residual.ensures.0

pub returns-in_err-push-clause-numbers : goal.returns-in_err-push-clause-numbers
returns-in_err-push-clause-numbers c = IfOk-from_err _ _ c.from_residual-in_err-push.ensures.0

pub loop-link-init : goal.loop-link-init
loop-link-init c =
    record {
      all = c.into_iter-link-iterator.ensures.into_iter_gives.0;
      place = refl;
      numbers = ap (map from_of) c.new-senders.ensures.items;
      ends = ap (map end_of) c.new-senders.ensures.items;
      fresh = λ k d there. absurd (omega (arith, there, ap length c.new-senders.ensures.items));
    }

pub returns-clause-fresh : goal.returns-clause-fresh
returns-clause-fresh c = c.loop-link.invariant.fresh
