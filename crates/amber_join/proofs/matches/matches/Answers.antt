-- One place more is one step of `filter_map` more.
use Rattle.std.proofs.Common.{◌≡◌, ◌+◌, ◌∙◌, ◌++◌, ◌∷◌, [], List, ap, get_or, map, slice_get, sym, take, take_all}
use Rattle.std.specs.List.{filter_map}
use Rattle.std.proofs.lemmas.List.{map-append, take_more}
use Rattle.std.proofs.lemmas.List.Elements.{filter_map-append}
use Rattle.amber_rows.specs.declared.value.Value.{Value}
use Rattle.amber_join.proofs.matches.matches.Goals as goal

pub loop-place-init : goal.loop-place-init
loop-place-init c =
    let put = λ (other : List Value). c.args.probe.now ++ other in
    let first = map put (filter_map (slice_get c.args.build.now) (c.get-first.result.0 ∷ [])) in
    c.in_ok-add_match.ensures ∙ ap (λ before. before ++ first) c.in_ok-made.ensures.items

pub loop-place-preserved : goal.loop-place-preserved
loop-place-preserved c =
    let put = λ (other : List Value). c.args.probe.now ++ other in
    let at = slice_get c.args.build.now in
    let first = c.get-first.result.0 in
    let more = c.get-first.result.1.now in
    let i = c.loop-place.place-index in
    let place = get_or more i 0 in
    let next : first ∷ take (i + 1) more ≡ (first ∷ take i more) ++ place ∷ [] = ap (λ ps. first ∷ ps) (take_more more i 0 c.loop-place-test.true) in
    c.in_ok-add_match-2.ensures
    ∙ ap (λ before. before ++ map put (filter_map at (place ∷ []))) c.loop-place.invariant
    ∙ sym (ap (λ ps. map put (filter_map at ps)) next ∙ ap (map put) (filter_map-append at (first ∷ take i more) (place ∷ [])) ∙ map-append put (filter_map at (first ∷ take i more)) (filter_map at (place ∷ [])))

pub returns : goal.returns
returns c =
    let put = λ (other : List Value). c.args.probe.now ++ other in
    let first = c.get-first.result.0 in
    let more = c.get-first.result.1.now in
    c.loop-place.invariant
    ∙ ap (λ ps. map put (filter_map (slice_get c.args.build.now) ps)) (ap (λ ps. first ∷ ps) (take_all c.loop-place.place-index more c.loop-place-test.false) ∙ sym c.get-first.ensures)
