-- The place of the first row's receiver, with room.
use Rattle.std.proofs.Common.{◌≡◌, List, ◌∷◌, Some, ◌<◌, sym, ap, ◌∙◌, subst}
use Rattle.amber_rows.specs.Lists.{first_of}
use Rattle.amber_rows.specs.declared.value.Value.{Value}
use Rattle.amber_link.specs.Sides.{without_room}
use Rattle.amber_worker.specs.Links.{IsFirstPlace, number_to}
use Rattle.amber_link.proofs.Sides.{map-length}
use Rattle.amber_worker.proofs.Roomless.{same-at, same-receivers}
use Rattle.amber_worker.proofs.links.first_place.Goals as goal

-- the row that was looked at is the first one
first-row : (rows later : List (List Value)) (row next : List Value) → rows ≡ row ∷ later → first_of rows ≡ Some next → next ≡ row
first-row rows later row next is found = let same : Some row ≡ Some next = ap first_of (sym is) ∙ found in cc

pub returns-in_err-reserve_at-clause-open : goal.returns-in_err-reserve_at-clause-open
returns-in_err-reserve_at-clause-open c = c.reserve_at.ensures.still_open _ c.requires.open

pub returns-in_ok-reserve_at-clause-open : goal.returns-in_ok-reserve_at-clause-open
returns-in_ok-reserve_at-clause-open c = c.reserve_at.ensures.still_open _ c.requires.open

pub returns-in_ok-reserve_at-clause-place : goal.returns-in_ok-reserve_at-clause-place
unfolding IsFirstPlace
returns-in_ok-reserve_at-clause-place c row later is =
    let same = first-row _ _ _ _ is c.in-Some.ensures.some in
    let number = c.number_to-number.ensures ∙ ap (number_to c.args.route.now) same in
    rw c.reserve_at.ensures.same (
      subst (λ n. c.in-Some-place.i < n) (sym (map-length without_room c.args.outs.now)) c.in-Some-place.ensures.there,
      rw (← number) (same-at c.args.outs.now c.in-Some-place.i c.number_to-number.result c.in-Some-place.ensures.there c.in-Some-place.ensures.own),
    )

pub returns-in_default-place-clause-place : goal.returns-in_default-place-clause-place
unfolding IsFirstPlace
returns-in_default-place-clause-place c row later is =
    let same = first-row _ _ _ _ is c.in-Some.ensures.some in
    let number = c.number_to-number.ensures ∙ ap (number_to c.args.route.now) same in
    rw c.in_default-place.is (rw (← number) (sym (same-receivers c.number_to-number.result c.args.outs.now) ∙ c.in_default-place.ensures.none))
