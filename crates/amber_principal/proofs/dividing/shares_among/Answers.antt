-- One worker more has its share.
use Rattle.std.proofs.Common.{◌≡◌, ℕ, ◌+◌, ◌/◌, ◌%◌, ◌<◌, ◌≤◌, length, get_or, count_by, take, refl, sym, ap, ◌∙◌, arith, add-zero}
use Rattle.amber_principal.specs.Shares.{is_able, is_in_need, unit_if, sharer_count, shares_of}
use Rattle.amber_principal.specs.declared.dividing.Need.TheVariants as need
use Rattle.amber_principal.specs.declared.dividing.Turns.{Turns}
use Rattle.amber_principal.proofs.Shares.{agrees-all, agrees-set, agrees-start, counts-next, next-is, share-of, shares-length}
use Rattle.amber_principal.proofs.dividing.shares_among.Goals as goal

pub loop-place-init : goal.loop-place-init
loop-place-init c = (
  agrees-start (shares_of c.args.rest c.args.needs.now) (shares-length c.args.rest c.args.needs.now 0 c.args.needs.now ∙ c.told-needs),
  refl,
  refl,
  refl,
  c.requires.starved ∙ sym (add-zero (count_by is_in_need c.args.needs.now)),
)

pub loop-place-preserved : goal.loop-place-preserved
loop-place-preserved c =
    let rest = c.args.rest in
    let needs = c.args.needs.now in
    let place = c.loop-place.place in
    let one = get_or needs place need.Absent in
    let invariant = c.loop-place.invariant in
    let less : place < length needs = omega (arith, c.told-needs, c.loop-place-test.true) in
    let sharers : c.args.starved + c.args.able ≡ sharer_count needs = rw (c.requires.starved, c.requires.able) refl in
    let some : 0 < sharer_count needs = rw (← sharers) c.requires.some in
    let in_full : place < length (shares_of rest needs) = omega (arith, less, shares-length rest needs 0 needs) in
    let share : c.next_share.result ≡ get_or (shares_of rest needs) place 0 =
    c.next_share.ensures.share
    ∙ next-is rest needs place one c.loop-place.turns some (invariant.1 ∙ ap (λ n. rest / n) sharers) (invariant.2 ∙ ap (λ n. rest % n) sharers) invariant.3 invariant.4
    ∙ sym (share-of rest needs place need.Absent less) in (
      agrees-set (shares_of rest needs) c.loop-place.shares place c.next_share.result in_full share invariant.0,
      ap (λ (t : Turns). t.each) c.next_share.ensures.turns ∙ invariant.1,
      ap (λ (t : Turns). t.left) c.next_share.ensures.turns ∙ invariant.2,
      ap (λ (t : Turns). t.starved) c.next_share.ensures.turns ∙ ap (λ n. n + unit_if (is_in_need one)) invariant.3
          ∙ sym (counts-next is_in_need needs place one need.Absent less refl),
      ap (λ (t : Turns). t.able) c.next_share.ensures.turns ∙ ap (λ n. n + unit_if (is_able one)) invariant.4
          ∙ able_next (count_by is_in_need needs) (count_by is_able (take place needs)) (unit_if (is_able one)) (count_by is_able (take (place + 1) needs))
          (counts-next is_able needs place one need.Absent less refl),
    )
  where
    able_next : (s a n next : ℕ) → next ≡ a + n → s + a + n ≡ s + next
    able_next s a n next e = omega (arith, e)

pub returns : goal.returns
returns c =
    let most : length (shares_of c.args.rest c.args.needs.now) ≤ c.loop-place.place = omega (arith, shares-length c.args.rest c.args.needs.now 0 c.args.needs.now, c.loop-place-test.false) in
    agrees-all (shares_of c.args.rest c.args.needs.now) c.loop-place.shares c.loop-place.place most c.loop-place.invariant.0
