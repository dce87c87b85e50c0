-- The first row goes to its receiver.
use Rattle.std.proofs.Common.{Some, None, refl}
use Rattle.amber_worker.specs.Links.{IsFirstPlace}
use Rattle.amber_worker.proofs.links.emit_first.Goals as goal

pub returns-in-Some-place-clause-emits : goal.returns-in-Some-place-clause-emits
unfolding IsFirstPlace
returns-in-Some-place-clause-emits c to place =
    let so = rw c.in-Some-place.is at (place c.in-Some.row c.pop_front.new.self c.in-Some.ensures) in
    record {
      row = c.in-Some.row;
      first = c.in-Some.ensures;
      handed = record { place = Some c.in-Some-place.i; so = (c.push_at.ensures.hands_on, so.1) };
    }

pub returns-in_default-place-clause-emits : goal.returns-in_default-place-clause-emits
unfolding IsFirstPlace
returns-in_default-place-clause-emits c to place =
    let so = rw c.in_default-place.is at (place c.in-Some.row c.pop_front.new.self c.in-Some.ensures) in
    record {
      row = c.in-Some.row;
      first = c.in-Some.ensures;
      handed = record { place = None; so = (so, refl) };
    }
