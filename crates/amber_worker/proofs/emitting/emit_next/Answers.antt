-- The first row goes to its receiver.
use Rattle.std.proofs.Common.{Some, None, refl, sym, ◌∙◌}
use Rattle.amber_worker.proofs.Roomless.{same-at, same-receivers}
use Rattle.amber_worker.proofs.emitting.emit_next.Goals as goal

pub returns-in-Some-receiver_place-clause-emits : goal.returns-in-Some-receiver_place-clause-emits
returns-in-Some-receiver_place-clause-emits c =
    record {
      row = c.in-Some.row;
      first = c.in-Some.ensures;
      handed = record {
        place = Some c.in-Some-receiver_place.i;
        so = (
          c.push_at.ensures.hands_on,
          rw (← c.number_to.ensures) (same-at c.args.outs.now c.in-Some-receiver_place.i c.number_to.result c.in-Some-receiver_place.ensures.there c.in-Some-receiver_place.ensures.own),
        );
      };
    }

pub returns-in_default-receiver_place-clause-emits : goal.returns-in_default-receiver_place-clause-emits
returns-in_default-receiver_place-clause-emits c =
    record {
      row = c.in-Some.row;
      first = c.in-Some.ensures;
      handed = record {
        place = None;
        so = (rw (← c.number_to.ensures) (sym (same-receivers c.number_to.result c.args.outs.now) ∙ c.in_default-receiver_place.ensures.none), refl);
      };
    }
