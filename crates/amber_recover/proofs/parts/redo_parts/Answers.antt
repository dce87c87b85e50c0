-- From each part to the next.
use Rattle.std.proofs.Common.{◌∷◌, [], ℕ, ap, refl, sym, ◌∙◌, arith}
use Rattle.amber_recover.specs.Redone.{bad_in_parts}
use Rattle.amber_log.proofs.Lengths.{parts-few, parts-longer}
use Rattle.amber_recover.proofs.PartsDone.{next-parts, none-bad, none-found, nothing-done, part-found, part-more, parts-done}
use Rattle.amber_recover.proofs.parts.redo_parts.Goals as goal

pub loop-part-init : goal.loop-part-init
loop-part-init c = record { place = omega arith; done = nothing-done c.args.home.now c.requires.within }

pub redo_part-requires-clause-next : goal.redo_part-requires-clause-next
redo_part-requires-clause-next c =
    next-parts c.args.home.now c.loop-part.home c.args.parts.now c.loop-part.part-index c.part-item.result c.loop-part-test.true c.part-item.is c.requires.fresh c.requires.text
    c.loop-part.invariant.done

pub redo_part-requires-clause-few : goal.redo_part-requires-clause-few
redo_part-requires-clause-few c =
    omega (arith, parts-few c.args.parts.now c.loop-part.part-index c.part-item.result c.loop-part-test.true c.part-item.is, c.requires.few, c.loop-part.invariant.place)

pub part_length-next-requires : goal.part_length-next-requires
part_length-next-requires c =
    omega (arith, parts-few c.args.parts.now c.loop-part.part-index c.part-item.result c.loop-part-test.true c.part-item.is, c.requires.few)

pub overflow_add-next : goal.overflow_add-next
overflow_add-next c =
    omega (
      arith,
      parts-few c.args.parts.now c.loop-part.part-index c.part-item.result c.loop-part-test.true c.part-item.is,
      c.requires.few,
      c.loop-part.invariant.place,
      c.part_length-next.ensures,
    )

pub returns-then-is_some-clause-found : goal.returns-then-is_some-clause-found
returns-then-is_some-clause-found c =
    part-found c.args.home.now c.loop-part.home c.args.parts.now c.loop-part.part-index c.args.line c.part-item.result c.in_ok-bad.bad c.loop-part-test.true c.part-item.is
    c.loop-part.invariant.done (sym c.is_some.ensures ∙ c.if-is_some.true)
    (c.in_ok-bad.ensures.found ∙ ap (λ (n : ℕ). bad_in_parts c.loop-part.home n (c.part-item.result ∷ [])) c.loop-part.invariant.place)

pub loop-part-preserved : goal.loop-part-preserved
loop-part-preserved c =
    let parts = c.args.parts.now in
    let i = c.loop-part.part-index in
    let part = c.part-item.result in
    record {
      place = omega (arith, parts-longer parts i part c.loop-part-test.true c.part-item.is, c.loop-part.invariant.place, c.part_length-next.ensures);
      done = part-more c.args.home.now c.loop-part.home c.redo_part.new.home parts i part c.loop-part-test.true c.part-item.is c.loop-part.invariant.done
          (c.in_ok-bad.ensures.done (none-found c.in_ok-bad.bad (sym c.is_some.ensures ∙ c.if-is_some.false)));
    }

pub returns-clause-done : goal.returns-clause-done
returns-clause-done c none = parts-done c.args.home.now c.loop-part.home c.args.parts.now c.loop-part.part-index c.loop-part-test.false c.loop-part.invariant.done

pub returns-clause-found : goal.returns-clause-found
returns-clause-found c = sym (none-bad c.args.home.now c.loop-part.home c.args.line c.args.parts.now (returns-clause-done c refl))
