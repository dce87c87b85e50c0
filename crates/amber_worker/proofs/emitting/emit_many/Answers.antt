-- One more was handed on.
use Rattle.std.proofs.Common.{◌≡◌, suc, ◌+◌, ◌-◌, ◌^◌, ap, arith, length, refl, subst}
use Rattle.amber_worker.specs.Emitting.{EmitsMany, side_of}
use Rattle.amber_worker.proofs.emitting.emit_many.Goals as goal

pub loop-init : goal.loop-init
unfolding EmitsMany
loop-init c = record {
  emits = refl;
  left = omega arith;
  room = λ n h k d less. let g = h k d less in omega (arith, g);
  few = λ n h k d less. let g = h k d less in omega (arith, g);
  still_open = c.requires.«open»;
}

pub emit_next-requires-clause-room : goal.emit_next-requires-clause-room
emit_next-requires-clause-room c = c.loop.invariant.room 1 (λ k d less. let h = c.requires.room k d less in omega (arith, h, c.loop-test.true))

pub emit_next-requires-clause-few : goal.emit_next-requires-clause-few
emit_next-requires-clause-few c k d less =
    let h = c.loop.invariant.few (2 ^ 40 - c.args.rows) (λ j e within. let g = c.requires.few j e within in omega (arith, g)) k d less in
    omega (arith, h, c.requires.small, c.loop-test.true)

pub loop-preserved : goal.loop-preserved
unfolding EmitsMany
loop-preserved c =
    let first = ap length c.emit_next.ensures.emits.first in
    let next : suc c.loop.counter ≡ c.loop.counter + 1 = omega arith in
    record {
      emits = subst (λ n. EmitsMany c.args.route.now n (side_of c.args.pending.now c.args.outs.now) (side_of c.emit_next.new.pending c.emit_next.new.outs)) next
          (side_of c.loop.pending c.loop.outs, c.loop.invariant.emits, c.emit_next.ensures.emits);
      left = omega (arith, c.loop.invariant.left, first);
      room = λ n h. c.emit_next.ensures.room n (c.loop.invariant.room (n + 1) (λ k d less. let g = h k d less in omega (arith, g)));
      few = λ n h k d less. let g = c.emit_next.ensures.few (n + c.loop.counter) (c.loop.invariant.few n h) k d less in omega (arith, g);
      still_open = c.emit_next.ensures.«open»;
    }

pub returns-clause-few : goal.returns-clause-few
returns-clause-few c n h k d less = let g = c.loop.invariant.few n h k d less in omega (arith, g, c.loop.auto.counter-end, c.loop-test.false)
