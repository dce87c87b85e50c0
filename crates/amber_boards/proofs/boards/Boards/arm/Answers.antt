-- One operator more is armed.
use Rattle.std.proofs.Common.{◌≡◌, ◌∙◌, refl, sym, ap, subst, ◌+◌, ◌<◌, ◌≤◌, ◌++◌, ◌∷◌, [], length, get_or, None, true, is_some, arith}
use Rattle.std.specs.Prelude.{option_map}
use Rattle.std.proofs.lemmas.List.{length_push, map_push}
use Rattle.amber_dataflow.specs.Dataflow.{rows_emitted}
use Rattle.amber_boards.specs.Boards.{AreUnarmedAt, ChangesAt, CounterState, IsBelow, IsCountedAt, StandsCounted, targets_of}
use Rattle.amber_boards.proofs.Led.{led-more, led-none}
use Rattle.amber_boards.proofs.OneMoreArmed.{AreArmedTo, all-armed, all-counted, all-targets, armed-more, armed-none, armed-there, next-below, next-stands, next-unarmed, targets-kept}
use Rattle.amber_boards.proofs.boards.Boards.arm.Goals as goal

pub operators-init : goal.operators-init
operators-init c = record {
  long = ap length c.in_ok-counters.ensures.items;
  room = c.in_ok-counters.ensures.capacity;
  led = led-none c.in_ok-counters.counters.items c.in_ok-chiefs.chiefs.items c.in_ok-counters.ensures.items c.in_ok-chiefs.ensures.items;
  chiefs_room = c.in_ok-chiefs.ensures.capacity;
  targets = c.in_ok-targets.ensures.items ∙ ap targets_of (sym c.in_ok-counters.ensures.items);
  targets_long = ap length c.in_ok-targets.ensures.items;
  targets_room = c.in_ok-targets.ensures.capacity;
  armed = subst (λ b. AreArmedTo c.args.counts.now b c.args.dataflow.now c.args.dataflow.now) (sym c.in_ok-counters.ensures.items) (armed-none c.args.counts.now c.args.dataflow.now);
}

pub arm_one-requires-clause-workers : goal.arm_one-requires-clause-workers
arm_one-requires-clause-workers c =
    armed-there c.args.counts.now c.operators.counters.items c.args.dataflow.now c.operators.dataflow c.operators.invariant.armed c.requires.workers

pub arm_one-requires-clause-there : goal.arm_one-requires-clause-there
arm_one-requires-clause-there c =
    let same = ap length c.operators.invariant.armed.units.flow in
    let all = c.requires.all in
    let less = c.operators-test.true in
    omega arith

pub arm_one-requires-clause-below : goal.arm_one-requires-clause-below
arm_one-requires-clause-below c =
    let items = c.operators.counters.items in
    subst (λ n. IsBelow (get_or c.args.counts.now n None) (rows_emitted c.operators.dataflow (n + 1))) c.operators.invariant.long
    (next-below c.args.counts.now items c.args.dataflow.now c.operators.dataflow c.operators.invariant.armed (get_or c.args.counts.now (length items) None) refl c.requires.below)

pub arm_one-requires-clause-unarmed : goal.arm_one-requires-clause-unarmed
arm_one-requires-clause-unarmed c =
    subst (λ n. AreUnarmedAt (n + 1) c.operators.dataflow) c.operators.invariant.long
    (next-unarmed c.args.counts.now c.operators.counters.items c.args.dataflow.now c.operators.dataflow c.operators.invariant.armed c.requires.unarmed)

pub arm_one-requires-clause-stand : goal.arm_one-requires-clause-stand
arm_one-requires-clause-stand c =
    let items = c.operators.counters.items in
    subst (λ n. is_some (get_or c.args.counts.now n None) ≡ true → StandsCounted (n + 1) c.operators.dataflow) c.operators.invariant.long
    (next-stands c.args.counts.now items c.args.dataflow.now c.operators.dataflow c.operators.invariant.armed (get_or c.args.counts.now (length items) None) refl c.requires.stand)

pub returns-in_err-counter-clause-flow : goal.returns-in_err-counter-clause-flow
returns-in_err-counter-clause-flow c = c.arm_one.ensures.flow ∙ c.operators.invariant.armed.units.flow

pub push_reserved-requires : goal.push_reserved-requires
push_reserved-requires c =
    let long = c.operators.counters.ok.0 in
    let place = c.operators.invariant.long in
    let room = c.operators.invariant.room in
    let less = c.operators-test.true in
    omega arith

pub push_reserved-requires-in-operators : goal.push_reserved-requires-in-operators
push_reserved-requires-in-operators c =
    let long = c.operators.chiefs.ok.0 in
    let all = c.operators.invariant.led.all in
    let place = c.operators.invariant.long in
    let room = c.operators.invariant.chiefs_room in
    let less = c.operators-test.true in
    omega arith

pub push_reserved-requires-in-operators-2 : goal.push_reserved-requires-in-operators-2
push_reserved-requires-in-operators-2 c =
    let long = c.operators.targets.ok.0 in
    let place = c.operators.invariant.targets_long in
    let room = c.operators.invariant.targets_room in
    let less = c.operators-test.true in
    omega arith

pub operators-preserved : goal.operators-preserved
operators-preserved c =
    let counts = c.args.counts.now in
    let items = c.operators.counters.items in
    let old = c.args.dataflow.now in
    let mid = c.operators.dataflow in
    let new = c.arm_one.new.dataflow in
    let made = c.in_ok-counter.counter in
    let before = c.operators.invariant in
    let done = c.in_ok-counter.ensures in
    let back = sym before.long in
    let less : length items < length counts = (let at = before.long in let under = c.operators-test.true in omega arith) in
    let count = get_or counts c.operators.place None in
    record {
      long = ap length c.push_reserved.ensures.items ∙ length_push items made ∙ ap (λ n. n + 1) before.long;
      room = subst (λ n. length counts ≤ n) (sym c.push_reserved.ensures.capacity) before.room;
      led = rw (c.push_reserved.ensures.items, c.push_reserved-in-operators.ensures.items)
          (led-more items c.operators.chiefs.items made c.in_ok-counter.chief before.led done.led);
      chiefs_room = subst (λ n. length counts ≤ n) (sym c.push_reserved-in-operators.ensures.capacity) before.chiefs_room;
      targets = c.push_reserved-in-operators-2.ensures.items
          ∙ ap (λ ts. ts ++ count ∷ []) before.targets
          ∙ ap (λ t. targets_of items ++ t ∷ []) (sym done.target)
          ∙ sym (map_push (option_map (λ (k : CounterState). k.target)) items made)
          ∙ ap targets_of (sym c.push_reserved.ensures.items);
      targets_long = ap length c.push_reserved-in-operators-2.ensures.items ∙ length_push c.operators.targets.items count ∙ ap (λ n. n + 1) before.targets_long;
      targets_room = subst (λ n. length counts ≤ n) (sym c.push_reserved-in-operators-2.ensures.capacity) before.targets_room;
      armed = subst (λ b. AreArmedTo counts b old new) (sym c.push_reserved.ensures.items)
          (armed-more counts items old mid before.armed new count made (ap (λ n. get_or counts n None) back) less
          (subst (λ n. ChangesAt (n + 1) mid new) back done.change) done.none (subst (λ n. IsCountedAt made (n + 1) new) back done.counted) done.target done.journals);
    }

pub invariant_of-self : goal.invariant_of-self
invariant_of-self c = (targets-kept c.operators.targets.items c.operators.counters.items (sym c.operators.invariant.targets), c.operators.invariant.led)

pub returns-clause-arms : goal.returns-clause-arms
returns-clause-arms c = all-armed c.args.counts.now c.operators.counters.items c.args.dataflow.now c.operators.dataflow c.operators.invariant.armed

pub returns-clause-counted : goal.returns-clause-counted
returns-clause-counted c =
    let long = c.operators.invariant.long in
    let all = c.requires.all in
    let end = c.operators-test.false in
    let last = c.operators.auto.place-end in
    all-counted c.args.counts.now c.operators.counters.items c.args.dataflow.now c.operators.dataflow c.operators.invariant.armed (omega arith)

pub returns-clause-targets : goal.returns-clause-targets
returns-clause-targets c =
    let long = c.operators.invariant.long in
    let end = c.operators-test.false in
    all-targets c.args.counts.now c.operators.counters.items c.args.dataflow.now c.operators.dataflow c.operators.invariant.armed (omega arith)

pub returns-clause-flow : goal.returns-clause-flow
returns-clause-flow c = c.operators.invariant.armed.units.flow
