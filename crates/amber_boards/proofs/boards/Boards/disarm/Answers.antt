-- One operator more is disarmed.
use Rattle.std.proofs.Common.{◌∙◌, ap, ◌<◌, length, get_or, None, arith, length-set, get_or-set_other}
use Rattle.std.proofs.lemmas.List.{get_or_default}
use Rattle.amber_boards.proofs.Led.{led-put}
use Rattle.amber_boards.proofs.OneMoreDisarmed.{all-disarmed, disarmed-more, disarmed-none, disarmed-there, next-counted, next-in-force}
use Rattle.amber_boards.proofs.boards.Boards.disarm.Goals as goal

pub operators-init : goal.operators-init
operators-init c = record {
  left = λ k later. ap (λ b. get_or b k None) c.self.view_is;
  long = ap length c.self.view_is;
  led = c.self.invariant.1;
  disarmed = disarmed-none c.args.self.now c.args.dataflow.now;
}

pub disarm_one-requires-clause-workers : goal.disarm_one-requires-clause-workers
disarm_one-requires-clause-workers c = disarmed-there c.args.self.now c.operators.place c.args.dataflow.now c.operators.dataflow c.operators.invariant.disarmed c.requires.workers

pub disarm_one-requires-clause-there : goal.disarm_one-requires-clause-there
disarm_one-requires-clause-there c =
    let same = ap length c.operators.invariant.disarmed.units.flow in
    let all = c.requires.counted.all in
    let view = ap length c.self.view_is in
    let long = c.self.inside.counters.ok.0 in
    let end = c.len-place-end.ensures in
    let less = c.operators-test.true in
    omega arith

pub disarm_one-requires-clause-counted : goal.disarm_one-requires-clause-counted
disarm_one-requires-clause-counted c =
    let items = c.operators.self-inside.counters.items in
    let place = c.operators.place in
    let all = c.requires.counted.all in
    let view = ap length c.self.view_is in
    let long = c.self.inside.counters.ok.0 in
    let still = c.operators.invariant.long in
    let end = c.len-place-end.ensures in
    let less = c.operators-test.true in
    let inside : place < length items = omega arith in
    let own = c.take-counter.ensures.value ∙ c.index_mut.ensures.value ∙ get_or_default items place c.index_mut.result.now None inside ∙ c.operators.invariant.left place (omega arith) in
    next-counted c.args.self.now place c.args.dataflow.now c.operators.dataflow c.operators.invariant.disarmed c.take-counter.result own c.requires.counted (omega arith)

pub disarm_one-requires-clause-led : goal.disarm_one-requires-clause-led
disarm_one-requires-clause-led c =
    let items = c.operators.self-inside.counters.items in
    let chiefs = c.operators.self-inside.chiefs.items in
    let place = c.operators.place in
    let view = ap length c.self.view_is in
    let long = c.self.inside.counters.ok.0 in
    let still = c.operators.invariant.long in
    let end = c.len-place-end.ensures in
    let less = c.operators-test.true in
    let all = c.operators.invariant.led.all in
    let inside : place < length items = omega arith in
    let also : place < length chiefs = omega arith in
    let counter = c.take-counter.ensures.value ∙ c.index_mut.ensures.value ∙ get_or_default items place c.index_mut.result.now None inside in
    let chief = c.take-chief.ensures.value ∙ c.index_mut-in-operators.ensures.value ∙ get_or_default chiefs place c.index_mut-in-operators.result.now None also in
    rw (counter, chief) (c.operators.invariant.led.each place)

pub disarm_one-requires-clause-stand : goal.disarm_one-requires-clause-stand
disarm_one-requires-clause-stand c =
    let items = c.operators.self-inside.counters.items in
    let place = c.operators.place in
    let view = ap length c.self.view_is in
    let long = c.self.inside.counters.ok.0 in
    let still = c.operators.invariant.long in
    let end = c.len-place-end.ensures in
    let less = c.operators-test.true in
    let inside : place < length items = omega arith in
    let own = c.take-counter.ensures.value ∙ c.index_mut.ensures.value ∙ get_or_default items place c.index_mut.result.now None inside ∙ c.operators.invariant.left place (omega arith) in
    next-in-force c.args.self.now place c.args.dataflow.now c.operators.dataflow c.operators.invariant.disarmed c.take-counter.result own c.requires.stand

pub operators-preserved : goal.operators-preserved
operators-preserved c =
    let items = c.operators.self-inside.counters.items in
    let place = c.operators.place in
    let view = ap length c.self.view_is in
    let long = c.self.inside.counters.ok.0 in
    let still = c.operators.invariant.long in
    let end = c.len-place-end.ensures in
    let less = c.operators-test.true in
    let inside : place < length items = omega arith in
    let own = c.take-counter.ensures.value ∙ c.index_mut.ensures.value ∙ get_or_default items place c.index_mut.result.now None inside ∙ c.operators.invariant.left place (omega arith) in
    let done = c.disarm_one.ensures in
    record {
      left = λ k later. get_or-set_other items place k c.take-counter.new.self None (λ same. absurd (omega arith)) ∙ c.operators.invariant.left k (omega arith);
      long = length-set items place c.take-counter.new.self ∙ still;
      led = led-put items c.operators.self-inside.chiefs.items place c.take-counter.new.self c.take-chief.new.self inside c.operators.invariant.led
          (rw (c.take-counter.ensures.after, c.take-chief.ensures.after) tt);
      disarmed = disarmed-more c.args.self.now place c.args.dataflow.now c.operators.dataflow c.operators.invariant.disarmed c.disarm_one.new.dataflow c.take-counter.result own
          done.change done.disarms done.none done.unarmed done.within;
    }

pub returns-clause-disarms : goal.returns-clause-disarms
returns-clause-disarms c =
    let view = ap length c.self.view_is in
    let long = c.self.inside.counters.ok.0 in
    let end = c.len-place-end.ensures in
    let last = c.operators-test.false in
    all-disarmed c.args.self.now c.operators.place c.args.dataflow.now c.operators.dataflow c.operators.invariant.disarmed c.requires.counted (omega arith)
