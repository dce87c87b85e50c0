-- One operator more was looked at.
use Rattle.std.proofs.Common.{◌≡◌, ◌∙◌, ap, ◌+◌, ◌<◌, ◌≤◌, length, Some, sym, inl, inr, arith}
use Rattle.std.proofs.lemmas.Bool.Decides.{eqb_tells}
use Rattle.amber_rows.specs.Lists.{changed_at, nth}
use Rattle.amber_dataflow.specs.Dataflow.{rows_emitted}
use Rattle.amber_home.specs.Asked.{asked_left}
use Rattle.amber_home.specs.Leg.{cut_at}
use Rattle.amber_home.proofs.Ended.{ended-all, ended-here, ended-long, ended-other}
use Rattle.amber_home.proofs.stopping.end_stops.Goals as goal

pub loop-before-preserved : goal.loop-before-preserved
loop-before-preserved c =
    let before = c.loop-before.invariant in
    let op = c.loop-before.before + 1 in
    let some : 0 < op = omega arith in
    let operators = (c.get.ensures.operators ∙ c.flow.ensures) in
    let less = c.loop-before-test.true in
    let same : length c.get.result.now ≡ length c.args.dataflow.now.flow = ap length operators in
    let arms = c.requires.arms in
    let stopped : c.end_stops.new.self ≡ changed_at (asked_left (rows_emitted c.args.dataflow.now op)) op c.loop-before.arms =
    c.end_stops.ensures ∙ ap (λ rows. changed_at (asked_left rows) op c.loop-before.arms) c.rows_emitted.ensures in
    let within : op ≤ length c.args.arms.now = omega arith in
    let here = ended-here c.args.arms.now c.args.dataflow.now c.loop-before.arms c.end_stops.new.self op some within stopped (before.rest op (omega arith)) in
    record {
      long = ended-long c.args.arms.now c.args.dataflow.now c.loop-before.arms c.end_stops.new.self op some within stopped ∙ before.long;
      done = λ k least most.
          elim (eqb_tells k op) [
            | inl is ↦ ap (nth c.end_stops.new.self) is.1 ∙ here ∙ ap (λ n. Some (cut_at c.args.arms.now c.args.dataflow.now n)) (sym is.1)
            | inr other ↦
                let ne = other.1 in
                ended-other c.args.arms.now c.args.dataflow.now c.loop-before.arms c.end_stops.new.self op some within stopped k ne ∙ before.done k least (omega arith)
          ];
      rest = λ k above.
          ended-other c.args.arms.now c.args.dataflow.now c.loop-before.arms c.end_stops.new.self op some within stopped k (λ is. absurd (omega arith))
          ∙ before.rest k (omega arith);
    }

pub returns : goal.returns
returns c =
    let operators = (c.get.ensures.operators ∙ c.flow.ensures) in
    let same : length c.get.result.now ≡ length c.args.dataflow.now.flow = ap length operators in
    let end = c.loop-before-test.false in
    ended-all c.args.arms.now c.args.dataflow.now c.loop-before.arms c.loop-before.before c.requires.arms c.loop-before.invariant.long (omega arith) c.loop-before.invariant.done
