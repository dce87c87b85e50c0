-- One worker more watches.
use Rattle.std.proofs.Common.{rules, Some, ◌≡◌, refl, ◌-◌, ◌+◌, ◌<◌, ap, sym, ◌∙◌, length, replicate, arith, vec_len}
use Rattle.amber_dataflow.proofs.Changed.{write-left}
use Rattle.amber_dataflow.specs.Dataflow.{worker_watching}
use Rattle.amber_dataflow.proofs.Copies.{copies-left, copy-is, has-one}
use Rattle.amber_dataflow.proofs.Changed.{map-whole}
use Rattle.amber_dataflow.proofs.setting.watch_workers.Goals as goal
use Rattle.amber_dataflow.proofs.setting.watch_workers.Goals.{in-Some, in_default}

pub loop-worker-preserved : goal.loop-worker-preserved
loop-worker-preserved c =
    let crew = c.args.crew.now in
    let k = c.loop-worker.worker-index in
    let value = c.args.cond.now in
    let copies = c.loop-worker.copies in
    let inside : k < length crew = c.loop-worker-test.true in
    let some : 0 < length crew - k = omega arith in
    let are = c.loop-worker.invariant.copies in
    let count : vec_len copies ≡ length copies.items = search rules in
    let there = has-one (length crew - k) (vec_len copies) value copies.items are count some in
    elim c.match-pop.branch [
      | in-Some w ↦
          let copy = w.in-Some.copy in
          let same = copy-is (length crew - k) (vec_len copies) value copies.items are count copy some (sym w.in-Some.is ∙ c.pop.ensures.value copy there) in
          let fewer : length crew - k - 1 ≡ length crew - (k + 1) = omega arith in
          record {
            crew = w.crew-is
                ∙ write-left (worker_watching c.args.op (Some value)) crew c.loop-worker.crew k c.worker-item.result w.watch_worker.new.worker inside c.loop-worker.invariant.crew
                (w.watch_worker.ensures ∙ ap (λ one. worker_watching c.args.op (Some one) _) same);
            copies = copies-left (length crew - k) (vec_len copies) value copies.items are count c.pop.new.self.items c.pop.ensures.rest ∙ ap (λ n. replicate n value) fewer;
          }
      | in_default w ↦ absurd (w.in_default.not-Some _ (c.pop.ensures.value value there))
    ]

pub returns : goal.returns
returns c = map-whole (worker_watching c.args.op (Some c.args.cond.now)) c.args.crew.now c.loop-worker.crew c.loop-worker.worker-index c.loop-worker-test.false c.loop-worker.invariant.crew

pub loop-worker-init : goal.loop-worker-init
loop-worker-init c =
    let all : length c.args.crew.now ≡ length c.args.crew.now - 0 = omega arith in
    record { crew = refl; copies = c.requires.copies ∙ ap (λ n. replicate n c.args.cond.now) all }
