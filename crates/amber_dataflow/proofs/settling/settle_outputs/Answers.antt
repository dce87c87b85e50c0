-- One receiver more has what was made for it.
use Rattle.std.proofs.Common.{sym, ap, ◌∙◌, ◌<◌, ◌≤◌, length, get_or, subst, inl, inr, arith}
use Rattle.std.proofs.lemmas.Bool.Decides.{eqb_tells}
use Rattle.amber_worker.specs.WorkerState.{WorkerState}
use Rattle.amber_dataflow.specs.AtWork.{worker_state_at}
use Rattle.amber_dataflow.proofs.Numbers.{any-same, length-put, outs-long, to-same}
use Rattle.amber_dataflow.proofs.OnePlace.{any-out, out-place}
use Rattle.amber_dataflow.proofs.Passed.{besides-same, besides-then, can-pass, joined-put, put-same, put-then, stay-same, stay-then}
use Rattle.amber_dataflow.proofs.Split.{read-at}
use Rattle.amber_dataflow.proofs.settling.settle_outputs.Goals as goal

pub receivers-init : goal.receivers-init
receivers-init c = record {
  put = put-same c.args.crew.now;
  done = λ place to less own. absurd (omega arith);
  come = c.requires.come;
  others = stay-same c.args.crew.now;
  aside = besides-same c.args.crew.now;
}

pub receivers-preserved : goal.receivers-preserved
receivers-preserved c =
    let done = c.in_ok-pass_waiting.ensures in
    let before = c.receivers.invariant in
    let long = length-put c.args.crew.now c.receivers.crew c.requires.crew before.put in
    let end : c.receivers.place < length (worker_state_at c.args.crew.now c.args.number).outs =
    subst (λ (w : WorkerState). c.receivers.place < length w.outs) (read-at c.args.crew.now c.args.number c.index-crew-number.result c.requires.there)
    (subst (λ n. c.receivers.place < n) c.receivers-place-end.ensures c.receivers-test.true) in
    record {
      put = put-then c.args.crew.now c.receivers.crew c.pass_waiting.new.crew before.put done.put;
      done = λ place to less own.
          elim (eqb_tells place c.receivers.place) [
            | inl same ↦ done.settled to
                (λ d. to-same c.args.crew.now c.receivers.crew c.requires.crew before.put c.args.number c.requires.there c.receivers.place end d
                ∙ ap (λ k. (get_or (worker_state_at c.args.crew.now c.args.number).outs k d).to) (sym same.1) ∙ own d)
            | inr other ↦
                let ne = other.1 in
                let inside : place < length (worker_state_at c.args.crew.now c.args.number).outs = omega arith in
                let one = can-pass c.args.crew.now c.args.number to c.requires.crew c.requires.there (any-out (worker_state_at c.args.crew.now c.args.number).outs place to inside own) in
                done.others c.args.number to one.before (rw long one.there) (before.done place to (omega arith) own)
          ];
      come = λ to known. done.come to (any-same c.args.crew.now c.receivers.crew c.requires.crew before.put c.args.number c.requires.there to ∙ known);
      others = stay-then c.args.crew.now c.receivers.crew c.pass_waiting.new.crew long before.others done.others;
      aside = besides-then c.args.crew.now c.receivers.crew c.pass_waiting.new.crew before.aside done.aside;
    }

pub pass_waiting-requires-clause-crew : goal.pass_waiting-requires-clause-crew
pass_waiting-requires-clause-crew c = joined-put c.args.crew.now c.receivers.crew c.requires.crew c.receivers.invariant.put

pub pass_waiting-requires-clause-within : goal.pass_waiting-requires-clause-within
pass_waiting-requires-clause-within c =
    rw (outs-long c.args.crew.now c.receivers.crew c.requires.crew c.receivers.invariant.put c.args.number c.requires.there)
    (subst (λ (w : WorkerState). c.receivers.place < length w.outs) (read-at c.args.crew.now c.args.number c.index-crew-number.result c.requires.there)
    (subst (λ n. c.receivers.place < n) c.receivers-place-end.ensures c.receivers-test.true))

pub pass_waiting-requires-clause-come : goal.pass_waiting-requires-clause-come
pass_waiting-requires-clause-come c to known =
    c.receivers.invariant.come to
    (sym (any-same c.args.crew.now c.receivers.crew c.requires.crew c.receivers.invariant.put c.args.number c.requires.there to) ∙ known)

pub returns-clause-settled : goal.returns-clause-settled
returns-clause-settled c to known =
    let at = out-place (worker_state_at c.args.crew.now c.args.number).outs to known in
    let end : length (worker_state_at c.args.crew.now c.args.number).outs ≤ c.receivers.place =
    subst (λ (w : WorkerState). length w.outs ≤ c.receivers.place) (read-at c.args.crew.now c.args.number c.index-crew-number.result c.requires.there)
    (subst (λ n. n ≤ c.receivers.place) c.receivers-place-end.ensures c.receivers-test.false) in
    let below = at.1 in
    c.receivers.invariant.done at.0 to (omega arith) at.2
