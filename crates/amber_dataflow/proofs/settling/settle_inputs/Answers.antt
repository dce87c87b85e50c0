-- One sender more has passed on what it has made.
use Rattle.std.proofs.Common.{◌≡◌, sym, ap, ◌∙◌, ℕ, ◌<◌, ◌≤◌, List, length, get_or, subst, inl, inr, arith}
use Rattle.std.proofs.lemmas.Bool.Decides.{eqb_tells}
use Rattle.amber_worker.specs.WorkerState.{WorkerState}
use Rattle.amber_dataflow.specs.AtWork.{IsJoinedCrew, StayPut, worker_state_at}
use Rattle.amber_dataflow.specs.Passing.{Settled}
use Rattle.amber_dataflow.proofs.Numbers.{from-same, ins-long, length-put}
use Rattle.amber_dataflow.proofs.OnePlace.{comes-from, in-place, no_sender, sender-before}
use Rattle.amber_dataflow.proofs.Passed.{besides-passed, besides-same, besides-then, joined-put, numbers-of, put-passed, put-same, put-then, settled-passed, stay-passed, stay-same, stay-then}
use Rattle.amber_dataflow.proofs.Split.{read-at}
use Rattle.amber_dataflow.proofs.settling.settle_inputs.Goals as goal

pub senders-init : goal.senders-init
senders-init c = record {
  put = put-same c.args.crew.now;
  done = λ place from less own. absurd (omega arith);
  others = stay-same c.args.crew.now;
  aside = besides-same c.args.crew.now;
}

within-before : (crew : List WorkerState) (number place end : ℕ) (d : WorkerState) → number < length crew → end ≡ length (get_or crew number d).ins → place < end → place < length (worker_state_at crew number).ins
within-before crew number place end d inside is less = subst (λ (w : WorkerState). place < length w.ins) (read-at crew number d inside) (subst (λ n. place < n) is less)

within-now : (old now : List WorkerState) (number place end : ℕ) (d e : WorkerState) → IsJoinedCrew old → StayPut old now → number < length old
    → end ≡ length (get_or old number d).ins → place < end → place < length (get_or now number e).ins
within-now old now number place end d e joined put there is less =
    let inside : number < length now = rw (length-put old now joined put) there in
    subst (λ (w : WorkerState). place < length w.ins) (sym (read-at now number e inside))
    (rw (ins-long old now joined put number there) (within-before old number place end d there is less))

pub sender_at-from-requires : goal.sender_at-from-requires
sender_at-from-requires c =
    within-now c.args.crew.now c.senders.crew c.args.number c.senders.place c.senders-place-end.result c.index-crew-number.result c.index-crew-number-in-senders.result
    c.requires.crew c.senders.invariant.put c.requires.there c.senders-place-end.ensures c.senders-test.true

pub pass_on-requires-clause-crew : goal.pass_on-requires-clause-crew
pass_on-requires-clause-crew c = joined-put c.args.crew.now c.senders.crew c.requires.crew c.senders.invariant.put

pub pass_on-requires-clause-there : goal.pass_on-requires-clause-there
pass_on-requires-clause-there c =
    let inside : c.args.number < length c.senders.crew = rw (length-put c.args.crew.now c.senders.crew c.requires.crew c.senders.invariant.put) c.requires.there in
    let one = comes-from c.senders.crew c.args.number c.senders.place c.sender_at-from.result c.index-crew-number-in-senders.result
    (joined-put c.args.crew.now c.senders.crew c.requires.crew c.senders.invariant.put) inside
    (within-now c.args.crew.now c.senders.crew c.args.number c.senders.place c.senders-place-end.result c.index-crew-number.result c.index-crew-number-in-senders.result
    c.requires.crew c.senders.invariant.put c.requires.there c.senders-place-end.ensures c.senders-test.true) c.sender_at-from.ensures in
    let before = one.before in
    omega arith

pub pass_on-requires-clause-sends : goal.pass_on-requires-clause-sends
pass_on-requires-clause-sends c =
    let inside : c.args.number < length c.senders.crew = rw (length-put c.args.crew.now c.senders.crew c.requires.crew c.senders.invariant.put) c.requires.there in
    (comes-from c.senders.crew c.args.number c.senders.place c.sender_at-from.result c.index-crew-number-in-senders.result
    (joined-put c.args.crew.now c.senders.crew c.requires.crew c.senders.invariant.put) inside
    (within-now c.args.crew.now c.senders.crew c.args.number c.senders.place c.senders-place-end.result c.index-crew-number.result c.index-crew-number-in-senders.result
    c.requires.crew c.senders.invariant.put c.requires.there c.senders-place-end.ensures c.senders-test.true) c.sender_at-from.ensures).sends

pub senders-preserved : goal.senders-preserved
senders-preserved c =
    let before = c.senders.invariant in
    let passed = c.in_ok-pass_on.ensures in
    let long = length-put c.args.crew.now c.senders.crew c.requires.crew before.put in
    let inside : c.args.number < length c.senders.crew = rw long c.requires.there in
    let joined = joined-put c.args.crew.now c.senders.crew c.requires.crew before.put in
    let first = within-before c.args.crew.now c.args.number c.senders.place c.senders-place-end.result c.index-crew-number.result c.requires.there c.senders-place-end.ensures c.senders-test.true in
    let stay = stay-passed c.senders.crew c.pass_on.new.crew c.sender_at-from.result c.args.number passed (numbers-of c.senders.crew joined) in
    record {
      put = put-then c.args.crew.now c.senders.crew c.pass_on.new.crew before.put (put-passed c.senders.crew c.pass_on.new.crew c.sender_at-from.result c.args.number passed);
      done = λ place from less own.
          elim (eqb_tells place c.senders.place) [
            | inl same ↦
                let d = no_sender c.args.crew.now c.args.number c.senders.place first in
                let is : c.sender_at-from.result ≡ from =
                c.sender_at-from.ensures d
                ∙ ap (λ (w : WorkerState). (get_or w.ins c.senders.place d).from) (read-at c.senders.crew c.args.number c.index-crew-number-in-senders.result inside)
                ∙ from-same c.args.crew.now c.senders.crew c.requires.crew before.put c.args.number c.requires.there c.senders.place first d
                ∙ ap (λ k. (get_or (worker_state_at c.args.crew.now c.args.number).ins k d).from) (sym same.1) ∙ own d in
                subst (λ n. Settled c.pass_on.new.crew n c.args.number) is
                (settled-passed c.senders.crew c.pass_on.new.crew c.sender_at-from.result c.args.number passed)
            | inr other ↦
                let ne = other.1 in
                let settled = before.done place from (omega arith) own in
                stay from c.args.number (sender-before c.args.crew.now c.args.number place from c.requires.crew c.requires.there (omega arith) own) inside settled
          ];
      others = stay-then c.args.crew.now c.senders.crew c.pass_on.new.crew long before.others stay;
      aside = besides-then c.args.crew.now c.senders.crew c.pass_on.new.crew before.aside (besides-passed c.senders.crew c.pass_on.new.crew c.sender_at-from.result c.args.number passed);
    }

pub returns-clause-settled : goal.returns-clause-settled
returns-clause-settled c from known =
    let at = in-place (worker_state_at c.args.crew.now c.args.number).ins from known in
    let end : length (worker_state_at c.args.crew.now c.args.number).ins ≤ c.senders.place =
    subst (λ (w : WorkerState). length w.ins ≤ c.senders.place) (read-at c.args.crew.now c.args.number c.index-crew-number.result c.requires.there)
    (subst (λ n. n ≤ c.senders.place) c.senders-place-end.ensures c.senders-test.false) in
    let below = at.1 in
    c.senders.invariant.done at.0 from (omega arith) at.2
