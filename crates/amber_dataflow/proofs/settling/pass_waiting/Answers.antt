-- What waits goes on; where nothing waits, the link is settled.
use Rattle.std.proofs.Common.{◌≡◌, ap, sym, ◌∙◌, get_or, subst}
use Rattle.std.proofs.lemmas.Result.{on_ok_weaker}
use Rattle.amber_link.specs.Links.{has_some}
use Rattle.amber_worker.specs.WorkerState.{WorkerState}
use Rattle.amber_dataflow.specs.AtWork.{worker_state_at}
use Rattle.amber_dataflow.specs.Passing.{Settled}
use Rattle.amber_dataflow.proofs.OnePlace.{any-out, no_receiver, settled-waiting}
use Rattle.amber_dataflow.proofs.Passed.{besides-passed, can-pass, come-passed, numbers-of, put-passed, put-same, settled-passed, stay-passed}
use Rattle.amber_dataflow.proofs.Split.{read-at}
use Rattle.amber_dataflow.proofs.settling.pass_waiting.Goals as goal

pub pass_on-requires-clause-sends : goal.pass_on-requires-clause-sends
pass_on-requires-clause-sends c =
    let here = read-at c.args.crew.now c.args.number c.index-crew-number.result c.requires.there in
    any-out (worker_state_at c.args.crew.now c.args.number).outs c.args.place c.in-Some.to c.requires.within
    (λ d. ap (λ (w : WorkerState). (get_or w.outs c.args.place d).to) (sym here) ∙ c.in-Some.ensures.some d)

pub returns-in-None-clause-put : goal.returns-in-None-clause-put
returns-in-None-clause-put c = put-same c.args.crew.now

pub returns-in-None-clause-settled : goal.returns-in-None-clause-settled
returns-in-None-clause-settled c to own =
    let here = read-at c.args.crew.now c.args.number c.index-crew-number.result c.requires.there in
    settled-waiting c.args.crew.now c.args.number c.args.place to c.requires.crew c.requires.there c.requires.within own
    (λ d. ap (λ (w : WorkerState). has_some (get_or w.outs c.args.place d).link.kept.waiting) (sym here) ∙ c.in-None.ensures.none d)
    (c.requires.come to (any-out (worker_state_at c.args.crew.now c.args.number).outs c.args.place to c.requires.within own))

pub returns-in-Some-clause-put : goal.returns-in-Some-clause-put
returns-in-Some-clause-put c = on_ok_weaker c.pass_on.result (λ passed. put-passed c.args.crew.now c.pass_on.new.crew c.args.number c.in-Some.to passed) c.pass_on.ensures

pub returns-in-Some-clause-settled : goal.returns-in-Some-clause-settled
returns-in-Some-clause-settled c =
    let here = read-at c.args.crew.now c.args.number c.index-crew-number.result c.requires.there in
    let d = no_receiver c.args.crew.now c.args.number c.args.place c.requires.within in
    on_ok_weaker c.pass_on.result
    (λ passed to own.
    let same : to ≡ c.in-Some.to = sym (own d) ∙ ap (λ (w : WorkerState). (get_or w.outs c.args.place d).to) (sym here) ∙ c.in-Some.ensures.some d in
    subst (λ n. Settled c.pass_on.new.crew c.args.number n) (sym same)
    (settled-passed c.args.crew.now c.pass_on.new.crew c.args.number c.in-Some.to passed))
    c.pass_on.ensures

pub returns-in-Some-clause-come : goal.returns-in-Some-clause-come
returns-in-Some-clause-come c =
    on_ok_weaker c.pass_on.result
    (λ passed to known.
    let one = can-pass c.args.crew.now c.args.number to c.requires.crew c.requires.there known in
    come-passed c.args.crew.now c.pass_on.new.crew c.args.number c.in-Some.to passed (numbers-of c.args.crew.now c.requires.crew) to
    one.before one.there (c.requires.come to known))
    c.pass_on.ensures

pub returns-in-Some-clause-others : goal.returns-in-Some-clause-others
returns-in-Some-clause-others c =
    on_ok_weaker c.pass_on.result (λ passed. stay-passed c.args.crew.now c.pass_on.new.crew c.args.number c.in-Some.to passed (numbers-of c.args.crew.now c.requires.crew)) c.pass_on.ensures

pub returns-in-Some-clause-aside : goal.returns-in-Some-clause-aside
returns-in-Some-clause-aside c =
    on_ok_weaker c.pass_on.result (λ passed. besides-passed c.args.crew.now c.pass_on.new.crew c.args.number c.in-Some.to passed) c.pass_on.ensures
