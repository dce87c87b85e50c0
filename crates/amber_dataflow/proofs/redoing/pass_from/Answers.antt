-- What the sender has made went on, or it sends nothing there.
use Rattle.std.proofs.Common.{◌≡◌, ap, sym, ◌∙◌, ◌<◌, nat_eq, true, arith}
use Rattle.std.specs.List.{list_any}
use Rattle.std.proofs.lemmas.Bool.{false≢true}
use Rattle.std.proofs.lemmas.Result.{on_ok_weaker}
use Rattle.amber_worker.specs.WorkerState.{WorkerState}
use Rattle.amber_dataflow.specs.AtWork.{worker_state_at}
use Rattle.amber_dataflow.proofs.InHands.{few-redone, may-pass, none-for, passed-for}
use Rattle.amber_dataflow.proofs.Split.{read-at}
use Rattle.amber_dataflow.proofs.redoing.pass_from.Goals as goal
use Rattle.amber_dataflow.proofs.redoing.pass_from.Goals.{else-from-crew-via-then-from-crew+else-sends_to, else-from-crew-via-else-from-crew}

pub overflow_cast-number : goal.overflow_cast-number
overflow_cast-number c =
    let few = few-redone c.requires.crew.0 c.args.crew.now c.requires.crew.1 in
    let there = c.requires.there in
    omega arith

pub pass_between-requires : goal.pass_between-requires
pass_between-requires c =
    may-pass c.requires.crew.0 c.args.crew.now c.requires.crew.1 c.args.from c.args.number c.if-from-crew.true
    (ap (λ (w : WorkerState). list_any (λ one. nat_eq one.to c.args.number) w.outs) (sym (read-at c.args.crew.now c.args.from c.index-crew-from.result c.if-from-crew.true))
    ∙ sym c.sends_to.ensures ∙ c.if-sends_to.true)

pub returns-then-sends_to : goal.returns-then-sends_to
returns-then-sends_to c =
    on_ok_weaker c.pass_between.result (λ passed. passed-for c.args.crew.now c.pass_between.new.crew c.args.from c.args.number passed 0) c.pass_between.ensures

pub returns : goal.returns
returns c =
    none-for c.args.crew.now c.requires.crew c.args.from c.args.number 0 c.requires.there
    (λ inside sends. elim c.else-from-crew.branch [
      | else-from-crew-via-then-from-crew+else-sends_to w ↦
          absurd (false≢true (sym w.if-sends_to.false ∙ w.sends_to.ensures
          ∙ ap (λ (v : WorkerState). list_any (λ one. nat_eq one.to c.args.number) v.outs) (read-at c.args.crew.now c.args.from w.index-crew-from.result inside) ∙ sends))
      | else-from-crew-via-else-from-crew w ↦ let past = w.if-from-crew.false in absurd (omega arith)
    ])
