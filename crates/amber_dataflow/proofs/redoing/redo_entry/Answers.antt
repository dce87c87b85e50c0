-- An entry was done again, or could not be.
use Rattle.std.proofs.Common.{◌≡◌, ◌<◌, ap, subst, sym, arith, get_or, set, length}
use Rattle.amber_worker.specs.Redoing.{AnswersRedone, log_line}
use Rattle.amber_worker.specs.WorkerState.{steps_made}
use Rattle.amber_worker.specs.declared.redoing.Redone.TheVariants as redone
use Rattle.amber_dataflow.specs.Redoing.{LineOf, MakesOrNot}
use Rattle.amber_dataflow.proofs.RedoneLines.{made-line, moved-crew, not-made}
use Rattle.amber_dataflow.proofs.Split.{read-at}
use Rattle.amber_dataflow.proofs.Stepped.{steps-besides}
use Rattle.amber_dataflow.proofs.Steps.{sum-member}
use Rattle.amber_dataflow.proofs.redoing.redo_entry.Goals as goal

pub pass_for-requires-clause-crew : goal.pass_for-requires-clause-crew
pass_for-requires-clause-crew c = (c.requires.crew.0, c.requires.crew.1.stand)

pub redo-requires-clause-few : goal.redo-requires-clause-few
redo-requires-clause-few c =
    let mid = c.pass_for.new.crew in
    let first = c.in_ok-pass_for.ensures in
    let there : c.args.number < length mid = rw first.long c.requires.there in
    let same = steps-besides c.args.crew.now mid first.long first.aside in
    let one = sum-member mid c.args.number in
    let read = ap steps_made (read-at mid c.args.number c.index-crew-number.result there) in
    let few = c.requires.few in
    omega arith

pub pass_for-requires-in-Done-clause-crew : goal.pass_for-requires-in-Done-clause-crew
pass_for-requires-in-Done-clause-crew c =
    let mid = c.pass_for.new.crew in
    let first = c.in_ok-pass_for.ensures in
    let one : LineOf = record { worker = c.args.number; line = log_line c.args.entry.now c.args.armed } in
    let there : c.args.number < length mid = rw first.long c.requires.there in
    let answers = subst (λ w. AnswersRedone (log_line c.args.entry.now c.args.armed) w c.redo.new.self (redone.Done c.in-Done.hand)) (read-at mid c.args.number c.index-crew-number.result there)
    (subst (AnswersRedone (log_line c.args.entry.now c.args.armed) (get_or mid c.args.number c.index-crew-number.result) c.redo.new.self) c.in-Done.is c.in_ok-redone.ensures.answers) in
    moved-crew c.args.crew.now mid mid one c.requires.there first c.redo.new.self answers.0 c.requires.crew

pub returns-in-Illegal : goal.returns-in-Illegal
returns-in-Illegal c =
    let mid = c.pass_for.new.crew in
    let first = c.in_ok-pass_for.ensures in
    let one : LineOf = record { worker = c.args.number; line = log_line c.args.entry.now c.args.armed } in
    let there : c.args.number < length mid = rw first.long c.requires.there in
    let after = set mid c.args.number c.redo.new.self in
    let answers = subst (λ w. AnswersRedone (log_line c.args.entry.now c.args.armed) w c.redo.new.self redone.Illegal) (read-at mid c.args.number c.index-crew-number.result there)
    (subst (AnswersRedone (log_line c.args.entry.now c.args.armed) (get_or mid c.args.number c.index-crew-number.result) c.redo.new.self) c.in-Illegal.is c.in_ok-redone.ensures.answers) in
    subst (MakesOrNot one c.args.crew.now after) (sym c.in-Illegal.is)
    (not-made c.args.crew.now mid after one c.requires.there first c.redo.new.self answers)

pub returns-in_ok-pass_for-in-Done : goal.returns-in_ok-pass_for-in-Done
returns-in_ok-pass_for-in-Done c =
    let mid = c.pass_for.new.crew in
    let first = c.in_ok-pass_for.ensures in
    let new = c.pass_for-in-Done.new.crew in
    let one : LineOf = record { worker = c.args.number; line = log_line c.args.entry.now c.args.armed } in
    let there : c.args.number < length mid = rw first.long c.requires.there in
    let answers = subst (λ w. AnswersRedone (log_line c.args.entry.now c.args.armed) w c.redo.new.self (redone.Done c.in-Done.hand)) (read-at mid c.args.number c.index-crew-number.result there)
    (subst (AnswersRedone (log_line c.args.entry.now c.args.armed) (get_or mid c.args.number c.index-crew-number.result) c.redo.new.self) c.in-Done.is c.in_ok-redone.ensures.answers) in
    subst (MakesOrNot one c.args.crew.now new) (sym c.in-Done.is)
    (made-line c.args.crew.now mid new one c.requires.there first c.redo.new.self answers.0 c.in_ok-pass_for-in-Done.ensures, answers.1)
