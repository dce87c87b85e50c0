-- One entry more was done again, or is the first that could not be.
use Rattle.std.proofs.Common.{◌≡◌, ◌+◌, ◌<◌, ◌≤◌, sym, subst, ◌∙◌, rules, arith}
use Rattle.amber_log.specs.declared.entry.Entry.{Entry}
use Rattle.amber_log.specs.declared.entry.Entry.TheVariants as entry
use Rattle.amber_worker.specs.Redoing.{log_line}
use Rattle.amber_worker.specs.declared.redoing.Redone.TheVariants as redone
use Rattle.amber_dataflow.specs.AtWork.{steps_by}
use Rattle.amber_dataflow.specs.Redoing.{LineOf, MakesOrNot, PartOf}
use Rattle.amber_dataflow.proofs.RedoneParts.{IsFront, armed-for, fails-rule, fails-steps, follows-front, front-next, front-none, front-whole, line-next, steps-fit, steps-next, units-fit}
use Rattle.amber_dataflow.proofs.redoing.redo_entries.Goals as goal

pub entries-init : goal.entries-init
entries-init c =
    let part : PartOf = record { worker = c.args.number; entries = c.args.entries.now; counted = c.args.counted; most = c.args.most } in
    record { front = front-none part c.args.crew.now; steps = c.from-steps.ensures ∙ c.steps_of.ensures; within = c.requires.few }

pub overflow_add-steps : goal.overflow_add-steps
overflow_add-steps c =
    let first : Entry = entry.Take 0 0 in
    let part : PartOf = record { worker = c.args.number; entries = c.args.entries.now; counted = c.args.counted; most = c.args.most } in
    let made = c.steps_of_entry-made.ensures in
    let fit = steps-fit part c.args.crew.now c.entries.crew c.entries.place c.entries.hand c.entries.invariant.front c.requires.crew first c.entries-test.true c.requires.text in
    let steps = c.entries.invariant.steps in
    let within = c.entries.invariant.within in
    let few = c.requires.most in
    omega arith

pub returns-then-steps-made : goal.returns-then-steps-made
returns-then-steps-made c =
    let first : Entry = entry.Take 0 0 in
    let part : PartOf = record { worker = c.args.number; entries = c.args.entries.now; counted = c.args.counted; most = c.args.most } in
    let armed = armed-for c.args.counted c.entries.hand c.entries.invariant.front.none in
    let made = c.steps_of_entry-made.ensures in
    let steps = c.entries.invariant.steps in
    let most = c.from.ensures in
    let many = c.if-steps-made.true in
    fails-steps part c.args.crew.now c.entries.crew c.entries.place c.entries.hand c.entries.invariant.front c.requires.crew first c.entries-test.true armed.0 armed.1 armed.2 c.requires.there (omega arith)

pub redo_entry-requires-clause-crew : goal.redo_entry-requires-clause-crew
redo_entry-requires-clause-crew c =
    let first : Entry = entry.Take 0 0 in
    let part : PartOf = record { worker = c.args.number; entries = c.args.entries.now; counted = c.args.counted; most = c.args.most } in
    line-next part c.args.crew.now c.entries.crew c.entries.place c.entries.hand c.entries.invariant.front c.requires.crew first c.entries-test.true c.armed_if.result c.armed_if.ensures.armed c.armed_if.ensures.hand

pub redo_entry-requires-clause-follows : goal.redo_entry-requires-clause-follows
redo_entry-requires-clause-follows c =
    let first : Entry = entry.Take 0 0 in
    let part : PartOf = record { worker = c.args.number; entries = c.args.entries.now; counted = c.args.counted; most = c.args.most } in
    follows-front part c.args.crew.now c.entries.crew c.entries.place c.entries.hand c.entries.invariant.front c.requires.crew first c.entries-test.true c.requires.text c.requires.rest

pub redo_entry-requires-clause-units : goal.redo_entry-requires-clause-units
redo_entry-requires-clause-units c =
    let first : Entry = entry.Take 0 0 in
    let part : PartOf = record { worker = c.args.number; entries = c.args.entries.now; counted = c.args.counted; most = c.args.most } in
    units-fit part c.args.crew.now c.entries.crew c.entries.place c.entries.hand c.entries.invariant.front c.requires.crew first c.entries-test.true c.armed_if.result c.armed_if.ensures.armed c.armed_if.ensures.hand c.requires.text (search rules)

pub returns-in-Illegal : goal.returns-in-Illegal
returns-in-Illegal c =
    let first : Entry = entry.Take 0 0 in
    let part : PartOf = record { worker = c.args.number; entries = c.args.entries.now; counted = c.args.counted; most = c.args.most } in
    let one : LineOf = record { worker = c.args.number; line = log_line _ c.armed_if.result } in
    fails-rule part c.args.crew.now c.entries.crew c.entries.place c.entries.hand c.entries.invariant.front c.requires.crew first c.entries-test.true c.armed_if.result c.armed_if.ensures.armed c.armed_if.ensures.hand
    (subst (MakesOrNot one c.entries.crew c.redo_entry.new.crew) c.in-Illegal.is c.in_ok-left.ensures)

pub entries-preserved : goal.entries-preserved
entries-preserved c =
    let first : Entry = entry.Take 0 0 in
    let part : PartOf = record { worker = c.args.number; entries = c.args.entries.now; counted = c.args.counted; most = c.args.most } in
    let one : LineOf = record { worker = c.args.number; line = log_line _ c.armed_if.result } in
    let done = subst (MakesOrNot one c.entries.crew c.redo_entry.new.crew) c.in-Done.is c.in_ok-left.ensures in
    let made = c.steps_of_entry-made.ensures in
    let steps = c.entries.invariant.steps in
    let most = c.from.ensures in
    let within = c.if-steps-made.false in
    let more = steps-next part c.args.crew.now c.entries.crew c.entries.place c.entries.hand c.entries.invariant.front c.requires.crew first c.entries-test.true c.armed_if.result c.armed_if.ensures.armed c.armed_if.ensures.hand c.redo_entry.new.crew done.0 c.requires.there (omega arith) c.requires.text in
    let next = front-next part c.args.crew.now c.entries.crew c.entries.place c.entries.hand c.entries.invariant.front c.requires.crew first c.entries-test.true c.armed_if.result c.armed_if.ensures.armed c.armed_if.ensures.hand c.redo_entry.new.crew done.0 c.requires.there (omega arith) c.requires.text in
    record {
      front = subst (IsFront part c.args.crew.now c.redo_entry.new.crew (c.entries.place + 1)) (sym done.1) next;
      steps = omega arith;
      within = omega arith;
    }

pub returns : goal.returns
returns c =
    let part : PartOf = record { worker = c.args.number; entries = c.args.entries.now; counted = c.args.counted; most = c.args.most } in
    front-whole part c.args.crew.now c.entries.crew c.entries.place c.entries.hand c.entries.invariant.front c.entries-test.false
