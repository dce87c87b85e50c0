-- From each operator to the next, and the rows of the last one.
use Rattle.std.proofs.Common.{◌≡◌, ◌<◌, ◌≤◌, Err, arith, get_or, length, rules, ◌∙◌}
use Rattle.amber_meaning.specs.Plain.{records_of, row_total}
use Rattle.amber_plain.specs.Unread.{unread_at, unread_count}
use Rattle.amber_plain.specs.Steps.{read_for}
use Rattle.amber_plain.proofs.Evaluated.{Evaluated-more, Evaluated-none, answer-is, has-inputs, last-owed, last-rows, last-told, short-long, too-many}
use Rattle.amber_plain.proofs.answering.plain_checked.Goals as goal

pub loop-i-init : goal.loop-i-init
loop-i-init c =
    Evaluated-none c.args.flow.now (records_of c.args.files.now c.args.flow.now) c.new-waiting.result.items c.new.result.items c.args.most c.new-waiting.ensures.items c.new.ensures.items

pub step-requires : goal.step-requires
step-requires c =
    let flow = c.args.flow.now in
    let i = c.loop-i.i in
    let o = c.index-operators-i.result in
    let h : i < length flow = rw c.get-operators.ensures.operators at c.loop-i-test.true in
    let e : o ≡ get_or flow i o = rw c.get-operators.ensures.operators at c.index-operators-i.is in
    has-inputs flow c.get-operators.ensures.flow (records_of c.args.files.now flow) i o c.loop-i.waiting.items c.loop-i.tally.told.items c.loop-i.tally.left c.args.most h e c.loop-i.invariant

pub returns-in_err-step-clause-long : goal.returns-in_err-step-clause-long
unfolding row_total
returns-in_err-step-clause-long c =
    let flow = c.args.flow.now in
    let files = c.args.files.now in
    let i = c.loop-i.i in
    let o = c.index-operators-i.result in
    let h : i < length flow = rw c.get-operators.ensures.operators at c.loop-i-test.true in
    let e : o ≡ get_or flow i o = rw c.get-operators.ensures.operators at c.index-operators-i.is in
    let why = c.in_err-step.field-0.0 in
    let is : c.from_residual.result ≡ Err why = search rules in
    rw is (short-long why c.loop-i.tally.left (unread_count (records_of files flow) (read_for o.what c.loop-i.waiting.items)) c.args.most (row_total flow files) c.in_err-step.ensures.left
    (λ more. too-many flow c.get-operators.ensures.flow (records_of files flow) i o c.loop-i.waiting.items c.loop-i.tally.told.items c.loop-i.tally.left c.args.most h e c.loop-i.invariant more))

pub loop-i-preserved : goal.loop-i-preserved
loop-i-preserved c =
    let flow = c.args.flow.now in
    let i = c.loop-i.i in
    let o = c.index-operators-i.result in
    let h : i < length flow = rw c.get-operators.ensures.operators at c.loop-i-test.true in
    let e : o ≡ get_or flow i o = rw c.get-operators.ensures.operators at c.index-operators-i.is in
    Evaluated-more flow c.get-operators.ensures.flow (records_of c.args.files.now flow) i o c.loop-i.waiting.items c.step.new.waiting.items c.loop-i.tally.told.items c.step.new.tally.told.items
    c.loop-i.tally.left c.step.new.tally.left c.args.most h e c.loop-i.invariant c.in_ok-step.ensures.waiting c.in_ok-step.ensures.told c.in_ok-step.ensures.left

pub returns-in_err-rows-clause-long : goal.returns-in_err-rows-clause-long
unfolding row_total
returns-in_err-rows-clause-long c =
    let flow = c.args.flow.now in
    let files = c.args.files.now in
    let i = c.loop-i.i in
    let past : length flow ≤ i = rw c.get-operators.ensures.operators at c.loop-i-test.false in
    let few : i ≤ length flow = rw c.get-operators.ensures.operators at c.loop-i.auto.i-end in
    let end : i ≡ length flow = omega (arith, past, few) in
    let why = c.in_err-rows.field-0.0 in
    let is : c.from_residual-in_err-rows.result ≡ Err why = search rules in
    let owed = last-owed flow c.get-operators.ensures.flow (records_of files flow) i c.loop-i.waiting.items c.loop-i.tally.told.items c.loop-i.tally.left c.args.most end c.loop-i.invariant in
    let count = unread_count (records_of files flow) (unread_at c.loop-i.waiting.items (length flow)) in
    let short = rw (c.take-last.ensures.taken, c.get-operators.ensures.operators) at c.in_err-rows.ensures.left in
    rw is (short-long why c.loop-i.tally.left count c.args.most (row_total flow files) short (λ more. omega (arith, owed, more)))

pub returns-clause-few : goal.returns-clause-few
unfolding row_total
returns-clause-few c =
    let flow = c.args.flow.now in
    let records = records_of c.args.files.now flow in
    let i = c.loop-i.i in
    let past : length flow ≤ i = rw c.get-operators.ensures.operators at c.loop-i-test.false in
    let few : i ≤ length flow = rw c.get-operators.ensures.operators at c.loop-i.auto.i-end in
    let end : i ≡ length flow = omega (arith, past, few) in
    let owed = last-owed flow c.get-operators.ensures.flow records i c.loop-i.waiting.items c.loop-i.tally.told.items c.loop-i.tally.left c.args.most end c.loop-i.invariant in
    let spent = rw (c.take-last.ensures.taken, c.get-operators.ensures.operators) at c.in_ok-rows.ensures.left in
    omega (arith, owed, spent)

pub returns-clause-answer : goal.returns-clause-answer
returns-clause-answer c =
    let flow = c.args.flow.now in
    let files = c.args.files.now in
    let records = records_of files flow in
    let ok = c.get-operators.ensures.flow in
    let i = c.loop-i.i in
    let waiting = c.loop-i.waiting.items in
    let told = c.loop-i.tally.told.items in
    let left = c.loop-i.tally.left in
    let past : length flow ≤ i = rw c.get-operators.ensures.operators at c.loop-i-test.false in
    let few : i ≤ length flow = rw c.get-operators.ensures.operators at c.loop-i.auto.i-end in
    let end : i ≡ length flow = omega (arith, past, few) in
    let rows = rw (c.take-last.ensures.taken, c.get-operators.ensures.operators) at c.in_ok-rows.ensures.rows in
    let refused = rw (c.take-last.ensures.taken, c.get-operators.ensures.operators) at c.in_ok-rows.ensures.told in
    answer-is flow files c.in_ok-answer.answer
    (rw refused at c.in_ok-answer.ensures.refused ∙ last-told flow ok records i waiting told left c.args.most end c.loop-i.invariant)
    c.in_ok-answer.ensures.columns
    (c.in_ok-answer.ensures.rows ∙ rows ∙ last-rows flow ok records i waiting told left c.args.most end c.loop-i.invariant)
