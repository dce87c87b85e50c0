-- From each operator to the next.
use Rattle.std.proofs.Common.{◌≡◌, ◌<◌, ◌≤◌, true, false, length, get_or, refl, sym, ◌∙◌, rules}
use Rattle.amber_meaning.specs.Plain.{wrong_header}
use Rattle.amber_meaning.specs.ScanFiles.{files_left}
use Rattle.amber_meaning.proofs.Operators.{wrong_header-more, wrong_header-here, wrong_header-end}
use Rattle.amber_meaning.proofs.headers.wrong_header.Goals as goal

pub loop-i-init : goal.loop-i-init
unfolding files_left
loop-i-init c = refl

pub returns-then-not-headed : goal.returns-then-not-headed
returns-then-not-headed c =
    let flow = c.args.flow.now in
    let o = c.index-operators-i.result in
    let h : c.loop-i.i < length flow = rw c.get-operators.ensures.operators at c.loop-i-test.true in
    let e : o ≡ get_or flow c.loop-i.i o = rw c.get-operators.ensures.operators at c.index-operators-i.is in
    let other : c.in_ok-headed.headed ≡ false = search rules in
    sym (wrong_header-here c.args.files.now flow c.loop-i.i o _ h e c.loop-i.invariant (rw (← c.file_after-file.ensures) (sym c.in_ok-headed.ensures ∙ other)))

pub loop-i-preserved : goal.loop-i-preserved
loop-i-preserved c =
    let flow = c.args.flow.now in
    let o = c.index-operators-i.result in
    let h : c.loop-i.i < length flow = rw c.get-operators.ensures.operators at c.loop-i-test.true in
    let e : o ≡ get_or flow c.loop-i.i o = rw c.get-operators.ensures.operators at c.index-operators-i.is in
    let same : c.in_ok-headed.headed ≡ true = search rules in
    wrong_header-more c.args.files.now flow c.loop-i.i o _ h e c.loop-i.invariant (rw (← c.file_after-file.ensures) (sym c.in_ok-headed.ensures ∙ same))

pub returns : goal.returns
returns c =
    let files = c.args.files.now in
    let flow = c.args.flow.now in
    let h : length flow ≤ c.loop-i.i = rw c.get-operators.ensures.operators at c.loop-i-test.false in
    sym (wrong_header-end files flow c.loop-i.i (wrong_header 1 files flow) h c.loop-i.invariant)
