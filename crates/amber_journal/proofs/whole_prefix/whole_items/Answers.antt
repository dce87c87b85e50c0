-- Each line that is passed is kept if it ends an item, and with it the lines before it.
use Rattle.std.proofs.Common.{arith, sym, ◌∙◌}
use Rattle.amber_journal.proofs.Kept.{whole-closing, whole-end, whole-first, whole-inside, whole-none, whole-open}
use Rattle.amber_journal.proofs.whole_prefix.whole_items.Goals as goal

pub returns-in_default-clause-value : goal.returns-in_default-clause-value
returns-in_default-clause-value c = sym (whole-none c.args.bytes.now c.in_default.ensures.line)

pub loop-line-init : goal.loop-line-init
loop-line-init c =
    let shorter = c.in-Some.ensures.shorter in
    (omega (arith, shorter), whole-first c.args.bytes.now c.in-Some.field-0-0.now c.in-Some.rest.now c.in-Some.ensures.line shorter)

pub loop-line-preserved-then-closes : goal.loop-line-preserved-then-closes
loop-line-preserved-then-closes c =
    let shorter = c.in-Some-next_line.ensures.shorter in
    let all = c.args.bytes.now in
    let rest = c.loop-line.rest.now in
    let line = c.in-Some-next_line.line.now in
    let behind = c.in-Some-next_line.behind.now in (
      omega (arith, shorter, c.loop-line.invariant.0),
      whole-closing all rest line behind c.loop-line.whole _ c.in-Some-next_line.ensures.line shorter c.loop-line.invariant.0 (sym c.closes.ensures ∙ c.if-closes.true) c.loop-line.invariant.1,
    )

pub loop-line-preserved : goal.loop-line-preserved
loop-line-preserved c =
    let shorter = c.in-Some-next_line.ensures.shorter in
    let all = c.args.bytes.now in
    let rest = c.loop-line.rest.now in
    let line = c.in-Some-next_line.line.now in
    let behind = c.in-Some-next_line.behind.now in (
      omega (arith, shorter, c.loop-line.invariant.0),
      whole-open all rest line behind c.loop-line.whole _ c.in-Some-next_line.ensures.line shorter c.loop-line.invariant.0 (sym c.closes.ensures ∙ c.if-closes.false) c.loop-line.invariant.1,
    )

pub returns-clause-value : goal.returns-clause-value
returns-clause-value c = sym (whole-end c.args.bytes.now c.loop-line.rest.now c.loop-line.whole _ c.in_default-next_line.ensures.line c.loop-line.invariant.1)

pub returns-clause-inside : goal.returns-clause-inside
returns-clause-inside c = whole-inside c.args.bytes.now c.loop-line.whole (sym (whole-end c.args.bytes.now c.loop-line.rest.now c.loop-line.whole _ c.in_default-next_line.ensures.line c.loop-line.invariant.1))
