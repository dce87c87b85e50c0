-- From each byte to the next.
use Rattle.std.proofs.Common.{◌≡◌, get_or, true, false, sym, rules}
use Rattle.amber_script.specs.Words.{is_blank}
use Rattle.amber_script.proofs.Saying.{says-end, says-here, says-more}
use Rattle.amber_script.proofs.lines.says_something.Goals as goal

pub returns-then-not-is_blank : goal.returns-then-not-is_blank
returns-then-not-is_blank c =
    let other : is_blank (get_or c.args.line.now c.loop-byte.byte-index 0) ≡ false = search rules in
    sym (says-here c.args.line.now c.loop-byte.byte-index c.loop-byte-test.true other c.loop-byte.invariant)

pub loop-byte-preserved : goal.loop-byte-preserved
loop-byte-preserved c =
    let blank : is_blank (get_or c.args.line.now c.loop-byte.byte-index 0) ≡ true = search rules in
    says-more c.args.line.now c.loop-byte.byte-index c.loop-byte-test.true blank c.loop-byte.invariant

pub returns : goal.returns
returns c = sym (says-end c.args.line.now c.loop-byte.byte-index c.loop-byte-test.false c.loop-byte.invariant)
