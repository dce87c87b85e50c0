-- From each byte to the next.
use Rattle.std.proofs.Common.{get_or, refl}
use Rattle.amber_meaning.specs.Texts.{escaped_byte}
use Rattle.amber_report.proofs.Lines.{told_all, told_more}
use Rattle.amber_report.proofs.words.push_all_escaped.Goals as goal

pub loop-byte-preserved : goal.loop-byte-preserved
loop-byte-preserved c =
    let bytes = c.args.bytes.now in
    let i = c.loop-byte.byte-index in
    told_more escaped_byte c.args.text.now.items c.loop-byte.text.items c.push_escaped.new.text.items bytes i (get_or bytes i 0) 0 c.loop-byte-test.true refl c.loop-byte.invariant c.in_ok-push_escaped.ensures

pub returns : goal.returns
returns c =
    told_all escaped_byte c.args.text.now.items c.loop-byte.text.items c.args.bytes.now c.loop-byte.byte-index c.loop-byte-test.false c.loop-byte.invariant
