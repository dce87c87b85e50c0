-- A byte ends no line, or one that is answered.
use Rattle.std.proofs.Common.{◌≡◌, [], Ok, Err, take, refl, rules}
use Rattle.std.specs.Str.Lines.{strip_carriage_return}
use Rattle.amber_script.specs.Lines.{open_line}
use Rattle.amber_session.proofs.Answered.{answers-none}
use Rattle.amber_session.proofs.Bytewise.{is-feed, line-here, lines-feed, lines-other, not-feed, read-feed, read-other, reads-one}
use Rattle.amber_session.proofs.reading.read_byte.Goals as goal

pub returns-then-index-ne10-clause-reads : goal.returns-then-index-ne10-clause-reads
returns-then-index-ne10-clause-reads g c =
    let other = not-feed c.args.input.now.bytes.items c.args.place c.index.result.now c.requires.inside c.index.ensures c.if-index-ne10.true in
    ([], (lines-other c.args.input.now.bytes.items c.args.place c.requires.inside other).0, answers-none _ refl refl)

pub returns-then-index-ne10-clause-read : goal.returns-then-index-ne10-clause-read
returns-then-index-ne10-clause-read g c =
    let other = not-feed c.args.input.now.bytes.items c.args.place c.index.result.now c.requires.inside c.index.ensures c.if-index-ne10.true in
    read-other c.args.input.now c.args.place c.requires.inside other c.requires.read

pub returns-in_err-answer_line-clause-reads : goal.returns-in_err-answer_line-clause-reads
returns-in_err-answer_line-clause-reads g c =
    let input = c.args.input.now in
    let is = is-feed input.bytes.items c.args.place c.index.result.now c.requires.inside c.index.ensures c.if-index-ne10.false in
    let e : c.from_residual.result ≡ Err c.in_err-answer_line.field-0.0 = search rules in
    let line = line-here input c.args.place c.requires.read in
    rw e (reads-one (Err c.in_err-answer_line.field-0.0) _ _ (strip_carriage_return (open_line (take c.args.place input.bytes.items)))
    (lines-feed input.bytes.items c.args.place c.requires.inside is).0 c.requires.sound (rw (c.deref.ensures.value, line) at c.in_err-answer_line.ensures.answers))

pub returns-clause-reads : goal.returns-clause-reads
returns-clause-reads g c =
    let input = c.args.input.now in
    let is = is-feed input.bytes.items c.args.place c.index.result.now c.requires.inside c.index.ensures c.if-index-ne10.false in
    let line = line-here input c.args.place c.requires.read in
    reads-one (Ok tt) _ _ (strip_carriage_return (open_line (take c.args.place input.bytes.items)))
    (lines-feed input.bytes.items c.args.place c.requires.inside is).0 c.requires.sound (rw (c.deref.ensures.value, line) at c.in_ok-answer_line.ensures.answers)

pub returns-clause-read : goal.returns-clause-read
returns-clause-read g c =
    let is = is-feed c.args.input.now.bytes.items c.args.place c.index.result.now c.requires.inside c.index.ensures c.if-index-ne10.false in
    read-feed c.args.input.now _ c.args.place c.requires.inside is c.requires.read refl refl refl
