-- The pieces of the line, one after the other.
use Rattle.std.proofs.Common.{◌≡◌, ◌++◌, codes, Err, rules}
use Rattle.amber_course.proofs.Lines.{lined-on, lined-failure}
use Rattle.amber_course.proofs.refusal.put_text_line.Goals as goal

pub returns-in_err-put_piece-clause-lined : goal.returns-in_err-put_piece-clause-lined
returns-in_err-put_piece-clause-lined g c =
    let e : c.from_residual.result ≡ Err c.in_err-put_piece.field-0.0 = search rules in
    rw e (lined-failure c.in_err-put_piece.field-0.0 c.args.words.now (c.args.text.now ++ codes "\n") (g.W.Outside.world c.args.outside.now) (g.W.Outside.world c.put_piece.new.outside)
    c.in_err-put_piece.ensures.lined)

pub returns-in_err-put_piece-2-clause-lined : goal.returns-in_err-put_piece-2-clause-lined
returns-in_err-put_piece-2-clause-lined g c =
    let first = g.W.Outside.world c.put_piece.new.outside in
    let second = g.W.Outside.world c.put_piece-2.new.outside in
    let e : c.from_residual-in_err-put_piece-2.result ≡ Err c.in_err-put_piece-2.field-0.0 = search rules in
    rw e (lined-on (Err c.in_err-put_piece-2.field-0.0) c.in_ok-put_piece.field-0 c.args.words.now (c.args.text.now ++ codes "\n") (g.W.Outside.world c.args.outside.now) first second
    c.in_ok-put_piece.ensures.lined
    (lined-failure c.in_err-put_piece-2.field-0.0 c.args.text.now (codes "\n") first second (rw c.as_bytes.ensures.value at c.in_err-put_piece-2.ensures.lined)))

pub returns-clause-lined : goal.returns-clause-lined
returns-clause-lined g c =
    let first = g.W.Outside.world c.put_piece.new.outside in
    let second = g.W.Outside.world c.put_piece-2.new.outside in
    let third = g.W.Outside.world c.put_piece-3.new.outside in
    lined-on c.put_piece-3.result c.in_ok-put_piece.field-0 c.args.words.now (c.args.text.now ++ codes "\n") (g.W.Outside.world c.args.outside.now) first third c.in_ok-put_piece.ensures.lined
    (lined-on c.put_piece-3.result c.in_ok-put_piece-2.field-0 c.args.text.now (codes "\n") first second third (rw c.as_bytes.ensures.value at c.in_ok-put_piece-2.ensures.lined)
    c.put_piece-3.ensures.lined)
