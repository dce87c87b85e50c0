-- Each row adds its record.
use Rattle.std.proofs.Common.{◌≡◌, ◌++◌, ◌∙◌, ap, take, arith}
use Rattle.std.proofs.lemmas.List.{take_all}
use Rattle.std.proofs.lemmas.Result.{IfOk-weaker}
use Rattle.amber_rows.specs.RowText.{rows_text_of}
use Rattle.amber_rows.proofs.RowTexts.{rows-more, rows-none}
use Rattle.amber_rows.proofs.record_writer.append_rows.Goals as goal

pub loop-place-init : goal.loop-place-init
loop-place-init c = rw rows-none c.open_text-writer.ensures

pub loop-place-preserved : goal.loop-place-preserved
loop-place-preserved c =
    let more = c.in_ok-write_fields.ensures _ c.loop-place.invariant in
    rw (c.in_ok-fill_near.ensures, rows-more c.args.text.items c.args.rows.now c.loop-place.place c.index-rows-place.result c.loop-place-test.true c.index-rows-place.is) at more

pub returns : goal.returns
returns c =
    let all : take c.loop-place.place c.args.rows.now ≡ c.args.rows.now = take_all c.loop-place.place c.args.rows.now (omega arith) in
    IfOk-weaker c.close_text.result _ _
    (λ v is_text. is_text (c.args.text.items ++ rows_text_of (take c.loop-place.place c.args.rows.now)) c.loop-place.invariant ∙ ap (λ rows. c.args.text.items ++ rows_text_of rows) all)
    c.close_text.ensures
