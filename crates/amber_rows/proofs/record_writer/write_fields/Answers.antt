-- One more record follows the text.
use Rattle.std.proofs.Common.{◌≢◌}
use Rattle.csv.specs.declared.writer.QuoteStyle.TheVariants as style
use Rattle.csv.specs.Records.{fields_of}
use Rattle.amber_rows.proofs.RowTexts.{written-more}
use Rattle.amber_rows.proofs.record_writer.write_fields.Goals as goal

pub returns : goal.returns
returns c text h =
    let wrote = c.in-Ok.ensures in
    let plain : c.args.writer.now.cfg.style ≢ style.NonNumeric = rw h.setup (λ e. cc e) in
    written-more c.args.writer.now c.write_byte_record.new.self (fields_of c.args.fields.now) h (wrote.bytes h.fields h.shown plain) wrote.setup wrote.ended wrote.clean
