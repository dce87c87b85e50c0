-- A new reader stands at the start of its file, with the defaults.
use Rattle.std.proofs.Common.{sym, refl, inr}
use Rattle.csv.specs.Reading.{Reached, strip_bom}
use Rattle.amber_rows.proofs.record_reader.RecordReader.open.Goals as goal

pub returns : goal.returns
unfolding Reached
returns c =
    let fr = rw (c.flexible.ensures, c.has_headers.ensures) at c.from_reader.ensures in
    let new = c.new.ensures in
    record {
      plain = cc (fr.trim, new.trim);
      ready = inr (inr (fr.has_headers, fr.headers));
      config = cc (fr.config, new.config);
      rest = strip_bom c.args.bytes.now;
      source = fr.source;
      reached = (sym fr.state, refl);
    }
