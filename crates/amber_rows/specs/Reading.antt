-- How far a reader has come in its file.
use Rattle.std.specs.Prelude.{◌≡◌, ℕ, List, Some}
use Rattle.csv.specs.Reading.{Reached, Ready, default_config, source_of, strip_bom}
use Rattle.csv.specs.declared.parser.State.TheVariants as st
use Rattle.csv.specs.declared.reader.Trim.TheVariants as trim
use Rattle.amber_rows.specs.declared.record_reader.RecordReader.{RecordReader}

-- the reader reads this file, and has read these records of it
pub record HasRead (bytes : List ℕ) (r : RecordReader) (done : List (List (List ℕ))) : Type 0 where
  pub plain : r.reader.trim ≡ trim.None
  pub ready : Ready r.reader
  pub config : r.reader.config ≡ default_config
  pub rest : List ℕ
  pub source : source_of (λ s. Some s.now) r.reader ≡ Some rest
  pub reached : Reached default_config st.StartRecord (strip_bom bytes) done r.reader.state rest
