-- A read takes the next record of the file, or finds none after the last.
use Rattle.std.proofs.Common.{Bor, List, ℕ, ◌≡◌, ◌∷◌, [], ◌++◌, ◌∙◌, Option, Some, true, append_assoc}
use Rattle.csv.specs.Reading.{Ready, ReadRecord, default_config, strip_bom}
use Rattle.csv.specs.Records.{fields_of}
use Rattle.csv.specs.declared.parser.State.TheVariants as st
use Rattle.csv.proofs.ReadFacts.{rows-end, rows-more}
use Rattle.amber_rows.specs.Reading.{HasRead}
use Rattle.amber_rows.specs.Record.{file_records}
use Rattle.amber_rows.specs.declared.record_reader.RecordReader.{RecordReader}
use Rattle.amber_rows.proofs.FileRecords.{HasRead-all, HasRead-front}
use Rattle.amber_rows.proofs.record_reader.RecordReader.next.Goals as goal

-- the bytes under a reader of bytes in memory
abbrev left_of : Bor (List ℕ) → Option (List ℕ)
left_of s = Some s.now

-- a read that found a record
one-more : (bytes : List ℕ) (a b : RecordReader) (done : List (List (List ℕ))) (fields : List (List ℕ)) → HasRead bytes a done
    → ReadRecord left_of a.reader b.reader true fields → Ready b.reader → HasRead bytes b (done ++ fields ∷ [])
one-more bytes a b done fields h read ready =
    let next = rows-more left_of a.reader b.reader fields default_config st.StartRecord (strip_bom bytes) h.rest done h.config h.source h.reached read in
    record {
      plain = read.3 ∙ h.plain;
      ready = ready;
      config = read.2 ∙ h.config;
      rest = next.0;
      source = next.1;
      reached = next.2;
    }

-- the record stands in the file where those before it end
placed : (bytes : List ℕ) (a b : RecordReader) (done : List (List (List ℕ))) (fields : List (List ℕ)) → HasRead bytes a done
    → ReadRecord left_of a.reader b.reader true fields → Ready b.reader → (later : List (List (List ℕ))) × (file_records bytes ≡ done ++ fields ∷ later)
placed bytes a b done fields h read ready =
    let front = HasRead-front (one-more bytes a b done fields h read ready) in
    (front.0, front.1 ∙ append_assoc done (fields ∷ []) front.0)

pub returns-clause-more : goal.returns-clause-more
returns-clause-more c bytes done h found =
    let read = rw found at (c.in-Ok.ensures.reads h.plain h.ready) in
    one-more bytes _ _ done _ h read ((c.in-Ok.ensures.reads_on found).4 h.ready).0

pub returns-clause-all : goal.returns-clause-all
returns-clause-all c bytes done h none =
    let read = rw none at (c.in-Ok.ensures.reads h.plain h.ready) in
    HasRead-all h (rows-end left_of c.args.self.now.reader c.read_byte_record.new.self (fields_of c.read_byte_record.new.row) default_config h.rest h.config h.source read)

pub returns-clause-place : goal.returns-clause-place
returns-clause-place c bytes done h found =
    let read = rw found at (c.in-Ok.ensures.reads h.plain h.ready) in
    placed bytes c.args.self.now (record { reader = c.read_byte_record.new.self }) done (fields_of c.read_byte_record.new.row) h read ((c.in-Ok.ensures.reads_on found).4 h.ready).0
