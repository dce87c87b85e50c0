-- The records of a file, however they are kept.
use Rattle.std.specs.Prelude.{ℕ, List, map}
use Rattle.amber_cut.specs.Lines.{cut}
use Rattle.amber_cut.specs.declared.records.Kind.{Kind}
use Rattle.amber_cut.specs.declared.records.Kind.TheVariants as kind

abbrev pub kept_records : Kind → List (List (List ℕ))
kept_records (kind.Lines lines) = map cut lines
kept_records (kind.Fields records) = records
