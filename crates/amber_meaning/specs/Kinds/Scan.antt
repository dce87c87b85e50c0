-- A scan: each record is a row or is refused.
use Rattle.std.specs.Prelude.{[], ◌∷◌, length, codes}
use Rattle.std.specs.List.{filter_map}
use Rattle.amber_rows.specs.Record.{ok_of}
use Rattle.amber_meaning.specs.declared.view.Extra.TheVariants as extra
use Rattle.amber_meaning.specs.Refused.{refused_in, refused_records}
use Rattle.amber_meaning.specs.Behaviour.{Behaviour, nothing}

abbrev pub scan : Behaviour
scan = record nothing {
  word = codes "scan";
  rows = λ records before. filter_map ok_of records;
  refusals = λ op records before. refused_records op 1 records;
  yields = λ task before from constants row. row ∷ [];
  shows = λ task arrivals. extra.Scan (length (refused_in 0 arrivals));
}
