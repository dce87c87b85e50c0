-- What reading a log's file gives.
use Rattle.std.specs.Prelude.{ℕ, List}
use Rattle.amber_log.specs.declared.log.Item.{Item}
use Rattle.amber_log.specs.declared.reading.Place.{Place}
use Rattle.amber_log.specs.declared.reading.Reading.{Reading}

-- what was read so far, in its parts
abbrev pub reading_at : ℕ → List Item → Place → Reading
reading_at batch items place = record { batch = batch; items = items; place = place }
