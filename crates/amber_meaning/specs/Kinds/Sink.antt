-- The sink: its rows are kept for the answer, in the order of rows.
use Rattle.std.specs.Prelude.{ℕ, length, codes}
use Rattle.amber_rows.specs.Lists.{list_at}
use Rattle.amber_rows.specs.Order.{sort_rows}
use Rattle.amber_meaning.specs.declared.view.Extra.TheVariants as extra
use Rattle.amber_meaning.specs.Task.{rows_in}
use Rattle.amber_meaning.specs.Behaviour.{Behaviour, nothing}

abbrev pub sink : ℕ → Behaviour
sink input = record nothing {
  word = codes "sink";
  rows = λ records before. sort_rows (list_at before input);
  kept = λ task arrivals. rows_in task arrivals;
  shows = λ task arrivals. extra.Sink (length (rows_in task arrivals));
}
