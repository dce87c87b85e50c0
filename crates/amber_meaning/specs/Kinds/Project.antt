-- A project: some columns of each row.
use Rattle.std.specs.Prelude.{ℕ, List, [], ◌∷◌, codes}
use Rattle.amber_rows.specs.Lists.{list_at}
use Rattle.amber_rows.specs.Operators.{pick_cells, project_result}
use Rattle.amber_meaning.specs.Behaviour.{Behaviour, nothing}

abbrev pub project : ℕ → List ℕ → Behaviour
project input columns = record nothing {
  word = codes "project";
  rows = λ records before. project_result columns (list_at before input);
  yields = λ task before from constants row. pick_cells columns row ∷ [];
}
