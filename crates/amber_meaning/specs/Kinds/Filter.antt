-- A filter: the rows for which its condition holds.
use Rattle.std.specs.Prelude.{ℕ, List, [], ◌∷◌, filter, codes, if◌then◌else◌}
use Rattle.amber_rows.specs.Cond.{holds_of}
use Rattle.amber_rows.specs.Lists.{list_at}
use Rattle.amber_rows.specs.declared.value.Value.{Value}
use Rattle.amber_rows.specs.declared.cond.Cond.{Cond}
use Rattle.amber_meaning.specs.Behaviour.{Behaviour, nothing}

-- a condition with the constant in force in place of its own
abbrev pub with_constant : Cond → List Value → Cond
with_constant cond [] = cond
with_constant cond (constant ∷ more) = record cond { constant = constant }

abbrev pub filter_by : ℕ → Cond → Behaviour
filter_by input cond = record nothing {
  word = codes "filter";
  rows = λ records before. filter (holds_of cond) (list_at before input);
  yields = λ task before from constants row. if holds_of (with_constant cond constants) row then row ∷ [] else [];
}
