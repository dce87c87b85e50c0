-- A join: each row of the probe side before its matches, which are kept first.
use Rattle.std.specs.Prelude.{ℕ, List, [], length, codes, if◌then◌else◌}
use Rattle.amber_rows.specs.Lists.{list_at}
use Rattle.amber_rows.specs.Operators.{first_keys, join_result, matches_of}
use Rattle.amber_meaning.specs.declared.view.Extra.TheVariants as extra
use Rattle.amber_meaning.specs.Task.{built_of, is_builder}
use Rattle.amber_meaning.specs.Behaviour.{Behaviour, nothing}

-- of the two sides the operators and the keys
abbrev pub join : ℕ → ℕ → List ℕ → List ℕ → Behaviour
join build probe build_keys probe_keys = record nothing {
  word = codes "join";
  rows = λ records before. join_result build_keys probe_keys (list_at before build) (list_at before probe);
  yields = λ task before from constants row.
      if is_builder task from then [] else matches_of build_keys probe_keys (built_of task before) row;
  shows = λ task arrivals. extra.Join (length (first_keys build_keys (built_of task arrivals))) (length (built_of task arrivals));
}
