-- A group: at the end a row for each key, or a refusal where a sum is too large.
use Rattle.std.specs.Prelude.{ℕ, List, length, codes}
use Rattle.amber_rows.specs.Lists.{list_at}
use Rattle.amber_rows.specs.Operators.{first_keys, group_result, refused_keys}
use Rattle.amber_rows.specs.declared.agg.Agg.{Agg}
use Rattle.amber_meaning.specs.declared.view.Extra.TheVariants as extra
use Rattle.amber_meaning.specs.Refused.{refused_groups}
use Rattle.amber_meaning.specs.Task.{rows_in}
use Rattle.amber_meaning.specs.Behaviour.{Behaviour, nothing}

abbrev pub group : ℕ → List ℕ → List Agg → Behaviour
group input keys aggs = record nothing {
  word = codes "group";
  rows = λ records before. group_result keys aggs (list_at before input);
  refusals = λ op records before. refused_groups op (refused_keys keys aggs (list_at before input));
  closing = λ rows. group_result keys aggs rows;
  keys_refused = λ task arrivals. refused_keys keys aggs (rows_in task arrivals);
  shows = λ task arrivals. extra.Group (length (first_keys keys (rows_in task arrivals)));
}
