-- The columns of groups.
use Rattle.std.proofs.Common.{◌≡◌, ℕ, true, List, [], ◌∷◌, ◌++◌, map, Option, Some, None, is_some, refl}
use Rattle.std.proofs.lemmas.List.{map-append}
use Rattle.std.specs.List.{filter_map, list_all}
use Rattle.amber_rows.specs.Columns.{names_of, HasInput, IsEarlier, agg_kind, agg_name, column_kinds}
use Rattle.amber_rows.specs.Lists.{nth}
use Rattle.amber_rows.specs.Kinds.{IsKind}
use Rattle.amber_rows.specs.declared.agg.Agg.{Agg}
use Rattle.amber_rows.specs.declared.column.ColKind.{ColKind}
use Rattle.amber_rows.specs.declared.column.Column.{Column}
use Rattle.amber_rows.specs.declared.flow.Operator.{Operator}
use Rattle.amber_rows.specs.declared.flow.What.TheVariants as what
use Rattle.amber_flow.specs.Aggregates.{agg_column, agg_of, column_of_kind}
use Rattle.amber_rows.specs.Chain.{each}
use Rattle.amber_flow.specs.Columns.{column_named, column_number}
use Rattle.amber_flow.proofs.AggFacts.{agg-text}
use Rattle.amber_flow.proofs.JoinFacts.{found-in}
use Rattle.amber_flow.proofs.ListFacts.{Gives, and-true, each-gives}
use Rattle.amber_flow.proofs.NameFacts.{columns-here}

-- ---- the keys' columns

named_given : (columns : List Column) (names : List (List ℕ)) (keys : List ℕ) → Gives (column_number columns) names keys → filter_map (column_named columns) names ≡ filter_map (nth columns) keys
named_given columns [] [] given = refl
named_given columns [] (key ∷ keys) given = absurd given
named_given columns (name ∷ names) [] given = absurd given
named_given columns (name ∷ names) (key ∷ keys) given = rw (given.0, named_given columns names keys given.1)

-- ---- the aggregates' columns

-- columns that are those of aggregates
pub record AreAggs (columns : List Column) (aggs : List Agg) (made : List Column) : Type 0 where
  pub kinds : map Some (column_kinds made) ≡ map (agg_kind columns) aggs
  pub names : names_of made ≡ map (agg_name columns) aggs

one_agg : (columns : List Column) (text : List ℕ) (texts : List (List ℕ)) (agg : Agg) (aggs : List Agg) (kind : Option ColKind) → agg_of columns text ≡ Some agg → agg_kind columns agg ≡ kind → is_some kind ≡ true
    → AreAggs columns aggs (filter_map (agg_column columns) texts) → AreAggs columns (agg ∷ aggs) (filter_map (agg_column columns) (text ∷ texts))
one_agg columns text texts agg aggs None given is some rest = absurd (cc)
one_agg columns text texts agg aggs (Some kind) given is some rest =
    let made : agg_column columns text ≡ Some (column_of_kind text kind) = rw (given, is) in
    record {
      kinds = rw (made, is, rest.kinds);
      names = rw (made, rest.names, agg-text columns text agg given);
    }

aggs_given : (columns : List Column) (texts : List (List ℕ)) (aggs : List Agg) → Gives (agg_of columns) texts aggs → list_all (λ agg. is_some (agg_kind columns agg)) aggs ≡ true → AreAggs columns aggs (filter_map (agg_column columns) texts)
aggs_given columns [] [] given summed = record { kinds = refl; names = refl }
aggs_given columns [] (agg ∷ aggs) given summed = absurd given
aggs_given columns (text ∷ texts) [] given summed = absurd given
aggs_given columns (text ∷ texts) (agg ∷ aggs) given summed =
    let parts = and-true (is_some (agg_kind columns agg)) (list_all (λ agg. is_some (agg_kind columns agg)) aggs) summed in
    one_agg columns text texts agg aggs (agg_kind columns agg) given.0 refl parts.0 (aggs_given columns texts aggs given.1 parts.1)

-- what a group is, where its reader has given these
pub group-kind : (before : List Operator) (input : ℕ) (columns : List Column) (names texts : List (List ℕ)) (keys_found keys : List ℕ) (aggs_found aggs : List Agg) (schema : List Column) → IsEarlier before input → HasInput before input columns
    → each (column_number columns) names ≡ Some keys_found → each (agg_of columns) texts ≡ Some aggs_found → list_all (λ agg. is_some (agg_kind columns agg)) aggs_found ≡ true → keys ≡ keys_found → aggs ≡ aggs_found
    → schema ≡ filter_map (column_named columns) names ++ filter_map (agg_column columns) texts → IsKind before (what.Group input keys aggs) schema
group-kind before input columns names texts keys_found keys aggs_found aggs schema earlier has keys_given aggs_given_is summed keys_is aggs_is schema_is =
    let made = aggs_given columns texts aggs_found (each-gives (agg_of columns) texts aggs_found aggs_given_is) summed in
    let named = named_given columns names keys_found (each-gives (column_number columns) names keys_found keys_given) in
    rw (columns-here before input columns has, keys_is, aggs_is, schema_is, named)
    (earlier, found-in columns names keys_found keys_given, simp (map-append, made.kinds), simp (map-append, made.names))
