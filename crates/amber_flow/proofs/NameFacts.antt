-- Columns that are found by their names.
use Rattle.std.proofs.Common.{◌≡◌, ℕ, ◌+◌, ◌-◌, ◌<◌, ◌≤◌, ◌&&◌, Bool, true, false, cond, eqb, List, [], ◌∷◌, length, get_or, Option, Some, None, IsSomeAnd, is_none, option_map, position, bytes_eq, refl, arith, subst}
use Rattle.std.proofs.lemmas.Bool.{ne_eqb}
use Rattle.std.proofs.lemmas.List.Elements.{All-cons, All-nil}
use Rattle.std.proofs.lemmas.List.Quantifiers.{position-Some}
use Rattle.std.proofs.lemmas.Option.{slice_get-get_or}
use Rattle.std.proofs.lemmas.Slice.Eq.{bytes_eq-Decides}
use Rattle.std.specs.List.{filter_map, list_all}
use Rattle.serde_json.specs.Data.{Data}
use Rattle.serde_json.specs.Find.{at}
use Rattle.amber_rows.specs.Columns.{names_of, AreIn, HasInput, IsEarlier, column_kinds, columns_at, is_column_name, kinds_at, schema_of}
use Rattle.amber_rows.specs.Lists.{nth}
use Rattle.amber_rows.specs.Kinds.{IsKind}
use Rattle.amber_rows.specs.declared.column.Column.{Column}
use Rattle.amber_rows.specs.declared.flow.Operator.{Operator}
use Rattle.amber_rows.specs.declared.flow.What.TheVariants as what
use Rattle.amber_rows.specs.declared.column.ColKind.TheVariants.{Int}
use Rattle.amber_rows.specs.Chain.{each}
use Rattle.amber_flow.specs.Columns.{column_number, is_new_name, renaming_of, source_of, under}
use Rattle.amber_flow.specs.Fields.{text_in}
use Rattle.amber_flow.proofs.ListFacts.{Gives, each-gives}

-- the column with a number has a name
pub record IsNamed (columns : List Column) (number : ℕ) (name : List ℕ) : Type 0 where
  pub some : 0 < number
  pub within : number ≤ length columns
  pub column : Column
  pub here : nth columns number ≡ Some column
  pub named : column.name ≡ name

named_at : (columns : List Column) (name : List ℕ) (place : Option ℕ) (number : ℕ) → position (λ column. bytes_eq column.name name) columns ≡ place → option_map (λ i. i + 1) place ≡ Some number → IsNamed columns number name
named_at columns name None number is at = absurd (cc)
named_at columns name (Some i) number is at =
    let none : Column = record { name = []; kind = Int } in
    let found = position-Some (λ column. bytes_eq column.name name) columns i none is in
    let there : i < length columns = found.0 in
    let same : i + 1 ≡ number = cc in
    let no : eqb (i + 1) 0 ≡ false = ne_eqb (i + 1) 0 (omega arith) in
    let less : i + 1 - 1 ≡ i = omega arith in
    let here : nth columns (i + 1) ≡ Some (get_or columns i none) = rw (no, less) (slice_get-get_or columns i none there) in
    subst (λ (n : ℕ). IsNamed columns n name) same
    (record { some = omega arith; within = omega arith; column = get_or columns i none; here = here; named = (bytes_eq-Decides (get_or columns i none).name name).0 found.1 })

pub number-named : (columns : List Column) (name : List ℕ) (number : ℕ) → column_number columns name ≡ Some number → IsNamed columns number name
number-named columns name number is = named_at columns name (position (λ column. bytes_eq column.name name) columns) number refl is

-- ---- renamed columns

-- what a pair says
pub record IsPair (pair : Data) (source : List ℕ) : Type 0 where
  pub source_is : text_in 0 pair ≡ Some source
  pub name : List ℕ
  pub name_is : text_in 1 pair ≡ Some name
  pub may_name : is_column_name name ≡ true

pair_of : (pair : Data) (source : List ℕ) (alone : Bool) (name : Option (List ℕ)) → text_in 1 pair ≡ name → cond (alone && is_new_name name) (text_in 0 pair) None ≡ Some source → IsPair pair source
pair_of pair source false name is given = absurd (cc)
pair_of pair source true None is given = absurd (cc)
pair_of pair source true (Some name) is given = named_pair (is_column_name name) refl given
  where
    named_pair : (may : Bool) → is_column_name name ≡ may → cond may (text_in 0 pair) None ≡ Some source → IsPair pair source
    named_pair true may given = record { source_is = given; name = name; name_is = is; may_name = may }
    named_pair false may given = absurd (cc)

pub pair-given : (pair : Data) (source : List ℕ) → source_of pair ≡ Some source → IsPair pair source
pair-given pair source is = pair_of pair source (is_none (at 2 pair)) (text_in 1 pair) refl is

-- the columns that pairs rename
pub record AreRenamed (columns : List Column) (pairs : List Data) (from : List ℕ) : Type 0 where
  pub there : AreIn columns from
  pub kinds : column_kinds (filter_map (renaming_of columns) pairs) ≡ kinds_at columns from
  pub named : list_all is_column_name (names_of (filter_map (renaming_of columns) pairs)) ≡ true

one_renamed : (columns : List Column) (pair : Data) (pairs : List Data) (source : List ℕ) (number : ℕ) (from : List ℕ) → IsPair pair source → IsNamed columns number source → column_number columns source ≡ Some number → AreRenamed columns pairs from
    → AreRenamed columns (pair ∷ pairs) (number ∷ from)
one_renamed columns pair pairs source number from said named found rest =
    let made : renaming_of columns pair ≡ Some (under said.name named.column) = rw (said.name_is, said.source_is, found, named.here) in
    record {
      there = All-cons (λ n. (0 < n) × (n ≤ length columns)) number from (named.some, named.within) rest.there;
      kinds = rw (made, named.here, rest.kinds);
      named = rw (made, said.may_name, rest.named);
    }

all_renamed : (columns : List Column) (pairs : List Data) (sources : List (List ℕ)) (from : List ℕ) → Gives source_of pairs sources → Gives (column_number columns) sources from → AreRenamed columns pairs from
all_renamed columns [] [] [] pairs_are found = record { there = All-nil (λ n. (0 < n) × (n ≤ length columns)); kinds = refl; named = refl }
all_renamed columns [] [] (n ∷ from) pairs_are found = absurd found
all_renamed columns [] (source ∷ sources) from pairs_are found = absurd pairs_are
all_renamed columns (pair ∷ pairs) [] from pairs_are found = absurd pairs_are
all_renamed columns (pair ∷ pairs) (source ∷ sources) [] pairs_are found = absurd found
all_renamed columns (pair ∷ pairs) (source ∷ sources) (number ∷ from) pairs_are found =
    one_renamed columns pair pairs source number from (pair-given pair source pairs_are.0) (number-named columns source number found.0) found.0 (all_renamed columns pairs sources from pairs_are.1 found.1)

pub are-renaming_of : (columns : List Column) (pairs : List Data) (sources : List (List ℕ)) (from : List ℕ) → each source_of pairs ≡ Some sources → each (column_number columns) sources ≡ Some from → AreRenamed columns pairs from
are-renaming_of columns pairs sources from pairs_are found = all_renamed columns pairs sources from (each-gives source_of pairs sources pairs_are) (each-gives (column_number columns) sources from found)

-- ---- the columns of an earlier operator

here_of : (found : Option Operator) (columns : List Column) → IsSomeAnd found (λ earlier. earlier.schema ≡ columns) → schema_of found ≡ columns
here_of None columns has = absurd has
here_of (Some operator) columns has = has

pub columns-here : (before : List Operator) (input : ℕ) (columns : List Column) → HasInput before input columns → columns_at before input ≡ columns
columns-here before input columns has = here_of (nth before input) columns has

-- what a projection is, where its reader has given these
pub project-kind : (before : List Operator) (input : ℕ) (columns : List Column) (pairs : List Data) (sources : List (List ℕ)) (found from : List ℕ) (schema : List Column) → IsEarlier before input → HasInput before input columns
    → each source_of pairs ≡ Some sources → each (column_number columns) sources ≡ Some found → from ≡ found → schema ≡ filter_map (renaming_of columns) pairs → IsKind before (what.Project input from) schema
project-kind before input columns pairs sources found from schema earlier has pairs_are found_are from_is schema_is =
    let made = are-renaming_of columns pairs sources found pairs_are found_are in
    rw (columns-here before input columns has, from_is, schema_is) (earlier, made.there, made.kinds, made.named)
