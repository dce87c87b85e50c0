-- The keys of joins.
use Rattle.std.proofs.Common.{◌≡◌, ℕ, suc, ◌+◌, ◌<◌, ◌≤◌, ◌≢◌, ◌&&◌, Bool, true, false, List, [], ◌∷◌, ◌++◌, length, map, get_or, drop, Option, Some, None, is_some, option_map, refl, sym, ap, ◌∙◌, drop-cons, arith}
use Rattle.std.proofs.lemmas.List.{drop_all}
use Rattle.std.proofs.lemmas.List.Elements.{All-cons, All-nil}
use Rattle.std.specs.List.{cons_option, filter_map, list_all}
use Rattle.amber_rows.specs.Lists.{nth}
use Rattle.amber_rows.specs.Columns.{AreIn, HasInput, IsEarlier, kinds_at, column_kind_at}
use Rattle.amber_rows.specs.Kinds.{IsKind}
use Rattle.amber_rows.specs.declared.column.ColKind.{ColKind}
use Rattle.amber_rows.specs.declared.column.ColKind.TheVariants.{Int, Text}
use Rattle.amber_rows.specs.declared.column.Column.{Column}
use Rattle.amber_rows.specs.declared.flow.Operator.{Operator}
use Rattle.amber_rows.specs.declared.flow.What.TheVariants as what
use Rattle.amber_rows.specs.Chain.{each}
use Rattle.amber_flow.specs.Columns.{column_number}
use Rattle.amber_flow.specs.Joins.{AreKeys, are_alike}
use Rattle.amber_rows.specs.Suits.{same_kind}
use Rattle.amber_flow.specs.declared.join.JoinKeys.{JoinKeys}
use Rattle.amber_flow.proofs.ListFacts.{Gives, and-true, each-gives, gives-at, gives-length, gives_all}
use Rattle.amber_flow.proofs.NameFacts.{columns-here, number-named}

-- ---- the same kinds at the same places

same-kind-is : (kind other : ColKind) → same_kind kind other ≡ true → kind ≡ other
same-kind-is Int Int same = refl
same-kind-is Int Text same = absurd (cc)
same-kind-is Text Int same = absurd (cc)
same-kind-is Text Text same = refl

and_false : (a : Bool) → (a && false) ≡ false
and_false true = refl
and_false false = refl

alike-is : (kinds others : List ColKind) → are_alike kinds others ≡ true → kinds ≡ others
alike-is [] [] alike = refl
alike-is [] (other ∷ others) alike = absurd (cc)
alike-is (kind ∷ kinds) [] alike = absurd (cc)
alike-is (kind ∷ kinds) (other ∷ others) alike =
    let both = and-true (same_kind kind other) (are_alike kinds others) alike in
    let first = same-kind-is kind other both.0 in
    let rest = alike-is kinds others both.1 in
    cc

pub alike-uneven : (kinds others : List ColKind) → length kinds ≢ length others → are_alike kinds others ≡ false
alike-uneven [] [] uneven = absurd (uneven refl)
alike-uneven [] (other ∷ others) uneven = refl
alike-uneven (kind ∷ kinds) [] uneven = refl
alike-uneven (kind ∷ kinds) (other ∷ others) uneven = rw (alike-uneven kinds others (λ even. uneven (ap suc even))) (and_false (same_kind kind other))

alike-more : (kinds others : List ColKind) (i : ℕ) (d e : ColKind) → i < length kinds → i < length others → are_alike (drop i kinds) (drop i others) ≡ (same_kind (get_or kinds i d) (get_or others i e) && are_alike (drop (i + 1) kinds) (drop (i + 1) others))
alike-more kinds others i d e h k =
    let next : i + 1 ≡ suc i = omega arith in
    rw (next, drop-cons kinds i d, drop-cons others i e)

pub alike-next : (kinds others : List ColKind) (i : ℕ) (d e : ColKind) → i < length kinds → i < length others → true ≡ same_kind (get_or kinds i d) (get_or others i e) → are_alike (drop i kinds) (drop i others) ≡ are_alike (drop (i + 1) kinds) (drop (i + 1) others)
alike-next kinds others i d e h k same = alike-more kinds others i d e h k ∙ ap (λ b. b && are_alike (drop (i + 1) kinds) (drop (i + 1) others)) (sym same)

pub alike-stop : (kinds others : List ColKind) (i : ℕ) (d e : ColKind) → i < length kinds → i < length others → false ≡ same_kind (get_or kinds i d) (get_or others i e) → are_alike (drop i kinds) (drop i others) ≡ false
alike-stop kinds others i d e h k same = alike-more kinds others i d e h k ∙ ap (λ b. b && are_alike (drop (i + 1) kinds) (drop (i + 1) others)) (sym same)

pub alike-end : (kinds others : List ColKind) (i : ℕ) → length kinds ≤ i → length others ≤ i → are_alike (drop i kinds) (drop i others) ≡ true
alike-end kinds others i h k = rw (drop_all i kinds h, drop_all i others k)

-- ---- keys

kinds_first : (columns : List Column) (numbers : List ℕ) (found : Option Column) → filter_map (column_kind_at columns) numbers ≡ kinds_at columns numbers
    → cons_option (option_map (λ column. column.kind) found) (filter_map (column_kind_at columns) numbers) ≡ map (λ column. column.kind) (cons_option found (filter_map (nth columns) numbers))
kinds_first columns numbers None rest = rest
kinds_first columns numbers (Some column) rest = ap (λ kinds. column.kind ∷ kinds) rest

kinds-here : (columns : List Column) (numbers : List ℕ) → filter_map (column_kind_at columns) numbers ≡ kinds_at columns numbers
kinds-here columns [] = refl
kinds-here columns (number ∷ numbers) = kinds_first columns numbers (nth columns number) (kinds-here columns numbers)

in_given : (columns : List Column) (names : List (List ℕ)) (numbers : List ℕ) → Gives (column_number columns) names numbers → AreIn columns numbers
in_given columns [] [] given = All-nil (λ n. (0 < n) × (n ≤ length columns))
in_given columns [] (number ∷ numbers) given = absurd given
in_given columns (name ∷ names) [] given = absurd given
in_given columns (name ∷ names) (number ∷ numbers) given =
    let there = number-named columns name number given.0 in
    All-cons (λ n. (0 < n) × (n ≤ length columns)) number numbers (there.some, there.within) (in_given columns names numbers given.1)

-- the numbers that names give are those of columns
pub found-in : (columns : List Column) (names : List (List ℕ)) (numbers : List ℕ) → each (column_number columns) names ≡ Some numbers → AreIn columns numbers
found-in columns names numbers found = in_given columns names numbers (each-gives (column_number columns) names numbers found)

kinds_given : (columns : List Column) (names : List (List ℕ)) (numbers : List ℕ) → Gives (column_number columns) names numbers → list_all (λ number. is_some (column_kind_at columns number)) numbers ≡ true
kinds_given columns [] [] given = refl
kinds_given columns [] (number ∷ numbers) given = absurd given
kinds_given columns (name ∷ names) [] given = absurd given
kinds_given columns (name ∷ names) (number ∷ numbers) given =
    let there = number-named columns name number given.0 in
    rw (there.here, kinds_given columns names numbers given.1) refl

-- the numbers that names give have kinds
pub found-kinds : (columns : List Column) (names : List (List ℕ)) (numbers : List ℕ) → each (column_number columns) names ≡ Some numbers → list_all (λ number. is_some (column_kind_at columns number)) numbers ≡ true
found-kinds columns names numbers found = kinds_given columns names numbers (each-gives (column_number columns) names numbers found)

-- the kinds of numbers that have them, which stand at the places of the numbers
module _ (columns : List Column) (numbers : List ℕ) (there : list_all (λ number. is_some (column_kind_at columns number)) numbers ≡ true) where
  pub kinds-length : length (filter_map (column_kind_at columns) numbers) ≡ length numbers
  kinds-length = gives-length (column_kind_at columns) numbers (filter_map (column_kind_at columns) numbers) (gives_all (column_kind_at columns) numbers there)

  pub kind-at : (i d : ℕ) → i < length numbers → column_kind_at columns (get_or numbers i d) ≡ Some (get_or (filter_map (column_kind_at columns) numbers) i Int)
  kind-at i d h = gives-at (column_kind_at columns) numbers (filter_map (column_kind_at columns) numbers) i d Int (gives_all (column_kind_at columns) numbers there) h

pub are-keys : (build probe : List Column) (build_names probe_names : List (List ℕ)) (build_keys probe_keys : List ℕ) (build_kinds probe_kinds : List ColKind) → each (column_number build) build_names ≡ Some build_keys → each (column_number probe) probe_names ≡ Some probe_keys
    → build_kinds ≡ filter_map (column_kind_at build) build_keys → probe_kinds ≡ filter_map (column_kind_at probe) probe_keys → are_alike build_kinds probe_kinds ≡ true
    → (keys : JoinKeys) → keys.build ≡ build_keys → keys.probe ≡ probe_keys → AreKeys build probe build_names keys
are-keys build probe build_names probe_names build_keys probe_keys build_kinds probe_kinds build_found probe_found build_is probe_is alike keys built probed = record {
  built = rw built (found-in build build_names build_keys build_found);
  probed = rw probed (found-in probe probe_names probe_keys probe_found);
  count = ap length built ∙ gives-length (column_number build) build_names build_keys (each-gives (column_number build) build_names build_keys build_found);
  kinds = ap (kinds_at build) built ∙ sym (kinds-here build build_keys) ∙ sym build_is ∙ alike-is build_kinds probe_kinds alike ∙ probe_is ∙ kinds-here probe probe_keys ∙ sym (ap (kinds_at probe) probed);
}

-- what a join is, where its reader has given these
pub join-kind : (before : List Operator) (build probe : ℕ) (built probed : List Column) (names : List (List ℕ)) (keys : JoinKeys) (schema : List Column) → IsEarlier before build → IsEarlier before probe → HasInput before build built → HasInput before probe probed
    → 0 < length names → AreKeys built probed names keys → schema ≡ probed ++ built → IsKind before (what.Join build probe keys.build keys.probe) schema
join-kind before build probe built probed names keys schema build_earlier probe_earlier has_build has_probe some fit is =
    rw (columns-here before build built has_build, columns-here before probe probed has_probe) (build_earlier, probe_earlier, fit.built, fit.probed, omega (arith, fit.count), fit.kinds, is)
