-- Groups on literals, each named by what it shows.
use Rattle.std.specs.Prelude.{⊤}
use Rattle.std.proofs.Common.{◌≡◌, ℕ, List, [], ◌∷◌, ◌++◌, codes, refl}
use Rattle.amber_rows.specs.Operators.{agg_value, agg_values, first_keys, greatest_of, group_result, least_of, pick_cells, refused_keys, total_of}
use Rattle.amber_rows.specs.declared.agg.Agg.{Agg}
use Rattle.amber_rows.specs.declared.agg.Agg.TheVariants.{Count, Sum, Min, Max}
use Rattle.amber_rows.specs.declared.value.Value.{Value}
use Rattle.amber_rows.specs.declared.value.Value.TheVariants.{Text}
use Rattle.amber_keys.proofs.ExampleRows.{Rows, a, accented, b, c, decomposed, int, key_count, minus, one, three, two, w, x, y}

unfoldable groups_on_literals : ⊤
unfolding pick_cells first_keys group_result refused_keys total_of least_of greatest_of agg_value agg_values
groups_on_literals = tt

-- the greatest number of 64 bits, and the least
abbrev greatest : Value
greatest = int 9223372036854775807

abbrev least : Value
least = minus 9223372036854775808

-- the rows of the groups and the refused keys
abbrev finished : List ℕ → List Agg → Rows → Rows × Rows
finished keys aggs rows = (group_result keys aggs rows, refused_keys keys aggs rows)

-- ---- the least and the greatest, of numbers and of texts

abbrev mixed : Rows
mixed = three b (int 5) x ∷ three a (int 1) y ∷ three b (minus 7) w ∷ three b (int 0) (Text (codes "wa")) ∷ []

least_and_greatest : finished (1 ∷ []) (Count ∷ Sum 2 ∷ Min 3 ∷ Max 3 ∷ Min 2 ∷ Max 2 ∷ []) mixed
    ≡ (
      (three b (int 3) (minus 2) ++ (two w x ++ two (minus 7) (int 5)))
          ∷ (three a (int 1) (int 1) ++ (two y y ++ two (int 1) (int 1))) ∷ [],
      [],
    )
unfolding groups_on_literals
least_and_greatest = refl

count_least_and_greatest : key_count (1 ∷ []) mixed ≡ 2
unfolding groups_on_literals
count_least_and_greatest = refl

-- ---- without key columns all rows are one group, and no row is no group

abbrev numbers : Rows
numbers = one (int 5) ∷ one (minus 3) ∷ one (int 9) ∷ []

no_key_column : finished [] (Count ∷ Min 1 ∷ Max 1 ∷ []) numbers ≡ (three (int 3) (minus 3) (int 9) ∷ [], [])
unfolding groups_on_literals
no_key_column = refl

count_no_key_column : key_count [] numbers ≡ 1
unfolding groups_on_literals
count_no_key_column = refl

no_key_column_and_no_row : finished [] (Count ∷ []) [] ≡ ([], [])
unfolding groups_on_literals
no_key_column_and_no_row = refl

count_no_key_column_and_no_row : key_count [] [] ≡ 0
unfolding groups_on_literals
count_no_key_column_and_no_row = refl

no_row : finished (1 ∷ []) (Count ∷ Sum 2 ∷ []) [] ≡ ([], [])
unfolding groups_on_literals
no_row = refl

count_no_row : key_count (1 ∷ []) [] ≡ 0
unfolding groups_on_literals
count_no_row = refl

-- ---- the key has the second column and then the first

abbrev pairs : Rows
pairs = two (int 1) a ∷ two (int 2) a ∷ two (int 1) a ∷ two (int 1) b ∷ []

keys_of_two_columns : finished (2 ∷ 1 ∷ []) (Count ∷ []) pairs
    ≡ (three a (int 1) (int 2) ∷ three a (int 2) (int 1) ∷ three b (int 1) (int 1) ∷ [], [])
unfolding groups_on_literals
keys_of_two_columns = refl

count_keys_of_two_columns : key_count (2 ∷ 1 ∷ []) pairs ≡ 3
unfolding groups_on_literals
count_keys_of_two_columns = refl

-- ---- sums that 64 bits do not hold at the end, and such that come back

abbrev too_far : Rows
too_far = two a greatest ∷ two b (int 1) ∷ two a (int 1) ∷ two c least ∷ two c (minus 1) ∷ []

sums_refused : finished (1 ∷ []) (Count ∷ Sum 2 ∷ []) too_far ≡ (three b (int 1) (int 1) ∷ [], one a ∷ one c ∷ [])
unfolding groups_on_literals
sums_refused = refl

count_sums_refused : key_count (1 ∷ []) too_far ≡ 3
unfolding groups_on_literals
count_sums_refused = refl

abbrev there_and_back : Rows
there_and_back = two a greatest ∷ two a (int 1) ∷ two a (minus 1) ∷ two b (int 2) ∷ two c least ∷ two c (minus 5) ∷ two c (int 5) ∷ []

sums_come_back : finished (1 ∷ []) (Sum 2 ∷ Max 2 ∷ []) there_and_back
    ≡ (three a greatest greatest ∷ three b (int 2) (int 2) ∷ three c least (int 5) ∷ [], [])
unfolding groups_on_literals
sums_come_back = refl

count_sums_come_back : key_count (1 ∷ []) there_and_back ≡ 3
unfolding groups_on_literals
count_sums_come_back = refl

-- ---- texts add nothing to a sum, and a column that no row of a group has gives no value

abbrev some_text : Rows
some_text = two a x ∷ two a (int 3) ∷ two b y ∷ []

texts_add_nothing : finished (1 ∷ []) (Sum 2 ∷ []) some_text ≡ (two a (int 3) ∷ two b (int 0) ∷ [], [])
unfolding groups_on_literals
texts_add_nothing = refl

count_texts_add_nothing : key_count (1 ∷ []) some_text ≡ 2
unfolding groups_on_literals
count_texts_add_nothing = refl

abbrev short : Rows
short = two a (int 1) ∷ three b (int 2) (int 9) ∷ []

no_such_column : finished (1 ∷ []) (Min 3 ∷ []) short ≡ (two b (int 9) ∷ [], one a ∷ [])
unfolding groups_on_literals
no_such_column = refl

count_no_such_column : key_count (1 ∷ []) short ≡ 2
unfolding groups_on_literals
count_no_such_column = refl

-- ---- texts are compared by their bytes alone, and no number equals a text

abbrev accents : Rows
accents = one accented ∷ one decomposed ∷ one accented ∷ one (Text (codes "E")) ∷ []

bytes_alone : finished (1 ∷ []) (Count ∷ []) accents
    ≡ (two accented (int 2) ∷ two decomposed (int 1) ∷ two (Text (codes "E")) (int 1) ∷ [], [])
unfolding groups_on_literals
bytes_alone = refl

count_bytes_alone : key_count (1 ∷ []) accents ≡ 3
unfolding groups_on_literals
count_bytes_alone = refl

abbrev ones : Rows
ones = one (int 1) ∷ one (Text (codes "1")) ∷ one (int 1) ∷ []

number_against_text : finished (1 ∷ []) (Count ∷ []) ones ≡ (two (int 1) (int 2) ∷ two (Text (codes "1")) (int 1) ∷ [], [])
unfolding groups_on_literals
number_against_text = refl

count_number_against_text : key_count (1 ∷ []) ones ≡ 2
unfolding groups_on_literals
count_number_against_text = refl
