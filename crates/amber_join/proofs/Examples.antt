-- Joins on literals, each named by what it shows.
use Rattle.std.specs.Prelude.{⊤}
use Rattle.std.proofs.Common.{◌≡◌, [], ◌∷◌, codes, refl}
use Rattle.amber_rows.specs.Operators.{first_keys, join_result, matches_of, pick_cells}
use Rattle.amber_rows.specs.declared.value.Value.{Value}
use Rattle.amber_rows.specs.declared.value.Value.TheVariants.{Text}
use Rattle.amber_keys.proofs.ExampleRows.{Row, Rows, a, accented, b, decomposed, int, key_count, minus, one, three, two, x, y, z}

unfoldable joins_on_literals : ⊤
unfolding pick_cells matches_of join_result first_keys
joins_on_literals = tt

abbrev five : Value → Value → Value → Value → Value → Row
five c d e f g = c ∷ d ∷ three e f g

-- ---- the first two columns of a build row are the second and the first of a probe row

abbrev pairs : Rows
pairs = three (int 1) a (int 10) ∷ three (int 1) b (int 20) ∷ three (int 2) a (int 30) ∷ []

keys_of_two_columns : join_result (1 ∷ 2 ∷ []) (2 ∷ 1 ∷ []) pairs (two b (int 1) ∷ two a (int 2) ∷ two a (int 3) ∷ [])
    ≡ five b (int 1) (int 1) b (int 20) ∷ five a (int 2) (int 2) a (int 30) ∷ []
unfolding joins_on_literals
keys_of_two_columns = refl

count_keys_of_two_columns : key_count (1 ∷ 2 ∷ []) pairs ≡ 3
unfolding joins_on_literals
count_keys_of_two_columns = refl

-- ---- equal keys on both sides: the matches of each probe row stand in the order of the build rows

abbrev repeated : Rows
repeated = two (int 7) x ∷ two (int 8) y ∷ two (int 7) z ∷ two (int 7) x ∷ []

abbrev sevens : Rows
sevens = three (int 7) (int 7) x ∷ three (int 7) (int 7) z ∷ three (int 7) (int 7) x ∷ []

duplicates_on_both_sides : join_result (1 ∷ []) (1 ∷ []) repeated (one (int 7) ∷ one (int 8) ∷ one (int 7) ∷ [])
    ≡ three (int 7) (int 7) x ∷ three (int 7) (int 7) z ∷ three (int 7) (int 7) x ∷ three (int 8) (int 8) y ∷ sevens
unfolding joins_on_literals
duplicates_on_both_sides = refl

count_duplicates_on_both_sides : key_count (1 ∷ []) repeated ≡ 2
unfolding joins_on_literals
count_duplicates_on_both_sides = refl

-- ---- sides that share no key, and sides with no row

abbrev lone : Rows
lone = one (int 1) ∷ one (int 2) ∷ one (minus 3) ∷ []

no_match : join_result (1 ∷ []) (1 ∷ []) lone (one (int 3) ∷ one (int 12) ∷ one (minus 1) ∷ []) ≡ []
unfolding joins_on_literals
no_match = refl

count_no_match : key_count (1 ∷ []) lone ≡ 3
unfolding joins_on_literals
count_no_match = refl

no_build_row : join_result (1 ∷ []) (1 ∷ []) [] (one (int 1) ∷ one a ∷ []) ≡ []
unfolding joins_on_literals
no_build_row = refl

count_no_build_row : key_count (1 ∷ []) [] ≡ 0
unfolding joins_on_literals
count_no_build_row = refl

no_probe_row : join_result (1 ∷ []) (1 ∷ []) (one (int 1) ∷ one (int 2) ∷ one (int 1) ∷ []) [] ≡ []
unfolding joins_on_literals
no_probe_row = refl

count_no_probe_row : key_count (1 ∷ []) (one (int 1) ∷ one (int 2) ∷ one (int 1) ∷ []) ≡ 2
unfolding joins_on_literals
count_no_probe_row = refl

-- ---- with no columns of keys each row matches each

no_key_column : join_result [] [] (one (int 1) ∷ one (int 2) ∷ []) (one a ∷ one b ∷ [])
    ≡ two a (int 1) ∷ two a (int 2) ∷ two b (int 1) ∷ two b (int 2) ∷ []
unfolding joins_on_literals
no_key_column = refl

count_no_key_column : key_count [] (one (int 1) ∷ one (int 2) ∷ []) ≡ 1
unfolding joins_on_literals
count_no_key_column = refl

-- ---- texts are compared by their bytes alone, and no number equals a text

abbrev accents : Rows
accents = two accented (int 1) ∷ two decomposed (int 2) ∷ two (Text (codes "e")) (int 3) ∷ []

bytes_alone : join_result (1 ∷ []) (1 ∷ []) accents (one decomposed ∷ one accented ∷ one (Text (codes "E")) ∷ [])
    ≡ three decomposed decomposed (int 2) ∷ three accented accented (int 1) ∷ []
unfolding joins_on_literals
bytes_alone = refl

count_bytes_alone : key_count (1 ∷ []) accents ≡ 3
unfolding joins_on_literals
count_bytes_alone = refl

abbrev ones : Rows
ones = two (Text (codes "number")) (int 1) ∷ two (Text (codes "text")) (Text (codes "1")) ∷ []

number_against_text : join_result (2 ∷ []) (1 ∷ []) ones (one (Text (codes "1")) ∷ one (int 1) ∷ [])
    ≡ three (Text (codes "1")) (Text (codes "text")) (Text (codes "1")) ∷ three (int 1) (Text (codes "number")) (int 1) ∷ []
unfolding joins_on_literals
number_against_text = refl

count_number_against_text : key_count (2 ∷ []) ones ≡ 2
unfolding joins_on_literals
count_number_against_text = refl
