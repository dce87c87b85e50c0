-- Lists of rows on literals: routes, joins, groups, projections.
use Rattle.std.proofs.Common.{◌≡◌, ℕ, ℤ, pos, negsuc, List, [], ◌∷◌, ◌++◌, length, codes, refl}
use Rattle.amber_rows.specs.declared.value.Value.{Value}
use Rattle.amber_rows.specs.declared.value.Value.TheVariants as value
use Rattle.amber_rows.specs.declared.agg.Agg.TheVariants as agg
use Rattle.amber_rows.specs.Operators.{group_result, join_result, project_result, refused_keys}
use Rattle.amber_rows.specs.Routing.{fnv_of, key_bytes_of, route_of}
use Rattle.amber_meaning.specs.Plain.{outputs}
use Rattle.std.specs.List.{sum_by}
use Rattle.amber_meaning.proofs.ExampleCases.{crews_on_literals, five, order, price, rows_on_literals, three, typed, with_prices}

-- ---- routes: the published values of FNV-1a, and the keys of the orders

hash_of_nothing : fnv_of [] ≡ 0xcbf29ce484222325
unfolding crews_on_literals
hash_of_nothing = refl

hash_of_a : fnv_of (codes "a") ≡ 0xaf63dc4c8601ec8c
unfolding crews_on_literals
hash_of_a = refl

hash_of_foobar : fnv_of (codes "foobar") ≡ 0x85944171f73967e8
unfolding crews_on_literals
hash_of_foobar = refl

key_of_a_text : key_bytes_of (2 ∷ []) (order 1 (codes "nut") 5) ≡ codes "t3:nut;"
unfolding crews_on_literals
key_of_a_text = refl

key_of_numbers : key_bytes_of (1 ∷ 2 ∷ []) (value.Int (negsuc 6) ∷ value.Int (pos 12) ∷ []) ≡ codes "i-7;i12;"
unfolding crews_on_literals
key_of_numbers = refl

-- where a key goes of sixteen workers, and of four
abbrev routes : List ℕ → List ℕ
routes key = route_of key 16 ∷ route_of key 4 ∷ []

route_of_nut : routes (codes "t3:nut;") ≡ 14 ∷ 2 ∷ []
unfolding crews_on_literals
route_of_nut = refl

route_of_bolt : routes (codes "t4:bolt;") ≡ 15 ∷ 3 ∷ []
unfolding crews_on_literals
route_of_bolt = refl

route_of_cog : routes (codes "t3:cog;") ≡ 2 ∷ 2 ∷ []
unfolding crews_on_literals
route_of_cog = refl

-- ---- a join of the orders with prices

abbrev priced : List (List Value)
priced =
    (order 1 (codes "nut") 5 ++ price (codes "nut") 3)
    ∷ (order 2 (codes "bolt") 12 ++ price (codes "bolt") 4) ∷ (order 2 (codes "bolt") 12 ++ price (codes "bolt") 9)
    ∷ (order 3 (codes "nut") 7 ++ price (codes "nut") 3)
    ∷ (order 5 (codes "bolt") 1 ++ price (codes "bolt") 4) ∷ (order 5 (codes "bolt") 1 ++ price (codes "bolt") 9) ∷ []

joined_with_prices : join_result (1 ∷ []) (2 ∷ []) three five ≡ priced
unfolding rows_on_literals
joined_with_prices = refl

-- three, five, six and six rows
rows_in_all : sum_by length (outputs (typed three ∷ typed five ∷ [] ∷ [] ∷ []) [] with_prices) ≡ 20
unfolding rows_on_literals outputs
rows_in_all = refl

-- ---- groups: a sum that leaves 64 bits on its way is refused only where it does at the end

abbrev entry : ℤ → List Value
entry amount = value.Text (codes "a") ∷ value.Int amount ∷ []

abbrev greatest : ℤ
greatest = pos 9223372036854775807

abbrev sums : List (List Value) → List (List Value)
sums rows = group_result (1 ∷ []) (agg.Sum 2 ∷ []) rows

abbrev no_sums : List (List Value) → List (List Value)
no_sums rows = refused_keys (1 ∷ []) (agg.Sum 2 ∷ []) rows

too_large : sums (entry greatest ∷ entry (pos 1) ∷ []) ≡ []
unfolding rows_on_literals
too_large = refl

refused_too_large : no_sums (entry greatest ∷ entry (pos 1) ∷ []) ≡ (value.Text (codes "a") ∷ []) ∷ []
unfolding rows_on_literals
refused_too_large = refl

back_in_time : sums (entry greatest ∷ entry (pos 1) ∷ entry (negsuc 0) ∷ []) ≡ entry greatest ∷ []
unfolding rows_on_literals
back_in_time = refl

never_too_large : sums (entry (negsuc 0) ∷ entry greatest ∷ entry (pos 1) ∷ []) ≡ entry greatest ∷ []
unfolding rows_on_literals
never_too_large = refl

none_refused : no_sums (entry greatest ∷ entry (pos 1) ∷ entry (negsuc 0) ∷ []) ≡ []
unfolding rows_on_literals
none_refused = refl

-- of no rows there is no group, not even without keys
no_group : group_result [] (agg.Count ∷ []) [] ≡ []
unfolding rows_on_literals
no_group = refl

-- ---- a projection to `item` and `qty`

abbrev thing : List ℕ → ℕ → List Value
thing item qty = value.Text item ∷ value.Int (pos qty) ∷ []

projected_things : project_result (2 ∷ 3 ∷ []) five
    ≡ thing (codes "nut") 5 ∷ thing (codes "bolt") 12 ∷ thing (codes "nut") 7 ∷ thing (codes "cog") 12 ∷ thing (codes "bolt") 1 ∷ []
unfolding rows_on_literals
projected_things = refl
