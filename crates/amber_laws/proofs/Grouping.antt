-- The groups of rows, and the keys that are refused, do not depend on the order of the rows.
use Rattle.std.proofs.Common.{◌≡◌, ℕ, ◌+ℤ◌, List, [], ◌∷◌, ◌++◌, filter, pos, Option, Some, None, option_map, Bool, true, false, not, cond, refl, sym, ap, ◌∙◌, arith}
use Rattle.std.specs.List.{filter_map}
use Rattle.std.specs.Ordering.{is_eq, is_gt, is_lt, ordering_reverse}
use Rattle.std.specs.declared.cmp.Ordering.{Ordering}
use Rattle.std.specs.declared.cmp.Ordering.TheVariants.{Less, Equal, Greater}
use Rattle.std.specs.FinMap.{int_cmp-IsAntisymmetric, nat_cmp-IsAntisymmetric, slice_cmp-IsAntisymmetric}
use Rattle.std.proofs.lemmas.Bool.{false≢true}
use Rattle.std.proofs.lemmas.Cmp.{tied_itself, upto}
use Rattle.std.proofs.lemmas.Int.{ints}
use Rattle.amber_rows.proofs.Sorting.{row-same}
use Rattle.amber_rows.specs.Lists.{nth}
use Rattle.amber_rows.specs.Operators.{agg_value, agg_values, cells_at, first_keys, greatest_of, greatest_value, group_row, group_result, int_value, key_if_none, least_of, least_value, number_of, pick_cells, refused_keys, same_row, total_of}
use Rattle.amber_rows.specs.Order.{row_cmp, value_cmp}
use Rattle.amber_rows.specs.OrderLaws.{row-total, value-total}
use Rattle.amber_rows.specs.declared.agg.Agg.{Agg}
use Rattle.amber_rows.specs.declared.agg.Agg.TheVariants.{Count, Sum, Min, Max}
use Rattle.amber_rows.specs.declared.value.Value.{Value}
use Rattle.amber_rows.specs.declared.value.Value.TheVariants.{Int, Text}
use Rattle.amber_laws.proofs.Bags.{Same, Empty, Keep, Turn, Join, same-filter, same-filter_map, same-length, same-self}

-- ---- keys that are equal

equal_from : (o : Ordering) → is_eq o ≡ true → o ≡ Equal
equal_from Less h = cc
equal_from Equal h = refl
equal_from Greater h = cc

pub keys-are : (x y : List Value) → same_row x y ≡ true → x ≡ y
keys-are x y e = row-same x y (equal_from (row_cmp x y) e)

pub key-itself : (x : List Value) → same_row x x ≡ true
key-itself x = ap is_eq (tied_itself row-total x)

pub filter-turn : {A : Type 0} (p q : A → Bool) (xs : List A) → filter p (filter q xs) ≡ filter q (filter p xs)
filter-turn p q [] = refl
filter-turn p q (x ∷ xs) = by (p x) (q x) refl refl (filter-turn p q xs)
  where
    by : (a b : Bool) → p x ≡ a → q x ≡ b → filter p (filter q xs) ≡ filter q (filter p xs)
        → filter p (cond b (x ∷ filter q xs) (filter q xs)) ≡ filter q (cond a (x ∷ filter p xs) (filter p xs))
    by true true e f h = rw (e, f) (ap (λ l. x ∷ l) h)
    by true false e f h = rw f h
    by false true e f h = rw e h
    by false false e f h = h

others : List Value → List (List Value) → List (List Value)
others key keys = filter (λ other. not (same_row other key)) keys

turn-keys : (k l : List Value) (keys : List (List Value)) (a b : Bool) → same_row l k ≡ a → same_row k l ≡ b
    → Same (k ∷ cond (not a) (l ∷ others k (others l keys)) (others k (others l keys))) (l ∷ cond (not b) (k ∷ others l (others k keys)) (others l (others k keys)))
unfolding others
turn-keys k l keys true true e f = rw (keys-are l k e) (same-self _)
turn-keys k l keys true false e f =
    let same : l ≡ k = keys-are l k e in
    absurd (false≢true (sym f ∙ rw same (key-itself k)))
turn-keys k l keys false true e f =
    let same : k ≡ l = keys-are k l f in
    absurd (false≢true (sym e ∙ rw same (key-itself l)))
turn-keys k l keys false false e f =
    rw (filter-turn (λ other. not (same_row other k)) (λ other. not (same_row other l)) keys) (Turn k l _)

pub first_keys-same : (keys : List ℕ) {xs ys : List (List Value)} → Same xs ys → Same (first_keys keys xs) (first_keys keys ys)
unfolding first_keys others
first_keys-same keys Empty = Empty
first_keys-same keys (Keep x xs ys h) = Keep (pick_cells keys x) _ _ (same-filter (λ key. not (same_row key (pick_cells keys x))) (first_keys-same keys h))
first_keys-same keys (Turn x y xs) = turn-keys (pick_cells keys x) (pick_cells keys y) (first_keys keys xs) _ _ refl refl
first_keys-same keys (Join xs ys zs h k) = Join (first_keys keys xs) (first_keys keys ys) (first_keys keys zs) (first_keys-same keys h) (first_keys-same keys k)

-- ---- sums

total-same : {xs ys : List Value} → Same xs ys → total_of xs ≡ total_of ys
unfolding total_of
total-same Empty = refl
total-same (Keep x xs ys h) = ap (λ n. number_of x +ℤ n) (total-same h)
total-same (Turn x y xs) = omega (arith, ints)
total-same (Join xs ys zs h k) = total-same h ∙ total-same k

-- ---- the least and the greatest

value_same : (x y : Value) → value_cmp x y ≡ Equal → x ≡ y
value_same (Int m) (Int n) e = ap Int (int_cmp-IsAntisymmetric m n e)
value_same (Int m) (Text t) e = cc
value_same (Text s) (Int n) e = cc
value_same (Text s) (Text t) e = ap Text (slice_cmp-IsAntisymmetric nat_cmp-IsAntisymmetric s t e)

-- a test by which one of two values is the better
record IsBetter (better : Value → Value → Bool) : Type 0 where
  far : (x y z : Value) → better x y ≡ true → better y z ≡ true → better x z ≡ true
  near : (x y z : Value) → better x y ≡ false → better y z ≡ false → better x z ≡ false
  tied : (x y : Value) → better x y ≡ false → better y x ≡ false → x ≡ y
  one_way : (x y : Value) → better x y ≡ true → better y x ≡ false

-- the better one, the first where none is
abbrev pick : (Value → Value → Bool) → Value → Value → Value
pick better x y = cond (better y x) y x

abbrev best_of : (Value → Value → Bool) → Value → List Value → Value
best_of better best [] = best
best_of better best (cell ∷ cells) = best_of better (pick better best cell) cells

pick-turn : (better : Value → Value → Bool) → IsBetter better → (x y : Value) → pick better x y ≡ pick better y x
pick-turn better is x y = by (better y x) (better x y) refl refl
  where
    by : (a b : Bool) → better y x ≡ a → better x y ≡ b → cond a y x ≡ cond b x y
    by true true e f = absurd (false≢true (sym (is.one_way y x e) ∙ f))
    by true false e f = refl
    by false true e f = refl
    by false false e f = is.tied x y f e

pick-join : (better : Value → Value → Bool) → IsBetter better → (x y z : Value) → pick better (pick better x y) z ≡ pick better x (pick better y z)
pick-join better is x y z = by (better y x) (better z y) (better z x) refl refl refl
  where
    by : (a b c : Bool) → better y x ≡ a → better z y ≡ b → better z x ≡ c
        → cond (better z (cond a y x)) z (cond a y x) ≡ cond (better (cond b z y) x) (cond b z y) x
    by true true true e f g = rw (f, g) refl
    by true true false e f g = absurd (false≢true (sym g ∙ is.far z y x f e))
    by true false c e f g = rw (f, e) refl
    by false true c e f g = refl
    by false false true e f g = absurd (false≢true (sym (is.near z y x f e) ∙ g))
    by false false false e f g = rw (g, e) refl

best-same : (better : Value → Value → Bool) → IsBetter better → (best : Value) {xs ys : List Value} → Same xs ys → best_of better best xs ≡ best_of better best ys
best-same better is best Empty = refl
best-same better is best (Keep x xs ys h) = best-same better is (pick better best x) h
best-same better is best (Turn x y xs) =
    ap (λ one. best_of better one xs)
    (pick-join better is best x y ∙ ap (λ one. pick better best one) (pick-turn better is x y) ∙ sym (pick-join better is best y x))
best-same better is best (Join xs ys zs h k) = best-same better is best h ∙ best-same better is best k

abbrev best_value : (Value → Value → Bool) → List Value → Option Value
best_value better [] = None
best_value better (cell ∷ cells) = Some (best_of better cell cells)

best_value-same : (better : Value → Value → Bool) → IsBetter better → {xs ys : List Value} → Same xs ys → best_value better xs ≡ best_value better ys
best_value-same better is Empty = refl
best_value-same better is (Keep x xs ys h) = ap Some (best-same better is x h)
best_value-same better is (Turn x y xs) = ap (λ one. Some (best_of better one xs)) (pick-turn better is x y)
best_value-same better is (Join xs ys zs h k) = best_value-same better is h ∙ best_value-same better is k

less_from : (o : Ordering) → is_lt o ≡ true → o ≡ Less
less_from Less h = refl
less_from Equal h = cc
less_from Greater h = cc

gt-back : (o : Ordering) → is_gt (ordering_reverse o) ≡ is_lt o
gt-back Less = refl
gt-back Equal = refl
gt-back Greater = refl

not_both : (o : Ordering) → is_lt o ≡ true → is_lt (ordering_reverse o) ≡ false
not_both Less h = refl
not_both Equal h = cc
not_both Greater h = cc

equal_if : (o : Ordering) → is_lt o ≡ false → is_lt (ordering_reverse o) ≡ false → o ≡ Equal
equal_if Less h k = cc
equal_if Equal h k = refl
equal_if Greater h k = cc

less : Value → Value → Bool
less x y = is_lt (value_cmp x y)

more : Value → Value → Bool
more x y = is_gt (value_cmp x y)

gt-is : (x y : Value) → is_gt (value_cmp x y) ≡ is_lt (value_cmp y x)
gt-is x y = ap is_gt (value-total.antisymm x y) ∙ gt-back (value_cmp y x)

less-near : (x y z : Value) → is_lt (value_cmp x y) ≡ false → is_lt (value_cmp y z) ≡ false → is_lt (value_cmp x z) ≡ false
less-near x y z e f = sym (gt-is z x) ∙ upto value-total z y x (gt-is z y ∙ f) (gt-is y x ∙ e)

less-better : IsBetter less
unfolding less
less-better = record {
  far = λ x y z e f. ap is_lt (value-total.trans x y z (less_from _ e) (less_from _ f));
  near = less-near;
  tied = λ x y e f. value_same x y (equal_if (value_cmp x y) e (ap is_lt (sym (value-total.antisymm y x)) ∙ f));
  one_way = λ x y e. ap is_lt (value-total.antisymm y x) ∙ not_both (value_cmp x y) e;
}

more-better : IsBetter more
unfolding less more
more-better = record {
  far = λ x y z e f. gt-is x z ∙ less-better.far z y x (sym (gt-is y z) ∙ f) (sym (gt-is x y) ∙ e);
  near = λ x y z e f. gt-is x z ∙ less-near z y x (sym (gt-is y z) ∙ f) (sym (gt-is x y) ∙ e);
  tied = λ x y e f. less-better.tied x y (sym (gt-is y x) ∙ f) (sym (gt-is x y) ∙ e);
  one_way = λ x y e. gt-is y x ∙ less-better.one_way y x (sym (gt-is x y) ∙ e);
}

least-is : (best : Value) (cells : List Value) → least_of best cells ≡ best_of less best cells
unfolding least_of less
least-is best [] = refl
least-is best (cell ∷ cells) = least-is (pick less best cell) cells

greatest-is : (best : Value) (cells : List Value) → greatest_of best cells ≡ best_of more best cells
unfolding greatest_of more
greatest-is best [] = refl
greatest-is best (cell ∷ cells) = greatest-is (pick more best cell) cells

least_value-is : (cells : List Value) → least_value cells ≡ best_value less cells
least_value-is [] = refl
least_value-is (cell ∷ cells) = ap Some (least-is cell cells)

greatest_value-is : (cells : List Value) → greatest_value cells ≡ best_value more cells
greatest_value-is [] = refl
greatest_value-is (cell ∷ cells) = ap Some (greatest-is cell cells)

-- ---- aggregates

cells-same : (column : ℕ) {xs ys : List (List Value)} → Same xs ys → Same (cells_at column xs) (cells_at column ys)
cells-same column h = same-filter_map (λ row. nth row column) h

agg-same : (agg : Agg) {xs ys : List (List Value)} → Same xs ys → agg_value xs agg ≡ agg_value ys agg
unfolding agg_value
agg-same Count h = ap (λ n. int_value (pos n)) (same-length h)
agg-same (Sum column) h = ap int_value (total-same (cells-same column h))
agg-same (Min column) {xs} {ys} h =
    least_value-is (cells_at column xs) ∙ best_value-same less less-better (cells-same column h) ∙ sym (least_value-is (cells_at column ys))
agg-same (Max column) {xs} {ys} h =
    greatest_value-is (cells_at column xs) ∙ best_value-same more more-better (cells-same column h) ∙ sym (greatest_value-is (cells_at column ys))

aggs-same : (aggs : List Agg) {xs ys : List (List Value)} → Same xs ys → agg_values xs aggs ≡ agg_values ys aggs
unfolding agg_values
aggs-same [] h = refl
aggs-same (agg ∷ aggs) h = rw (agg-same agg h, aggs-same aggs h) refl

pub group_row-same : (keys : List ℕ) (aggs : List Agg) (key : List Value) {xs ys : List (List Value)} → Same xs ys → group_row keys aggs xs key ≡ group_row keys aggs ys key
group_row-same keys aggs key h = ap (option_map (λ cells. key ++ cells)) (aggs-same aggs (same-filter (λ row. same_row (pick_cells keys row) key) h))

-- ---- groups

pub filter_map-same : {A B : Type 0} (f g : A → Option B) → ((x : A) → f x ≡ g x) → (xs : List A) → filter_map f xs ≡ filter_map g xs
filter_map-same f g h [] = refl
filter_map-same f g h (x ∷ xs) = rw (h x, filter_map-same f g h xs) refl

pub group_result-same : (keys : List ℕ) (aggs : List Agg) {xs ys : List (List Value)} → Same xs ys → Same (group_result keys aggs xs) (group_result keys aggs ys)
unfolding group_result
group_result-same keys aggs {xs} {ys} h =
    rw (filter_map-same (group_row keys aggs xs) (group_row keys aggs ys) (λ key. group_row-same keys aggs key h) (first_keys keys xs))
    (same-filter_map (group_row keys aggs ys) (first_keys-same keys h))

pub refused_keys-same : (keys : List ℕ) (aggs : List Agg) {xs ys : List (List Value)} → Same xs ys → Same (refused_keys keys aggs xs) (refused_keys keys aggs ys)
unfolding refused_keys
refused_keys-same keys aggs {xs} {ys} h =
    rw (filter_map-same (λ key. key_if_none key (group_row keys aggs xs key)) (λ key. key_if_none key (group_row keys aggs ys key))
    (λ key. ap (key_if_none key) (group_row-same keys aggs key h)) (first_keys keys xs))
    (same-filter_map (λ key. key_if_none key (group_row keys aggs ys key)) (first_keys-same keys h))
