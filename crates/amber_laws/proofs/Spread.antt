-- Rows dealt out by their keys: the groups and the matches of the parts are together those of the whole.
use Rattle.std.proofs.Common.{◌≡◌, ℕ, not, cond, eqb, Bool, true, false, Option, option_map, List, [], ◌∷◌, ◌++◌, map, filter, refl, sym, ◌∙◌, ap}
use Rattle.std.specs.List.{filter_map, flat_map, list_all}
use Rattle.std.proofs.lemmas.Bool.{and_from, and_parts, both_ways}
use Rattle.std.proofs.lemmas.Grind.{flat_map-append}
use Rattle.std.proofs.lemmas.List.Elements.{filter_map-append}
use Rattle.amber_rows.specs.Operators.{agg_values, first_keys, group_result, join_result, key_if_none, matches_of, pick_cells, refused_keys, rows_with, same_row}
use Rattle.amber_rows.specs.declared.agg.Agg.{Agg}
use Rattle.amber_rows.specs.declared.value.Value.{Value}
use Rattle.amber_meaning.proofs.Numbers.{among, are_different}
use Rattle.amber_laws.proofs.Bags.{Same, Join, equal-among, same-dealt, same-filter_map, same-flat_map, same-is, sent_to}
use Rattle.amber_laws.proofs.Grouping.{filter-turn, keys-are}
use Rattle.amber_laws.proofs.Suited.{all-kept}

abbrev Row : Type 0
Row = List Value

-- ---- filters and what is made of each element

-- a filter whose elements all pass another
filter_both : {A : Type 0} (p q : A → Bool) → ((x : A) → p x ≡ true → q x ≡ true) → (xs : List A) → filter p (filter q xs) ≡ filter p xs
filter_both p q h [] = refl
filter_both p q h (x ∷ xs) = by (q x) (p x) refl refl (filter_both p q h xs)
  where
    by : (b c : Bool) → q x ≡ b → p x ≡ c → filter p (filter q xs) ≡ filter p xs → filter p (cond b (x ∷ filter q xs) (filter q xs)) ≡ cond c (x ∷ filter p xs) (filter p xs)
    by true true e f rest = rw f (ap (λ l. x ∷ l) rest)
    by true false e f rest = rw f rest
    by false true e f rest = absurd (both_ways (q x) e (h x f))
    by false false e f rest = rest

map_kept : {A B : Type 0} (f g : A → Option B) (p : A → Bool) → ((x : A) → p x ≡ true → f x ≡ g x) → (xs : List A) → filter_map f (filter p xs) ≡ filter_map g (filter p xs)
map_kept f g p h [] = refl
map_kept f g p h (x ∷ xs) = by (p x) refl (map_kept f g p h xs)
  where
    by : (b : Bool) → p x ≡ b → filter_map f (filter p xs) ≡ filter_map g (filter p xs)
        → filter_map f (cond b (x ∷ filter p xs) (filter p xs)) ≡ filter_map g (cond b (x ∷ filter p xs) (filter p xs))
    by true e rest = rw (h x e, rest) refl
    by false e rest = rest

flat_kept : {A B : Type 0} (f g : A → List B) (p : A → Bool) → ((x : A) → p x ≡ true → f x ≡ g x) → (xs : List A) → flat_map f (filter p xs) ≡ flat_map g (filter p xs)
flat_kept f g p h [] = refl
flat_kept f g p h (x ∷ xs) = by (p x) refl (flat_kept f g p h xs)
  where
    by : (b : Bool) → p x ≡ b → flat_map f (filter p xs) ≡ flat_map g (filter p xs)
        → flat_map f (cond b (x ∷ filter p xs) (filter p xs)) ≡ flat_map g (cond b (x ∷ filter p xs) (filter p xs))
    by true e rest = rw (h x e, rest) refl
    by false e rest = rest

pub flat-flat : {A B C : Type 0} (f : B → List C) (g : A → List B) (xs : List A) → flat_map (λ x. flat_map f (g x)) xs ≡ flat_map f (flat_map g xs)
flat-flat f g [] = refl
flat-flat f g (x ∷ xs) = ap (λ l. flat_map f (g x) ++ l) (flat-flat f g xs) ∙ sym (flat_map-append f (g x) (flat_map g xs))

pub found-flat : {A B C : Type 0} (f : B → Option C) (g : A → List B) (xs : List A) → flat_map (λ x. filter_map f (g x)) xs ≡ filter_map f (flat_map g xs)
found-flat f g [] = refl
found-flat f g (x ∷ xs) = ap (λ l. filter_map f (g x) ++ l) (found-flat f g xs) ∙ sym (filter_map-append f (g x) (flat_map g xs))

-- ---- groups

-- what is made of each key and the rows with it
abbrev pub gathered : (Row → List Row → Option Row) → List ℕ → List Row → List Row
gathered make keys rows = filter_map (λ key. make key (rows_with keys rows key)) (first_keys keys rows)

-- the number to which a row goes by its key
abbrev pub by_key : (Row → ℕ) → List ℕ → Row → ℕ
by_key route keys row = route (pick_cells keys row)

keys_sent_by : (route : Row → ℕ) (key : Row) (found : List Row) (n : ℕ) (b : Bool) → eqb (route key) n ≡ b
    → cond b (key ∷ filter (λ other. not (same_row other key)) (sent_to route found n)) (sent_to route found n)
    ≡ cond b (key ∷ sent_to route (filter (λ other. not (same_row other key)) found) n) (sent_to route (filter (λ other. not (same_row other key)) found) n)
keys_sent_by route key found n true e = ap (λ l. key ∷ l) (filter-turn (λ other. not (same_row other key)) (λ other. eqb (route other) n) found)
keys_sent_by route key found n false e =
    sym (filter_both (λ other. eqb (route other) n) (λ other. not (same_row other key))
    (λ other goes. by other goes (same_row other key) refl) found)
  where
    by : (other : Row) → eqb (route other) n ≡ true → (b : Bool) → same_row other key ≡ b → not b ≡ true
    by other goes true s = absurd (both_ways (eqb (route key) n) e (ap (λ k. eqb (route k) n) (sym (keys-are other key s)) ∙ goes))
    by other goes false s = refl

-- the keys of the rows that go to a number are the keys that do
keys-sent : (route : Row → ℕ) (keys : List ℕ) (rows : List Row) (n : ℕ)
    → first_keys keys (sent_to (by_key route keys) rows n) ≡ sent_to route (first_keys keys rows) n
unfolding first_keys
keys-sent route keys [] n = refl
keys-sent route keys (row ∷ rows) n =
    by (eqb (route (pick_cells keys row)) n) (keys-sent route keys rows n) ∙ keys_sent_by route (pick_cells keys row) (first_keys keys rows) n (eqb (route (pick_cells keys row)) n) refl
  where
    by : (b : Bool) → first_keys keys (sent_to (by_key route keys) rows n) ≡ sent_to route (first_keys keys rows) n
        → first_keys keys (cond b (row ∷ sent_to (by_key route keys) rows n) (sent_to (by_key route keys) rows n))
        ≡ cond b (pick_cells keys row ∷ filter (λ other. not (same_row other (pick_cells keys row))) (sent_to route (first_keys keys rows) n)) (sent_to route (first_keys keys rows) n)
    by true e = ap (λ l. pick_cells keys row ∷ filter (λ other. not (same_row other (pick_cells keys row))) l) e
    by false e = e

keys_routed : (route : Row → ℕ) (keys : List ℕ) (ns : List ℕ) (rows : List Row) → list_all (λ row. among (by_key route keys row) ns) rows ≡ true
    → list_all (λ key. among (route key) ns) (first_keys keys rows) ≡ true
unfolding first_keys
keys_routed route keys ns [] h = refl
keys_routed route keys ns (row ∷ rows) h =
    let parts = and_parts (among (by_key route keys row) ns) (list_all (λ one. among (by_key route keys one) ns) rows) h in
    and_from (among (route (pick_cells keys row)) ns) (list_all (λ key. among (route key) ns) (filter (λ other. not (same_row other (pick_cells keys row))) (first_keys keys rows)))
    parts.0 (all-kept (λ key. among (route key) ns) (λ other. not (same_row other (pick_cells keys row))) (first_keys keys rows) (keys_routed route keys ns rows parts.1))

part_gathered : (make : Row → List Row → Option Row) (route : Row → ℕ) (keys : List ℕ) (rows : List Row) (n : ℕ)
    → gathered make keys (sent_to (by_key route keys) rows n) ≡ filter_map (λ key. make key (rows_with keys rows key)) (sent_to route (first_keys keys rows) n)
part_gathered make route keys rows n =
    ap (filter_map (λ key. make key (rows_with keys (sent_to (by_key route keys) rows n) key))) (keys-sent route keys rows n)
    ∙ map_kept (λ key. make key (rows_with keys (sent_to (by_key route keys) rows n) key)) (λ key. make key (rows_with keys rows key)) (λ key. eqb (route key) n)
    (λ key goes. ap (make key) (filter_both (λ row. same_row (pick_cells keys row) key) (λ row. eqb (by_key route keys row) n)
    (λ row same. ap (λ k. eqb (route k) n) (keys-are (pick_cells keys row) key same) ∙ goes) rows)) (first_keys keys rows)

-- what is made of the parts is what is made of the whole
pub gathered-spread : (make : Row → List Row → Option Row) (route : Row → ℕ) (keys : List ℕ) (ns : List ℕ) (rows : List Row) → are_different ns ≡ true
    → list_all (λ row. among (by_key route keys row) ns) rows ≡ true
    → Same (flat_map (λ n. gathered make keys (sent_to (by_key route keys) rows n)) ns) (gathered make keys rows)
gathered-spread make route keys ns rows d h =
    let one = λ (key : Row). make key (rows_with keys rows key) in
    let found = first_keys keys rows in
    Join (flat_map (λ n. gathered make keys (sent_to (by_key route keys) rows n)) ns) (filter_map one (flat_map (sent_to route found) ns)) (gathered make keys rows)
    (same-is _ _
    (equal-among (λ n. gathered make keys (sent_to (by_key route keys) rows n)) (λ n. filter_map one (sent_to route found n)) ns (λ n k. part_gathered make route keys rows n)
    ∙ found-flat one (sent_to route found) ns))
    (same-filter_map one (same-dealt route ns d found (keys_routed route keys ns rows h)))

pub group_result-spread : (keys : List ℕ) (aggs : List Agg) (route : Row → ℕ) (ns : List ℕ) (rows : List Row) → are_different ns ≡ true
    → list_all (λ row. among (by_key route keys row) ns) rows ≡ true
    → Same (flat_map (λ n. group_result keys aggs (sent_to (by_key route keys) rows n)) ns) (group_result keys aggs rows)
unfolding group_result
group_result-spread keys aggs route ns rows d h = gathered-spread (λ key same. option_map (λ cells. key ++ cells) (agg_values same aggs)) route keys ns rows d h

pub refused-spread : (keys : List ℕ) (aggs : List Agg) (route : Row → ℕ) (ns : List ℕ) (rows : List Row) → are_different ns ≡ true
    → list_all (λ row. among (by_key route keys row) ns) rows ≡ true
    → Same (flat_map (λ n. refused_keys keys aggs (sent_to (by_key route keys) rows n)) ns) (refused_keys keys aggs rows)
unfolding refused_keys
refused-spread keys aggs route ns rows d h =
    gathered-spread (λ key same. key_if_none key (option_map (λ cells. key ++ cells) (agg_values same aggs))) route keys ns rows d h

-- ---- joins

matches_sent : (route : Row → ℕ) (build_keys probe_keys : List ℕ) (build : List Row) (row : Row) (n : ℕ) → eqb (by_key route probe_keys row) n ≡ true
    → matches_of build_keys probe_keys (sent_to (by_key route build_keys) build n) row ≡ matches_of build_keys probe_keys build row
unfolding matches_of
matches_sent route build_keys probe_keys build row n goes =
    ap (map (λ other. row ++ other))
    (filter_both (λ other. same_row (pick_cells build_keys other) (pick_cells probe_keys row)) (λ other. eqb (by_key route build_keys other) n)
    (λ other same. ap (λ k. eqb (route k) n) (keys-are (pick_cells build_keys other) (pick_cells probe_keys row) same) ∙ goes) build)

pub join_result-spread : (build_keys probe_keys : List ℕ) (route : Row → ℕ) (ns : List ℕ) (build probe : List Row) → are_different ns ≡ true
    → list_all (λ row. among (by_key route probe_keys row) ns) probe ≡ true
    → Same (flat_map (λ n. join_result build_keys probe_keys (sent_to (by_key route build_keys) build n) (sent_to (by_key route probe_keys) probe n)) ns)
    (join_result build_keys probe_keys build probe)
unfolding join_result
join_result-spread build_keys probe_keys route ns build probe d h =
    let whole = matches_of build_keys probe_keys build in
    let parts = sent_to (by_key route probe_keys) probe in
    Join (flat_map (λ n. flat_map (matches_of build_keys probe_keys (sent_to (by_key route build_keys) build n)) (parts n)) ns) (flat_map whole (flat_map parts ns)) (flat_map whole probe)
    (same-is _ _
    (equal-among (λ n. flat_map (matches_of build_keys probe_keys (sent_to (by_key route build_keys) build n)) (parts n)) (λ n. flat_map whole (parts n)) ns
    (λ n k. flat_kept (matches_of build_keys probe_keys (sent_to (by_key route build_keys) build n)) whole (λ row. eqb (by_key route probe_keys row) n)
    (λ row goes. matches_sent route build_keys probe_keys build row n goes) probe)
    ∙ flat-flat whole parts ns))
    (same-flat_map whole (same-dealt (by_key route probe_keys) ns d probe h))
