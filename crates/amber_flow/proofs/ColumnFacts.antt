-- Columns that are read one after the other.
use Rattle.std.proofs.Common.{◌≡◌, ℕ, ◌+◌, ◌<◌, ◌≤◌, List, [], ◌∷◌, ◌++◌, length, map, get_or, drop, Result, Ok, Err, true, false, ◌||◌, bytes_eq, is_some, refl, ◌∙◌, sym, ap, append_assoc, append-nil, arith, drop-cons, suc}
use Rattle.std.proofs.lemmas.List.{drop_all}
use Rattle.std.specs.List.{list_all, list_any, position}
use Rattle.serde_json.specs.View.{view}
use Rattle.serde_json.specs.declared.value.Value.{Value}
use Rattle.amber_rows.specs.Columns.{names_of, are_apart, is_among, is_column_name}
use Rattle.amber_rows.specs.declared.column.Column.{Column}
use Rattle.amber_rows.specs.Chain.{◌>>=◌}
use Rattle.amber_flow.specs.Columns.{column_of, columns_of}
use Rattle.amber_flow.specs.declared.error.FlowWhy.{FlowWhy}
use Rattle.amber_flow.proofs.ListFacts.{and-true, place-any}

-- these columns before the others, or the reason why there are none
abbrev pub columns_after : List Column → Result (List Column) FlowWhy → Result (List Column) FlowWhy
columns_after done (Ok more) = Ok (done ++ more)
columns_after done (Err why) = Err why

columns_after-push : (done : List Column) (x : Column) (rest : Result (List Column) FlowWhy) → columns_after done (rest >>= (λ columns. Ok (x ∷ columns))) ≡ columns_after (done ++ x ∷ []) rest
columns_after-push done x (Ok more) = ap Ok (sym (append_assoc done (x ∷ []) more))
columns_after-push done x (Err why) = refl

pub trees-drop : (trees : List Value) (i : ℕ) (x : Value) → i < length trees → x ≡ get_or trees i x → map view (drop i trees) ≡ view x ∷ map view (drop (i + 1) trees)
trees-drop trees i x h is =
    let next : i + 1 ≡ suc i = omega arith in
    rw (next, drop-cons trees i x, ← is)

pub columns-more : (trees : List Value) (i : ℕ) (tree : Value) (done : List Column) (x : Column) → i < length trees → tree ≡ get_or trees i tree → Ok x ≡ column_of (view tree)
    → columns_after done (columns_of (map view (drop i trees))) ≡ columns_after (done ++ x ∷ []) (columns_of (map view (drop (i + 1) trees)))
unfolding columns_of
columns-more trees i tree done x h is read =
    rw (trees-drop trees i tree h is, ← read) (columns_after-push done x (columns_of (map view (drop (i + 1) trees))))

pub columns-stop : (trees : List Value) (i : ℕ) (tree : Value) (done : List Column) (why : FlowWhy) → i < length trees → tree ≡ get_or trees i tree → Err why ≡ column_of (view tree)
    → columns_after done (columns_of (map view (drop i trees))) ≡ Err why
unfolding columns_of
columns-stop trees i tree done why h is read = rw (trees-drop trees i tree h is, ← read)

pub names-push : (done : List Column) (x : Column) → list_all is_column_name (names_of done) ≡ true → is_column_name x.name ≡ true → list_all is_column_name (names_of (done ++ x ∷ [])) ≡ true
names-push [] x all named = rw named
names-push (first ∷ done) x all named =
    let parts = and-true (is_column_name first.name) (list_all is_column_name (names_of done)) all in
    rw (parts.0, names-push done x parts.1 named)

pub columns-end : (trees : List Value) (i : ℕ) (done : List Column) → length trees ≤ i → columns_after done (columns_of (map view (drop i trees))) ≡ Ok done
unfolding columns_of
columns-end trees i done h = rw (drop_all i trees h, append-nil done)

pub apart-more : (columns : List Column) (i : ℕ) (x : Column) (later : List Column) → i < length columns → x ≡ get_or columns i x → later ≡ drop (i + 1) columns → false ≡ is_among x.name (names_of later)
    → are_apart (names_of (drop i columns)) ≡ are_apart (names_of (drop (i + 1) columns))
unfolding are_apart
apart-more columns i x later h is rest new =
    let next : i + 1 ≡ suc i = omega arith in
    let fresh : false ≡ is_among x.name (names_of (drop (suc i) columns)) = rw (rest, next) at new in
    rw (next, drop-cons columns i x, ← is, ← fresh)

pub apart-stop : (columns : List Column) (i : ℕ) (x : Column) (later : List Column) → i < length columns → x ≡ get_or columns i x → later ≡ drop (i + 1) columns → true ≡ is_among x.name (names_of later)
    → are_apart (names_of (drop i columns)) ≡ false
unfolding are_apart
apart-stop columns i x later h is rest old =
    let next : i + 1 ≡ suc i = omega arith in
    let taken : true ≡ is_among x.name (names_of (drop (suc i) columns)) = rw (rest, next) at old in
    rw (drop-cons columns i x, ← is, ← taken)

pub apart-end : (columns : List Column) (i : ℕ) → length columns ≤ i → are_apart (names_of (drop i columns)) ≡ true
unfolding are_apart
apart-end columns i h = rw (drop_all i columns h)

-- a column has this name where one is found
pub named-found : (name : List ℕ) (columns : List Column) → is_some (position (λ column. bytes_eq column.name name) columns) ≡ is_among name (names_of columns)
named-found name columns = place-any (λ column. bytes_eq column.name name) columns ∙ names_any columns
  where
    names_any : (columns : List Column) → list_any (λ column. bytes_eq column.name name) columns ≡ is_among name (names_of columns)
    names_any [] = refl
    names_any (column ∷ columns) = ap (λ rest. bytes_eq column.name name || rest) (names_any columns)
