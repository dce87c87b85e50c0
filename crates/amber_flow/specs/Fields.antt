-- What stands in a JSON value.
use Rattle.std.specs.Prelude.{ℕ, List, [], ◌∷◌, Option, option_and_then, option_map}
use Rattle.serde_json.specs.Data.{Data, Items, no_items, item}
use Rattle.serde_json.specs.Find.{as_array, as_str, at, get}
use Rattle.amber_rows.specs.Chain.{each}

-- the values of a list
abbrev pub values_of : Items → List Data
values_of no_items = []
values_of (item tree trees) = tree ∷ values_of trees

-- the text at a key of an object
abbrev pub text_at : List ℕ → Data → Option (List ℕ)
text_at key tree = option_and_then as_str (get key tree)

-- the list at a key of an object
abbrev pub array_at : List ℕ → Data → Option (List Data)
array_at key tree = option_map values_of (option_and_then as_array (get key tree))

-- the texts of the list at a key, where it has nothing else
abbrev pub texts_at : List ℕ → Data → Option (List (List ℕ))
texts_at key tree = option_and_then (each as_str) (array_at key tree)

-- the text at an index of a list
abbrev pub text_in : ℕ → Data → Option (List ℕ)
text_in index tree = option_and_then as_str (at index tree)
