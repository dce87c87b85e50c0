-- The words of a line.
use Rattle.std.specs.Prelude.{ℕ, ◌==◌, ◌||◌, List, [], ◌∷◌, Option, Some, None, option_map, option_and_then, Bool, if◌then◌else◌}
use Rattle.std.specs.List.{onto_first}
use Rattle.amber_script.specs.declared.place.Place.{Place}
use Rattle.amber_script.specs.declared.place.Place.TheVariants.{Between, Bare, Quoted, Escape, Closed}

-- a space or a tab
abbrev pub is_blank : ℕ → Bool
is_blank byte = (byte == 32) || (byte == 9)

-- what stands for itself or for another byte after a backslash: a quote, a backslash, a line feed as `n`, a carriage return as `r`
abbrev pub byte_of_escape : ℕ → Option ℕ
byte_of_escape byte =
    if byte == 34 then Some 34
    else if byte == 92 then Some 92
    else if byte == 110 then Some 10
    else if byte == 114 then Some 13
    else None

-- the words of a line's rest, which begins between words, inside a bare or a quoted word, after a backslash, or
-- after the quote that closes a word; of a word that has begun, what is left. None where a quote or a backslash
-- stands wrong
unfoldable pub words_from : Place → List ℕ → Option (List (List ℕ))
words_from Between [] = Some []
words_from Between (byte ∷ bytes) =
    if is_blank byte then words_from Between bytes
    else if byte == 34 then words_from Quoted bytes
    else option_map (onto_first byte) (words_from Bare bytes)
words_from Bare [] = Some ([] ∷ [])
words_from Bare (byte ∷ bytes) =
    if is_blank byte then option_map (λ words. [] ∷ words) (words_from Between bytes)
    else if byte == 34 then None
    else option_map (onto_first byte) (words_from Bare bytes)
words_from Quoted [] = None
words_from Quoted (byte ∷ bytes) =
    if byte == 34 then words_from Closed bytes
    else if byte == 92 then words_from Escape bytes
    else option_map (onto_first byte) (words_from Quoted bytes)
words_from Escape [] = None
words_from Escape (byte ∷ bytes) = option_and_then (λ meant. option_map (onto_first meant) (words_from Quoted bytes)) (byte_of_escape byte)
words_from Closed [] = Some ([] ∷ [])
words_from Closed (byte ∷ bytes) = if is_blank byte then option_map (λ words. [] ∷ words) (words_from Between bytes) else None

-- the words of a line
abbrev pub script_words_of : List ℕ → Option (List (List ℕ))
script_words_of line = words_from Between line
