-- Laws of the words of a line.
use Rattle.std.specs.Prelude.{◌≡◌, ℕ, ◌==◌, not, List, [], ◌∷◌, ◌++◌, Some, Bool, true, false, if◌then◌else◌}
use Rattle.std.specs.List.{filter, flat_map, list_all, slice_split}
use Rattle.amber_script.specs.Words.{is_blank, script_words_of}

-- a byte as it stands between quotes
abbrev pub escape_of : ℕ → List ℕ
escape_of byte =
    if byte == 34 then 92 ∷ 34 ∷ []
    else if byte == 92 then 92 ∷ 92 ∷ []
    else if byte == 10 then 92 ∷ 110 ∷ []
    else if byte == 13 then 92 ∷ 114 ∷ []
    else byte ∷ []

-- a text in quotes, after a space
abbrev pub quotation_of : List ℕ → List ℕ
quotation_of text = 32 ∷ 34 ∷ (flat_map escape_of text ++ 34 ∷ [])

-- texts in quotes are the words of their line, whatever stands in them
abbrev pub QuotesReadBack : Type 0
QuotesReadBack = (texts : List (List ℕ)) → script_words_of (flat_map quotation_of texts) ≡ Some texts

abbrev pub has_bytes : List ℕ → Bool
has_bytes [] = false
has_bytes (byte ∷ bytes) = true

-- the words of a line without quotes are what stands between its blanks
abbrev pub WordsStandBetweenBlanks : Type 0
WordsStandBetweenBlanks = (line : List ℕ) → list_all (λ byte. not (byte == 34)) line ≡ true → script_words_of line ≡ Some (filter has_bytes (slice_split is_blank line))
