-- The words read so far, and the rest of a line.
use Rattle.std.proofs.Common.{◌≡◌, ℕ, List, [], ◌∷◌, ◌++◌, Option, None, Some, option_map, refl, ap, ◌∙◌, sym, append_assoc}
use Rattle.std.specs.List.{onto_first}
use Rattle.amber_script.specs.Lexing.{with_words, onto_word}

onto_more : (begun : List ℕ) (byte : ℕ) (words : List (List ℕ)) → onto_word begun (onto_first byte words) ≡ onto_word (begun ++ byte ∷ []) words
onto_more [] byte words = refl
onto_more (b ∷ begun) byte words = ap (onto_first b) (onto_more begun byte words)

-- the end of the word that has begun
pub onto_end : (begun : List ℕ) (words : List (List ℕ)) → onto_word begun ([] ∷ words) ≡ begun ∷ words
onto_end [] words = refl
onto_end (b ∷ begun) words = ap (onto_first b) (onto_end begun words)

-- a byte more
pub with_words_add : (words : List (List ℕ)) (begun : List ℕ) (byte : ℕ) (more : Option (List (List ℕ)))
    → with_words words begun (option_map (onto_first byte) more) ≡ with_words words (begun ++ byte ∷ []) more
with_words_add words begun byte None = refl
with_words_add words begun byte (Some rest) = ap (λ (ws : List (List ℕ)). Some (words ++ ws)) (onto_more begun byte rest)

-- the word's end
pub with_words_end : (words : List (List ℕ)) (begun : List ℕ) (more : Option (List (List ℕ)))
    → with_words words begun (option_map (λ rest. [] ∷ rest) more) ≡ with_words (words ++ begun ∷ []) [] more
with_words_end words begun None = refl
with_words_end words begun (Some rest) = ap (λ (ws : List (List ℕ)). Some (words ++ ws)) (onto_end begun rest) ∙ ap Some (sym (append_assoc words (begun ∷ []) rest))

-- nothing read yet
pub with_words_none : (more : Option (List (List ℕ))) → with_words [] [] more ≡ more
with_words_none None = refl
with_words_none (Some rest) = refl

-- the line's last word
pub with_words_last : (words : List (List ℕ)) (begun : List ℕ) → with_words words begun (Some ([] ∷ [])) ≡ Some (words ++ begun ∷ [])
with_words_last words begun = ap (λ (ws : List (List ℕ)). Some (words ++ ws)) (onto_end begun [])
