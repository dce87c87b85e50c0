-- The line of a command, word by word.
use Rattle.std.proofs.Common.{◌≡◌, ℕ, List, [], ◌∷◌, ◌++◌, sym, ap, ◌∙◌, append_assoc}
use Rattle.std.specs.List.{flat_map}
use Rattle.std.proofs.lemmas.Grind.{flat_map-append}
use Rattle.std.proofs.lemmas.List.{append-nil}
use Rattle.amber_meaning.specs.Texts.{after_blank, words_line}
use Rattle.amber_report.specs.Scripts.{joined}
use Rattle.amber_report.proofs.Lines.{line_of}

begun : (words : List (List ℕ)) (id : List ℕ) (more : List (List ℕ)) → joined (words ++ id ∷ []) ++ (flat_map after_blank more ++ 10 ∷ []) ≡ words_line (words ++ id ∷ more)
begun [] id more = ap (λ word. word ++ (flat_map after_blank more ++ 10 ∷ [])) (append-nil id) ∙ sym (line_of id more)
begun (word ∷ words) id more = rw (line_of word (words ++ id ∷ more), flat_map-append after_blank words (id ∷ more), flat_map-append after_blank words (id ∷ [])) (simp append_assoc)

-- words, the id behind them, what is said beside it, and the end of the line
pub effect_line : (old : List ℕ) (words : List (List ℕ)) (id : List ℕ) (more : List (List ℕ))
    → ((old ++ joined (words ++ id ∷ [])) ++ flat_map after_blank more) ++ 10 ∷ [] ≡ old ++ words_line (words ++ id ∷ more)
effect_line old words id more =
    append_assoc (old ++ joined (words ++ id ∷ [])) (flat_map after_blank more) (10 ∷ [])
    ∙ append_assoc old (joined (words ++ id ∷ [])) (flat_map after_blank more ++ 10 ∷ [])
    ∙ ap (λ line. old ++ line) (begun words id more)
