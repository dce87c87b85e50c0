-- A text has a first word, so after a space there is one more.
use Rattle.std.proofs.Common.{◌≡◌, ◌==◌, ℕ, Bool, true, false, cond, List, [], ◌∷◌, None, refl, sym, ap}
use Rattle.std.specs.List.{onto_first}
use Rattle.amber_log.specs.ReadWords.{line_by}
use Rattle.amber_log.specs.Operands.{condition_in, nothing_in, one_word}
use Rattle.amber_journal.specs.Parted.{words}

-- there is a first word
words_some : (bytes : List ℕ) → (first : List ℕ) × (others : List (List ℕ)) × (words bytes ≡ first ∷ others)
words_some [] = ([], [], refl)
words_some (b ∷ bytes) = after (b == 32) b (words bytes) (words_some bytes)
  where
    after : (is : Bool) (b : ℕ) (ws : List (List ℕ)) → ((first : List ℕ) × (others : List (List ℕ)) × (ws ≡ first ∷ others))
        → (first : List ℕ) × (others : List (List ℕ)) × (cond is ([] ∷ ws) (onto_first b ws) ≡ first ∷ others)
    after true b ws h = ([], ws, refl)
    after false b ws h = (b ∷ h.0, h.1, ap (onto_first b) h.2)

pub nothing_in_more : (rest : List ℕ) → None ≡ nothing_in (words rest)
nothing_in_more rest = sym (ap nothing_in (words_some rest).2)

pub one_word_more : (a rest : List ℕ) → None ≡ one_word (a ∷ words rest)
one_word_more a rest = sym (ap (λ (more : List (List ℕ)). one_word (a ∷ more)) (words_some rest).2)

pub condition_in_more : (a b c rest : List ℕ) → condition_in (a ∷ b ∷ c ∷ words rest) ≡ None
condition_in_more a b c rest = ap (λ (more : List (List ℕ)). condition_in (a ∷ b ∷ c ∷ more)) (words_some rest).2

pub line_by_more : (word a b rest : List ℕ) → None ≡ line_by word (a ∷ b ∷ words rest)
line_by_more word a b rest = sym (ap (λ (more : List (List ℕ)). line_by word (a ∷ b ∷ more)) (words_some rest).2)
