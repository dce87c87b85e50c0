-- The first byte of a line other than a blank.
use Rattle.std.proofs.Common.{◌≡◌, ℕ, ◌+◌, ◌<◌, ◌≤◌, true, false, List, ◌∷◌, length, get_or, drop, refl, ap, ◌∙◌}
use Rattle.std.specs.Prelude.{not, ◌==◌}
use Rattle.std.proofs.lemmas.List.{drop_more, drop_all}
use Rattle.amber_script.specs.Script.{says}
use Rattle.amber_script.specs.Words.{is_blank}

says-at : (line : List ℕ) (i : ℕ) → i < length line → says (drop i line) ≡ says (get_or line i 0 ∷ drop (i + 1) line)
says-at line i h = ap says (drop_more line i 0 h)

-- a blank
pub says-more : (line : List ℕ) (i : ℕ) → i < length line → is_blank (get_or line i 0) ≡ true → says line ≡ says (drop i line) → says line ≡ says (drop (i + 1) line)
unfolding says
says-more line i h blank sofar = sofar ∙ says-at line i h ∙ rw blank refl

-- the first other byte
pub says-here : (line : List ℕ) (i : ℕ) → i < length line → is_blank (get_or line i 0) ≡ false → says line ≡ says (drop i line) → says line ≡ not (get_or line i 0 == 35)
unfolding says
says-here line i h other sofar = sofar ∙ says-at line i h ∙ rw other refl

-- blanks alone
pub says-end : (line : List ℕ) (i : ℕ) → length line ≤ i → says line ≡ says (drop i line) → says line ≡ false
unfolding says
says-end line i h sofar = sofar ∙ rw (drop_all i line h) refl
