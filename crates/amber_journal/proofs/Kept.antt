-- How many bytes the whole items have, line by line.
use Rattle.std.proofs.Common.{◌≡◌, ℕ, ◌+◌, ◌-◌, ◌≤◌, ◌++◌, Bool, true, false, List, [], ◌∷◌, length, refl, sym, ap, ◌∙◌, arith, length-append}
use Rattle.std.proofs.lemmas.Bool.{false≢true}
use Rattle.amber_log.specs.LogText.{unlines}
use Rattle.amber_log.proofs.Longest.{whole_items_are_longest}
use Rattle.amber_log.specs.ReadAs.{closes, cut_back, keep, lines_of, whole_items, whole_lines}

-- how many bytes are whole, where `whole` are up to here and these lines, which stand from this place on, are kept
abbrev pub later : ℕ → ℕ → List (List ℕ) → ℕ
later whole place [] = whole
later whole place (bytes ∷ lines) = place + length (unlines (bytes ∷ lines))

length-line : (bytes : List ℕ) (lines : List (List ℕ)) → length (unlines (bytes ∷ lines)) ≡ (length bytes + 1) + length (unlines lines)
length-line bytes lines =
    length-append (bytes ++ 10 ∷ []) (unlines lines) ∙ ap (λ n. n + length (unlines lines)) (length-append bytes (10 ∷ []))

later-closing : (closing : Bool) (whole place : ℕ) (bytes : List ℕ) (lines : List (List ℕ)) → closing ≡ true
    → later whole place (keep closing bytes lines) ≡ later (place + (length bytes + 1)) (place + (length bytes + 1)) lines
later-closing true whole place bytes [] e = omega (arith, length-line bytes [])
later-closing true whole place bytes (next ∷ lines) e = omega (arith, length-line bytes (next ∷ lines))
later-closing false whole place bytes lines e = absurd (false≢true e)

later-open : (closing : Bool) (whole place : ℕ) (bytes : List ℕ) (lines : List (List ℕ)) → closing ≡ false
    → later whole place (keep closing bytes lines) ≡ later whole (place + (length bytes + 1)) lines
later-open true whole place bytes lines e = absurd (false≢true (sym e))
later-open false whole place bytes [] e = refl
later-open false whole place bytes (next ∷ lines) e = omega (arith, length-line bytes (next ∷ lines))

place-behind : (all rest line behind : ℕ) → rest ≡ line + (behind + 1) → rest ≤ all → (all - rest) + (line + 1) ≡ all - behind
place-behind all rest line behind e h = omega arith

pub whole-closing : (all rest line behind : List ℕ) (whole total : ℕ) → lines_of rest ≡ line ∷ lines_of behind
    → length rest ≡ length line + (length behind + 1) → length rest ≤ length all → closes line ≡ true
    → total ≡ later whole (length all - length rest) (cut_back (lines_of rest))
    → total ≡ later (length all - length behind) (length all - length behind) (cut_back (lines_of behind))
unfolding cut_back
whole-closing all rest line behind whole total lines shorter inside closing e =
    e ∙ ap (λ (l : List (List ℕ)). later whole (length all - length rest) (cut_back l)) lines
    ∙ later-closing (closes line) whole (length all - length rest) line (cut_back (lines_of behind)) closing
    ∙ ap (λ (n : ℕ). later n n (cut_back (lines_of behind))) (place-behind (length all) (length rest) (length line) (length behind) shorter inside)

pub whole-open : (all rest line behind : List ℕ) (whole total : ℕ) → lines_of rest ≡ line ∷ lines_of behind
    → length rest ≡ length line + (length behind + 1) → length rest ≤ length all → closes line ≡ false
    → total ≡ later whole (length all - length rest) (cut_back (lines_of rest))
    → total ≡ later whole (length all - length behind) (cut_back (lines_of behind))
unfolding cut_back
whole-open all rest line behind whole total lines shorter inside stays e =
    e ∙ ap (λ (l : List (List ℕ)). later whole (length all - length rest) (cut_back l)) lines
    ∙ later-open (closes line) whole (length all - length rest) line (cut_back (lines_of behind)) stays
    ∙ ap (λ (n : ℕ). later whole n (cut_back (lines_of behind))) (place-behind (length all) (length rest) (length line) (length behind) shorter inside)

-- after the first line
pub whole-first : (all line behind : List ℕ) → lines_of all ≡ line ∷ lines_of behind → length all ≡ length line + (length behind + 1)
    → length (whole_items all) ≡ later (length all - length behind) (length all - length behind) (cut_back (lines_of behind))
unfolding whole_items whole_lines
whole-first all line behind lines shorter =
    ap (λ (l : List (List ℕ)). length (unlines (whole_lines l))) lines
    ∙ length-line line (cut_back (lines_of behind))
    ∙ omega (arith, shorter, later-all (length all - length behind) (cut_back (lines_of behind)))
  where
    later-all : (n : ℕ) (lines : List (List ℕ)) → later n n lines ≡ n + length (unlines lines)
    later-all n [] = omega arith
    later-all n (next ∷ lines) = refl

-- where no line is left
pub whole-end : (all rest : List ℕ) (whole total : ℕ) → lines_of rest ≡ [] → total ≡ later whole (length all - length rest) (cut_back (lines_of rest)) → total ≡ whole
unfolding cut_back
whole-end all rest whole total none e = e ∙ ap (λ (l : List (List ℕ)). later whole (length all - length rest) (cut_back l)) none

pub whole-none : (all : List ℕ) → lines_of all ≡ [] → length (whole_items all) ≡ 0
unfolding whole_items whole_lines
whole-none all none = ap (λ (l : List (List ℕ)). length (unlines (whole_lines l))) none

-- they are no more than there are
pub whole-inside : (bytes : List ℕ) (n : ℕ) → n ≡ length (whole_items bytes) → n ≤ length bytes
whole-inside bytes n e =
    let longest = whole_items_are_longest bytes in
    let parts : length (whole_items bytes) + length longest.rest ≡ length bytes = sym (length-append (whole_items bytes) longest.rest) ∙ ap (λ (b : List ℕ). length b) longest.begins in
    omega (arith, e, parts)
