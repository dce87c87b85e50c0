-- A text and the pieces into which a byte cuts it.
use Rattle.std.proofs.Common.{◌≡◌, ◌==◌, ℕ, zero, suc, ◌+◌, ◌-◌, ◌<◌, ◌≤◌, ◌&&◌, Bool, true, false, not, List, [], ◌∷◌, length, get_or, take, drop, refl, sym, ap, ◌∙◌, arith, length-drop}
use Rattle.std.specs.List.{onto_first, slice_split}
use Rattle.std.proofs.lemmas.List.{take_all}
use Rattle.std.proofs.lemmas.List.Splits.{slice_split-cons_no, slice_split-cons_yes}
use Rattle.std.proofs.lemmas.Bool.{and_from, and_parts, eq-eqb, not-true, not_from_false}

-- whether a byte does not stand in a text
abbrev pub lacks : ℕ → List ℕ → Bool
lacks byte [] = true
lacks byte (b ∷ bytes) = not (b == byte) && lacks byte bytes

pub lacks_more : (byte : ℕ) (bytes : List ℕ) (place : ℕ) → place < length bytes → lacks byte (take place bytes) ≡ true → (get_or bytes place 0 == byte) ≡ false
    → lacks byte (take (place + 1) bytes) ≡ true
lacks_more byte [] place inside h apart = absurd (omega (arith, inside))
lacks_more byte (b ∷ bytes) zero inside h apart = and_from (not (b == byte)) true (not_from_false (b == byte) apart) refl
lacks_more byte (b ∷ bytes) (suc place) inside h apart =
    let parts = and_parts (not (b == byte)) (lacks byte (take place bytes)) h in
    let e : suc place + 1 ≡ suc (place + 1) = omega arith in
    rw e (and_from (not (b == byte)) (lacks byte (take (place + 1) bytes)) parts.0 (lacks_more byte bytes place (omega (arith, inside)) parts.1 apart))

-- no such byte up to the end
pub all_lacks : (byte : ℕ) (bytes : List ℕ) (place : ℕ) → length bytes ≤ place → lacks byte (take place bytes) ≡ true → lacks byte bytes ≡ true
all_lacks byte bytes place over h = ap (lacks byte) (sym (take_all place bytes over)) ∙ h

-- what is after a place, taken as long as it is
pub behind-all : (bytes : List ℕ) (place : ℕ) → drop (place + 1) bytes ≡ take (length bytes - (place + 1)) (drop (place + 1) bytes)
behind-all bytes place = sym (take_all (length bytes - (place + 1)) (drop (place + 1) bytes) (rw (length-drop (place + 1) bytes) (omega arith)))

-- a text without the byte is one piece
pub one_piece : (byte : ℕ) (bytes : List ℕ) → lacks byte bytes ≡ true → slice_split (λ b. b == byte) bytes ≡ bytes ∷ []
one_piece byte [] h = refl
one_piece byte (b ∷ bytes) h =
    let parts = and_parts (not (b == byte)) (lacks byte bytes) h in
    let other : (b == byte) ≡ false = not-true (b == byte) parts.0 in
    slice_split-cons_no (λ b. b == byte) b bytes other ∙ ap (onto_first b) (one_piece byte bytes parts.1)

-- a text with the byte at this place, and none before
first_piece_drop : (byte : ℕ) (bytes : List ℕ) (place : ℕ) → place < length bytes → lacks byte (take place bytes) ≡ true → get_or bytes place 0 ≡ byte
    → slice_split (λ b. b == byte) bytes ≡ take place bytes ∷ slice_split (λ b. b == byte) (drop (place + 1) bytes)
first_piece_drop byte [] place inside h is = absurd (omega (arith, inside))
first_piece_drop byte (b ∷ bytes) zero inside h is = slice_split-cons_yes (λ b. b == byte) b bytes (eq-eqb b byte is)
first_piece_drop byte (b ∷ bytes) (suc place) inside h is =
    let parts = and_parts (not (b == byte)) (lacks byte (take place bytes)) h in
    let other : (b == byte) ≡ false = not-true (b == byte) parts.0 in
    let e : suc place + 1 ≡ suc (place + 1) = omega arith in
    rw e
    (slice_split-cons_no (λ b. b == byte) b bytes other
    ∙ ap (onto_first b) (first_piece_drop byte bytes place (omega (arith, inside)) parts.1 is))

pub first_piece : (byte : ℕ) (bytes : List ℕ) (place : ℕ) → place < length bytes → lacks byte (take place bytes) ≡ true → get_or bytes place 0 ≡ byte
    → slice_split (λ b. b == byte) bytes ≡ take place bytes ∷ slice_split (λ b. b == byte) (take (length bytes - (place + 1)) (drop (place + 1) bytes))
first_piece byte bytes place inside h is =
    first_piece_drop byte bytes place inside h is
    ∙ ap (λ (rest : List ℕ). take place bytes ∷ slice_split (λ b. b == byte) rest) (behind-all bytes place)
