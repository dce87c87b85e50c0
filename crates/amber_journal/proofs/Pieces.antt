-- The first line of a text, and the first word of a line.
use Rattle.std.proofs.Common.{◌≡◌, ◌==◌, ℕ, zero, suc, ◌+◌, ◌-◌, ◌<◌, Bool, true, false, not, cond, List, [], ◌∷◌, length, get_or, take, drop, refl, ap, ◌∙◌, arith}
use Rattle.std.proofs.lemmas.Bool.{and_parts, not-true}
use Rattle.amber_log.specs.ReadAs.{lines_of, onto_line}
use Rattle.std.specs.List.{slice_split}
use Rattle.amber_log.proofs.Pieces.{behind-all, first_piece, lacks}

pub no_line : (bytes : List ℕ) → lacks 10 bytes ≡ true → lines_of bytes ≡ []
unfolding lines_of
no_line [] h = refl
no_line (b ∷ bytes) h =
    let parts = and_parts (not (b == 10)) (lacks 10 bytes) h in
    let other : (b == 10) ≡ false = not-true (b == 10) parts.0 in
    ap (λ (t : Bool). cond t ([] ∷ lines_of bytes) (onto_line b (lines_of bytes))) other ∙ ap (onto_line b) (no_line bytes parts.1)

pub first_line_drop : (bytes : List ℕ) (place : ℕ) → place < length bytes → lacks 10 (take place bytes) ≡ true → get_or bytes place 0 ≡ 10
    → lines_of bytes ≡ take place bytes ∷ lines_of (drop (place + 1) bytes)
unfolding lines_of
first_line_drop [] place inside h is = absurd (omega (arith, inside))
first_line_drop (b ∷ bytes) zero inside h is = rw is refl
first_line_drop (b ∷ bytes) (suc place) inside h is =
    let parts = and_parts (not (b == 10)) (lacks 10 (take place bytes)) h in
    let other : (b == 10) ≡ false = not-true (b == 10) parts.0 in
    let e : suc place + 1 ≡ suc (place + 1) = omega arith in
    rw e
    (ap (λ (t : Bool). cond t ([] ∷ lines_of bytes) (onto_line b (lines_of bytes))) other
    ∙ ap (onto_line b) (first_line_drop bytes place (omega (arith, inside)) parts.1 is))

pub first_line : (bytes : List ℕ) (place : ℕ) → place < length bytes → lacks 10 (take place bytes) ≡ true → get_or bytes place 0 ≡ 10
    → lines_of bytes ≡ take place bytes ∷ lines_of (take (length bytes - (place + 1)) (drop (place + 1) bytes))
first_line bytes place inside h is =
    first_line_drop bytes place inside h is
    ∙ ap (λ (rest : List ℕ). take place bytes ∷ lines_of rest) (behind-all bytes place)

pub first_word : (bytes : List ℕ) (place : ℕ) → place < length bytes → lacks 32 (take place bytes) ≡ true → get_or bytes place 0 ≡ 32
    → slice_split (λ b. b == 32) bytes ≡ take place bytes ∷ slice_split (λ b. b == 32) (take (length bytes - (place + 1)) (drop (place + 1) bytes))
first_word = first_piece 32
