-- What a read takes, and what it leaves.
use Rattle.std.proofs.Common.{◌≡◌, ℕ, zero, suc, ◌+◌, ◌<◌, List, [], ◌∷◌, ◌++◌, length, take, drop, refl, sym, ap, ◌∙◌, arith}
use Rattle.std.proofs.Math.Seq.{drop-append_seam}
use Rattle.std.proofs.lemmas.List.{drop-drop, take-append-drop}

cons-nil : (byte : ℕ) (bytes : List ℕ) → byte ∷ bytes ≡ [] → ⊥
cons-nil byte bytes e = cc

-- a front part that has no byte, of which there could have been one
none_taken : (n : ℕ) (bytes : List ℕ) → 0 < n → take n bytes ≡ [] → bytes ≡ []
none_taken n [] some none = refl
none_taken zero (byte ∷ bytes) some none = absurd (omega (arith, some))
none_taken (suc n) (byte ∷ bytes) some none = absurd (cons-nil byte (take n bytes) none)

-- a front part, and what is left behind it
front_taken : (n : ℕ) (bytes : List ℕ) → bytes ≡ take n bytes ++ drop (length (take n bytes)) bytes
front_taken n bytes =
    sym (take-append-drop n bytes)
    ∙ ap (λ (rest : List ℕ). take n bytes ++ rest)
    (sym (drop-append_seam (take n bytes) (drop n bytes)) ∙ ap (drop (length (take n bytes))) (take-append-drop n bytes))

-- the same, of the bytes from a place on
pub taken : (n place : ℕ) (bytes piece : List ℕ) → 0 < n → piece ≡ take n (drop place bytes)
    → (drop place bytes ≡ piece ++ drop (place + length piece) bytes) × (piece ≡ [] → drop place bytes ≡ [])
taken n place bytes piece some is = (
  rw is (front_taken n (drop place bytes) ∙ ap (λ (rest : List ℕ). take n (drop place bytes) ++ rest) (drop-drop (length (take n (drop place bytes))) place bytes)),
  λ none. none_taken n (drop place bytes) some (sym is ∙ none),
)
