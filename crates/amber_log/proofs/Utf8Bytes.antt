-- The numbers of a UTF-8 text are bytes.
use Rattle.std.proofs.Common.{◌≡◌, ℕ, zero, suc, ◌+◌, ◌/◌, ◌<◌, inl, inr, ◌++◌, true, List, [], ◌∷◌, subst, arith}
use Rattle.std.specs.Prelude.{nat_lt}
use Rattle.std.specs.Str.{is_utf8}
use Rattle.std.proofs.lemmas.Bool.{and_parts, cond_both, ltb-true}
use Rattle.std.proofs.lemmas.Str.{IsUtf8-from_is_utf8}
use Rattle.hex.specs.Hex.{IsBytes}
use lib.Utf8.{encode, encodes, next, scalar, scalars, scalar_cases}

IsBytes-nil : IsBytes []
IsBytes-nil i = omega arith

IsBytes-cons : (byte : ℕ) (bytes : List ℕ) → byte < 256 → IsBytes bytes → IsBytes (byte ∷ bytes)
IsBytes-cons byte bytes h hs zero = h
IsBytes-cons byte bytes h hs (suc i) = hs i

IsBytes-append : (xs ys : List ℕ) → IsBytes xs → IsBytes ys → IsBytes (xs ++ ys)
IsBytes-append [] ys p q = q
IsBytes-append (x ∷ xs) ys p q = IsBytes-cons x (xs ++ ys) (p 0) (IsBytes-append xs ys (λ i. p (suc i)) q)

IsBytes-encode : (c : ℕ) → c < 1114112 → IsBytes (encode c)
unfolding encode
IsBytes-encode c small =
    cond_both (nat_lt c 128) (c ∷ []) _ IsBytes
    (λ e. let low : c < 128 = ltb-true c 128 e in IsBytes-cons c [] (omega arith) IsBytes-nil)
    (λ _. cond_both (nat_lt c 2048) ((192 + c / 64) ∷ next c ∷ []) _ IsBytes
    (λ e. let low : c < 2048 = ltb-true c 2048 e in
    IsBytes-cons (192 + c / 64) (next c ∷ []) (omega arith) (IsBytes-cons (next c) [] (omega arith) IsBytes-nil))
    (λ _. cond_both (nat_lt c 65536) ((224 + c / 4096) ∷ next (c / 64) ∷ next c ∷ []) ((240 + c / 262144) ∷ next (c / 4096) ∷ next (c / 64) ∷ next c ∷ []) IsBytes
    (λ e. let low : c < 65536 = ltb-true c 65536 e in
    IsBytes-cons (224 + c / 4096) (next (c / 64) ∷ next c ∷ []) (omega arith)
    (IsBytes-cons (next (c / 64)) (next c ∷ []) (omega arith) (IsBytes-cons (next c) [] (omega arith) IsBytes-nil)))
    (λ _. IsBytes-cons (240 + c / 262144) (next (c / 4096) ∷ next (c / 64) ∷ next c ∷ []) (omega arith)
    (IsBytes-cons (next (c / 4096)) (next (c / 64) ∷ next c ∷ []) (omega arith)
    (IsBytes-cons (next (c / 64)) (next c ∷ []) (omega arith) (IsBytes-cons (next c) [] (omega arith) IsBytes-nil))))))

below_limit : (c : ℕ) → scalar c ≡ true → c < 1114112
below_limit c h = elim (scalar_cases c h) [ inl low ↦ omega arith | inr high ↦ high.1 ]

IsBytes-encodes : (cs : List ℕ) → scalars cs ≡ true → IsBytes (encodes cs)
IsBytes-encodes [] h = IsBytes-nil
IsBytes-encodes (c ∷ cs) h =
    let parts = and_parts (scalar c) (scalars cs) h in
    IsBytes-append (encode c) (encodes cs) (IsBytes-encode c (below_limit c parts.0)) (IsBytes-encodes cs parts.1)

pub IsBytes-utf8 : (text : List ℕ) → is_utf8 text ≡ true → IsBytes text
IsBytes-utf8 text h =
    let utf8 = IsUtf8-from_is_utf8 text h in
    subst (λ (bytes : List ℕ). IsBytes bytes) utf8.1.1 (IsBytes-encodes utf8.0 utf8.1.0)
