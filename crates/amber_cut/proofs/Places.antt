-- Places that `memchr` finds, and what stands before and after them.
use Rattle.std.proofs.Common.{◌≡◌, ◌<◌, ◌≤◌, ◌+◌, ◌∙◌, ◌==◌, ◌++◌, ℕ, zero, suc, Bool, true, false, cond, List, [], ◌∷◌, length, drop, get_or, take, map, Option, Some, None, inl, inr, refl, sym, ap, arith, add-one, append_assoc, length-drop, ◌↔◌, IsTrue, is_some, rules}
use Rattle.std.specs.List.{All}
use Rattle.std.proofs.lemmas.Bool.{cases_Bool, eqb-true, false_from_ne_true, ne_eqb}
use Rattle.std.proofs.lemmas.List.{append-nil, drop-drop, drop_all, get_or_default, map-append, take_all}
use Rattle.std.proofs.lemmas.List.Elements.{All-push}
use Rattle.memchr.specs.Find.{IsFirstByte, is_byte}
use Rattle.csv.specs.Reading.{is_bom, strip_bom}
use Rattle.amber_cut.specs.Lines.{HasQuote, past, ends_line, line_at, lines, start_if_filled, until}
use Rattle.amber_cut.proofs.LineRecords.{lines-end, lines-more, lines-none}

-- ---- a double quote

-- the first place is found exactly where there is one
pub quote-found : (bytes : List ℕ) (place : Option ℕ) → IsFirstByte (is_byte 34) bytes place → IsTrue (is_some place) ↔ HasQuote bytes
quote-found bytes None none = (
  λ t. absurd (search rules),
  λ found. let here : get_or bytes found.0 0 ≡ 34 = get_or_default bytes found.0 0 34 found.1 ∙ found.2 in absurd (none found.0 (omega arith) found.1 (rw here refl)),
)
quote-found bytes (Some k) first = (
  λ t. (k, first.0.high, get_or_default bytes k 34 0 first.0.high ∙ eqb-true (get_or bytes k 0) 34 first.1),
  λ found. search rules,
)

-- ---- a byte order mark

-- a short text has none, and of a longer one its first three bytes say whether it has
pub bom-short : (xs : List ℕ) → length xs < 3 → xs ≡ strip_bom xs
unfolding strip_bom
bom-short [] h = refl
bom-short (a ∷ []) h = refl
bom-short (a ∷ b ∷ []) h = refl
bom-short (a ∷ b ∷ c ∷ rest) h = absurd (omega (arith, h))

pub bom-long : (xs : List ℕ) → 3 ≤ length xs → strip_bom xs ≡ cond (is_bom (get_or xs 0 0) (get_or xs 1 0) (get_or xs 2 0)) (drop 3 xs) xs
unfolding strip_bom
bom-long [] h = absurd (omega (arith, h))
bom-long (a ∷ []) h = absurd (omega (arith, h))
bom-long (a ∷ b ∷ []) h = absurd (omega (arith, h))
bom-long (a ∷ b ∷ c ∷ rest) h = refl

-- ---- before and after

module _ (p : ℕ → Bool) where
  -- where the first byte that passes stands at this place
  pub parts-at : (xs : List ℕ) (k : ℕ) → k < length xs → ((j : ℕ) → j < k → p (get_or xs j 0) ≡ false) → p (get_or xs k 0) ≡ true
      → (take k xs ≡ until p xs) × (drop (suc k) xs ≡ past p xs)
  unfolding until past
  parts-at [] k h before at = absurd (omega (arith, h))
  parts-at (x ∷ xs) zero h before at = let t : p x ≡ true = at in (rw t refl, rw t refl)
  parts-at (x ∷ xs) (suc k) h before at =
      let f : p x ≡ false = before 0 (omega arith) in
      let later = parts-at xs k (omega (arith, h)) (λ j l. before (suc j) (omega (arith, l))) at in
      (rw f (ap (λ ys. x ∷ ys) later.0), rw f later.1)

  -- where none passes
  pub parts-none : (xs : List ℕ) → ((j : ℕ) → j < length xs → p (get_or xs j 0) ≡ false) → (xs ≡ until p xs) × ([] ≡ past p xs)
  unfolding until past
  parts-none [] before = (refl, refl)
  parts-none (x ∷ xs) before =
      let f : p x ≡ false = before 0 (omega arith) in
      let later = parts-none xs (λ j l. before (suc j) (omega (arith, l))) in
      (rw f (ap (λ ys. x ∷ ys) later.0), rw f later.1)

  -- the place that a search finds, or none
  pub parts-Some : (xs : List ℕ) (k : ℕ) → IsFirstByte p xs (Some k) → (take k xs ≡ until p xs) × (drop (k + 1) xs ≡ past p xs)
  parts-Some xs k h =
      let before : (j : ℕ) → j < k → p (get_or xs j 0) ≡ false = λ j l. false_from_ne_true _ (h.0.before j (omega arith) l) in
      rw add-one (parts-at xs k h.0.high before h.1)

  pub parts-None : (xs : List ℕ) → IsFirstByte p xs None → (take (length xs) xs ≡ until p xs) × (drop (length xs + 1) xs ≡ past p xs)
  parts-None xs h =
      let none = parts-none xs (λ j l. false_from_ne_true _ (h j (omega arith) l)) in
      (take_all (length xs) xs (omega arith) ∙ none.0, drop_all (length xs + 1) xs (omega arith) ∙ none.1)

-- ---- lines

-- the line at hand, if it has bytes, and those after it
pub lines-step : (xs : List ℕ) (n : ℕ) → 0 < length xs → take n xs ≡ until ends_line xs → n ≤ length xs
    → lines xs ≡ cond (n == 0) [] (until ends_line xs ∷ []) ++ lines (past ends_line xs)
unfolding until past
lines-step [] n h e l = absurd (omega (arith, h))
lines-step (x ∷ xs) zero h e l = elim (cases_Bool (ends_line x)) [
  | inl t ↦ lines-end x xs t ∙ rw t refl
  | inr f ↦ absurd (cc (rw f at e))
]
lines-step (x ∷ xs) (suc n) h e l = elim (cases_Bool (ends_line x)) [
  | inl t ↦ absurd (cc (rw t at e))
  | inr f ↦ let some : (suc n == 0) ≡ false = ne_eqb (suc n) 0 (λ z. omega (arith, z)) in lines-more x xs f ∙ rw (f, some) refl
]

map-noted : (f : ℕ → List ℕ) (at n : ℕ) → map f (start_if_filled at n) ≡ cond (n == 0) [] (f at ∷ [])
map-noted f at n = elim (cases_Bool (n == 0)) [
  | inl t ↦ rw t refl
  | inr t ↦ rw t refl
]

-- the places of the lines lie within the text
pub within-note : (bytes starts : List ℕ) (at n : ℕ) → at < length bytes → All (λ s. s < length bytes) starts → All (λ s. s < length bytes) (starts ++ start_if_filled at n)
within-note bytes starts at n h all = elim (cases_Bool (n == 0)) [
  | inl t ↦ rw (t, append-nil starts) all
  | inr t ↦ rw t (All-push (λ s. s < length bytes) starts at all h)
]

-- a line more was noted
pub lines-note : (bytes : List ℕ) (all : List (List ℕ)) (starts : List ℕ) (at n : ℕ) → at < length bytes → take n (drop at bytes) ≡ until ends_line (drop at bytes) → n ≤ length (drop at bytes)
    → drop (n + 1) (drop at bytes) ≡ past ends_line (drop at bytes) → all ≡ map (line_at bytes) starts ++ lines (drop at bytes)
    → all ≡ map (line_at bytes) (starts ++ start_if_filled at n) ++ lines (drop (at + (n + 1)) bytes)
lines-note bytes all starts at n h e l later so =
    let rest = drop at bytes in
    let f = line_at bytes in
    let some : 0 < length rest = omega (arith, h, length-drop at bytes) in
    let step = lines-step rest n some e l in
    let place : drop (at + (n + 1)) bytes ≡ past ends_line rest = sym (drop-drop (n + 1) at bytes) ∙ later in
    so ∙ ap (λ xs. map f starts ++ xs) (step ∙ ap (λ xs. xs ++ lines (past ends_line rest)) (sym (map-noted f at n)))
    ∙ sym (append_assoc (map f starts) (map f (start_if_filled at n)) (lines (past ends_line rest)))
    ∙ ap (λ xs. xs ++ lines (past ends_line rest)) (sym (map-append f starts (start_if_filled at n)))
    ∙ ap (λ xs. map f (starts ++ start_if_filled at n) ++ lines xs) (sym place)

-- ---- the next line

-- a first line with bytes, and an empty one
pub lines-line : (xs line later : List ℕ) → line ≡ until ends_line xs → later ≡ past ends_line xs → 0 < length line → lines xs ≡ line ∷ lines later
unfolding until past
lines-line [] line later e b h = absurd (omega (arith, h, ap length e))
lines-line (x ∷ xs) line later e b h = elim (cases_Bool (ends_line x)) [
  | inl t ↦ let none = rw t at e in absurd (omega (arith, h, ap length none))
  | inr f ↦
      let line-is = rw f at e in
      let later-is = rw f at b in
      lines-more x xs f ∙ rw (line-is, later-is) refl
]

pub lines-blank : (xs line later : List ℕ) → line ≡ until ends_line xs → later ≡ past ends_line xs → length line ≡ 0 → lines xs ≡ lines later
unfolding until past
lines-blank [] line later e b h = rw b refl
lines-blank (x ∷ xs) line later e b h = elim (cases_Bool (ends_line x)) [
  | inl t ↦ let later-is = rw t at b in lines-end x xs t ∙ rw later-is refl
  | inr f ↦ let some = rw f at e in absurd (omega (arith, h, ap length some))
]

pub lines-nothing : (xs : List ℕ) → length xs ≡ 0 → lines xs ≡ []
lines-nothing [] h = lines-none
lines-nothing (x ∷ xs) h = absurd (omega (arith, h))
