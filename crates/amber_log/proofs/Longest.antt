-- The whole items of a file are its longest beginning of their kind.
use Rattle.std.proofs.Common.{◌≡◌, ℕ, ◌+◌, ◌≤◌, ◌⊎◌, inl, inr, ◌++◌, Bool, true, false, List, [], ◌∷◌, length, refl, sym, ap, ◌∙◌, arith, length-append, append_assoc}
use Rattle.std.proofs.lemmas.List.Concat.{flat_map-append}
use Rattle.amber_log.specs.LogText.{unlines}
use Rattle.amber_log.specs.ReadAs.{closes, cut_back, keep, lines_of, whole_items, whole_lines}
use Rattle.amber_log.specs.TextLaws.{AreWholeItems, WholeItemsAreLongest}
use Rattle.amber_log.proofs.Plain.{lines_of-front, unlines-lines_of}
use Rattle.amber_log.proofs.Torn.{lines_of-whole_items}
use Rattle.amber_log.proofs.Whole.{keep-closing}

-- ---- what is kept

-- the first of these lines
abbrev FrontOf : List (List ℕ) → List (List ℕ) → Type 0
FrontOf xs ys = (more : List (List ℕ)) × (xs ++ more ≡ ys)

keep-front : (closing : Bool) (bytes : List ℕ) (kept lines : List (List ℕ)) → FrontOf kept lines → FrontOf (keep closing bytes kept) (bytes ∷ lines)
keep-front true bytes [] lines h = (lines, refl)
keep-front false bytes [] lines h = (bytes ∷ lines, refl)
keep-front true bytes (next ∷ kept) lines h = (h.0, ap (λ (l : List (List ℕ)). bytes ∷ l) h.1)
keep-front false bytes (next ∷ kept) lines h = (h.0, ap (λ (l : List (List ℕ)). bytes ∷ l) h.1)

cut_back-is_front : (lines : List (List ℕ)) → FrontOf (cut_back lines) lines
unfolding cut_back
cut_back-is_front [] = ([], refl)
cut_back-is_front (bytes ∷ lines) = keep-front (closes bytes) bytes (cut_back lines) lines (cut_back-is_front lines)

whole_lines-is_front : (lines : List (List ℕ)) → FrontOf (whole_lines lines) lines
unfolding whole_lines
whole_lines-is_front [] = ([], refl)
whole_lines-is_front (bytes ∷ lines) =
    let rest = cut_back-is_front lines in
    (rest.0, ap (λ (l : List (List ℕ)). bytes ∷ l) rest.1)

-- no lines, or lines of which the last closes
abbrev ClosesLast : List (List ℕ) → Type 0
ClosesLast lines = (lines ≡ []) ⊎ ((before : List (List ℕ)) × (last : List ℕ) × (lines ≡ before ++ last ∷ []) × (closes last ≡ true))

keep-closes : (closing : Bool) (bytes : List ℕ) (kept : List (List ℕ)) → closes bytes ≡ closing → ClosesLast kept → ClosesLast (keep closing bytes kept)
keep-closes true bytes [] e h = inr ([], bytes, refl, e)
keep-closes false bytes [] e h = inl refl
keep-closes closing bytes (next ∷ kept) e (inl none) = cc
keep-closes true bytes (next ∷ kept) e (inr (before, last, is, ends)) = inr (bytes ∷ before, last, ap (λ (l : List (List ℕ)). bytes ∷ l) is, ends)
keep-closes false bytes (next ∷ kept) e (inr (before, last, is, ends)) = inr (bytes ∷ before, last, ap (λ (l : List (List ℕ)). bytes ∷ l) is, ends)

cut_back-closes : (lines : List (List ℕ)) → ClosesLast (cut_back lines)
unfolding cut_back
cut_back-closes [] = inl refl
cut_back-closes (bytes ∷ lines) = keep-closes (closes bytes) bytes (cut_back lines) refl (cut_back-closes lines)

-- ---- nothing that ends with an item is lost

cut_back-ending : (before : List (List ℕ)) (last : List ℕ) (more : List (List ℕ)) → closes last ≡ true
    → cut_back ((before ++ last ∷ []) ++ more) ≡ (before ++ last ∷ []) ++ cut_back more
unfolding cut_back
cut_back-ending [] last more ends = keep-closing (closes last) last (cut_back more) ends
cut_back-ending (bytes ∷ []) last more ends =
    let after : cut_back (last ∷ more) ≡ last ∷ cut_back more = cut_back-ending [] last more ends in
    ap (keep (closes bytes) bytes) after
cut_back-ending (bytes ∷ next ∷ before) last more ends =
    let after : cut_back (next ∷ ((before ++ last ∷ []) ++ more)) ≡ next ∷ ((before ++ last ∷ []) ++ cut_back more) = cut_back-ending (next ∷ before) last more ends in
    ap (keep (closes bytes) bytes) after

whole_lines-ending : (before : List (List ℕ)) (last : List ℕ) (more : List (List ℕ)) → (closes last ≡ true) ⊎ (before ≡ [])
    → FrontOf (before ++ last ∷ []) (whole_lines ((before ++ last ∷ []) ++ more))
unfolding whole_lines
whole_lines-ending [] last more ends = (cut_back more, refl)
whole_lines-ending (bytes ∷ before) last more (inl ends) = (cut_back more, ap (λ (l : List (List ℕ)). bytes ∷ l) (sym (cut_back-ending before last more ends)))
whole_lines-ending (bytes ∷ before) last more (inr none) = cc

-- ---- the longest

unlines-append : (xs ys : List (List ℕ)) → unlines (xs ++ ys) ≡ unlines xs ++ unlines ys
unlines-append xs ys = flat_map-append (λ (bytes : List ℕ). bytes ++ 10 ∷ []) xs ys

whole_items-begin : (bytes : List ℕ) → (rest : List ℕ) × (whole_items bytes ++ rest ≡ bytes)
unfolding whole_items
whole_items-begin bytes =
    let front = whole_lines-is_front (lines_of bytes) in
    let text = unlines-lines_of bytes in (
      unlines front.0 ++ text.0,
      sym (append_assoc (unlines (whole_lines (lines_of bytes))) (unlines front.0) text.0)
          ∙ ap (λ (l : List ℕ). l ++ text.0) (sym (unlines-append (whole_lines (lines_of bytes)) front.0) ∙ ap unlines front.1)
          ∙ sym text.1,
    )

by_whole_lines : (bytes : List ℕ) (lines : List (List ℕ)) → whole_lines (lines_of bytes) ≡ whole_lines lines → AreWholeItems (whole_items bytes)
unfolding whole_lines whole_items
by_whole_lines bytes [] e = inl (ap unlines e)
by_whole_lines bytes (first ∷ lines) e = by_rest (cut_back lines) refl (cut_back-closes lines)
  where
    by_rest : (kept : List (List ℕ)) → cut_back lines ≡ kept → ClosesLast kept → AreWholeItems (whole_items bytes)
    by_rest kept is (inl none) =
        let all : whole_lines (lines_of bytes) ≡ first ∷ [] = e ∙ ap (λ (l : List (List ℕ)). first ∷ l) (is ∙ none) in
        inr (record { before = []; last = first; lines = lines_of-whole_items bytes ∙ all; text = ap unlines all; ends = inr refl })
    by_rest kept is (inr (before, last, split, ends)) =
        let all : whole_lines (lines_of bytes) ≡ (first ∷ before) ++ last ∷ [] = e ∙ ap (λ (l : List (List ℕ)). first ∷ l) (is ∙ split) in
        inr (record { before = first ∷ before; last = last; lines = lines_of-whole_items bytes ∙ all; text = ap unlines all; ends = inl ends })

no_longer : (bytes other more : List ℕ) → other ++ more ≡ bytes → AreWholeItems other → length other ≤ length (whole_items bytes)
unfolding whole_items
no_longer bytes other more whole (inl none) =
    let size : length other ≡ 0 = ap length none in
    omega arith
no_longer bytes other more whole (inr h) =
    let front = lines_of-front other more in
    let lines : (h.before ++ h.last ∷ []) ++ front.0 ≡ lines_of bytes = ap (λ (l : List (List ℕ)). l ++ front.0) (sym h.lines) ∙ front.1 ∙ ap lines_of whole in
    let kept = whole_lines-ending h.before h.last front.0 h.ends in
    let text : unlines (whole_lines (lines_of bytes)) ≡ other ++ unlines kept.0 =
    ap (λ (l : List (List ℕ)). unlines (whole_lines l)) (sym lines) ∙ ap unlines (sym kept.1) ∙ unlines-append (h.before ++ h.last ∷ []) kept.0
    ∙ ap (λ (l : List ℕ). l ++ unlines kept.0) (sym h.text) in
    let size : length (unlines (whole_lines (lines_of bytes))) ≡ length other + length (unlines kept.0) = ap length text ∙ length-append other (unlines kept.0) in
    omega arith

pub whole_items_are_longest : WholeItemsAreLongest
whole_items_are_longest bytes =
    let start = whole_items-begin bytes in
    record {
      rest = start.0;
      begins = start.1;
      kind = by_whole_lines bytes (lines_of bytes) refl;
      longest = λ other more whole are. no_longer bytes other more whole are;
    }
