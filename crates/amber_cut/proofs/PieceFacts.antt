-- The pieces of a list one by one, and records that are read one after the other into one list of fields.
use Rattle.std.proofs.Common.{◌≡◌, ◌∙◌, ◌<◌, ◌≤◌, ◌-◌, ◌+◌, ◌++◌, ℕ, zero, suc, List, [], ◌∷◌, drop, get_or, length, length-append, length-drop, take, refl, sym, ap, arith}
use Rattle.std.proofs.lemmas.List.{drop-append-le, length-take-le, take-append-le, take_all}
use Rattle.csv.specs.Records.{Rising, field_at, last_end, prev}
use Rattle.csv.proofs.RecordFacts.{field-bounds, rising-end, rising-first, rising-more}
use Rattle.amber_cut.specs.Pieces.{pieces_from}

module _ {A : Type 0} where
  drop-front : (xs ys : List A) → drop (length xs) (xs ++ ys) ≡ ys
  drop-front [] ys = refl
  drop-front (x ∷ xs) ys = drop-front xs ys

  pub length-piece : (start n : ℕ) (xs : List A) → start + n ≤ length xs → length (take n (drop start xs)) ≡ n
  length-piece start n xs h = length-take-le n (drop start xs) (omega (arith, h, length-drop start xs))

  pub length-pieces : (start : ℕ) (ends : List ℕ) (xs : List A) → length (pieces_from start ends xs) ≡ length ends
  unfolding pieces_from
  length-pieces start [] xs = refl
  length-pieces start (end ∷ ends) xs = ap suc (length-pieces end ends xs)

  -- the piece with a number
  pub piece-at : (start : ℕ) (ends : List ℕ) (xs : List A) (n : ℕ) → n < length ends
      → get_or (pieces_from start ends xs) n [] ≡ take (get_or ends n 0 - prev start ends n) (drop (prev start ends n) xs)
  unfolding pieces_from prev
  piece-at start [] xs n h = absurd (omega (arith, h))
  piece-at start (end ∷ ends) xs zero h = refl
  piece-at start (end ∷ ends) xs (suc n) h = piece-at end ends xs n (omega (arith, h))

  -- one piece more
  pieces-push : (start : ℕ) (ends : List ℕ) (end : ℕ) (xs : List A)
      → pieces_from start (ends ++ end ∷ []) xs ≡ pieces_from start ends xs ++ take (end - last_end start ends) (drop (last_end start ends) xs) ∷ []
  unfolding pieces_from last_end
  pieces-push start [] end xs = refl
  pieces-push start (e ∷ ends) end xs = ap (λ ps. take (e - start) (drop start xs) ∷ ps) (pieces-push e ends end xs)

  -- what stands after the last end is in no piece
  pieces-more : (start : ℕ) (ends : List ℕ) (xs more : List A) → Rising start ends (length xs) → pieces_from start ends (xs ++ more) ≡ pieces_from start ends xs
  unfolding pieces_from Rising
  pieces-more start [] xs more h = refl
  pieces-more start (end ∷ ends) xs more h =
      let up = rising-first end ends (length xs) h.1 in
      let at : start ≤ length xs = omega (arith, up, h.0) in
      let fits : end - start ≤ length (drop start xs) = omega (arith, length-drop start xs, up) in
      let head : take (end - start) (drop start (xs ++ more)) ≡ take (end - start) (drop start xs) =
      rw (drop-append-le start xs more at) (take-append-le (end - start) (drop start xs) more fits) in
      rw (head, pieces-more end ends xs more h.1) refl

  -- no pieces at first
  pub pieces-start : (ends : List ℕ) (xs : List A) → ends ≡ [] → xs ≡ [] → (pieces_from 0 ends xs ≡ []) × Rising 0 ends (length xs) × (last_end 0 ends ≡ length xs)
  unfolding pieces_from Rising last_end
  pieces-start ends xs no_ends none = rw (no_ends, none) (refl, omega arith, refl)

  -- elements more, and one piece that has them all
  pub pieces-add : (ends : List ℕ) (xs more : List A) → Rising 0 ends (length xs) → last_end 0 ends ≡ length xs
      → pieces_from 0 (ends ++ length (xs ++ more) ∷ []) (xs ++ more) ≡ pieces_from 0 ends xs ++ more ∷ []
  pieces-add ends xs more rising last =
      let size = length-append xs more in
      let piece : take (length (xs ++ more) - last_end 0 ends) (drop (last_end 0 ends) (xs ++ more)) ≡ more =
      rw (last, drop-front xs more) (take_all (length (xs ++ more) - length xs) more (omega (arith, size))) in
      pieces-push 0 ends (length (xs ++ more)) (xs ++ more)
      ∙ rw (piece, pieces-more 0 ends xs more rising) refl

  pub rising-add : (ends : List ℕ) (xs more : List A) → Rising 0 ends (length xs) → Rising 0 (ends ++ length (xs ++ more) ∷ []) (length (xs ++ more))
  rising-add ends xs more rising =
      rising-end 0 ends (length (xs ++ more)) (rising-more 0 ends (length xs) (length (xs ++ more)) rising (omega (arith, length-append xs more)))

-- ---- fields

field-take : (n : ℕ) (fields : List (List ℕ)) (i : ℕ) → i < n → field_at (take n fields) i ≡ field_at fields i
unfolding field_at
field-take zero fields i h = absurd (omega (arith, h))
field-take (suc n) [] i h = refl
field-take (suc n) (f ∷ fs) zero h = refl
field-take (suc n) (f ∷ fs) (suc i) h = field-take n fs i (omega (arith, h))

field-drop : (start : ℕ) (fields : List (List ℕ)) (i : ℕ) → field_at (drop start fields) i ≡ field_at fields (start + i)
unfolding field_at
field-drop zero fields i = let same : 0 + i ≡ i = omega arith in rw same refl
field-drop (suc start) [] i = refl
field-drop (suc start) (f ∷ fs) i = let next : suc start + i ≡ suc (start + i) = omega arith in rw next (field-drop start fs i)

-- the fields of a piece are those of the whole list
pub field-piece : (start n : ℕ) (fields : List (List ℕ)) (i : ℕ) → i < n → field_at (take n (drop start fields)) i ≡ field_at fields (start + i)
field-piece start n fields i h = field-take n (drop start fields) i h ∙ field-drop start fields i

-- ---- records

-- where the fields of a record stand
pub record-at : (ends : List ℕ) (fields : List (List ℕ)) (records : List (List (List ℕ))) (n start end : ℕ)
    → pieces_from 0 ends fields ≡ records → Rising 0 ends (length fields) → n < length records → start ≡ prev 0 ends n → end ≡ get_or ends n 0
    → (start ≤ end) × (end ≤ length fields) × (get_or records n [] ≡ take (end - start) (drop start fields))
record-at ends fields records n start end view rising there is_start is_end =
    let within : n < length ends = omega (arith, there, ap length view, length-pieces 0 ends fields) in
    let bounds = field-bounds 0 ends (length fields) n rising within in
    rw (is_start, is_end) (bounds.0, bounds.1, ap (λ rs. get_or rs n []) (sym view) ∙ piece-at 0 ends fields n within)
