-- A text that is cut in two where a line begins: its lines are those of both parts, one after the other.
use Rattle.std.proofs.Common.{◌≡◌, ◌<◌, ◌≤◌, ◌+◌, ◌-◌, ◌∙◌, ◌++◌, ℕ, zero, suc, Bool, true, List, [], ◌∷◌, length, drop, get_or, take, map, inl, inr, refl, sym, subst, ap, ap₂, arith, filter}
use Rattle.std.specs.List.{All, onto_first, slice_split}
use Rattle.std.proofs.lemmas.Bool.{cases_Bool, cases_lt}
use Rattle.std.proofs.lemmas.List.{append-nil, drop_all, get_or-take, length-take-le, map-append, take-take, take_all}
use Rattle.std.proofs.lemmas.List.Elements.{All-append, All-head, All-tail, All-weaker, filter-append}
use Rattle.amber_cut.specs.Lines.{StandApart, AreLineEnds, AreStarts, CanBegin, ends_line, is_filled, line_at, lines, until}
use Rattle.amber_cut.proofs.Apart.{apart-append}
use Rattle.amber_cut.proofs.LineRecords.{lines-none, parts-some}

-- ---- a text of which a byte ends a line

module _ (p : ℕ → Bool) where
  onto-append : (x : ℕ) (xs : List ℕ) (more : List (List ℕ)) → onto_first x (slice_split p xs ++ more) ≡ onto_first x (slice_split p xs) ++ more
  onto-append x xs more = let some = parts-some p xs in rw some.2 refl

  -- the parts before an element that passes, and those after it
  split-at : (xs : List ℕ) (k : ℕ) → k < length xs → p (get_or xs k 0) ≡ true → slice_split p xs ≡ slice_split p (take k xs) ++ slice_split p (drop (suc k) xs)
  split-at [] k h at = absurd (omega (arith, h))
  split-at (x ∷ xs) zero h at = let t : p x ≡ true = at in rw t refl
  split-at (x ∷ xs) (suc k) h at =
      let later = split-at xs k (omega (arith, h)) at in
      elim (cases_Bool (p x)) [
        | inl t ↦ rw t (ap (λ parts. [] ∷ parts) later)
        | inr f ↦ rw f (ap (onto_first x) later ∙ onto-append x (take k xs) (slice_split p (drop (suc k) xs)))
      ]

  -- what stands behind an element that passes is not in a part before it
  until-at : (xs : List ℕ) (k : ℕ) → k < length xs → p (get_or xs k 0) ≡ true → until p (take (suc k) xs) ≡ until p xs
  unfolding until
  until-at [] k h at = absurd (omega (arith, h))
  until-at (x ∷ xs) zero h at = let t : p x ≡ true = at in rw t refl
  until-at (x ∷ xs) (suc k) h at =
      let later = until-at xs k (omega (arith, h)) at in
      elim (cases_Bool (p x)) [
        | inl t ↦ rw t refl
        | inr f ↦ rw f (ap (λ ys. x ∷ ys) later)
      ]

  -- nor where the text is taken from a later place on
  until-from : (from : ℕ) (xs : List ℕ) (k : ℕ) → from ≤ k → k < length xs → p (get_or xs k 0) ≡ true → until p (drop from (take (suc k) xs)) ≡ until p (drop from xs)
  until-from zero xs k l h at = until-at xs k h at
  until-from (suc from) [] k l h at = absurd (omega (arith, h))
  until-from (suc from) (x ∷ xs) zero l h at = absurd (omega (arith, l))
  until-from (suc from) (x ∷ xs) (suc k) l h at = until-from from xs k (omega (arith, l)) (omega (arith, h)) at

-- the lines before a byte that ends one, and those after it
lines-at : (xs : List ℕ) (k : ℕ) → k < length xs → ends_line (get_or xs k 0) ≡ true → lines xs ≡ lines (take k xs) ++ lines (drop (suc k) xs)
unfolding lines
lines-at xs k h at = ap (filter is_filled) (split-at ends_line xs k h at) ∙ filter-append is_filled (slice_split ends_line (take k xs)) (slice_split ends_line (drop (suc k) xs))

-- that byte is in no line
lines-with : (xs : List ℕ) (k : ℕ) → k < length xs → ends_line (get_or xs k 0) ≡ true → lines (take (suc k) xs) ≡ lines (take k xs)
lines-with xs k h at =
    let front = take (suc k) xs in
    let long : length front ≡ suc k = length-take-le (suc k) xs (omega (arith, h)) in
    let same : ends_line (get_or front k 0) ≡ true = ap ends_line (get_or-take (suc k) xs k 0 (omega arith)) ∙ at in
    lines-at front k (omega (arith, long)) same
    ∙ ap₂ (λ before later. lines before ++ lines later) (take-take k (suc k) xs (omega arith)) (drop_all (suc k) front (omega (arith, long)))
    ∙ ap (λ none. lines (take k xs) ++ none) lines-none
    ∙ append-nil (lines (take k xs))

lines-from : (from : ℕ) (xs : List ℕ) (k : ℕ) → from ≤ suc k → k < length xs → ends_line (get_or xs k 0) ≡ true → lines (drop from xs) ≡ lines (drop from (take (suc k) xs)) ++ lines (drop (suc k) xs)
lines-from zero xs k l h at = lines-at xs k h at ∙ ap (λ front. front ++ lines (drop (suc k) xs)) (sym (lines-with xs k h at))
lines-from (suc from) [] k l h at = absurd (omega (arith, h))
lines-from (suc zero) (x ∷ xs) zero l h at = ap (λ none. none ++ lines xs) (sym lines-none)
lines-from (suc (suc from)) (x ∷ xs) zero l h at = absurd (omega (arith, l))
lines-from (suc from) (x ∷ xs) (suc k) l h at = lines-from from xs k (omega (arith, l)) (omega (arith, h)) at

-- ---- two parts

map-each : (f g : ℕ → List ℕ) (xs : List ℕ) → All (λ x. f x ≡ g x) xs → map f xs ≡ map g xs
map-each f g [] all = refl
map-each f g (x ∷ xs) all = ap₂ (λ y ys. y ∷ ys) (All-head (λ x. f x ≡ g x) x xs all) (map-each f g xs (All-tail (λ x. f x ≡ g x) x xs all))

-- the lines of the first part, as lines of the whole text
front-lines : (bytes front : List ℕ) (k : ℕ) → k < length bytes → ends_line (get_or bytes k 0) ≡ true → All (λ start. start < length (take (suc k) bytes)) front
    → map (line_at (take (suc k) bytes)) front ≡ map (line_at bytes) front
front-lines bytes front k h at within =
    let long : length (take (suc k) bytes) ≡ suc k = length-take-le (suc k) bytes (omega (arith, h)) in
    map-each (line_at (take (suc k) bytes)) (line_at bytes) front
    (All-weaker (λ start. start < length (take (suc k) bytes)) (λ start. line_at (take (suc k) bytes) start ≡ line_at bytes start) (λ start l. until-from ends_line start bytes k (omega (arith, l, long)) h at) front within)

-- nor do other bytes stand between them
front-ends : (bytes : List ℕ) (m from to : ℕ) → m ≤ length bytes → to ≤ m → AreLineEnds (take m bytes) from to → AreLineEnds bytes from to
front-ends bytes m from to short within ends =
    let long : length (take m bytes) ≡ m = length-take-le m bytes short in
    record { order = ends.order; ends = λ k l h w. ap ends_line (sym (get_or-take m bytes k 0 (omega (arith, h, within)))) ∙ ends.ends k l h (omega (arith, h, within, long)) }

front-apart : (bytes : List ℕ) (from k : ℕ) (front : List ℕ) → k < length bytes → ends_line (get_or bytes k 0) ≡ true → All (λ start. start < length (take (suc k) bytes)) front
    → StandApart (take (suc k) bytes) from front (length (take (suc k) bytes)) → StandApart bytes from front (suc k)
unfolding StandApart
front-apart bytes from k [] h at within apart =
    let long : length (take (suc k) bytes) ≡ suc k = length-take-le (suc k) bytes (omega (arith, h)) in
    front-ends bytes (suc k) from (suc k) (omega (arith, h)) (omega arith) (rw long at apart)
front-apart bytes from k (start ∷ front) h at within apart =
    let long : length (take (suc k) bytes) ≡ suc k = length-take-le (suc k) bytes (omega (arith, h)) in
    let first = All-head (λ start. start < length (take (suc k) bytes)) start front within in
    let less : start < suc k = omega (arith, first, long) in
    let same : line_at (take (suc k) bytes) start ≡ line_at bytes start = until-from ends_line start bytes k (omega (arith, less)) h at in (
      front-ends bytes (suc k) from start (omega (arith, h)) (omega (arith, less)) apart.0,
      front-apart bytes (start + length (line_at bytes start)) k front h at (All-tail (λ start. start < length (take (suc k) bytes)) start front within)
          (subst (λ line. StandApart (take (suc k) bytes) (start + length line) front (length (take (suc k) bytes))) same apart.1),
    )

-- where a byte ends a line, and the second part begins behind it
halves-at : (bytes front back : List ℕ) (from k : ℕ) → from ≤ suc k → k < length bytes → ends_line (get_or bytes k 0) ≡ true → AreStarts (take (suc k) bytes) from front → AreStarts bytes (suc k) back
    → AreStarts bytes from (front ++ back)
halves-at bytes front back from k l h at first second =
    let long : length (take (suc k) bytes) ≡ suc k = length-take-le (suc k) bytes (omega (arith, h)) in
    record {
      lines =
          map-append (line_at bytes) front back
          ∙ ap₂ (λ xs ys. xs ++ ys) (sym (front-lines bytes front k h at first.within) ∙ first.lines) second.lines
          ∙ sym (lines-from from bytes k l h at);
      within = All-append (λ start. start < length bytes) front back (All-weaker (λ start. start < length (take (suc k) bytes)) (λ start. start < length bytes) (λ start less. omega (arith, less, long, h)) front first.within) second.within;
      apart = apart-append bytes from (suc k) front back (length bytes) (front-apart bytes from k front h at first.within first.apart) second.apart;
    }

no-starts : (bytes back : List ℕ) → map (line_at bytes) back ≡ [] → back ≡ []
no-starts bytes [] none = refl
no-starts bytes (start ∷ back) none = absurd (cc none)

-- where the text ends
halves-end : (bytes front back : List ℕ) (from place : ℕ) → length bytes ≤ place → AreStarts (take place bytes) from front → AreStarts bytes place back → AreStarts bytes from (front ++ back)
halves-end bytes front back from place h first second =
    let whole : take place bytes ≡ bytes = take_all place bytes h in
    let all : AreStarts bytes from front = rw whole at first in
    let none : back ≡ [] = no-starts bytes back (second.lines ∙ ap lines (drop_all place bytes h) ∙ lines-none) in
    rw (none, append-nil front) all

-- the lines of both parts are those of the whole
pub halves : (bytes front back : List ℕ) (from place : ℕ) → from ≤ place → CanBegin bytes place → AreStarts (take place bytes) from front → AreStarts bytes place back → AreStarts bytes from (front ++ back)
halves bytes front back from zero l can first second = elim (cases_lt 0 (length bytes)) [
  | inl less ↦ absurd (omega (arith, (can less).0))
  | inr none ↦ halves-end bytes front back from 0 none first second
]
halves bytes front back from (suc k) l can first second = elim (cases_lt (suc k) (length bytes)) [
  | inl less ↦
      let before : suc k - 1 ≡ k = omega arith in
      halves-at bytes front back from k l (omega (arith, less)) (rw before at (can less).1) first second
  | inr none ↦ halves-end bytes front back from (suc k) none first second
]
