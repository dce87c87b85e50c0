-- The ends of lines between lines: noted line by line, in two parts of a text, and up to its end.
use Rattle.std.proofs.Common.{◌≡◌, ◌<◌, ◌≤◌, ◌+◌, ◌-◌, ◌∙◌, ◌==◌, ◌++◌, ℕ, zero, suc, Bool, true, false, List, [], ◌∷◌, length, drop, get_or, take, inl, inr, refl, sym, subst, ap, arith, length-drop}
use Rattle.std.specs.List.{All}
use Rattle.std.proofs.lemmas.Bool.{cases_Bool, cases_lt, ne_eqb}
use Rattle.std.proofs.lemmas.List.{get_or-drop, get_or-take, length-take-le, take-take}
use Rattle.std.proofs.lemmas.List.Elements.{All-head, All-tail}
use Rattle.amber_cut.specs.Lines.{StandApart, AreLineEnds, ends_line, line_at, start_if_filled, until}

-- ---- the first part

module _ (p : ℕ → Bool) where
  -- it is as long as the place of the first element that passes
  pub until-length : (xs : List ℕ) (n : ℕ) → take n xs ≡ until p xs → n ≤ length xs → length (until p xs) ≡ n
  until-length xs n line within = ap length (sym line) ∙ length-take-le n xs within

  -- that element passes
  pub until-end : (xs : List ℕ) → length (until p xs) < length xs → p (get_or xs (length (until p xs)) 0) ≡ true
  unfolding until
  until-end [] h = absurd (omega (arith, h))
  until-end (x ∷ xs) h = elim (cases_Bool (p x)) [
    | inl t ↦ rw t t
    | inr f ↦ rw f (until-end xs (omega (arith, rw f at h)))
  ]

  -- and none before it
  pub until-before : (xs : List ℕ) (k : ℕ) → k < length (until p xs) → p (get_or xs k 0) ≡ false
  unfolding until
  until-before [] k h = absurd (omega (arith, h))
  until-before (x ∷ xs) zero h = elim (cases_Bool (p x)) [
    | inl t ↦ absurd (omega (arith, rw t at h))
    | inr f ↦ f
  ]
  until-before (x ∷ xs) (suc k) h = elim (cases_Bool (p x)) [
    | inl t ↦ absurd (omega (arith, rw t at h))
    | inr f ↦ until-before xs k (omega (arith, rw f at h))
  ]

  -- it stands at the front
  pub until-take : (xs : List ℕ) → take (length (until p xs)) xs ≡ until p xs
  unfolding until
  until-take [] = refl
  until-take (x ∷ xs) = elim (cases_Bool (p x)) [
    | inl t ↦ rw t refl
    | inr f ↦ rw f (ap (λ ys. x ∷ ys) (until-take xs))
  ]

  pub until-short : (xs : List ℕ) → length (until p xs) ≤ length xs
  unfolding until
  until-short [] = omega arith
  until-short (x ∷ xs) = elim (cases_Bool (p x)) [
    | inl t ↦ rw t (omega arith)
    | inr f ↦ rw f (omega (arith, until-short xs))
  ]

-- ---- ends

pub ends-none : (bytes : List ℕ) (place : ℕ) → AreLineEnds bytes place place
ends-none bytes place = record { order = omega arith; ends = λ k l h w. absurd (omega (arith, l, h)) }

ends-on : (bytes : List ℕ) (from mid to : ℕ) → AreLineEnds bytes from mid → AreLineEnds bytes mid to → AreLineEnds bytes from to
ends-on bytes from mid to first second =
    record {
      order = omega (arith, first.order, second.order);
      ends = λ k l h w. elim (cases_lt k mid) [
        | inl before ↦ first.ends k l before w
        | inr behind ↦ second.ends k behind h w
      ];
    }

-- ---- one after the other

apart-before : (bytes : List ℕ) (from mid : ℕ) (starts : List ℕ) (to : ℕ) → AreLineEnds bytes from mid → StandApart bytes mid starts to → StandApart bytes from starts to
unfolding StandApart
apart-before bytes from mid [] to first later = ends-on bytes from mid to first later
apart-before bytes from mid (start ∷ starts) to first later = (ends-on bytes from mid start first later.0, later.1)

pub apart-append : (bytes : List ℕ) (from mid : ℕ) (front back : List ℕ) (to : ℕ) → StandApart bytes from front mid → StandApart bytes mid back to → StandApart bytes from (front ++ back) to
unfolding StandApart
apart-append bytes from mid [] back to first second = apart-before bytes from mid back to first second
apart-append bytes from mid (start ∷ front) back to first second = (first.0, apart-append bytes (start + length (line_at bytes start)) mid front back to first.1 second)

pub apart-none : (bytes : List ℕ) (from : ℕ) → StandApart bytes from [] from
unfolding StandApart
apart-none bytes from = ends-none bytes from

-- a line more was noted
apart-line : (bytes : List ℕ) (at n : ℕ) → length (line_at bytes at) ≡ n → AreLineEnds bytes (at + n) (at + (n + 1)) → StandApart bytes at (start_if_filled at n) (at + (n + 1))
unfolding StandApart
apart-line bytes at zero long ends = let same : at + 0 ≡ at = omega arith in rw same at ends
apart-line bytes at (suc n) long ends =
    let some : (suc n == 0) ≡ false = ne_eqb (suc n) 0 (λ z. omega (arith, z)) in
    rw some (ends-none bytes at, subst (λ line. AreLineEnds bytes (at + line) (at + (suc n + 1))) (sym long) ends)

pub apart-note : (bytes : List ℕ) (from : ℕ) (starts : List ℕ) (at n : ℕ) → take n (drop at bytes) ≡ until ends_line (drop at bytes) → n ≤ length (drop at bytes) → StandApart bytes from starts at
    → StandApart bytes from (starts ++ start_if_filled at n) (at + (n + 1))
apart-note bytes from starts at n line within before =
    let long : length (line_at bytes at) ≡ n = until-length ends_line (drop at bytes) n line within in
    let ends : AreLineEnds bytes (at + n) (at + (n + 1)) = record {
      order = omega arith;
      ends = λ k l h w.
          let here : k ≡ at + n = omega (arith, l, h) in
          let less : length (line_at bytes at) < length (drop at bytes) = omega (arith, long, length-drop at bytes, w, here) in
          ap (λ j. ends_line (get_or bytes j 0)) (here ∙ ap (λ m. at + m) (sym long))
          ∙ ap ends_line (sym (get_or-drop at bytes (length (line_at bytes at)) 0))
          ∙ until-end ends_line (drop at bytes) less;
    } in
    apart-append bytes from at starts (start_if_filled at n) (at + (n + 1)) before (apart-line bytes at n long ends)

-- all lines were noted
pub apart-all : (bytes : List ℕ) (from : ℕ) (starts : List ℕ) (to : ℕ) → from ≤ length bytes → All (λ start. start < length bytes) starts → length bytes ≤ to → StandApart bytes from starts to → StandApart bytes from starts (length bytes)
unfolding StandApart
apart-all bytes from [] to short within long apart = record { order = short; ends = λ k l h w. apart.ends k l (omega (arith, h, long)) w }
apart-all bytes from (start ∷ starts) to short within long apart =
    let here = All-head (λ start. start < length bytes) start starts within in
    let line = until-short ends_line (drop start bytes) in
    (apart.0, apart-all bytes (start + length (line_at bytes start)) starts to (omega (arith, here, line, length-drop start bytes)) (All-tail (λ start. start < length bytes) start starts within) long apart.1)

-- ---- the line behind one

pub apart-next : (bytes : List ℕ) (from : ℕ) (starts : List ℕ) (to k : ℕ) → StandApart bytes from starts to → k < length starts
    → AreLineEnds bytes (get_or starts k 0 + length (line_at bytes (get_or starts k 0))) (get_or starts (k + 1) to)
unfolding StandApart
apart-next bytes from [] to k apart h = absurd (omega (arith, h))
apart-next bytes from (start ∷ []) to zero apart h = apart.1
apart-next bytes from (start ∷ next ∷ starts) to zero apart h = apart.1.0
apart-next bytes from (start ∷ starts) to (suc k) apart h =
    let later = apart-next bytes (start + length (line_at bytes start)) starts to k apart.1 (omega (arith, h)) in
    let same : suc k + 1 ≡ suc (k + 1) = omega arith in
    rw same later

-- where it begins is within the text
pub next-within : (bytes starts : List ℕ) (k : ℕ) → All (λ start. start < length bytes) starts → get_or starts k (length bytes) ≤ length bytes
next-within bytes [] k within = omega arith
next-within bytes (start ∷ starts) zero within = let here = All-head (λ start. start < length bytes) start starts within in omega (arith, here)
next-within bytes (start ∷ starts) (suc k) within = next-within bytes starts k (All-tail (λ start. start < length bytes) start starts within)

pub next-behind : (bytes : List ℕ) (from : ℕ) (starts : List ℕ) (k : ℕ) → StandApart bytes from starts (length bytes) → k < length starts → get_or starts k 0 ≤ get_or starts (k + 1) (length bytes)
next-behind bytes from starts k apart h = let next = apart-next bytes from starts (length bytes) k apart h in let order = next.order in omega (arith, order)

-- what stands before the ends of lines in front of it is the line
line-length : (bytes : List ℕ) (start next found : ℕ) → AreLineEnds bytes (start + length (line_at bytes start)) next → next ≤ length bytes → (let rest = take (next - start) (drop start bytes) in AreLineEnds rest found (length rest) → found ≤ length rest → (0 < found → ends_line (get_or rest (found - 1) 0) ≡ false) → found ≡ length (line_at bytes start))
line-length bytes start next found apart within ends short last =
    let xs = drop start bytes in
    let rest = take (next - start) xs in
    let line = length (line_at bytes start) in
    let order = apart.order in
    let long : length rest ≡ next - start = length-take-le (next - start) xs (omega (arith, within, length-drop start bytes)) in
    elim (cases_lt found line) [
      | inl less ↦
          let end : ends_line (get_or rest found 0) ≡ true = ends.ends found (omega arith) (omega (arith, less, long, order)) (omega (arith, less, long, order)) in
          let same : get_or rest found 0 ≡ get_or xs found 0 = get_or-take (next - start) xs found 0 (omega (arith, less, order)) in
          let inside = until-before ends_line xs found less in
          absurd (cc (ap ends_line same, end, inside))
      | inr more ↦ elim (cases_lt line found) [
        | inl less ↦
            let before : ends_line (get_or rest (found - 1) 0) ≡ false = last (omega (arith, less)) in
            let same : get_or rest (found - 1) 0 ≡ get_or bytes (start + (found - 1)) 0 = get_or-take (next - start) xs (found - 1) 0 (omega (arith, less, short, long)) ∙ get_or-drop start bytes (found - 1) 0 in
            let end : ends_line (get_or bytes (start + (found - 1)) 0) ≡ true = apart.ends (start + (found - 1)) (omega (arith, less)) (omega (arith, less, short, long)) (omega (arith, less, short, long, within)) in
            absurd (cc (ap ends_line same, end, before))
        | inr none ↦ omega (arith, more, none)
      ]
    ]

pub line-found : (bytes : List ℕ) (start next found : ℕ) → AreLineEnds bytes (start + length (line_at bytes start)) next → next ≤ length bytes → (let rest = take (next - start) (drop start bytes) in AreLineEnds rest found (length rest) → found ≤ length rest → (0 < found → ends_line (get_or rest (found - 1) 0) ≡ false) → take found rest ≡ line_at bytes start)
line-found bytes start next found apart within ends short last =
    let xs = drop start bytes in
    let order = apart.order in
    rw (line-length bytes start next found apart within ends short last)
    (take-take (length (line_at bytes start)) (next - start) xs (omega (arith, order)) ∙ until-take ends_line xs)
