-- Rows that are to be emitted, one after the other, and whether they hold a worker.
use Rattle.std.proofs.Common.{◌≡◌, ℕ, ◌+◌, ◌<◌, ◌≤◌, ◌&&◌, not, List, [], ◌∷◌, ◌++◌, length, take, drop, get_or, Option, Some, None, is_some, Bool, true, false, refl, sym, ap, ◌∙◌, append_assoc}
use Rattle.std.specs.List.{list_all}
use Rattle.std.proofs.lemmas.Bool.{false≢true}
use Rattle.std.proofs.lemmas.List.{drop_all, drop_more}
use Rattle.amber_rows.specs.declared.value.Value.{Value}
use Rattle.amber_rows.specs.declared.cond.Cond.{Cond}
use Rattle.amber_meaning.specs.Rules.{is_watched, pass_by}
use Rattle.amber_operators.specs.ManyRows.{lets_by, passed_by}
use Rattle.amber_operators.specs.RowsTaken.{passed_of}
use Rattle.amber_operators.specs.declared.letting_by.Gate.{Gate}
use Rattle.amber_operators.specs.declared.taking_rows.Fate.{Fate}

-- one row more of a list
pub rows-step : (when : Option Cond) (gate next : Gate) (rows : List (List Value)) (i : ℕ) (row : List Value) (passes : Bool) → i < length rows → row ≡ get_or rows i row
    → ((later : List (List Value)) → (passes && lets_by when next later) ≡ lets_by when gate (row ∷ later))
    → (later : List (List Value)) → (passes && lets_by when next (drop (i + 1) rows ++ later)) ≡ lets_by when gate (drop i rows ++ later)
rows-step when gate next rows i row passes less is step later =
    step (drop (i + 1) rows ++ later) ∙ ap (λ l. lets_by when gate (l ++ later)) (ap (λ x. x ∷ drop (i + 1) rows) is ∙ sym (drop_more rows i row less))

-- one more of what becomes of rows
passed-at : (fates : List Fate) (rows : List (List Value)) (i : ℕ) (fate : Fate) (row : List Value) → i < length fates → i < length rows → fate ≡ get_or fates i fate → row ≡ get_or rows i row
    → passed_of fate row ++ passed_by (drop (i + 1) fates) (drop (i + 1) rows) ≡ passed_by (drop i fates) (drop i rows)
unfolding passed_by
passed-at fates rows i fate row less there is_fate is_row =
    (λ k. passed_of (is_fate k) (is_row k) ++ passed_by (drop (i + 1) fates) (drop (i + 1) rows)) ∙ sym (λ k. passed_by (drop_more fates i fate less k) (drop_more rows i row there k))

pub fates-step : (when : Option Cond) (gate next : Gate) (fates : List Fate) (rows : List (List Value)) (i : ℕ) (fate : Fate) (row : List Value) (passes : Bool)
    → i < length fates → i < length rows → fate ≡ get_or fates i fate → row ≡ get_or rows i row
    → ((later : List (List Value)) → (passes && lets_by when next later) ≡ lets_by when gate (passed_of fate row ++ later))
    → (later : List (List Value)) → (passes && lets_by when next (passed_by (drop (i + 1) fates) (drop (i + 1) rows) ++ later)) ≡ lets_by when gate (passed_by (drop i fates) (drop i rows) ++ later)
fates-step when gate next fates rows i fate row passes less there is_fate is_row step later =
    step (passed_by (drop (i + 1) fates) (drop (i + 1) rows) ++ later)
    ∙ ap (lets_by when gate) (sym (append_assoc (passed_of fate row) (passed_by (drop (i + 1) fates) (drop (i + 1) rows)) later))
    ∙ ap (λ l. lets_by when gate (l ++ later)) (passed-at fates rows i fate row less there is_fate is_row)

-- none is left
pub fates-end : (fates : List Fate) (rows : List (List Value)) (i : ℕ) → length fates ≤ i → (later : List (List Value)) → passed_by (drop i fates) (drop i rows) ++ later ≡ later
unfolding passed_by
fates-end fates rows i past later = ap (λ (l : List Fate). passed_by l (drop i rows) ++ later) (drop_all i fates past)

-- ---- no condition

none-watched : (rows : List (List Value)) → list_all (λ other. not (is_watched None other)) rows ≡ true
none-watched [] = refl
none-watched (row ∷ rows) = none-watched rows

none-holds : (waved : Bool) (rows : List (List Value)) → pass_by None waved rows ≡ true
none-holds waved [] = refl
none-holds true (row ∷ rows) = none-watched rows
none-holds false (row ∷ rows) = none-watched rows

-- with none in force no row holds a worker
pub lets-any : (when : Option Cond) (gate : Gate) (rows other : List (List Value)) → is_some when ≡ false → lets_by when gate rows ≡ lets_by when gate other
lets-any None gate rows other none = none-holds gate.waved (take gate.left rows) ∙ sym (none-holds gate.waved (take gate.left other))
lets-any (Some cond) gate rows other none = absurd (false≢true (sym none))
