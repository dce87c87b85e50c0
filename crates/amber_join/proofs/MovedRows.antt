-- Rows that were moved one after the other go back in the other order.
use Rattle.std.proofs.Common.{◌≡◌, ◌-◌, ◌+◌, ℕ, Bool, List, [], ◌∷◌, ◌++◌, length, take, drop, filter, append_assoc, refl, sym, ap, ◌∙◌, subst, arith, length-append}
use Rattle.std.proofs.Math.Seq.{take-add, take-append_seam}
use Rattle.std.proofs.lemmas.List.Elements.{filter-append}
use Rattle.amber_rows.specs.Operators.{pick_cells}
use Rattle.amber_rows.specs.declared.value.Value.{Value}
use Rattle.amber_join.specs.Join.{Join}
use Rattle.amber_join.specs.Moving.{BuildSide, CanMoveAllBack, CanMoveBack, MoveAllBack, MovesBack, all_moved_back, moved_back}
use Rattle.amber_join.specs.declared.several.Moved.{Moved}
use Rattle.amber_join.specs.declared.several.Moved.TheVariants as moved

-- ---- one row

drop-seam : {A : Type 0} (xs ys : List A) → drop (length xs) (xs ++ ys) ≡ ys
drop-seam [] ys = refl
drop-seam (x ∷ xs) ys = drop-seam xs ys

before-last : {A : Type 0} (xs : List A) (x : A) → length (xs ++ x ∷ []) - 1 ≡ length xs
before-last xs x = omega (arith, length-append xs (x ∷ []))

-- all but the last, and the last
pub front-of : {A : Type 0} (xs : List A) (x : A) → take (length (xs ++ x ∷ []) - 1) (xs ++ x ∷ []) ≡ xs
front-of xs x = ap (λ n. take n (xs ++ x ∷ [])) (before-last xs x) ∙ take-append_seam xs (x ∷ [])

pub last-of : {A : Type 0} (xs : List A) (x : A) → drop (length (xs ++ x ∷ []) - 1) (xs ++ x ∷ []) ≡ x ∷ []
last-of xs x = ap (λ n. drop n (xs ++ x ∷ [])) (before-last xs x) ∙ drop-seam xs (x ∷ [])

-- a row that a join has last goes to the front of the list
pub kept-back : (key row : List Value) (old : Join) (front : List (List Value)) (rows : List (List Value)) → old.rows ≡ front ++ row ∷ []
    → (record { state = record old { rows = front }; rows = row ∷ rows }) ≡ moved_back (moved.Kept key) (record { state = old; rows = rows })
kept-back key row old front rows is = λ i. record {
  state = record old { rows = sym (ap (λ l. take (length l - 1) l) is ∙ front-of front row) i };
  rows = sym (ap (λ l. drop (length l - 1) l) is ∙ last-of front row) i ++ rows;
}

-- a row that suits came from the front of the list
pub kept-moves : (row key : List Value) (state : Join) (rows : List (List Value)) → key ≡ pick_cells state.build_keys row
    → MovesBack (moved.Kept key) (record { state = state; rows = row ∷ rows }) (record { state = record state { rows = state.rows ++ row ∷ [] }; rows = rows })
kept-moves row key state rows own = record {
  can = (state.rows, row, refl, own);
  back = sym (kept-back key row (record state { rows = state.rows ++ row ∷ [] }) state.rows rows refl);
}

-- ---- several rows

pub back-last : (all : List Moved) (one : Moved) (side : BuildSide) → all_moved_back (all ++ one ∷ []) side ≡ all_moved_back all (moved_back one side)
unfolding all_moved_back
back-last [] one side = refl
back-last (first ∷ all) one side = ap (moved_back first) (back-last all one side)

can-last : (all : List Moved) (one : Moved) (side : BuildSide) → CanMoveBack one side → CanMoveAllBack all (moved_back one side) → CanMoveAllBack (all ++ one ∷ []) side
unfolding all_moved_back CanMoveAllBack
can-last [] one side can cans = (tt, can)
can-last (first ∷ all) one side can cans = (can-last all one side can cans.0, subst (CanMoveBack first) (sym (back-last all one side)) cans.1)

pub last-can : (all : List Moved) (one : Moved) (side : BuildSide) → CanMoveAllBack (all ++ one ∷ []) side → CanMoveBack one side × CanMoveAllBack all (moved_back one side)
unfolding all_moved_back CanMoveAllBack
last-can [] one side cans = (cans.1, tt)
last-can (first ∷ all) one side cans =
    let rest = last-can all one side cans.0 in
    (rest.0, (rest.1, subst (CanMoveBack first) (back-last all one side) cans.1))

-- no row was moved
pub back-none : (all : List Moved) (side : BuildSide) → all ≡ [] → MoveAllBack all side side
unfolding all_moved_back CanMoveAllBack
back-none all side none = record {
  can = subst (λ l. CanMoveAllBack l side) (sym none) tt;
  back = ap (λ l. all_moved_back l side) none;
}

-- a row more was
pub back-more : (all more : List Moved) (one : Moved) (start old new : BuildSide) → MovesBack one old new → more ≡ all ++ one ∷ [] → MoveAllBack all start old → MoveAllBack more start new
back-more all more one start old new moves is before = record {
  can = subst (λ l. CanMoveAllBack l new) (sym is) (can-last all one new moves.can (subst (CanMoveAllBack all) (sym moves.back) before.can));
  back = ap (λ l. all_moved_back l new) is ∙ back-last all one new ∙ ap (all_moved_back all) moves.back ∙ before.back;
}

-- those of the rows so far that pass a test, and then the next one if it does
pub filter-next : (test : List Value → Bool) (before rows rest : List (List Value)) (i : ℕ) → rest ≡ drop i rows
    → (before ++ filter test (take i rows)) ++ filter test (take 1 rest) ≡ before ++ filter test (take (i + 1) rows)
filter-next test before rows rest i is =
    append_assoc before (filter test (take i rows)) (filter test (take 1 rest))
    ∙ ap (λ l. before ++ l) (sym (filter-append test (take i rows) (take 1 rest))
    ∙ ap (λ l. filter test (take i rows ++ take 1 l)) is ∙ ap (filter test) (sym (take-add i 1 rows)))
