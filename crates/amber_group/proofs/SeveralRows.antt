-- Rows that came one after the other are taken out in the other order.
use Rattle.std.proofs.Common.{◌≡◌, ◌≤◌, ◌<◌, Bool, true, false, cond, filter, get_or, take, List, [], ◌∷◌, ◌++◌, refl, sym, ap, ◌∙◌, subst, ℕ, ◌+◌, length, length-append, append_assoc, arith}
use Rattle.std.proofs.lemmas.List.{append-nil, take_more}
use Rattle.std.proofs.lemmas.List.Elements.{filter-append}
use Rattle.amber_rows.specs.declared.value.Value.{Value}
use Rattle.amber_group.specs.Feeding.{FeedsEach}
use Rattle.amber_group.specs.Group.{FeedsRow, FeedsRows, Group, IsFedWith}
use Rattle.amber_group.specs.Undoing.{Before, CanUndo, CanUndoAll, TakeAllBack, TakesBack, restored, restored_all}

-- ---- taken out

pub restored-last : (befores : List Before) (before : Before) (state : Group) → restored_all (befores ++ before ∷ []) state ≡ restored_all befores (restored before state)
unfolding restored_all
restored-last [] before state = refl
restored-last (first ∷ befores) before state = ap (restored first) (restored-last befores before state)

can-last : (befores : List Before) (before : Before) (state : Group) → CanUndo before state → CanUndoAll befores (restored before state) → CanUndoAll (befores ++ before ∷ []) state
unfolding restored_all CanUndoAll
can-last [] before state one all = (tt, one)
can-last (first ∷ befores) before state one all = (can-last befores before state one all.0, subst (CanUndo first) (sym (restored-last befores before state)) all.1)

pub last-can : (befores : List Before) (before : Before) (state : Group) → CanUndoAll (befores ++ before ∷ []) state → CanUndo before state × CanUndoAll befores (restored before state)
unfolding restored_all CanUndoAll
last-can [] before state all = (all.1, tt)
last-can (first ∷ befores) before state all =
    let rest = last-can befores before state all.0 in
    (rest.0, (rest.1, subst (CanUndo first) (restored-last befores before state) all.1))

-- nothing came
pub back-none : (befores : List Before) (state : Group) → befores ≡ [] → TakeAllBack befores state state
unfolding restored_all CanUndoAll
back-none befores state none = record {
  can = subst (λ l. CanUndoAll l state) (sym none) tt;
  back = ap (λ l. restored_all l state) none;
}

-- a row more came
pub back-more : (befores more : List Before) (before : Before) (start old new : Group) → TakesBack before old new → more ≡ befores ++ before ∷ [] → TakeAllBack befores start old → TakeAllBack more start new
back-more befores more before start old new takes is all = record {
  can = subst (λ l. CanUndoAll l new) (sym is) (can-last befores before new takes.can (subst (CanUndoAll befores) (sym takes.back) all.can));
  back = ap (λ l. restored_all l new) is ∙ restored-last befores before new ∙ ap (restored_all befores) takes.back ∙ all.back;
}

-- ---- taken in

pub feeds-none : (state : Group) → FeedsRows [] state state
feeds-none state = record {
  keys = refl;
  aggs = refl;
  fed = omega arith;
  stands = λ before fed. subst (IsFedWith state) (sym (append-nil before)) fed;
}

pub feeds-one : (row : List Value) (old new : Group) → FeedsRow row old new → FeedsRows (row ∷ []) old new
feeds-one row old new one = record { keys = one.keys; aggs = one.aggs; fed = one.fed; stands = one.stands }

pub feeds-then : (rows later : List (List Value)) (start mid now : Group) → FeedsRows rows start mid → FeedsRows later mid now → FeedsRows (rows ++ later) start now
feeds-then rows later start mid now first next = record {
  keys = next.keys ∙ first.keys;
  aggs = next.aggs ∙ first.aggs;
  fed = omega (arith, first.fed, next.fed, length-append rows later);
  stands = λ before fed. subst (IsFedWith now) (append_assoc before rows later) (next.stands (before ++ rows) (first.stands before fed));
}

-- of one row one at most passes a test
pub one-at-most : (test : List Value → Bool) (row : List Value) → length (filter test (row ∷ [])) ≤ 1
one-at-most test row = by (test row)
  where
    by : (t : Bool) → length (cond t (row ∷ []) []) ≤ 1
    by true = omega arith
    by false = omega arith

-- those of the rows so far that pass a test, and then the next one if it does
pub filter-next : (test : List Value → Bool) (rows : List (List Value)) (i : ℕ) (row : List Value) → i < length rows → row ≡ get_or rows i row
    → filter test (take (i + 1) rows) ≡ filter test (take i rows) ++ filter test (row ∷ [])
filter-next test rows i row less here =
    ap (filter test) (take_more rows i row less ∙ ap (λ one. take i rows ++ one ∷ []) (sym here)) ∙ filter-append test (take i rows) (row ∷ [])

-- one row after the other
pub each-then : (rows later : List (List Value)) (start mid now : Group) → FeedsEach rows start mid → FeedsEach later mid now → FeedsEach (rows ++ later) start now
unfolding FeedsEach
each-then [] later start mid now first next = subst (λ s. FeedsEach later s now) first next
each-then (row ∷ rows) later start mid now first next = (first.0, first.1, each-then rows later first.0 mid now first.2 next)

-- a row that passes a test, where it does
pub each-one : (test : List Value → Bool) (row : List Value) (old new : Group) → (test row ≡ false → new ≡ old) → (test row ≡ true → FeedsRow row old new)
    → FeedsEach (filter test (row ∷ [])) old new
unfolding FeedsEach
each-one test row old new aside fed = by (test row) aside fed
  where
    by : (t : Bool) → (t ≡ false → new ≡ old) → (t ≡ true → FeedsRow row old new) → FeedsEach (cond t (row ∷ []) []) old new
    by true absent present = (new, present refl, refl)
    by false absent present = absent refl
