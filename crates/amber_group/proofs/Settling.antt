-- One of a list takes in a row, after those before it.
use Rattle.std.proofs.Common.{◌≡◌, ℕ, ◌+◌, ◌<◌, List, [], ◌∷◌, ◌++◌, length, get_or, map, take, drop, set, Option, None, sym, ap, ◌∙◌, arith}
use Rattle.std.proofs.lemmas.List.{drop-set-lt, drop_more, map_more, take_more_set}
use Rattle.amber_rows.specs.declared.value.Value.{Value}
use Rattle.amber_group.specs.declared.running.Running.{Running}
use Rattle.amber_group.specs.Steps.{change_of, with_best, running_after}

-- the first ones have the row, and the others are as they were
pub record Settled (row : List Value) (i : ℕ) (first runnings : List Running) (changes : List (Option Value)) : Type 0 where
  pub done : take i runnings ≡ map (running_after row) (take i first)
  pub rest : drop i runnings ≡ drop i first
  pub left : drop i changes ≡ map (change_of row) (drop i first)

here : {A : Type 0} (xs : List A) (i : ℕ) (x : A) → i < length xs → x ≡ get_or xs i x → drop i xs ≡ x ∷ drop (i + 1) xs
here xs i x less is = drop_more xs i x less ∙ ap (λ y. y ∷ drop (i + 1) xs) (sym is)

heads : {A : Type 0} (x y : A) (xs ys : List A) → (x ∷ xs) ≡ (y ∷ ys) → (x ≡ y) × (xs ≡ ys)
heads x y xs ys e = (cc, cc)

pub with_best-next : (row : List Value) (i : ℕ) (first runnings : List Running) (changes : List (Option Value)) (running new : Running) (change : Option Value)
    → i < length first → i < length runnings → i < length changes → running ≡ get_or runnings i running → change ≡ get_or changes i change
    → Settled row i first runnings changes → new ≡ with_best row change running → Settled row (i + 1) first (set runnings i new) (set changes i None)
with_best-next row i first runnings changes running new change in_first in_runnings in_changes is change_is old n =
    let same = heads (get_or first i running) running (drop (i + 1) first) (drop (i + 1) runnings)
    (sym (drop_more first i running in_first) ∙ sym old.rest ∙ here runnings i running in_runnings is) in
    let cells = heads change (change_of row (get_or first i running)) (drop (i + 1) changes) (map (change_of row) (drop (i + 1) first))
    (sym (here changes i change in_changes change_is) ∙ old.left ∙ ap (map (change_of row)) (drop_more first i running in_first)) in
    let stepped : new ≡ running_after row (get_or first i running) =
    n ∙ (λ j. with_best row (cells.0 j) (sym same.0 j)) in
    record {
      done =
          take_more_set runnings i new in_runnings
          ∙ (λ j. old.done j ++ stepped j ∷ [])
          ∙ sym (map_more (running_after row) first i running in_first);
      rest = drop-set-lt (i + 1) runnings i new (omega arith) ∙ sym same.1;
      left = drop-set-lt (i + 1) changes i None (omega arith) ∙ cells.1;
    }
