-- Rows that go in two entries may go in one.
use Rattle.std.proofs.Common.{◌≡◌, ◌≢◌, ℕ, ◌+◌, ◌-◌, ◌<◌, ◌≤◌, ◌&&◌, eqb, List, [], ◌∷◌, ◌++◌, length, take, drop, replicate, Option, Bool, true, false, not, if◌then◌else◌, ◌⊎◌, inl, inr, refl, sym, ap, ◌∙◌, arith, append_assoc, length-append}
use Rattle.std.specs.List.{list_all}
use Rattle.std.proofs.Math.Seq.{take-add}
use Rattle.std.proofs.lemmas.Bool.{and_from, cases_eq, ne_eqb}
use Rattle.std.proofs.lemmas.List.{drop-append-le, drop-drop, length-drop, length-replicate, length-take, replicate-append-replicate, take-append-le}
use Rattle.std.proofs.lemmas.List.Folds.{list_all-append}
use Rattle.amber_rows.specs.declared.value.Value.{Value}
use Rattle.amber_rows.specs.declared.cond.Cond.{Cond}
use Rattle.amber_meaning.specs.Position.{Position, Restraint, all_arrivals, product}
use Rattle.amber_meaning.specs.Rules.{MayGo, Orders, assigned, is_watched, pass_by, produced_with, product_with, restraint_used, with_rows}
use Rattle.amber_meaning.specs.Task.{Role}
use Rattle.amber_meaning.proofs.Orderly.{product-later}

-- ---- the position after both

hand-both : (counted : Bool) (hand outs others : ℕ)
    → (if counted then (if counted then hand - outs else hand) - others else (if counted then hand - outs else hand)) ≡ (if counted then hand - (outs + others) else hand)
hand-both true hand outs others = omega arith
hand-both false hand outs others = refl

waved-both : (waved : Bool) (outs others : ℕ) → ((waved && eqb outs 0) && eqb others 0) ≡ (waved && eqb (outs + others) 0)
waved-both false outs others = refl
waved-both true outs others = by (cases_eq outs 0) (cases_eq others 0)
  where
    by : (outs ≡ 0) ⊎ (outs ≡ 0 → ⊥) → (others ≡ 0) ⊎ (others ≡ 0 → ⊥) → (eqb outs 0 && eqb others 0) ≡ eqb (outs + others) 0
    by (inl none) (inl e) = rw (none, e) refl
    by (inl none) (inr some) = rw (none, ne_eqb others 0 some, ne_eqb (0 + others) 0 (λ e. some (omega arith))) refl
    by (inr some) h = rw (ne_eqb outs 0 some, ne_eqb (outs + others) 0 (λ e. some (omega arith))) refl

used-both : (counted : Bool) (outs others : ℕ) (r : Restraint) → restraint_used counted others (restraint_used counted outs r) ≡ restraint_used counted (outs + others) r
used-both counted outs others r = λ i. record r { hand = hand-both counted r.hand outs others i; waved = waved-both r.waved outs others i }

replicate-both : {A : Type 0} (xs : List A) (n m : ℕ) (x : A) → (xs ++ replicate n x) ++ replicate m x ≡ xs ++ replicate (n + m) x
replicate-both xs n m x = append_assoc xs (replicate n x) (replicate m x) ∙ ap (λ l. xs ++ l) (replicate-append-replicate n m x)

pub with_rows-both : (orders : Orders) (p : Position) (rows outs more others : ℕ) → with_rows orders more others (with_rows orders rows outs p) ≡ with_rows orders (rows + more) (outs + others) p
with_rows-both orders p rows outs more others = λ i. record p {
  constants = replicate-both p.constants rows more orders.constants i;
  outcomes = replicate-both p.outcomes outs others true i;
  restraint = used-both orders.counted outs others p.restraint i;
}

-- ---- rows that pass by the condition

pass-unwaved : (when : Option Cond) (rows : List (List Value)) → pass_by when false rows ≡ list_all (λ (row : List Value). not (is_watched when row)) rows
pass-unwaved when [] = refl
pass-unwaved when (row ∷ rows) = refl

pass-both : (when : Option Cond) (waved : Bool) (n : ℕ) (xs ys : List (List Value)) → length xs ≡ n → pass_by when waved xs ≡ true
    → pass_by when (waved && eqb n 0) ys ≡ true → pass_by when waved (xs ++ ys) ≡ true
pass-both when true n [] ys size h k = rw (ap (λ (m : ℕ). pass_by when (eqb m 0) ys) (sym size)) at k
pass-both when false n [] ys size h k = k
pass-both when true n (x ∷ xs) ys size h k =
    let later = sym (pass-unwaved when ys) ∙ sym (ap (λ b. pass_by when b ys) (ne_eqb n 0 (λ none. omega arith))) ∙ k in
    list_all-append (λ (row : List Value). not (is_watched when row)) xs ys ∙ and_from _ _ h later
pass-both when false n (x ∷ xs) ys size h k =
    list_all-append (λ (row : List Value). not (is_watched when row)) (x ∷ xs) ys ∙ and_from _ _ h (sym (pass-unwaved when ys) ∙ k)

-- ---- both together

product-both : (role : Role) (orders : Orders) (p : Position) (rows outs more : ℕ) → product_with role orders (with_rows orders rows outs p) more ≡ product_with role orders p (rows + more)
product-both role orders p rows outs more = ap (product role p.taken) (replicate-both p.constants rows more orders.constants)

-- rows of a list that grows: the next ones of the old list, and then the next ones of the new
rows-both : (outcomes outs others : ℕ) (rows more all : List (List Value)) → all ≡ rows ++ more → outcomes + outs ≤ length rows
    → take (outs + others) (drop outcomes all) ≡ take outs (drop outcomes rows) ++ take others (drop (outcomes + outs) all)
rows-both outcomes outs others rows more all is within =
    let size = length-drop outcomes rows in
    take-add outs others (drop outcomes all)
    ∙ ap (λ (l : List (List Value)). take outs (drop outcomes l) ++ take others (drop outs (drop outcomes all))) is
    ∙ ap (λ (l : List (List Value)). take outs l ++ take others (drop outs (drop outcomes all))) (drop-append-le outcomes rows more (omega arith))
    ∙ ap (λ (l : List (List Value)). l ++ take others (drop outs (drop outcomes all))) (take-append-le outs (drop outcomes rows) more (omega arith))
    ∙ ap (λ (l : List (List Value)). take outs (drop outcomes rows) ++ take others l) (drop-drop outs outcomes all)

-- rows that were taken and emitted, and then some that may be, may go in one entry
pub go-both : (role : Role) (orders : Orders) (p : Position) (rows outs more others : ℕ) → MayGo (assigned role orders) p rows outs → MayGo (assigned role orders) (with_rows orders rows outs p) more others
    → MayGo (assigned role orders) p (rows + more) (outs + others)
go-both role orders p rows outs more others a b =
    record {
      free = a.free;
      within = within;
      produced = produced;
      drained = λ some. drained (cases_eq more 0) some;
      in_hand = λ counted. in_hand counted;
      before_taking = λ counted some. before_taking counted (cases_eq more 0) some;
      no_stop = no_stop;
    }
  where
    gone : length (p.outcomes ++ replicate outs true) ≡ length p.outcomes + outs
    gone = length-append p.outcomes (replicate outs true) ∙ ap (λ (n : ℕ). length p.outcomes + n) (length-replicate outs true)

    taken : length (p.constants ++ replicate rows orders.constants) ≡ length p.constants + rows
    taken = length-append p.constants (replicate rows orders.constants) ∙ ap (λ (n : ℕ). length p.constants + n) (length-replicate rows orders.constants)

    made : (n : ℕ) → produced_with role orders (with_rows orders rows outs p) n ≡ produced_with role orders p (rows + n)
    made n = ap length (product-both role orders p rows outs n)

    within : length p.constants + (rows + more) ≤ length (all_arrivals role p.taken)
    within = let h = b.within in let size = taken in omega arith

    produced : length p.outcomes + (outs + others) ≤ produced_with role orders p (rows + more)
    produced = let h = b.produced in let size = gone in let same = made more in omega arith

    -- the rows before the last
    before : more ≢ 0 → produced_with role orders (with_rows orders rows outs p) (more - 1) ≡ produced_with role orders p (rows + more - 1)
    before some = made (more - 1) ∙ ap (produced_with role orders p) (omega arith)

    alone : more ≡ 0 → produced_with role orders p (rows + more - 1) ≡ produced_with role orders p (rows - 1)
    alone none = ap (produced_with role orders p) (omega arith)

    drained : (more ≡ 0) ⊎ (more ≡ 0 → ⊥) → 0 < rows + more → produced_with role orders p (rows + more - 1) ≤ length p.outcomes + (outs + others)
    drained (inl none) some = let h = a.drained (omega arith) in let same = alone none in omega arith
    drained (inr more_some) some = let h = b.drained (omega arith) in let size = gone in let same = before more_some in omega arith

    hand-now : orders.counted ≡ true → (with_rows orders rows outs p).restraint.hand ≡ p.restraint.hand - outs
    hand-now counted = ap (λ (c : Bool). if c then p.restraint.hand - outs else p.restraint.hand) counted

    in_hand : orders.counted ≡ true → outs + others ≤ p.restraint.hand
    in_hand counted = let h = a.in_hand counted in let k = b.in_hand counted in let now = hand-now counted in omega arith

    before_taking : orders.counted ≡ true → (more ≡ 0) ⊎ (more ≡ 0 → ⊥) → 0 < rows + more → produced_with role orders p (rows + more - 1) < length p.outcomes + p.restraint.hand
    before_taking counted (inl none) some = let h = a.before_taking counted (omega arith) in let same = alone none in omega arith
    before_taking counted (inr more_some) some =
        let h = b.before_taking counted (omega arith) in
        let k = a.in_hand counted in
        let size = gone in
        let now = hand-now counted in
        let same = before more_some in
        omega arith

    all : List (List Value)
    all = product_with role orders p (rows + more)

    no_stop : pass_by orders.when p.restraint.waved (take (outs + others) (drop (length p.outcomes) all)) ≡ true
    no_stop =
        let longer = product-later role p.taken (p.constants ++ replicate rows orders.constants) more orders.constants (let h = b.within in h) in
        let is : all ≡ product_with role orders p rows ++ longer.0 = sym (product-both role orders p rows outs more) ∙ longer.1 in
        let first : List (List Value) = take outs (drop (length p.outcomes) (product_with role orders p rows)) in
        let second : List (List Value) = take others (drop (length p.outcomes + outs) all) in
        let dropped = length-drop (length p.outcomes) (product_with role orders p rows) in
        let size : length first ≡ outs = length-take outs (drop (length p.outcomes) (product_with role orders p rows)) ∙ (let h = a.produced in omega arith) in
        let later : pass_by orders.when (p.restraint.waved && eqb outs 0) second ≡ true =
        ap (λ (rows : List (List Value)). pass_by orders.when (p.restraint.waved && eqb outs 0) (take others rows))
        (ap (λ (n : ℕ). drop n all) (sym gone) ∙ ap (drop (length (p.outcomes ++ replicate outs true))) (sym (product-both role orders p rows outs more))) ∙ b.no_stop in
        ap (pass_by orders.when p.restraint.waved) (rows-both (length p.outcomes) outs others (product_with role orders p rows) longer.0 all is a.produced)
        ∙ pass-both orders.when p.restraint.waved outs first second size a.no_stop later
