-- The tests that batches are equal, and that some are a beginning of others.
use Rattle.std.proofs.Common.{◌≡◌, eqb, List, [], ◌∷◌, ◌++◌, Bool, true, false, ◌↔◌, refl, ap}
use Rattle.std.specs.Ordering.{is_eq}
use Rattle.std.proofs.lemmas.Bool.{and_from, and_parts, eq-eqb, eqb-true, false≢true}
use Rattle.std.proofs.lemmas.Cmp.{tied_itself}
use Rattle.amber_rows.proofs.Sorting.{equal_from, row-same}
use Rattle.amber_rows.specs.Operators.{same_row}
use Rattle.amber_rows.specs.Order.{row_cmp}
use Rattle.amber_rows.specs.OrderLaws.{row-total}
use Rattle.amber_rows.specs.declared.batch.Batch.{Batch}
use Rattle.amber_rows.specs.declared.value.Value.{Value}
use Rattle.amber_rows.specs.Lists.{IsPrefix}
use Rattle.amber_judge.specs.LegalTests.{begins, same_batch, same_flag, same_rows}

row-is : (x y : List Value) → same_row x y ≡ true → x ≡ y
row-is x y e = row-same x y (equal_from (row_cmp x y) e)

row-itself : (x : List Value) → same_row x x ≡ true
row-itself x = ap (λ o. is_eq o) (tied_itself row-total x)

rows-are : (xs ys : List (List Value)) → same_rows xs ys ≡ true → xs ≡ ys
unfolding same_rows
rows-are [] [] e = refl
rows-are [] (y ∷ ys) e = absurd (false≢true e)
rows-are (x ∷ xs) [] e = absurd (false≢true e)
rows-are (x ∷ xs) (y ∷ ys) e =
    let parts = and_parts (same_row x y) _ e in
    let first : x ≡ y = row-is x y parts.0 in
    let rest : xs ≡ ys = rows-are xs ys parts.1 in
    cc

rows-themselves : (xs : List (List Value)) → same_rows xs xs ≡ true
unfolding same_rows
rows-themselves [] = refl
rows-themselves (x ∷ xs) = and_from _ _ (row-itself x) (rows-themselves xs)

flag-is : (a b : Bool) → same_flag a b ≡ true → a ≡ b
flag-is true true e = refl
flag-is true false e = absurd (false≢true e)
flag-is false true e = absurd (false≢true e)
flag-is false false e = refl

flag-itself : (a : Bool) → same_flag a a ≡ true
flag-itself true = refl
flag-itself false = refl

batch-is : (a b : Batch) → same_batch a b ≡ true → a ≡ b
batch-is a b e =
    let parts = and_parts (eqb a.seq b.seq) _ e in
    let more = and_parts (same_flag a.last b.last) _ parts.1 in
    let seq : a.seq ≡ b.seq = eqb-true _ _ parts.0 in
    let last : a.last ≡ b.last = flag-is _ _ more.0 in
    let rows : a.rows ≡ b.rows = rows-are _ _ more.1 in
    λ i. record { seq = seq i; rows = rows i; last = last i }

batch-itself : (a : Batch) → same_batch a a ≡ true
batch-itself a = and_from _ _ (eq-eqb a.seq a.seq refl) (and_from _ _ (flag-itself a.last) (rows-themselves a.rows))

begins-step : (x y : Batch) (xs ys : List Batch) → x ≡ y → IsPrefix xs ys → IsPrefix (x ∷ xs) (y ∷ ys)
begins-step x y xs ys e b = (b.0, rw e (ap (λ l. y ∷ l) b.1))

begins-is : (xs ys : List Batch) → begins xs ys ≡ true → IsPrefix xs ys
unfolding begins
begins-is [] ys e = (ys, refl)
begins-is (x ∷ xs) [] e = absurd (false≢true e)
begins-is (x ∷ xs) (y ∷ ys) e =
    let parts = and_parts (same_batch x y) _ e in
    begins-step x y xs ys (batch-is x y parts.0) (begins-is xs ys parts.1)

begins-from : (xs more : List Batch) → begins xs (xs ++ more) ≡ true
unfolding begins
begins-from [] more = refl
begins-from (x ∷ xs) more = and_from _ _ (batch-itself x) (begins-from xs more)

pub begins-so : (xs ys : List Batch) → (begins xs ys ≡ true) ↔ IsPrefix xs ys
begins-so xs ys = (begins-is xs ys, λ h. rw (← h.1) (begins-from xs h.0))
