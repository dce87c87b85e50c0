-- Rows that the order ties are one row.
use Rattle.std.proofs.Common.{◌≡◌, Bool, true, false, List, refl, sym, ap, ◌∙◌}
use Rattle.std.specs.Ordering.{is_eq}
use Rattle.std.specs.declared.cmp.Ordering.{Ordering}
use Rattle.std.specs.declared.cmp.Ordering.TheVariants.{Less, Equal, Greater}
use Rattle.std.proofs.lemmas.Cmp.{tied_itself}
use Rattle.amber_rows.specs.Operators.{same_row}
use Rattle.amber_rows.specs.Order.{row_cmp}
use Rattle.amber_rows.specs.OrderLaws.{row-total}
use Rattle.amber_rows.proofs.Sorting.{row-same}
use Rattle.amber_rows.specs.declared.value.Value.{Value}

equal_is : (o : Ordering) → is_eq o ≡ true → o ≡ Equal
equal_is Less e = absurd (cc)
equal_is Equal e = refl
equal_is Greater e = absurd (cc)

pub same-is : (a b : List Value) → same_row a b ≡ true → a ≡ b
same-is a b e = row-same a b (equal_is (row_cmp a b) e)

pub same-itself : (a : List Value) → same_row a a ≡ true
same-itself a = ap is_eq (tied_itself row-total a)

pub same-along : (a b : List Value) → a ≡ b → same_row a b ≡ true
same-along a b e = ap (λ x. same_row a x) (sym e) ∙ same-itself a

-- the test answers alike whichever row comes first
pub same-swap : (a b : List Value) → same_row a b ≡ same_row b a
same-swap a b = by (same_row a b) (same_row b a) refl refl
  where
    by : (t u : Bool) → same_row a b ≡ t → same_row b a ≡ u → same_row a b ≡ same_row b a
    by true u e f = e ∙ sym (same-along b a (sym (same-is a b e)))
    by false true e f = same-along a b (sym (same-is b a f)) ∙ sym f
    by false false e f = e ∙ sym f
