-- What becomes of rows that a line takes.
use Rattle.std.proofs.Common.{◌≡◌, ℕ, ◌+◌, ◌-◌, ◌<◌, ◌≤◌, List, [], ◌∷◌, ◌++◌, length, take, get_or, Ok, false, refl, sym, ap, ◌∙◌, arith, append_assoc, length-append, subst}
use Rattle.std.proofs.lemmas.Grind.{flat_map-append}
use Rattle.std.proofs.lemmas.List.{append-nil, take_more}
use Rattle.amber_rows.specs.declared.value.Value.{Value}
use Rattle.amber_rows.specs.declared.column.Column.{Column}
use Rattle.amber_meaning.specs.Task.{row_in}
use Rattle.amber_operators.specs.ManyRows.{passed_by, yielded_of}
use Rattle.amber_operators.specs.RowsTaken.{gives_if, passed_of}
use Rattle.amber_operators.specs.declared.operator_state.OperatorState.{OperatorState}
use Rattle.amber_operators.specs.declared.taking_rows.Fate.{Fate}

-- one row more goes on
yielded-push : (d : OperatorState) (columns : List Column) (rows : List (List Value)) (row : List Value)
    → yielded_of d columns (rows ++ row ∷ []) ≡ yielded_of d columns rows ++ gives_if d false (row_in columns (Ok row))
yielded-push d columns rows row =
    flat_map-append (λ (one : List Value). gives_if d false (row_in columns (Ok one))) rows (row ∷ []) ∙ ap (λ l. yielded_of d columns rows ++ l) (append-nil (gives_if d false (row_in columns (Ok row))))

passed-push : (fates : List Fate) (fate : Fate) (rows : List (List Value)) (row : List Value) → length fates < length rows → row ≡ get_or rows (length fates) row
    → passed_by (fates ++ fate ∷ []) rows ≡ passed_by fates rows ++ passed_of fate row
unfolding passed_by
passed-push [] fate [] row less is = absurd (omega arith)
passed-push [] fate (first ∷ rows) row less is = append-nil (passed_of fate first) ∙ ap (passed_of fate) (sym is)
passed-push (one ∷ fates) fate [] row less is = absurd (omega arith)
passed-push (one ∷ fates) fate (first ∷ rows) row less is =
    ap (λ l. passed_of one first ++ l) (passed-push fates fate rows row (omega arith) is) ∙ sym (append_assoc (passed_of one first) (passed_by fates rows) (passed_of fate row))

-- what becomes of the first n rows, how many come of all but the last of them, and how many of all
pub record AreFates (d : OperatorState) (columns : List Column) (rows : List (List Value)) (n : ℕ) (fates : List Fate) (before made : ℕ) : Type 0 where
  pub len : length fates ≡ n
  pub yields : passed_by fates rows ≡ yielded_of d columns (take n rows)
  pub made_so : made ≡ length (yielded_of d columns (take n rows))
  pub small : made ≤ n
  pub before_so : before ≡ length (yielded_of d columns (take (n - 1) rows))

pub fates-none : (d : OperatorState) (columns : List Column) (rows : List (List Value)) (fates : List Fate) → fates ≡ [] → AreFates d columns rows 0 fates 0 0
unfolding passed_by
fates-none d columns rows fates e = subst (λ (l : List Fate). AreFates d columns rows 0 l 0 0) (sym e) (record { len = refl; yields = refl; made_so = refl; small = omega arith; before_so = refl })

pub fates-more : (d : OperatorState) (columns : List Column) (rows : List (List Value)) (n : ℕ) (fates more : List Fate) (fate : Fate) (before made one : ℕ) (row : List Value)
    → AreFates d columns rows n fates before made → n < length rows → row ≡ get_or rows n row → passed_of fate row ≡ gives_if d false (row_in columns (Ok row))
    → one ≡ length (passed_of fate row) → one ≤ 1 → more ≡ fates ++ fate ∷ [] → AreFates d columns rows (n + 1) more made (made + one)
fates-more d columns rows n fates more fate before made one row are less is goes count small grown =
    let next : take (n + 1) rows ≡ take n rows ++ row ∷ [] = take_more rows n row less ∙ ap (λ (x : List Value). take n rows ++ x ∷ []) (sym is) in
    let given : yielded_of d columns (take (n + 1) rows) ≡ yielded_of d columns (take n rows) ++ gives_if d false (row_in columns (Ok row)) =
    ap (λ l. yielded_of d columns l) next ∙ yielded-push d columns (take n rows) row in
    let at_row : row ≡ get_or rows (length fates) row = is ∙ ap (λ k. get_or rows k row) (sym are.len) in
    let within : length fates < length rows = omega (arith, less, are.len) in
    let n_is : n + 1 - 1 ≡ n = omega arith in
    record {
      len = ap length grown ∙ length-append fates (fate ∷ []) ∙ ap (λ k. k + 1) are.len;
      yields = ap (λ (l : List Fate). passed_by l rows) grown ∙ passed-push fates fate rows row within at_row ∙ (λ i. are.yields i ++ goes i) ∙ sym given;
      made_so = (λ i. are.made_so i + (count ∙ ap length goes) i) ∙ sym (ap length given ∙ length-append (yielded_of d columns (take n rows)) (gives_if d false (row_in columns (Ok row))));
      small = omega (arith, are.small, small);
      before_so = are.made_so ∙ ap (λ k. length (yielded_of d columns (take k rows))) (sym n_is);
    }

-- one is taken off the front
pub passed-step : (pending now all : List (List Value)) (fates later : List Fate) (fate : Fate) (rows more : List (List Value)) (row : List Value) → fates ≡ fate ∷ later → rows ≡ row ∷ more
    → now ≡ pending ++ passed_of fate row → pending ++ passed_by fates rows ≡ all → now ++ passed_by later more ≡ all
unfolding passed_by
passed-step pending now all fates later fate rows more row f r e h =
    ap (λ l. l ++ passed_by later more) e ∙ append_assoc pending (passed_of fate row) (passed_by later more) ∙ (λ i. pending ++ passed_by (sym f i) (sym r i)) ∙ h

pub passed-end : (pending all : List (List Value)) (fates : List Fate) (rows : List (List Value)) → fates ≡ [] → pending ++ passed_by fates rows ≡ all → pending ≡ all
unfolding passed_by
passed-end pending all fates rows f h = sym (append-nil pending) ∙ ap (λ (l : List Fate). pending ++ passed_by l rows) (sym f) ∙ h
