-- What several rows or records give, as they are handed and as they are kept, and what stands by what is ready.
use Rattle.std.proofs.Common.{◌≡◌, ℕ, zero, suc, List, [], ◌∷◌, ◌++◌, append_assoc, filter, if◌then◌else◌, map, take, drop, Option, Some, None, Result, Ok, Err, Bool, true, false, refl, sym, ap, ◌∙◌, subst}
use Rattle.std.specs.List.{flat_map}
use Rattle.std.specs.Result.{OnOk}
use Rattle.std.proofs.lemmas.Bool.{false≢true}
use Rattle.std.proofs.lemmas.List.{append-nil, drop-map}
use Rattle.amber_rows.specs.declared.value.Value.{Value}
use Rattle.amber_rows.specs.declared.column.Column.{Column}
use Rattle.amber_meaning.specs.Refused.{refused_in}
use Rattle.amber_meaning.specs.Task.{Arrival, row_in}
use Rattle.amber_rows.specs.Suits.{suits_of}
use Rattle.amber_join.specs.Join.{Join}
use Rattle.amber_scan.specs.Shares.{ShareState}
use Rattle.amber_scan.specs.declared.share.Scanned.{Scanned}
use Rattle.amber_operators.specs.Handed.{arrival_of, arrivals_in, rest_in, row_from}
use Rattle.amber_operators.specs.ReadiedRows.{AreBuiltReady, HasBuilt, Reading}
use Rattle.amber_operators.specs.Kept.{keeps_build_side, keeps_still, is_plain}
use Rattle.amber_operators.specs.ManyRows.{BecomesWith, kept_among, kept_by, scan_refused, yielded_by, yielded_of, yielded_records}
use Rattle.amber_operators.specs.Keeping.{built_with}
use Rattle.amber_operators.specs.RowsTaken.{gives_if, keeps_if}
use Rattle.amber_operators.specs.declared.operator_state.OperatorState.{OperatorState}
use Rattle.amber_operators.specs.declared.operator_state.OperatorState.TheVariants as operator_state
use Rattle.amber_operators.specs.declared.taking_rows.Rest.{Rest}

-- ---- lists

pub flat-mapped : {A B C : Type 0} (f : B → List C) (g : A → B) (h : A → List C) → ((x : A) → f (g x) ≡ h x) → (n : ℕ) (xs : List A) → flat_map f (take n (map g xs)) ≡ flat_map h (take n xs)
flat-mapped f g h same zero xs = refl
flat-mapped f g h same (suc n) [] = refl
flat-mapped f g h same (suc n) (x ∷ xs) = λ i. same x i ++ flat-mapped f g h same n xs i

pub flat-none : {A B : Type 0} (f : A → List B) → ((x : A) → f x ≡ []) → (xs : List A) → flat_map f xs ≡ []
flat-none f none [] = refl
flat-none f none (x ∷ xs) = λ i. none x i ++ flat-none f none xs i

-- ---- what goes on

pub plain-still : (d : OperatorState) (builds : Bool) → is_plain d ≡ true → keeps_still d builds ≡ true
plain-still operator_state.Scan builds plain = refl
plain-still (operator_state.Filter cond) builds plain = refl
plain-still (operator_state.Project from) builds plain = refl
plain-still (operator_state.Join state) builds plain = absurd (false≢true plain)
plain-still (operator_state.Group state) builds plain = absurd (false≢true plain)
plain-still operator_state.Sink builds plain = refl

still-side : (d : OperatorState) (builds : Bool) (found : Option (List Value)) → keeps_still d builds ≡ true → gives_if d builds found ≡ gives_if d false found
still-side d builds None still = refl
still-side operator_state.Scan builds (Some row) still = refl
still-side (operator_state.Filter cond) builds (Some row) still = refl
still-side (operator_state.Project from) builds (Some row) still = refl
still-side (operator_state.Join state) true (Some row) still = absurd (false≢true still)
still-side (operator_state.Join state) false (Some row) still = refl
still-side (operator_state.Group state) builds (Some row) still = absurd (false≢true still)
still-side operator_state.Sink builds (Some row) still = refl

pub records-yield : (builds : Bool) (columns : List Column) (n : ℕ) (records : List Scanned) → yielded_by operator_state.Scan builds columns (take n (map arrival_of records)) ≡ yielded_records columns (take n records)
records-yield builds columns n records =
    flat-mapped (λ (one : Arrival). gives_if operator_state.Scan builds (row_in columns one.what)) arrival_of (λ (one : Scanned). gives_if operator_state.Scan false (row_in columns one.what))
    (λ one. still-side operator_state.Scan builds (row_in columns one.what) refl) n records

pub rows-yield : (d : OperatorState) (builds : Bool) (columns : List Column) (from n : ℕ) (rows : List (List Value)) → keeps_still d builds ≡ true
    → yielded_by d builds columns (take n (map (row_from from) rows)) ≡ yielded_of d columns (take n rows)
rows-yield d builds columns from n rows still =
    flat-mapped (λ (one : Arrival). gives_if d builds (row_in columns one.what)) (row_from from) (λ (row : List Value). gives_if d false (row_in columns (Ok row)))
    (λ row. still-side d builds (row_in columns (Ok row)) still) n rows

nothing-of : (builds : Bool) (found : Option (List Value)) → gives_if operator_state.Sink builds found ≡ []
nothing-of builds None = refl
nothing-of builds (Some row) = refl

pub sink-yields : (builds : Bool) (columns : List Column) (arrivals : List Arrival) → yielded_by operator_state.Sink builds columns arrivals ≡ []
sink-yields builds columns arrivals = flat-none (λ (one : Arrival). gives_if operator_state.Sink builds (row_in columns one.what)) (λ one. nothing-of builds (row_in columns one.what)) arrivals

-- ---- what is refused, and what is kept

pub records-refused : (op n : ℕ) (records : List Scanned) → refused_in op (take n (map arrival_of records)) ≡ scan_refused op (take n records)
records-refused op n records = flat-mapped _ arrival_of _ (λ one. refl) n records

pub rows-refused : (op from n : ℕ) (rows : List (List Value)) → refused_in op (take n (map (row_from from) rows)) ≡ []
rows-refused op from zero rows = refl
rows-refused op from (suc n) [] = refl
rows-refused op from (suc n) (row ∷ rows) = rows-refused op from n rows

plain-keeps : (d : OperatorState) (found : Option (List Value)) → is_plain d ≡ true → keeps_if d found ≡ []
plain-keeps d None plain = refl
plain-keeps operator_state.Scan (Some row) plain = refl
plain-keeps (operator_state.Filter cond) (Some row) plain = refl
plain-keeps (operator_state.Project from) (Some row) plain = refl
plain-keeps (operator_state.Join state) (Some row) plain = refl
plain-keeps (operator_state.Group state) (Some row) plain = refl
plain-keeps operator_state.Sink (Some row) plain = absurd (false≢true plain)

pub plain-kept : (d : OperatorState) (columns : List Column) (arrivals : List Arrival) → is_plain d ≡ true → kept_by d columns arrivals ≡ []
plain-kept d columns arrivals plain = flat-none (λ (one : Arrival). keeps_if d (row_in columns one.what)) (λ one. plain-keeps d (row_in columns one.what) plain) arrivals

pub sink-kept : (columns : List Column) (from n : ℕ) (rows : List (List Value)) → kept_by operator_state.Sink columns (take n (map (row_from from) rows)) ≡ kept_among operator_state.Sink columns (take n rows)
sink-kept columns from n rows =
    flat-mapped (λ (one : Arrival). keeps_if operator_state.Sink (row_in columns one.what)) (row_from from) (λ (row : List Value). keeps_if operator_state.Sink (row_in columns (Ok row))) (λ row. refl) n rows

-- ---- what is left

held : {A : Type 0} → A → Option A → A
held d None = d
held d (Some x) = x

pub some-same : {A : Type 0} (x y : A) → Some x ≡ Some y → x ≡ y
unfolding held
some-same x y e = ap (held x) e

pub arrivals-shared : (rest : Rest) (share : ShareState) → rest.share ≡ Some share → arrivals_in rest ≡ map arrival_of share.left
arrivals-shared rest share e = ap (λ (o : Option ShareState). rest_in o rest.from rest.rows.items) e

pub arrivals-batch : (rest : Rest) → rest.share ≡ None → arrivals_in rest ≡ map (row_from rest.from) rest.rows.items
arrivals-batch rest e = ap (λ (o : Option ShareState). rest_in o rest.from rest.rows.items) e

-- what comes of records of a share, of rows of a batch, and of those that are kept
pub records-are : (how : Reading) (rest : Rest) (n : ℕ) (share : ShareState) → rest.share ≡ Some share → how.state ≡ operator_state.Scan
    → yielded_by how.state how.builds how.columns (take n (arrivals_in rest)) ≡ yielded_records how.columns (take n share.left)
records-are how rest n share shared scan = (λ i. yielded_by (scan i) how.builds how.columns (take n (arrivals-shared rest share shared i))) ∙ records-yield how.builds how.columns n share.left

pub made-are : (how : Reading) (rest : Rest) (n : ℕ) → rest.share ≡ None → keeps_still how.state how.builds ≡ true
    → yielded_by how.state how.builds how.columns (take n (arrivals_in rest)) ≡ yielded_of how.state how.columns (take n rest.rows.items)
made-are how rest n batch still = ap (λ l. yielded_by how.state how.builds how.columns (take n l)) (arrivals-batch rest batch) ∙ rows-yield how.state how.builds how.columns rest.from n rest.rows.items still

pub rows-are : (how : Reading) (rest : Rest) (n : ℕ) → rest.share ≡ None → is_plain how.state ≡ true
    → yielded_by how.state how.builds how.columns (take n (arrivals_in rest)) ≡ yielded_of how.state how.columns (take n rest.rows.items)
rows-are how rest n batch plain = made-are how rest n batch (plain-still how.state how.builds plain)

pub kept-are : (how : Reading) (rest : Rest) (n : ℕ) → how.state ≡ operator_state.Sink → yielded_by how.state how.builds how.columns (take n (arrivals_in rest)) ≡ []
kept-are how rest n sink = ap (λ (d : OperatorState). yielded_by d how.builds how.columns (take n (arrivals_in rest))) sink ∙ sink-yields how.builds how.columns (take n (arrivals_in rest))

built-gives : (d : OperatorState) (builds : Bool) (found : Option (List Value)) → keeps_build_side d ≡ true → builds ≡ true → gives_if d builds found ≡ []
built-gives d builds None joins side = refl
built-gives operator_state.Scan builds (Some row) joins side = absurd (false≢true joins)
built-gives (operator_state.Filter cond) builds (Some row) joins side = absurd (false≢true joins)
built-gives (operator_state.Project from) builds (Some row) joins side = absurd (false≢true joins)
built-gives (operator_state.Join state) true (Some row) joins side = refl
built-gives (operator_state.Join state) false (Some row) joins side = absurd (false≢true side)
built-gives (operator_state.Group state) builds (Some row) joins side = absurd (false≢true joins)
built-gives operator_state.Sink builds (Some row) joins side = absurd (false≢true joins)

pub built-are : (how : Reading) (arrivals : List Arrival) → keeps_build_side how.state ≡ true → how.builds ≡ true → yielded_by how.state how.builds how.columns arrivals ≡ []
built-are how arrivals joins side =
    flat-none (λ (one : Arrival). gives_if how.state how.builds (row_in how.columns one.what)) (λ one. built-gives how.state how.builds (row_in how.columns one.what) joins side) arrivals

joins-keep : (d : OperatorState) (found : Option (List Value)) → keeps_build_side d ≡ true → keeps_if d found ≡ []
joins-keep d None joins = refl
joins-keep operator_state.Scan (Some row) joins = refl
joins-keep (operator_state.Filter cond) (Some row) joins = refl
joins-keep (operator_state.Project from) (Some row) joins = refl
joins-keep (operator_state.Join state) (Some row) joins = refl
joins-keep (operator_state.Group state) (Some row) joins = refl
joins-keep operator_state.Sink (Some row) joins = absurd (false≢true joins)

pub joins-kept : (d : OperatorState) (columns : List Column) (arrivals : List Arrival) → keeps_build_side d ≡ true → kept_by d columns arrivals ≡ []
joins-kept d columns arrivals joins = flat-none (λ (one : Arrival). keeps_if d (row_in columns one.what)) (λ one. joins-keep d (row_in columns one.what) joins) arrivals

-- ---- the build side

one-built : (b : Bool) (state : Join) (row : List Value) (later : List (List Value))
    → record (built_with true (if b then Some row else None) state) { rows = (built_with true (if b then Some row else None) state).rows ++ later }
    ≡ record state { rows = state.rows ++ (if b then row ∷ later else later) }
one-built true state row later = ap (λ l. record state { rows = l }) (append_assoc state.rows (row ∷ []) later)
one-built false state row later = refl

-- rows are kept of it
pub builds-all : (state : Join) (columns : List Column) (from n : ℕ) (rows : List (List Value))
    → BecomesWith (operator_state.Join state) true columns (take n (map (row_from from) rows)) (operator_state.Join (record state { rows = state.rows ++ filter (suits_of columns) (take n rows) }))
unfolding BecomesWith
builds-all state columns from zero rows = ap (λ l. operator_state.Join (record state { rows = l })) (append-nil state.rows)
builds-all state columns from (suc n) [] = ap (λ l. operator_state.Join (record state { rows = l })) (append-nil state.rows)
builds-all state columns from (suc n) (row ∷ rows) =
    let next : Join = built_with true (row_in columns (Ok row)) state in (
      operator_state.Join next,
      refl,
      subst (λ (j : Join). BecomesWith (operator_state.Join next) true columns (take n (map (row_from from) rows)) (operator_state.Join j))
          (one-built (suits_of columns row) state row (filter (suits_of columns) (take n rows))) (builds-all next columns from n rows),
    )

-- rows of the batch were kept of it
pub built-fed : (how : Reading) (rest now : Rest) (state new : Join) → AreBuiltReady how rest → how.state ≡ operator_state.Join state
    → new ≡ record state { rows = state.rows ++ filter (suits_of how.columns) (take how.count rest.rows.items) } → now.share ≡ rest.share → now.from ≡ rest.from
    → now.rows.items ≡ drop how.count rest.rows.items → HasBuilt how rest now (operator_state.Join new)
built-fed how rest now state new ready joins built share from left = record {
  left = arrivals-batch now (share ∙ ready.batch)
      ∙ (λ i. map (row_from (from i)) (left i))
      ∙ sym (drop-map (row_from rest.from) how.count rest.rows.items) ∙ ap (drop how.count) (sym (arrivals-batch rest ready.batch));
  becomes =
      let all : BecomesWith (operator_state.Join state) true how.columns (take how.count (map (row_from rest.from) rest.rows.items)) (operator_state.Join new) =
      subst (λ (j : Join). BecomesWith (operator_state.Join state) true how.columns (take how.count (map (row_from rest.from) rest.rows.items)) (operator_state.Join j)) (sym built)
      (builds-all state how.columns rest.from how.count rest.rows.items) in
      let own = subst (λ (l : List Arrival). BecomesWith (operator_state.Join state) true how.columns (take how.count l) (operator_state.Join new)) (sym (arrivals-batch rest ready.batch)) all in
      let side = subst (λ (b : Bool). BecomesWith (operator_state.Join state) b how.columns (take how.count (arrivals_in rest)) (operator_state.Join new)) (sym ready.side) own in
      subst (λ (d : OperatorState). BecomesWith d how.builds how.columns (take how.count (arrivals_in rest)) (operator_state.Join new)) (sym joins) side;
}

pub ok-both : {T E : Type 0} (P Q R : Type 0) (r : Result T E) → OnOk r P → OnOk r Q → (P → Q → R) → OnOk r R
ok-both P Q R (Ok x) p q both = both p q
ok-both P Q R (Err e) p q both = tt

-- ---- what is judged
