-- Rows that pass through stages one after the other give what all of them give at once.
use Rattle.std.proofs.Common.{◌≡◌, ℕ, ◌+◌, false, List, [], ◌∷◌, ◌++◌, Result, Ok, Err, OnOk, ◌≤◌, refl, sym, ap, ◌∙◌, arith, append_assoc}
use Rattle.std.proofs.lemmas.List.{append-nil, length-append}
use Rattle.std.proofs.lemmas.Grind.{flat_map-append}
use Rattle.amber_rows.specs.declared.value.Value.{Value}
use Rattle.amber_operators.specs.States.{row_yield}
use Rattle.amber_plain.specs.declared.limit.LimitErr.{LimitErr}
use Rattle.amber_plain.specs.declared.limit.LimitErr.TheVariants as limit_err
use Rattle.amber_plain.specs.Holding.{FallsShort, Spends, Takes}
use Rattle.amber_plain.specs.Stages.{count_through, rows_after, rows_through}
use Rattle.amber_plain.specs.declared.holder.Holder.{Holder}
use Rattle.amber_operators.specs.declared.operator_state.OperatorState.{OperatorState}

abbrev Row : Type 0
Row = List Value

abbrev Rows : Type 0
Rows = List Row

-- ---- one list after another

rows_after-append : (one : OperatorState) (xs ys : Rows) → rows_after one (xs ++ ys) ≡ rows_after one xs ++ rows_after one ys
rows_after-append one xs ys = flat_map-append (row_yield one false) xs ys

pub rows_through-append : (stages : List OperatorState) (xs ys : Rows) → rows_through stages (xs ++ ys) ≡ rows_through stages xs ++ rows_through stages ys
unfolding rows_through
rows_through-append [] xs ys = refl
rows_through-append (one ∷ later) xs ys =
    ap (rows_through later) (rows_after-append one xs ys) ∙ rows_through-append later (rows_after one xs) (rows_after one ys)

pub count_through-append : (stages : List OperatorState) (xs ys : Rows) → count_through stages (xs ++ ys) ≡ count_through stages xs + count_through stages ys
unfolding count_through
count_through-append [] xs ys = length-append xs ys
count_through-append (one ∷ later) xs ys =
    let rest : count_through later (rows_after one (xs ++ ys)) ≡ count_through later (rows_after one xs) + count_through later (rows_after one ys) =
    ap (count_through later) (rows_after-append one xs ys) ∙ count_through-append later (rows_after one xs) (rows_after one ys) in
    omega (arith, rest, length-append xs ys)

rows_after-none : (one : OperatorState) → rows_after one [] ≡ []
rows_after-none one = refl

pub rows_through-none : (stages : List OperatorState) → rows_through stages [] ≡ []
unfolding rows_through
rows_through-none [] = refl
rows_through-none (one ∷ later) = ap (rows_through later) (rows_after-none one) ∙ rows_through-none later

pub count_through-none : (stages : List OperatorState) → count_through stages [] ≡ 0
unfolding count_through
count_through-none [] = refl
count_through-none (one ∷ later) =
    let rest : count_through later (rows_after one []) ≡ 0 = ap (count_through later) (rows_after-none one) ∙ count_through-none later in
    omega (arith, rest)

-- ---- one row

-- what a stage makes of one row, and what comes out after the others
pub record IsStage (stages later : List OperatorState) (row : Row) (made : Rows) : Type 0 where
  pub rows : rows_through stages (row ∷ []) ≡ rows_through later made
  pub count : count_through stages (row ∷ []) ≡ 1 + count_through later made

pub given-by : (one : OperatorState) (later : List OperatorState) (row : Row) (made : Rows) → made ≡ row_yield one false row → IsStage (one ∷ later) later row made
unfolding rows_through count_through
given-by one later row made e =
    let all = append-nil (row_yield one false row) ∙ sym e in
    record { rows = ap (rows_through later) all; count = ap (λ rows. 1 + count_through later rows) all }

-- ---- what stands after the stages

pub Takes-none : (holder : Holder) → Takes holder holder []
Takes-none holder by before h = let e : before ++ [] ≡ before = append-nil before in rw e h

pub Takes-more : (a b c : Holder) (xs ys : Rows) → Takes a b xs → Takes b c ys → Takes a c (xs ++ ys)
Takes-more a b c xs ys f g by before h = rw (← append_assoc before xs ys) (g by (before ++ xs) (f by before h))

pub passed : {A : Type 0} (r : Result A LimitErr) (a b : Holder) (stages later : List OperatorState) (row : Row) (made : Rows) → IsStage stages later row made
    → OnOk r (Takes a b (rows_through later made)) → OnOk r (Takes a b (rows_through stages (row ∷ [])))
passed r a b stages later row made s h = rw s.rows h

-- ---- how many rows may come

pub count_some : (stages : List OperatorState) (row : Row) → 1 ≤ count_through stages (row ∷ [])
unfolding count_through
count_some [] row = omega arith
count_some (one ∷ later) row = omega arith

-- one row was counted, and then these
pub spent : {A : Type 0} (r : Result A LimitErr) (stages later : List OperatorState) (row : Row) (made : Rows) (old mid new : ℕ) → IsStage stages later row made → old ≡ mid + 1
    → Spends r mid new (count_through later made) → Spends r old new (count_through stages (row ∷ []))
spent (Ok x) stages later row made old mid new s e h = omega (arith, s.count)
spent (Err limit_err.Long) stages later row made old mid new s e h = omega (arith, s.count)
spent (Err limit_err.NoMemory) stages later row made old mid new s e h = tt

-- where rows fall short of some, they do of more
pub short_of_more : (why : LimitErr) (left count more : ℕ) → FallsShort why left count → count ≤ more → FallsShort why left more
short_of_more limit_err.Long left count more h some = omega (arith, some)
short_of_more limit_err.NoMemory left count more h some = tt

-- some rows were counted, and then it stopped within these
pub short_after : (why : LimitErr) (old mid before count all : ℕ) → old ≡ mid + before → FallsShort why mid count → before + count ≤ all → FallsShort why old all
short_after limit_err.Long old mid before count all e h some = omega (arith, some)
short_after limit_err.NoMemory old mid before count all e h some = tt

-- those before a row, and the row itself, are no more than all
pub count_within : (stages : List OperatorState) (all xs ys : Rows) (row : Row) → all ≡ xs ++ row ∷ ys → count_through stages xs + count_through stages (row ∷ []) ≤ count_through stages all
count_within stages all xs ys row e =
    let split : count_through stages all ≡ count_through stages xs + count_through stages (row ∷ ys) = ap (count_through stages) e ∙ count_through-append stages xs (row ∷ ys) in
    omega (arith, split, count_through-append stages (row ∷ []) ys)
