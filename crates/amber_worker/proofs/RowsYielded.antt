-- What a worker has produced once it took rows more, of whatever kind it is.
use Rattle.std.proofs.Common.{◌≡◌, ℕ, zero, suc, ◌+◌, ◌-◌, ◌<◌, ◌≤◌, eqb, ◌&&◌, not, List, [], ◌∷◌, ◌++◌, length, take, drop, replicate, All, Option, Some, None, Bool, true, false, if◌then◌else◌, refl, sym, ap, ◌∙◌, arith, append_assoc, length-append, length-drop, subst}
use Rattle.std.specs.List.{filter_map}
use Rattle.std.proofs.lemmas.Bool.{and_parts, eqb-true, false≢true}
use Rattle.std.proofs.lemmas.List.{append-nil, drop-append-le, drop-take, length-replicate, length-take-le, take-append-drop, take-take, take_all}
use Rattle.std.proofs.lemmas.List.Elements.{All-take}
use Rattle.amber_rows.specs.declared.value.Value.{Value}
use Rattle.amber_rows.specs.declared.column.Column.{Column}
use Rattle.amber_rows.specs.declared.flow.What.{What}
use Rattle.amber_rows.specs.declared.flow.What.TheVariants as what
use Rattle.amber_meaning.specs.Kinds.{closing_rows, yields_row}
use Rattle.amber_meaning.specs.Position.{Position, all_arrivals, have_ended, is_complete, product}
use Rattle.amber_meaning.specs.Produce.{closing, produce, yields, yields_if}
use Rattle.amber_meaning.specs.Rules.{produced_with, product_with}
use Rattle.amber_meaning.specs.Task.{Arrival, Role, Task, built_of, columns_from, is_builder, row_in, suiting}
use Rattle.amber_meaning.specs.Views.{taken_of}
use Rattle.amber_link.specs.Sides.{have_all_ended}
use Rattle.amber_worker.specs.AtPosition.{Context, Shows}
use Rattle.amber_operators.specs.Kept.{KeepsRows}
use Rattle.amber_operators.specs.States.{DoesKind, Becomes, row_yield}
use Rattle.amber_worker.specs.RedoneRows.{BecomesTaking, IsGivenLast, ends_with, yielded}
use Rattle.amber_operators.specs.ManyRows.{BecomesWith, yielded_by}
use Rattle.amber_operators.specs.Keeping.{built_with}
use Rattle.amber_worker.specs.Steps.{columns_at_hand}
use Rattle.amber_operators.specs.RowsTaken.{gives_if}
use Rattle.amber_worker.specs.WorkerState.{WorkerState}
use Rattle.amber_operators.specs.declared.operator_state.OperatorState.{OperatorState}
use Rattle.amber_operators.specs.declared.operator_state.OperatorState.TheVariants as operator_state
use Rattle.amber_worker.proofs.Moves.{all-ended}
use Rattle.amber_worker.proofs.Produced.{and-turned, not-complete, produce-next, product-is, product-open, same-test}
use Rattle.amber_operators.proofs.Lists.{left-next, take-next}
use Rattle.amber_operators.proofs.States.{closing-is, does-more, has-more}

-- ---- what a row yields, of the build side or not

-- what a worker needs of the rows that it took, so that it yields what it has to: a join at its probe side the build side
abbrev Reads : OperatorState → Bool → Task → List Arrival → Type 0
Reads operator_state.Scan builds task before = Unit {0}
Reads (operator_state.Filter cond) builds task before = Unit {0}
Reads (operator_state.Project from) builds task before = Unit {0}
Reads (operator_state.Join state) true task before = Unit {0}
Reads (operator_state.Join state) false task before = state.rows ≡ built_of task before
Reads (operator_state.Group state) builds task before = Unit {0}
Reads operator_state.Sink builds task before = Unit {0}

reads-now : (d : OperatorState) (builds : Bool) (task : Task) (before : List Arrival) → KeepsRows d task before → Reads d builds task before
reads-now operator_state.Scan builds task before has = tt
reads-now (operator_state.Filter cond) builds task before has = tt
reads-now (operator_state.Project from) builds task before has = tt
reads-now (operator_state.Join state) true task before has = tt
reads-now (operator_state.Join state) false task before has = has
reads-now (operator_state.Group state) builds task before has = tt
reads-now operator_state.Sink builds task before has = tt

probe-same : (found : Option (List Value)) (state : _) → operator_state.Join state ≡ operator_state.Join (built_with false found state)
probe-same None state = refl
probe-same (Some row) state = refl

-- a row of the probe side changes nothing of the build side
reads-next : (d : OperatorState) (builds : Bool) (task : Task) (before : List Arrival) (one : Arrival) → is_builder task one.from ≡ builds → Reads d builds task before → Reads d builds task (before ++ one ∷ [])
reads-next operator_state.Scan builds task before one side reads = tt
reads-next (operator_state.Filter cond) builds task before one side reads = tt
reads-next (operator_state.Project from) builds task before one side reads = tt
reads-next (operator_state.Join state) true task before one side reads = tt
reads-next (operator_state.Join state) false task before one side reads =
    let P : Bool → Type 0 = λ b. Becomes (operator_state.Join state) b (suiting task one) (operator_state.Join state) in
    has-more (operator_state.Join state) (operator_state.Join state) task before one (subst P (sym side) (probe-same (suiting task one) state)) reads
reads-next (operator_state.Group state) builds task before one side reads = tt
reads-next operator_state.Sink builds task before one side reads = tt

-- a row that suits yields what the worker gives of it
yields-row : (d : OperatorState) (builds : Bool) (task : Task) (kind : What) (constants : List Value) (role : Role) (before : List Arrival) (from : ℕ) (row : List Value)
    → DoesKind d kind constants role → Reads d builds task before → is_builder task from ≡ builds → yields_row task kind before from constants row ≡ row_yield d builds row
yields-row operator_state.Scan builds task (what.Scan file) constants role before from row does reads side = refl
yields-row (operator_state.Filter cond) builds task (what.Filter input own) constants role before from row does reads side = rw does refl
yields-row (operator_state.Project columns) builds task (what.Project input own) constants role before from row does reads side = rw does refl
yields-row (operator_state.Join state) true task (what.Join build probe build_keys probe_keys) constants role before from row does reads side = rw side refl
yields-row (operator_state.Join state) false task (what.Join build probe build_keys probe_keys) constants role before from row does reads side = rw (side, does.0, does.1, reads) refl
yields-row (operator_state.Group state) builds task (what.Group input keys aggs) constants role before from row does reads side = refl
yields-row operator_state.Sink builds task (what.Sink input) constants role before from row does reads side = refl
yields-row d builds task kind constants role before from row does reads side = absurd does

-- what is handed yields what the worker gives of it
yields-one : (d : OperatorState) (builds : Bool) (task : Task) (columns : List Column) (constants : List Value) (role : Role) (before : List Arrival) (one : Arrival)
    → DoesKind d task.kind constants role → Reads d builds task before → is_builder task one.from ≡ builds → columns_from task one.from ≡ columns
    → yields task before one constants ≡ gives_if d builds (row_in columns one.what)
unfolding yields
yields-one d builds task columns constants role before one does reads side same =
    by (suiting task one) ∙ ap (λ (c : List Column). gives_if d builds (row_in c one.what)) same
  where
    by : (o : Option (List Value)) → yields_if task before one.from constants o ≡ gives_if d builds o
    by None = refl
    by (Some row) = yields-row d builds task task.kind constants role before one.from row does reads side

-- ---- what rows yield

-- all of these are of this side, and have these columns
pub record AreOfSide (task : Task) (builds : Bool) (columns : List Column) (arrivals : List Arrival) : Type 0 where
  pub side : All (λ one. is_builder task one.from ≡ builds) arrivals
  pub same : (from : ℕ) → is_builder task from ≡ builds → columns_from task from ≡ columns

side-later : (task : Task) (builds : Bool) (columns : List Column) (one : Arrival) (later : List Arrival) → AreOfSide task builds columns (one ∷ later) → AreOfSide task builds columns later
side-later task builds columns one later are = record { side = λ k d less. are.side (suc k) d (omega arith); same = are.same }

-- so many rows more were taken, all of one side
produce-more : (d : OperatorState) (builds : Bool) (task : Task) (columns : List Column) (constants : List Value) (role : Role) (arrivals front back : List Arrival) (taken : List (List Value))
    → DoesKind d task.kind constants role → Reads d builds task (take (length taken) arrivals) → AreOfSide task builds columns front → drop (length taken) arrivals ≡ front ++ back
    → produce task [] arrivals (taken ++ replicate (length front) constants) ≡ produce task [] arrivals taken ++ yielded_by d builds columns front
produce-more d builds task columns constants role arrivals [] back taken does reads are left = ap (produce task [] arrivals) (append-nil taken) ∙ sym (append-nil _)
produce-more d builds task columns constants role arrivals (one ∷ front) back taken does reads are left =
    let more : length (taken ++ constants ∷ []) ≡ length taken + 1 = length-append taken (constants ∷ []) in
    let later : drop (length (taken ++ constants ∷ [])) arrivals ≡ front ++ back = ap (λ n. drop n arrivals) more ∙ left-next (length taken) arrivals one (front ++ back) left in
    let side : is_builder task one.from ≡ builds = are.side 0 one (omega arith) in
    let Q : List Arrival → Type 0 = λ before. Reads d builds task before in
    let now : Reads d builds task (take (length (taken ++ constants ∷ [])) arrivals) =
    subst Q (sym (ap (λ n. take n arrivals) more ∙ take-next (length taken) arrivals one (front ++ back) left)) (reads-next d builds task (take (length taken) arrivals) one side reads) in
    let first : yields task (take (length taken) arrivals) one constants ≡ gives_if d builds (row_in columns one.what) =
    yields-one d builds task columns constants role (take (length taken) arrivals) one does reads side (are.same one.from side) in
    ap (produce task [] arrivals) (sym (append_assoc taken (constants ∷ []) (replicate (length front) constants)))
    ∙ produce-more d builds task columns constants role arrivals front back (taken ++ constants ∷ []) does now (side-later task builds columns one front are) later
    ∙ ap (λ l. l ++ yielded_by d builds columns front) (produce-next task [] arrivals taken one (front ++ back) constants left ∙ ap (λ l. produce task [] arrivals taken ++ l) first)
    ∙ append_assoc (produce task [] arrivals taken) (gives_if d builds (row_in columns one.what)) (yielded_by d builds columns front)

-- ---- what is kept for the operator

-- a row has these columns and is of this side
one-becomes : (d next : OperatorState) (builds : Bool) (task : Task) (columns : List Column) (one : Arrival) → is_builder task one.from ≡ builds → columns_from task one.from ≡ columns
    → Becomes d builds (row_in columns one.what) next → Becomes d (is_builder task one.from) (suiting task one) next
one-becomes d next builds task columns one side same becomes =
    let P : Bool → Type 0 = λ b. Becomes d b (suiting task one) next in
    let Q : List Column → Type 0 = λ c. Becomes d builds (row_in c one.what) next in
    subst P (sym side) (subst Q (sym same) becomes)

-- a worker does what it did, and keeps what it has to of the rows that it took
pub does-all : (d now : OperatorState) (builds : Bool) (task : Task) (columns : List Column) (constants : List Value) (role : Role) (arrivals : List Arrival)
    → BecomesWith d builds columns arrivals now → DoesKind d task.kind constants role → DoesKind now task.kind constants role
unfolding BecomesWith
does-all d now builds task columns constants role [] becomes does = subst (λ (s : OperatorState). DoesKind s task.kind constants role) (sym becomes) does
does-all d now builds task columns constants role (one ∷ later) (next, becomes, rest) does =
    does-all next now builds task columns constants role later rest (does-more d next builds (row_in columns one.what) task.kind constants role becomes does)

has-all : (d now : OperatorState) (builds : Bool) (task : Task) (columns : List Column) (before arrivals : List Arrival)
    → BecomesWith d builds columns arrivals now → AreOfSide task builds columns arrivals → KeepsRows d task before → KeepsRows now task (before ++ arrivals)
unfolding BecomesWith
has-all d now builds task columns before [] becomes are has =
    let P : List Arrival → Type 0 = λ l. KeepsRows now task l in
    subst P (sym (append-nil before)) (subst (λ (s : OperatorState). KeepsRows s task before) (sym becomes) has)
has-all d now builds task columns before (one ∷ later) (next, becomes, rest) are has =
    let side : is_builder task one.from ≡ builds = are.side 0 one (omega arith) in
    let P : List Arrival → Type 0 = λ l. KeepsRows now task l in
    let own : Becomes d (is_builder task one.from) (suiting task one) next = one-becomes d next builds task columns one side (are.same one.from side) becomes in
    subst P (append_assoc before (one ∷ []) later)
    (has-all next now builds task columns (before ++ one ∷ []) later rest (side-later task builds columns one later are) (has-more d next task before one own has))

-- ---- tests

some-rows : (n : ℕ) → 0 < n → (b : Bool) → (not (eqb n 0) && b) ≡ b
some-rows n some b = by (eqb n 0) refl
  where
    by : (z : Bool) → eqb n 0 ≡ z → (not z && b) ≡ b
    by true e = let none : n ≡ 0 = eqb-true n 0 e in absurd (omega (arith, none, some))
    by false e = refl

and-false : (b c : Bool) → (b && (false && c)) ≡ false
and-false true c = refl
and-false false c = refl

not-ending : (n : ℕ) (w : WorkerState) → n < length w.rest → ends_with n w ≡ false
not-ending n w less = by (eqb n (length w.rest)) refl
  where
    by : (b : Bool) → eqb n (length w.rest) ≡ b → (not (eqb n 0) && (eqb n (length w.rest) && have_all_ended w.ins)) ≡ false
    by true e = let same : n ≡ length w.rest = eqb-true n (length w.rest) e in absurd (omega (arith, same, less))
    by false e = ap (λ b. not (eqb n 0) && (b && have_all_ended w.ins)) e ∙ and-false (not (eqb n 0)) (have_all_ended w.ins)

pub take-add : {A : Type 0} (n m : ℕ) (xs : List A) → take (n + m) xs ≡ take n xs ++ take m (drop n xs)
take-add n m xs =
    let whole : take n (take (n + m) xs) ++ drop n (take (n + m) xs) ≡ take (n + m) xs = take-append-drop n (take (n + m) xs) in
    sym whole ∙ (λ i. take-front i ++ drop-take n m xs i)
  where
    take-front : take n (take (n + m) xs) ≡ take n xs
    take-front = take-take n (n + m) xs (omega arith)

-- ---- a worker that shows a position

-- a row that is left is of this side
side-columns : (context : Context) (w : WorkerState) (p : Position) → Shows context w p → (from : ℕ) (b : Bool) → w.building ≡ b → is_builder context.placement.role.task from ≡ b
    → columns_from context.placement.role.task from ≡ (if b then w.build_columns else w.columns)
side-columns context w p shows from true building e = rw e (sym shows.build_columns)
side-columns context w p shows from false building e = rw e (sym shows.columns)

module _ (context : Context) (w : WorkerState) (p : Position) (shows : Shows context w p) where
  abbrev role : Role
  role = context.placement.role

  abbrev all : List Arrival
  all = all_arrivals role p.taken

  pub of-side : (n : ℕ) → AreOfSide role.task w.building (columns_at_hand w) (take n w.rest)
  of-side n = record { side = All-take (λ one. is_builder role.task one.from ≡ w.building) n w.rest shows.building; same = λ from e. side-columns context w p shows from w.building refl e }

  pub rest-length : length w.rest ≡ length all - length p.constants
  rest-length = ap length shows.rest ∙ length-drop (length p.constants) all

  pub pending-length : length w.pending ≡ length (product role p.taken p.constants) - length p.outcomes
  pending-length = ap length shows.pending ∙ length-drop (length p.outcomes) (product role p.taken p.constants)

  -- rows that are left follow those that were taken
  pub taken-more : (n : ℕ) → n ≤ length w.rest → take (length p.constants + n) all ≡ taken_of role p ++ take n w.rest
  taken-more n within = take-add (length p.constants) n all ∙ ap (λ l. take (length p.constants) all ++ take n l) (sym shows.rest)

  -- what the rows yield that are left
  produced-by : (n : ℕ) → n ≤ length w.rest → produce role.task [] all (p.constants ++ replicate n context.orders.constants) ≡ produce role.task [] all p.constants ++ yielded n w
  produced-by n within =
      let len : length (take n w.rest) ≡ n = length-take-le n w.rest within in
      ap (λ m. produce role.task [] all (p.constants ++ replicate m context.orders.constants)) (sym len)
      ∙ produce-more w.operator_state w.building role.task (columns_at_hand w) context.orders.constants role all (take n w.rest) (drop n w.rest) p.constants shows.operator_state
      (reads-now w.operator_state w.building role.task (taken_of role p) shows.state) (of-side n) (sym shows.rest ∙ sym (take-append-drop n w.rest))

  -- nothing more can come after so many rows
  ends-is : (n : ℕ) → 0 < n → n ≤ length w.rest → ends_with n w ≡ is_complete role p.taken (length p.constants + n)
  ends-is n some within =
      let inside = shows.within in
      let left = rest-length in
      some-rows n some (eqb n (length w.rest) && have_all_ended w.ins)
      ∙ and-turned (eqb n (length w.rest)) (have_all_ended w.ins)
      ∙ ap (λ b. b && eqb n (length w.rest)) (all-ended role.senders context.base.had p.taken w.ins shows.ins)
      ∙ ap (λ b. have_ended role.senders p.taken && b) (same-test n (length w.rest) (length p.constants + n) (length all) (λ e. omega (arith, left, inside, e)) (λ e. omega (arith, left, inside, e)))

  -- a worker that takes so many rows does what it did, and keeps what it has to
  pub does-taking : (n : ℕ) (now : OperatorState) → BecomesTaking n w now → DoesKind now role.task.kind context.orders.constants role
  does-taking n now becomes = does-all w.operator_state now w.building role.task (columns_at_hand w) context.orders.constants role (take n w.rest) becomes shows.operator_state

  pub has-taking : (n : ℕ) (now : OperatorState) → n ≤ length w.rest → BecomesTaking n w now → KeepsRows now role.task (take (length p.constants + n) all)
  has-taking n now within becomes =
      let P : List Arrival → Type 0 = λ l. KeepsRows now role.task l in
      subst P (sym (taken-more n within)) (has-all w.operator_state now w.building role.task (columns_at_hand w) (taken_of role p) (take n w.rest) becomes (of-side n) shows.state)

  -- the rows given at the end are those that the task closes with
  last-is : (n : ℕ) (last : List (List Value)) → 0 < n → n ≤ length w.rest → IsGivenLast n w last → last ≡ (if is_complete role p.taken (length p.constants + n) then closing role.task all else [])
  unfolding closing
  last-is n last some within given = by (ends_with n w) refl
    where
      by : (b : Bool) → ends_with n w ≡ b → last ≡ (if is_complete role p.taken (length p.constants + n) then closing_rows role.task.kind (filter_map (suiting role.task) all) else [])
      by false e = given.none e ∙ ap (λ c. if c then closing_rows role.task.kind (filter_map (suiting role.task) all) else []) (sym e ∙ ends-is n some within)
      by true e =
          let so = given.some e in
          let complete : is_complete role p.taken (length p.constants + n) ≡ true = sym (ends-is n some within) ∙ e in
          let parts = and_parts (have_ended role.senders p.taken) (eqb (length p.constants + n) (length all)) complete in
          let whole : length p.constants + n ≡ length all = eqb-true (length p.constants + n) (length all) parts.1 in
          closing-is so.0 role.task.kind context.orders.constants role role.task (take (length p.constants + n) all) true last (does-taking n so.0 so.1) (has-taking n so.0 within so.1) so.2
          ∙ ap (λ l. closing_rows role.task.kind (filter_map (suiting role.task) l)) (take_all (length p.constants + n) all (omega (arith, whole)))
          ∙ ap (λ c. if c then closing_rows role.task.kind (filter_map (suiting role.task) all) else []) (sym complete)

  -- what is produced with so many rows more, where these are given at the end
  pub produced-more : (n : ℕ) (last : List (List Value)) → n ≤ length w.rest → IsGivenLast n w last
      → product_with role context.orders p n ≡ product role p.taken p.constants ++ (yielded n w ++ last)
  produced-more zero last within given =
      ap (product role p.taken) (append-nil p.constants) ∙ sym (append-nil (product role p.taken p.constants)) ∙ ap (λ l. product role p.taken p.constants ++ l) (sym (given.none refl))
  produced-more (suc n) last within given =
      let open_still : produce role.task [] all p.constants ≡ product role p.taken p.constants =
      sym (product-open role p.taken p.constants (not-complete role p.taken (length p.constants) (let left = rest-length in omega (arith, left, within)))) in
      let lengths : length (p.constants ++ replicate (suc n) context.orders.constants) ≡ length p.constants + suc n =
      length-append p.constants (replicate (suc n) context.orders.constants) ∙ ap (λ m. length p.constants + m) (length-replicate (suc n) context.orders.constants) in
      product-is role p.taken (p.constants ++ replicate (suc n) context.orders.constants)
      ∙ ap (λ m. produce role.task [] all (p.constants ++ replicate (suc n) context.orders.constants) ++ (if is_complete role p.taken m then closing role.task all else [])) lengths
      ∙ ap (λ l. produce role.task [] all (p.constants ++ replicate (suc n) context.orders.constants) ++ l) (sym (last-is (suc n) last (omega arith) within given))
      ∙ ap (λ l. l ++ last) (produced-by (suc n) within ∙ ap (λ l. l ++ yielded (suc n) w) open_still)
      ∙ append_assoc (product role p.taken p.constants) (yielded (suc n) w) last

  -- what is pending with so many rows more
  pub pending-more : (n : ℕ) (last : List (List Value)) → n ≤ length w.rest → IsGivenLast n w last
      → drop (length p.outcomes) (product_with role context.orders p n) ≡ w.pending ++ (yielded n w ++ last)
  pending-more n last within given =
      ap (drop (length p.outcomes)) (produced-more n last within given)
      ∙ drop-append-le (length p.outcomes) (product role p.taken p.constants) (yielded n w ++ last) shows.produced
      ∙ ap (λ l. l ++ (yielded n w ++ last)) (sym shows.pending)

  -- how many rows are produced then
  pub made-length : (n : ℕ) (last : List (List Value)) → n ≤ length w.rest → IsGivenLast n w last
      → produced_with role context.orders p n ≡ length (product role p.taken p.constants) + length (yielded n w ++ last)
  made-length n last within given = ap length (produced-more n last within given) ∙ length-append (product role p.taken p.constants) (yielded n w ++ last)

-- where not all is taken nothing is given at the end
pub gives-none : (n : ℕ) (w : WorkerState) → n < length w.rest → IsGivenLast n w []
gives-none n w less = record { none = λ e. refl; some = λ e. absurd (false≢true (sym (not-ending n w less) ∙ e)) }
