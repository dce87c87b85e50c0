-- The command that the words of a script's line mean is the one whose words they are.
use Rattle.std.proofs.Common.{◌≡◌, ◌==◌, ℕ, zero, suc, ◌+◌, ◌-◌, ◌^◌, ◌<◌, ◌≤◌, true, false, List, [], ◌∷◌, ◌++◌, codes, Option, None, Some, Result, Ok, refl, sym, ap, ◌∙◌, arith, nat_lt}
use Rattle.std.specs.Prelude.{not, option_map, slice_get}
use Rattle.std.specs.Fmt.{decimal}
use Rattle.std.specs.Str.{is_utf8}
use Rattle.std.proofs.lemmas.Bool.{and_parts, ltb-true}
use Rattle.std.proofs.lemmas.Bool.Decides.{nat_tests}
use Rattle.amber_rows.specs.Columns.{AreColumns, kind_of}
use Rattle.amber_rows.specs.FlowRules.{AreNext, IsNext}
use Rattle.amber_rows.specs.Kinds.{is_sink, settable_cond}
use Rattle.amber_rows.specs.Chain.{◌>>=◌}
use Rattle.amber_rows.specs.Lists.{nth}
use Rattle.amber_rows.specs.Suits.{same_kind}
use Rattle.amber_rows.specs.declared.column.ColKind.{ColKind}
use Rattle.amber_rows.specs.declared.column.Column.{Column}
use Rattle.amber_rows.specs.declared.cond.Cond.{Cond}
use Rattle.amber_rows.specs.declared.flow.Operator.{Operator}
use Rattle.amber_rows.specs.declared.value.Value.{Value}
use Rattle.amber_log.specs.Fits.{has_worker, is_cell_of, is_constant_of, is_source, is_target, is_there, takes_cond, takes_constant}
use Rattle.amber_log.specs.Grammar.{IsConstant}
use Rattle.amber_log.specs.Words.{sign_of}
use Rattle.amber_log.specs.declared.command.Command.{Command}
use Rattle.amber_log.specs.declared.command.Command.TheVariants as command
use Rattle.amber_meaning.specs.Texts.{word_of, value_word}
use Rattle.amber_script.specs.Commands.{break_by, command_by, command_said, cond_kind, condition_on, number_of_column, operator_and_condition, operator_and_constant, operator_and_rows, operator_and_worker, operator_named, source_named}
use Rattle.amber_script.specs.declared.error.ScriptWhy.{ScriptWhy}
use Rattle.amber_commands.proofs.Naming.{column-found, operator-found, rows-read, worker-read}
use Rattle.amber_commands.proofs.Spelling.{AreWordsOf, IsWordOf, word-of}
use Rattle.amber_commands.proofs.Valued.{constant-read, decimal-word, id-word, sign-read, sign-word, starts-bare, value-is-word, value_text}

-- ---- the operators of a workflow

-- an operator of a workflow
pub record IsOperator (flow : List Operator) (op : ℕ) (operator : Operator) : Type 0 where
  pub here : nth flow op ≡ Some operator
  pub named : operator_named flow operator.id ≡ Ok op
  pub id : IsWordOf operator.id operator.id
  pub columns : AreColumns operator.schema
  pub few : operator.workers ≤ 16

next-at : (before flow : List Operator) (i : ℕ) (operator : Operator) → AreNext before flow → slice_get flow i ≡ Some operator
    → (earlier : List Operator) × IsNext earlier operator
unfolding AreNext
next-at before [] i operator h is = absurd cc
next-at before (x ∷ xs) zero operator h is = let same : x ≡ operator = cc in (before, rw same at h.0)
next-at before (x ∷ xs) (suc i) operator h is = next-at (before ++ x ∷ []) xs i operator h.1 is

less-one : (i : ℕ) → suc i - 1 ≡ i
less-one i = omega arith

nth-place : {A : Type 0} (xs : List A) (i : ℕ) → nth xs (suc i) ≡ slice_get xs i
nth-place xs i = let some : (suc i == 0) ≡ false = grind (arith, nat_tests) in rw (some, less-one i) refl

one-more : (i : ℕ) → i + 1 ≡ suc i
one-more i = omega arith

pub operator-of : (flow : List Operator) (op : ℕ) (operator : Operator) → AreNext [] flow → nth flow op ≡ Some operator → IsOperator flow op operator
operator-of flow zero operator h is = absurd cc
operator-of flow (suc i) operator h is =
    let place : slice_get flow i ≡ Some operator = sym (nth-place flow i) ∙ is in
    let next = next-at [] flow i operator h place in
    record {
      here = is;
      named = rw (operator-found flow i operator h place) (ap Ok (one-more i));
      id = id-word operator.id next.1.named;
      columns = next.1.columns;
      few = next.1.few_workers;
    }

-- ---- what a command that fits says of its operator

pub source-of : (x : Option Operator) → is_source x ≡ true → (operator : Operator) × (x ≡ Some operator) × (not (is_sink operator.what) ≡ true)
source-of None h = absurd cc
source-of (Some operator) h = (operator, refl, h)

pub there-of : (x : Option Operator) → is_there x ≡ true → (operator : Operator) × (x ≡ Some operator)
there-of None h = absurd cc
there-of (Some operator) h = (operator, refl)

pub worker-of : (x : Option Operator) (worker : ℕ) → has_worker x worker ≡ true → (operator : Operator) × (x ≡ Some operator) × (nat_lt worker operator.workers ≡ true)
worker-of None worker h = absurd cc
worker-of (Some operator) worker h = (operator, refl, h)

pub constant-of : (x : Option Operator) (v : Value) → takes_constant x v ≡ true
    → (operator : Operator) × (x ≡ Some operator) × (is_constant_of (settable_cond operator.what) operator.schema v ≡ true)
constant-of None v h = absurd cc
constant-of (Some operator) v h = (operator, refl, h)

pub cond-of : (x : Option Operator) (cond : Cond) → takes_cond x cond ≡ true
    → (operator : Operator) × (x ≡ Some operator) × (not (is_sink operator.what) ≡ true) × (is_cell_of (nth operator.schema cond.column) cond.constant ≡ true)
cond-of None cond h = absurd cc
cond-of (Some operator) cond h =
    let parts = and_parts (not (is_sink operator.what)) (is_cell_of (nth operator.schema cond.column) cond.constant) h in (operator, refl, parts.0, parts.1)

pub cell-of : (x : Option Column) (v : Value) → is_cell_of x v ≡ true → (column : Column) × (x ≡ Some column) × (same_kind column.kind (kind_of v) ≡ true)
cell-of None v h = absurd cc
cell-of (Some column) v h = (column, refl, h)

settable-of : (x : Option Cond) (columns : List Column) (v : Value) → is_constant_of x columns v ≡ true → (k : ColKind) × (cond_kind x columns ≡ Some k) × (same_kind k (kind_of v) ≡ true)
settable-of None columns v h = absurd cc
settable-of (Some cond) columns v h = let cell = cell-of (nth columns cond.column) v h in (cell.0.kind, ap (λ (x : Option Column). option_map (λ column. column.kind) x) cell.1, cell.2)

-- ---- the parts of commands are read

source-read : (flow : List Operator) (op : ℕ) (operator : Operator) → IsOperator flow op operator → not (is_sink operator.what) ≡ true → source_named flow operator.id ≡ Ok op
source-read flow op operator is source = rw is.named (rw is.here (rw source refl))

rows-said : (flow : List Operator) (op n : ℕ) (operator : Operator) → IsOperator flow op operator → not (is_sink operator.what) ≡ true → is_target n ≡ true
    → operator_and_rows flow operator.id (decimal n) ≡ Ok (op, n)
rows-said flow op n operator is source target = rw (source-read flow op operator is source) (rw (rows-read n target) refl)

worker-said : (flow : List Operator) (op worker : ℕ) (operator : Operator) → IsOperator flow op operator → nat_lt worker operator.workers ≡ true
    → operator_and_worker flow operator.id (decimal worker) ≡ Ok (op, worker)
worker-said flow op worker operator is less =
    let below : worker < operator.workers = ltb-true worker operator.workers less in
    rw is.named (rw is.here (rw (worker-read worker (omega (arith, below, is.few))) (rw less refl)))

constant-said : (flow : List Operator) (op : ℕ) (v : Value) (operator : Operator) → IsOperator flow op operator → IsConstant v
    → is_constant_of (settable_cond operator.what) operator.schema v ≡ true → operator_and_constant flow operator.id (value_text v) ≡ Ok (op, v)
constant-said flow op v operator is text fits =
    let kind = settable-of (settable_cond operator.what) operator.schema v fits in
    rw is.named (rw is.here (rw kind.1 (rw (constant-read kind.0 v text kind.2) refl)))

column-read : (columns : List Column) (number : ℕ) (column : Column) → AreColumns columns → nth columns number ≡ Some column → number_of_column columns column.name ≡ Ok number
column-read columns zero column are is = absurd cc
column-read columns (suc i) column are is =
    let place : slice_get columns i ≡ Some column = sym (nth-place columns i) ∙ is in
    rw (column-found columns i column are.apart place) (ap Ok (one-more i))

cond-read : (columns : List Column) (cond : Cond) (column : Column) → AreColumns columns → nth columns cond.column ≡ Some column → IsConstant cond.constant
    → same_kind column.kind (kind_of cond.constant) ≡ true → condition_on columns column.name cond.op (value_text cond.constant) ≡ Ok cond
cond-read columns cond column are is text same =
    rw (column-read columns cond.column column are is) (rw is (rw (constant-read column.kind cond.constant text same) refl))

cond-said : (flow : List Operator) (op : ℕ) (cond : Cond) (operator : Operator) (column : Column) → IsOperator flow op operator → not (is_sink operator.what) ≡ true
    → nth operator.schema cond.column ≡ Some column → IsConstant cond.constant → same_kind column.kind (kind_of cond.constant) ≡ true
    → operator_and_condition flow (operator.id ∷ column.name ∷ sign_of cond.op ∷ value_text cond.constant ∷ []) ≡ Ok (op, cond)
cond-said flow op cond operator column is source at text same =
    rw (sign-read cond.op) (rw (source-read flow op operator is source) (rw is.here (rw (cond-read operator.schema cond column is.columns at text same) refl)))

-- ---- commands

-- the words of a command are read as it
pub record IsMeant (flow : List Operator) (words : List (List ℕ)) (meant : Command) : Type 0 where
  pub texts : List (List ℕ)
  pub are : AreWordsOf words texts
  pub said : command_said flow texts ≡ Ok meant

pause-word : IsWordOf (codes "pause") (codes "pause")
pause-word = starts-bare 112 (codes "ause") refl refl

break-word : IsWordOf (codes "break") (codes "break")
break-word = starts-bare 98 (codes "reak") refl refl

count-word : IsWordOf (codes "count") (codes "count")
count-word = starts-bare 99 (codes "ount") refl refl

when-word : IsWordOf (codes "when") (codes "when")
when-word = starts-bare 119 (codes "hen") refl refl

clear-word : IsWordOf (codes "clear") (codes "clear")
clear-word = starts-bare 99 (codes "lear") refl refl

set-word : IsWordOf (codes "set") (codes "set")
set-word = starts-bare 115 (codes "et") refl refl

drop-word : IsWordOf (codes "drop") (codes "drop")
drop-word = starts-bare 100 (codes "rop") refl refl

lose-word : IsWordOf (codes "lose") (codes "lose")
lose-word = starts-bare 108 (codes "ose") refl refl

inspect-word : IsWordOf (codes "inspect") (codes "inspect")
inspect-word = starts-bare 105 (codes "nspect") refl refl

run-word : IsWordOf (codes "run") (codes "run")
run-word = starts-bare 114 (codes "un") refl refl

abbrev Pairs : Type 0
Pairs = Result (ℕ × ℕ) ScriptWhy

pub run-means : (flow : List Operator) → IsMeant flow (codes "run" ∷ []) command.Run
unfolding command_by AreWordsOf
run-means flow = record { texts = codes "run" ∷ []; are = (run-word, tt); said = refl }

pub pause-means : (flow : List Operator) (op n : ℕ) (operator : Operator) → IsOperator flow op operator → not (is_sink operator.what) ≡ true → is_target n ≡ true → n < 2 ^ 64
    → IsMeant flow (codes "pause" ∷ operator.id ∷ decimal n ∷ []) (command.Pause op n)
unfolding command_by AreWordsOf
pause-means flow op n operator is source target small = record {
  texts = codes "pause" ∷ operator.id ∷ decimal n ∷ [];
  are = (pause-word, (is.id, (decimal-word n small, tt)));
  said = ap (λ (r : Pairs). r >>= (λ said. Ok (command.Pause said.0 said.1))) (rows-said flow op n operator is source target);
}

pub count-means : (flow : List Operator) (op n : ℕ) (operator : Operator) → IsOperator flow op operator → not (is_sink operator.what) ≡ true → is_target n ≡ true → n < 2 ^ 64
    → IsMeant flow (codes "break" ∷ codes "count" ∷ operator.id ∷ decimal n ∷ []) (command.Count op n)
unfolding command_by break_by AreWordsOf
count-means flow op n operator is source target small = record {
  texts = codes "break" ∷ codes "count" ∷ operator.id ∷ decimal n ∷ [];
  are = (break-word, (count-word, (is.id, (decimal-word n small, tt))));
  said = ap (λ (r : Pairs). r >>= (λ said. Ok (command.Count said.0 said.1))) (rows-said flow op n operator is source target);
}

pub drop-means : (flow : List Operator) (op worker : ℕ) (operator : Operator) → IsOperator flow op operator → nat_lt worker operator.workers ≡ true → worker < 2 ^ 64
    → IsMeant flow (codes "drop" ∷ operator.id ∷ decimal worker ∷ []) (command.Drop op worker)
unfolding command_by AreWordsOf
drop-means flow op worker operator is less small = record {
  texts = codes "drop" ∷ operator.id ∷ decimal worker ∷ [];
  are = (drop-word, (is.id, (decimal-word worker small, tt)));
  said = ap (λ (r : Pairs). r >>= (λ said. Ok (command.Drop said.0 said.1))) (worker-said flow op worker operator is less);
}

pub lose-means : (flow : List Operator) (op worker : ℕ) (operator : Operator) → IsOperator flow op operator → nat_lt worker operator.workers ≡ true → worker < 2 ^ 64
    → IsMeant flow (codes "lose" ∷ operator.id ∷ decimal worker ∷ []) (command.Lose op worker)
unfolding command_by AreWordsOf
lose-means flow op worker operator is less small = record {
  texts = codes "lose" ∷ operator.id ∷ decimal worker ∷ [];
  are = (lose-word, (is.id, (decimal-word worker small, tt)));
  said = ap (λ (r : Pairs). r >>= (λ said. Ok (command.Lose said.0 said.1))) (worker-said flow op worker operator is less);
}

pub set-means : (flow : List Operator) (op : ℕ) (v : Value) (operator : Operator) → IsOperator flow op operator → IsConstant v
    → is_constant_of (settable_cond operator.what) operator.schema v ≡ true → IsMeant flow (codes "set" ∷ operator.id ∷ value_word v ∷ []) (command.Set op v)
unfolding command_by AreWordsOf
set-means flow op v operator is text fits = record {
  texts = codes "set" ∷ operator.id ∷ value_text v ∷ [];
  are = (set-word, (is.id, (value-is-word v text, tt)));
  said = ap (λ (r : Result (ℕ × Value) ScriptWhy). r >>= (λ said. Ok (command.Set said.0 said.1))) (constant-said flow op v operator is text fits);
}

pub clear-means : (flow : List Operator) (op : ℕ) (operator : Operator) → IsOperator flow op operator → IsMeant flow (codes "clear" ∷ operator.id ∷ []) (command.Clear op)
unfolding command_by AreWordsOf
clear-means flow op operator is = record {
  texts = codes "clear" ∷ operator.id ∷ [];
  are = (clear-word, (is.id, tt));
  said = ap (λ (r : Result ℕ ScriptWhy). r >>= (λ found. Ok (command.Clear found))) is.named;
}

pub inspect-means : (flow : List Operator) (op : ℕ) (operator : Operator) → IsOperator flow op operator → IsMeant flow (codes "inspect" ∷ operator.id ∷ []) (command.Inspect op)
unfolding command_by AreWordsOf
inspect-means flow op operator is = record {
  texts = codes "inspect" ∷ operator.id ∷ [];
  are = (inspect-word, (is.id, tt));
  said = ap (λ (r : Result ℕ ScriptWhy). r >>= (λ found. Ok (command.Inspect found))) is.named;
}

pub when-means : (flow : List Operator) (op : ℕ) (cond : Cond) (operator : Operator) (column : Column) → IsOperator flow op operator → not (is_sink operator.what) ≡ true
    → nth operator.schema cond.column ≡ Some column → IsConstant cond.constant → same_kind column.kind (kind_of cond.constant) ≡ true → is_utf8 column.name ≡ true
    → IsMeant flow (codes "break" ∷ codes "when" ∷ operator.id ∷ word_of column.name ∷ sign_of cond.op ∷ value_word cond.constant ∷ []) (command.When op cond)
unfolding command_by break_by AreWordsOf
when-means flow op cond operator column is source at text same name = record {
  texts = codes "break" ∷ codes "when" ∷ operator.id ∷ column.name ∷ sign_of cond.op ∷ value_text cond.constant ∷ [];
  are = (break-word, (when-word, (is.id, (word-of column.name name, (sign-word cond.op, (value-is-word cond.constant text, tt))))));
  said = ap (λ (r : Result (ℕ × Cond) ScriptWhy). r >>= (λ said. Ok (command.When said.0 said.1))) (cond-said flow op cond operator column is source at text same);
}
