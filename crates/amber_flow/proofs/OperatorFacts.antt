-- Operators that are read one after the other.
use Rattle.std.proofs.Common.{◌≡◌, ℕ, suc, ◌+◌, ◌<◌, ◌≤◌, ◌==◌, ◌||◌, List, [], ◌∷◌, ◌++◌, length, map, get_or, drop, All, true, false, bytes_eq, Option, Some, None, is_some, option_map, Ok, Err, refl, sym, ap, ◌∙◌, subst, append_assoc, append-nil, length-append, zero-add, arith, eq-eqb}
use Rattle.std.proofs.lemmas.Bool.Decides.{nat_tests}
use Rattle.std.proofs.lemmas.List.{drop_all}
use Rattle.std.proofs.lemmas.List.Elements.{All-push}
use Rattle.std.specs.List.{list_any, position}
use Rattle.serde_json.specs.View.{view}
use Rattle.serde_json.specs.declared.value.Value.{Value}
use Rattle.amber_rows.specs.FlowRules.{AreNext, IsNext, ends_in_sink}
use Rattle.amber_rows.specs.Columns.{is_among}
use Rattle.amber_rows.specs.Kinds.{is_sink}
use Rattle.amber_rows.specs.declared.flow.Operator.{Operator}
use Rattle.amber_flow.specs.Inputs.{IsNarrow, operator_number}
use Rattle.amber_flow.specs.Operators.{ids_of, operator_of}
use Rattle.amber_flow.specs.Workflow.{fault_at, operators_from}
use Rattle.amber_flow.specs.declared.error.FlowWhy.{FlowWhy}
use Rattle.amber_flow.proofs.ColumnFacts.{trees-drop}
use Rattle.amber_flow.proofs.ListFacts.{place-any}

-- an id is taken where an operator has it
pub id-found : (id : List ℕ) (operators : List Operator) → is_some (operator_number operators id) ≡ is_among id (ids_of operators)
id-found id operators = numbered (position (λ operator. bytes_eq operator.id id) operators) ∙ place-any (λ operator. bytes_eq operator.id id) operators ∙ ids_any operators
  where
    numbered : (place : Option ℕ) → is_some (option_map (λ index. index + 1) place) ≡ is_some place
    numbered None = refl
    numbered (Some place) = refl

    ids_any : (operators : List Operator) → list_any (λ operator. bytes_eq operator.id id) operators ≡ is_among id (ids_of operators)
    ids_any [] = refl
    ids_any (operator ∷ operators) = ap (λ rest. bytes_eq operator.id id || rest) (ids_any operators)

-- one more operator may follow those before it
pub AreNext-push : (before operators : List Operator) (operator : Operator) → AreNext before operators → IsNext (before ++ operators) operator → AreNext before (operators ++ operator ∷ [])
unfolding AreNext
AreNext-push before [] operator are is = (subst (λ (earlier : List Operator). IsNext earlier operator) (append-nil before) is, tt)
AreNext-push before (first ∷ operators) operator are is =
    (are.0, AreNext-push (before ++ first ∷ []) operators operator are.1 (subst (λ (earlier : List Operator). IsNext earlier operator) (sym (append_assoc before (first ∷ []) operators)) is))

-- of `count` operators, of which `i` stand before these, the last is a sink, and no other
abbrev pub IsPlaced : ℕ → ℕ → List Operator → Type 0
IsPlaced count i [] = Unit {0}
IsPlaced count i (operator ∷ operators) = (is_sink operator.what ≡ (i + 1 == count)) × IsPlaced count (i + 1) operators

placed-push : (count i : ℕ) (operators : List Operator) (operator : Operator) → IsPlaced count i operators → is_sink operator.what ≡ (i + length operators + 1 == count)
    → IsPlaced count i (operators ++ operator ∷ [])
placed-push count i [] operator placed is =
    let here : i + 0 + 1 ≡ i + 1 = omega arith in
    (is ∙ ap (λ n. n == count) here, tt)
placed-push count i (first ∷ operators) operator placed is =
    let here : i + suc (length operators) + 1 ≡ i + 1 + length operators + 1 = omega arith in
    (placed.0, placed-push count (i + 1) operators operator placed.1 (is ∙ ap (λ n. n == count) here))

pub placed-ends : (count i : ℕ) (operators : List Operator) → IsPlaced count i operators → i + length operators ≡ count → 0 < length operators → ends_in_sink operators ≡ true
unfolding ends_in_sink
placed-ends count i [] placed all some = absurd (omega arith)
placed-ends count i (operator ∷ []) placed all some = placed.0 ∙ eq-eqb (i + 1) count (omega arith)
placed-ends count i (operator ∷ next ∷ operators) placed all some =
    let early : (i + 1 == count) ≡ false = grind (arith, nat_tests) in
    rw (placed.0, early, placed-ends count (i + 1) (next ∷ operators) placed.1 (omega arith) (omega arith))

-- the operators of the first values, as far as they have been read
pub record IsRead (trees : List Value) (i : ℕ) (operators : List Operator) : Type 0 where
  pub meant : operators_from (length trees) [] (map view trees) ≡ operators_from (length trees) operators (map view (drop i trees))
  pub count : length operators ≡ i
  pub next : AreNext [] operators
  pub placed : IsPlaced (length trees) 0 operators
  pub narrow : All IsNarrow operators

operators-more : (count : ℕ) (trees : List Value) (i : ℕ) (tree : Value) (before : List Operator) (operator : Operator) → i < length trees → tree ≡ get_or trees i tree → Ok operator ≡ operator_of count before (view tree)
    → operators_from count before (map view (drop i trees)) ≡ operators_from count (before ++ operator ∷ []) (map view (drop (i + 1) trees))
unfolding operators_from
operators-more count trees i tree before operator h is read = rw (trees-drop trees i tree h is, ← read)

operators-stop : (count : ℕ) (trees : List Value) (i : ℕ) (tree : Value) (before : List Operator) (why : FlowWhy) → i < length trees → tree ≡ get_or trees i tree → Err why ≡ operator_of count before (view tree)
    → operators_from count before (map view (drop i trees)) ≡ Err (fault_at (length before + 1) why)
unfolding operators_from
operators-stop count trees i tree before why h is read = rw (trees-drop trees i tree h is, ← read)

operators-end : (count : ℕ) (trees : List Value) (i : ℕ) (before : List Operator) → length trees ≤ i → operators_from count before (map view (drop i trees)) ≡ Ok before
unfolding operators_from
operators-end count trees i before h = rw (drop_all i trees h)

pub read-none : (trees : List Value) → IsRead trees 0 []
unfolding AreNext
read-none trees = record { meant = refl; count = refl; next = tt; placed = tt; narrow = λ k d h. absurd (omega arith) }

pub read-more : (trees : List Value) (i : ℕ) (tree : Value) (before : List Operator) (operator : Operator) → IsRead trees i before → i < length trees → tree ≡ get_or trees i tree → Ok operator ≡ operator_of (length trees) before (view tree)
    → IsNext before operator → is_sink operator.what ≡ (length before + 1 == length trees) → IsRead trees (i + 1) (before ++ operator ∷ [])
read-more trees i tree before operator done h is read next placed = record {
  meant = done.meant ∙ operators-more (length trees) trees i tree before operator h is read;
  count = simp length-append (omega (arith, done.count));
  next = AreNext-push [] before operator done.next next;
  placed = placed-push (length trees) 0 before operator done.placed (placed ∙ ap (λ n. n + 1 == length trees) (sym (zero-add (length before))));
  narrow = All-push IsNarrow before operator done.narrow next.columns.few;
}

pub read-stop : (trees : List Value) (i : ℕ) (tree : Value) (before : List Operator) (why : FlowWhy) → IsRead trees i before → i < length trees → tree ≡ get_or trees i tree → Err why ≡ operator_of (length trees) before (view tree)
    → operators_from (length trees) [] (map view trees) ≡ Err (fault_at (length before + 1) why)
read-stop trees i tree before why done h is read = done.meant ∙ operators-stop (length trees) trees i tree before why h is read

pub read-all : (trees : List Value) (i : ℕ) (before : List Operator) → IsRead trees i before → length trees ≤ i → operators_from (length trees) [] (map view trees) ≡ Ok before
read-all trees i before done h = done.meant ∙ operators-end (length trees) trees i before h

pub read-ends : (trees : List Value) (i : ℕ) (before : List Operator) → IsRead trees i before → i ≡ length trees → 0 < length trees → ends_in_sink before ≡ true
read-ends trees i before done all some = placed-ends (length trees) 0 before done.placed (omega (arith, done.count)) (omega (arith, done.count))
