-- When a list of operators is a workflow.
use Rattle.std.specs.Prelude.{◌≡◌, ℕ, ◌<◌, ◌≤◌, ◌==◌, ◌&&◌, not, List, [], ◌∷◌, ◌++◌, length, map, sum_by, count_by, Bool, true, false}
use Rattle.std.specs.List.{flat_map}
use Rattle.amber_rows.specs.Columns.{AreColumns, is_among, is_id}
use Rattle.amber_rows.specs.Kinds.{IsKind, inputs_of, is_sink}
use Rattle.amber_rows.specs.declared.flow.Operator.{Operator}

-- an operator that may follow these
pub record IsNext (before : List Operator) (operator : Operator) : Type 0 where
  pub named : is_id operator.id ≡ true
  pub fresh : is_among operator.id (map (λ earlier. earlier.id) before) ≡ false
  pub columns : AreColumns operator.schema
  pub kind : IsKind before operator.what operator.schema
  pub some_workers : 0 < operator.workers
  pub few_workers : operator.workers ≤ 16
  pub one_at_sink : is_sink operator.what ≡ true → operator.workers ≡ 1

-- each operator may follow those before it
unfoldable pub AreNext : List Operator → List Operator → Type 0
AreNext before [] = Unit {0}
AreNext before (operator ∷ more) = IsNext before operator × AreNext (before ++ operator ∷ []) more

-- the last operator is a sink, and no other
unfoldable pub ends_in_sink : List Operator → Bool
ends_in_sink [] = false
ends_in_sink (operator ∷ []) = is_sink operator.what
ends_in_sink (operator ∷ next ∷ more) = not (is_sink operator.what) && ends_in_sink (next ∷ more)

-- how often an operator is named as an input
unfoldable pub reader_count : List Operator → ℕ → ℕ
reader_count flow op = count_by (λ input. input == op) (flat_map (λ operator. inputs_of operator.what) flow)

-- a workflow: 2 to 32 operators, each of which may follow those before it, a sink at the end and nowhere else,
-- every other operator read exactly once, and at most 128 workers in all
pub record IsFlow (flow : List Operator) : Type 0 where
  pub some : 2 ≤ length flow
  pub few : length flow ≤ 32
  pub operators : AreNext [] flow
  pub ends : ends_in_sink flow ≡ true
  pub read_once : (op : ℕ) → 0 < op → op < length flow → reader_count flow op ≡ 1
  pub few_workers : sum_by (λ operator. operator.workers) flow ≤ 128
