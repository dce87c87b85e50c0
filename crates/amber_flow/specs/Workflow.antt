-- The workflow that a byte list means, or the first reason why it means none.
use Rattle.std.specs.Prelude.{ℕ, zero, suc, ◌+◌, ◌-◌, ◌==◌, ◌&&◌, nat_le, List, [], ◌∷◌, ◌++◌, length, sum_by, codes, Option, Some, None, ok_or, Result, Ok, Err, Bool, if◌then◌else◌, ⊤}
use Rattle.std.specs.Str.{is_utf8}
use Rattle.serde_json.specs.Data.{Data}
use Rattle.serde_json.specs.Read.{read}
use Rattle.amber_rows.specs.FlowRules.{reader_count}
use Rattle.amber_rows.specs.declared.flow.Operator.{Operator}
use Rattle.amber_rows.specs.Chain.{◌>>=◌, require}
use Rattle.amber_flow.specs.Fields.{array_at}
use Rattle.amber_flow.specs.Operators.{operator_of}
use Rattle.amber_flow.specs.declared.error.Fault.{Fault}
use Rattle.amber_flow.specs.declared.error.FlowWhy.{FlowWhy}
use Rattle.amber_flow.specs.declared.error.FlowWhy.TheVariants as why

-- the JSON value of a text (RFC 8259)
unfoldable pub tree_of : List ℕ → Option Data
tree_of bytes = if is_utf8 bytes then read bytes else None

-- a reason at an operator, or, with 0, at the whole
abbrev pub fault_at : ℕ → FlowWhy → Fault
fault_at op reason = record { op = op; why = reason }

abbrev pub at_operator : ℕ → Result Operator FlowWhy → Result Operator Fault
at_operator op (Ok operator) = Ok operator
at_operator op (Err reason) = Err (fault_at op reason)

-- the operators that come after these, where there are `count` in all
unfoldable pub operators_from : ℕ → List Operator → List Data → Result (List Operator) Fault
operators_from count before [] = Ok before
operators_from count before (tree ∷ trees) =
    at_operator (length before + 1) (operator_of count before tree) >>= (λ operator. operators_from count (before ++ operator ∷ []) trees)

-- a workflow has 2 to 32 operators
abbrev pub is_flow_length : ℕ → Bool
is_flow_length count = nat_le 2 count && nat_le count 32

abbrev pub workers_in_all : List Operator → ℕ
workers_in_all flow = sum_by (λ operator. operator.workers) flow

-- the first of the operators from this one on that is not read exactly once
abbrev pub unread_from : List Operator → ℕ → ℕ → Option ℕ
unread_from flow op zero = None
unread_from flow op (suc left) = if reader_count flow op == 1 then unread_from flow (op + 1) left else Some op

-- the first operator before the last that is not read exactly once
unfoldable pub first_unread : List Operator → Option ℕ
first_unread flow = unread_from flow 1 (length flow - 1)

abbrev pub refuse : Option ℕ → FlowWhy → Result ⊤ Fault
refuse None reason = Ok tt
refuse (Some op) reason = Err (fault_at op reason)

-- the workers and readers of all operators
unfoldable pub check_whole : List Operator → Result (List Operator) Fault
check_whole flow = do
  few ← require (nat_le (workers_in_all flow) 128) (fault_at 0 why.Count)
  once ← refuse (first_unread flow) why.Readers
  Ok flow

-- the workflow that a JSON value means
unfoldable pub flow_of : Data → Result (List Operator) Fault
flow_of tree = do
  trees ← ok_or (array_at (codes "operators") tree) (fault_at 0 why.Shape)
  sized ← require (is_flow_length (length trees)) (fault_at 0 why.Count)
  flow ← operators_from (length trees) [] trees
  check_whole flow

-- the workflow that bytes mean
unfoldable pub workflow_of : List ℕ → Result (List Operator) Fault
workflow_of bytes = do
  tree ← ok_or (tree_of bytes) (fault_at 0 why.Json)
  flow_of tree
