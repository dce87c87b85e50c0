-- What the readers answer.
use Rattle.std.specs.Prelude.{◌≡◌, ℕ, List, Option, Some, None, Result, Ok, Err, ⊤}
use Rattle.serde_json.specs.Data.{Data}
use Rattle.serde_json.specs.View.{view}
use Rattle.serde_json.specs.declared.value.Value.{Value}
use Rattle.amber_rows.specs.declared.flow.Operator.{Operator}
use Rattle.amber_flow.specs.Workflow.{fault_at}
use Rattle.amber_flow.specs.declared.error.Fault.{Fault}
use Rattle.amber_flow.specs.declared.error.FlowErr.{FlowErr}
use Rattle.amber_flow.specs.declared.error.FlowErr.TheVariants.{Bad, NoMemory}
use Rattle.amber_flow.specs.declared.error.FlowWhy.TheVariants as why
use Rattle.amber_flow.specs.declared.error.ReadErr.{ReadErr}
use Rattle.amber_flow.specs.declared.error.ReadErr.TheVariants as read_err

-- why the whole is not read, where this is why the part with a number is not
abbrev pub failure_at : ℕ → ReadErr → FlowErr
failure_at op (read_err.Bad reason) = Bad op reason
failure_at op read_err.NoMemory = NoMemory

-- the first reason and the operator at fault; or nothing, where memory ran out
abbrev pub RefusesAt : {A : Type 0} → FlowErr → Result A Fault → Type 0
RefusesAt (Bad op reason) meant = meant ≡ Err (fault_at op reason)
RefusesAt NoMemory meant = ⊤

-- the value that was meant; `Json` of the whole where none was; or nothing, where memory ran out
abbrev pub AnswersTree : Result Value FlowErr → Option Data → Type 0
AnswersTree (Ok tree) meant = meant ≡ Some (view tree)
AnswersTree (Err (Bad op reason)) meant = (op ≡ 0) × (reason ≡ why.Json) × (meant ≡ None)
AnswersTree (Err NoMemory) meant = ⊤

-- the workflow that was meant; its first reason and the operator at fault; or nothing, where memory ran out
abbrev pub AnswersFlow : Result (List Operator) FlowErr → Result (List Operator) Fault → Type 0
AnswersFlow (Ok flow) meant = meant ≡ Ok flow
AnswersFlow (Err (Bad op reason)) meant = meant ≡ Err (fault_at op reason)
AnswersFlow (Err NoMemory) meant = ⊤
