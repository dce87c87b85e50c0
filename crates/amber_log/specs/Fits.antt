-- Which commands a workflow takes.
use Rattle.std.specs.Prelude.{ℕ, ◌^◌, ◌&&◌, nat_lt, nat_le, not, List, Option, Some, None, Bool, true, false}
use Rattle.amber_rows.specs.Lists.{nth}
use Rattle.amber_rows.specs.Columns.{kind_of}
use Rattle.amber_rows.specs.Kinds.{is_sink, settable_cond}
use Rattle.amber_rows.specs.Suits.{same_kind}
use Rattle.amber_rows.specs.declared.value.Value.{Value}
use Rattle.amber_rows.specs.declared.column.Column.{Column}
use Rattle.amber_rows.specs.declared.cond.Cond.{Cond}
use Rattle.amber_rows.specs.declared.flow.What.{What}
use Rattle.amber_rows.specs.declared.flow.Operator.{Operator}
use Rattle.amber_log.specs.declared.command.Command.{Command}
use Rattle.amber_log.specs.Commands.{Action, AtRest, Leg, action_of}
use Rattle.amber_log.specs.Effect.{Argument, Condition, Constant, Nothing, Rows, Worker}

-- 1 to 2^40
abbrev pub is_target : ℕ → Bool
is_target n = nat_lt 0 n && nat_le n (2 ^ 40)

-- the operator is there, and not the sink
abbrev pub is_source : Option Operator → Bool
is_source None = false
is_source (Some operator) = not (is_sink operator.what)

abbrev pub is_there : Option Operator → Bool
is_there None = false
is_there (Some operator) = true

-- the operator is there and has a worker of this number
abbrev pub has_worker : Option Operator → ℕ → Bool
has_worker None worker = false
has_worker (Some operator) worker = nat_lt worker operator.workers

-- a value may stand in a column
abbrev pub is_cell_of : Option Column → Value → Bool
is_cell_of None value = false
is_cell_of (Some column) value = same_kind column.kind (kind_of value)

-- the operator is there and not the sink, and the condition speaks of one of its columns
abbrev pub takes_cond : Option Operator → Cond → Bool
takes_cond None cond = false
takes_cond (Some operator) cond = not (is_sink operator.what) && is_cell_of (nth operator.schema cond.column) cond.constant

-- the condition is there, and the value may stand in its column
abbrev pub is_constant_of : Option Cond → List Column → Value → Bool
is_constant_of None columns value = false
is_constant_of (Some cond) columns value = is_cell_of (nth columns cond.column) value

-- the operator has a constant that can be set, and the value may be it
abbrev pub may_be_set_to : What → List Column → Value → Bool
may_be_set_to kind columns value = is_constant_of (settable_cond kind) columns value

abbrev pub takes_constant : Option Operator → Value → Bool
takes_constant None value = false
takes_constant (Some operator) value = may_be_set_to operator.what operator.schema value

-- whether an operator takes what a command says beside it
abbrev pub fits_at : Option Operator → Argument → Bool
fits_at operator Nothing = is_there operator
fits_at operator (Rows n) = is_source operator && is_target n
fits_at operator (Worker worker) = has_worker operator worker
fits_at operator (Constant value) = takes_constant operator value
fits_at operator (Condition cond) = takes_cond operator cond

-- a leg always may be run
abbrev pub action_fits : List Operator → Action → Bool
action_fits flow (Leg to_end) = true
action_fits flow (AtRest effect) = fits_at (nth flow effect.op) effect.argument

-- whether a workflow takes a command
unfoldable pub fits_of : List Operator → Command → Bool
fits_of flow command = action_fits flow (action_of command)
