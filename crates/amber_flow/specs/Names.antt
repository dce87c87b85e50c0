-- The words of a workflow.
use Rattle.std.specs.Prelude.{ℕ, List, Option, Some, None, Bool, true, false, if◌then◌else◌, bytes_eq, codes}
use Rattle.amber_rows.specs.declared.column.ColKind.{ColKind}
use Rattle.amber_rows.specs.declared.column.ColKind.TheVariants as column
use Rattle.amber_rows.specs.declared.cond.Cmp.{Cmp}
use Rattle.amber_rows.specs.declared.cond.Cmp.TheVariants as sign
use Rattle.amber_flow.specs.declared.names.Kind.{Kind}
use Rattle.amber_flow.specs.declared.names.Kind.TheVariants.{Scan, Filter, Project, Join, Group, Sink}

-- the six kinds of operator
abbrev pub kind_named : List ℕ → Option Kind
kind_named name =
    if bytes_eq name (codes "scan") then Some Scan
    else (if bytes_eq name (codes "filter") then Some Filter
    else (if bytes_eq name (codes "project") then Some Project
    else (if bytes_eq name (codes "join") then Some Join
    else (if bytes_eq name (codes "group") then Some Group
    else (if bytes_eq name (codes "sink") then Some Sink
    else None)))))

abbrev pub is_sink_kind : Kind → Bool
is_sink_kind Scan = false
is_sink_kind Filter = false
is_sink_kind Project = false
is_sink_kind Join = false
is_sink_kind Group = false
is_sink_kind Sink = true

-- the kinds of column
abbrev pub column_kind_named : List ℕ → Option ColKind
column_kind_named name =
    if bytes_eq name (codes "int") then Some column.Int
    else (if bytes_eq name (codes "text") then Some column.Text
    else None)

-- the six signs
abbrev pub sign_named : List ℕ → Option Cmp
sign_named name =
    if bytes_eq name (codes "=") then Some sign.Eq
    else (if bytes_eq name (codes "!=") then Some sign.Ne
    else (if bytes_eq name (codes "<") then Some sign.Lt
    else (if bytes_eq name (codes "<=") then Some sign.Le
    else (if bytes_eq name (codes ">") then Some sign.Gt
    else (if bytes_eq name (codes ">=") then Some sign.Ge
    else None)))))
