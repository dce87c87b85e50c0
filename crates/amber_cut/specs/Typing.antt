-- A line that is typed field by field.
use Rattle.std.specs.Prelude.{ℕ, List, [], Bool, if◌then◌else◌}
use Rattle.amber_cut.specs.Lines.{cut}

-- the fields of what is left of a line, if a comma stood before it
abbrev pub fields_if : Bool → List ℕ → List (List ℕ)
fields_if more rest = if more then cut rest else []
