-- The names of the cases that were read.
use Rattle.std.specs.Prelude.{Bool, String, string_bytes}
use Rattle.std.specs.BTreeSet.{BTreeSet, contains}
use Rattle.std.specs.Ordering.{nat_cmp}
use Rattle.std.specs.Cmp.Lexicographic.{slice_cmp}
use Rattle.std.specs.declared.alloc.Global.{Global}

-- whether one of them is this name
abbrev pub has_name : BTreeSet (String Global) → String Global → Bool
has_name names name = contains (λ a b. slice_cmp nat_cmp (string_bytes a) (string_bytes b)) names name
