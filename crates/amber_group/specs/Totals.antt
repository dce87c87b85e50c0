-- Where what is kept for each aggregate lies.
use Rattle.std.specs.Prelude.{ℕ, List, [], Option, Some, None, take, nat_le, if◌then◌else◌, slice_get}
use Rattle.amber_rows.specs.declared.agg.Agg.{Agg}
use Rattle.amber_group.specs.Running.{running_of}
use Rattle.amber_group.specs.declared.running.Running.{Running}
use Rattle.amber_group.specs.declared.running.Running.TheVariants.{Count}

-- up to four lie in one place, and more in another
abbrev pub totals_in : ℕ → List Running → List Running → List Running
totals_in count few many = if nat_le count 4 then take count few else many

-- what is kept of no row for an aggregate, and something where there is none
abbrev pub blank_for : Option Agg → Running
blank_for None = Count 0
blank_for (Some agg) = running_of [] agg

abbrev pub blank_at : List Agg → ℕ → Running
blank_at aggs place = blank_for (slice_get aggs place)
