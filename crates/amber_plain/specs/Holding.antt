-- What stands after the last stage, and how many rows may come.
use Rattle.std.specs.Prelude.{◌≡◌, ℕ, ◌+◌, ◌<◌, ⊤, List, ◌++◌, Option, Some, None, Result, Ok, Err}
use Rattle.amber_rows.specs.declared.value.Value.{Value}
use Rattle.amber_rows.specs.declared.agg.Agg.{Agg}
use Rattle.amber_group.specs.Group.{IsFedWith}
use Rattle.amber_plain.specs.declared.limit.LimitErr.{LimitErr}
use Rattle.amber_plain.specs.declared.limit.LimitErr.TheVariants as limit_err
use Rattle.amber_plain.specs.Stages.{rows_through}
use Rattle.amber_plain.specs.declared.chain.Chain.{Chain}
use Rattle.amber_plain.specs.declared.holder.Holder.{Holder}
use Rattle.amber_plain.specs.declared.holder.Holder.TheVariants as holder

-- it has these rows: as a list, or as a group by such keys with such aggregates
abbrev pub Holds : Holder → Option (List ℕ × List Agg) → List (List Value) → Type 0
Holds (holder.Rows kept) None rows = kept.items ≡ rows
Holds (holder.Rows kept) (Some by) rows = ⊥
Holds (holder.Group state) None rows = ⊥
Holds (holder.Group state) (Some by) rows = (state.keys ≡ by.0) × (state.aggs ≡ by.1) × IsFedWith state rows

-- these rows were appended to those that it had
abbrev pub Takes : Holder → Holder → List (List Value) → Type 0
Takes old new rows = (by : Option (List ℕ × List Agg)) (before : List (List Value)) → Holds old by before → Holds new by (before ++ rows)

-- why no more rows came: there were more than might come, or memory ran out
abbrev pub FallsShort : LimitErr → ℕ → ℕ → Type 0
FallsShort limit_err.Long left count = left < count
FallsShort limit_err.NoMemory left count = ⊤

-- so many rows came, of as many as might
abbrev pub Spends : {A : Type 0} → Result A LimitErr → ℕ → ℕ → ℕ → Type 0
Spends (Ok x) old new count = old ≡ new + count
Spends (Err why) old new count = FallsShort why old count

-- these rows went into a chain
pub record Fills (old new : Chain) (rows : List (List Value)) : Type 0 where
  pub stages : new.stages.items ≡ old.stages.items
  pub taken : Takes old.holder new.holder (rows_through old.stages.items rows)
