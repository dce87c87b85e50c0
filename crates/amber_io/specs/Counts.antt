-- Counts of faults, and when a call may answer that it failed.
use Rattle.std.specs.Prelude.{◌≡◌, ℕ, ◌+◌, ◌-◌, ◌^◌, ◌≤◌, ◌⊎◌, min, Result, Ok, Err}
use Rattle.amber_io.specs.declared.error.IoErr.{IoErr}
use Rattle.amber_io.specs.declared.error.IoErr.TheVariants.{Failed, NoMemory}

-- one more, up to `u64::MAX`
abbrev pub next_number : ℕ → ℕ
next_number n = min (n + 1) (2 ^ 64 - 1)

-- a count is greater than it was, or stands at `u64::MAX`
abbrev pub Rose : ℕ → ℕ → Type 0
Rose old new = next_number old ≤ new

-- a call leaves its count alone unless it answers `Failed`, which comes only where `free` holds or the count rose; no count falls
abbrev pub HasCause : {A : Type 0} → Result A IoErr → Type 0 → ℕ → ℕ → Type 0
HasCause (Ok x) free old new = new ≡ old
HasCause (Err NoMemory) free old new = new ≡ old
HasCause (Err Failed) free old new = (old ≤ new) × (free ⊎ Rose old new)
