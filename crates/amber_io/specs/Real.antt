-- What is counted by the folder, the sink and the source of the system.
use Rattle.std.specs.Prelude.{◌≡◌, ℕ, Result, Ok, Err}
use Rattle.amber_io.specs.Counts.{next_number}
use Rattle.amber_io.specs.declared.error.IoErr.{IoErr}
use Rattle.amber_io.specs.declared.error.IoErr.TheVariants.{Failed, NoMemory}
use Rattle.amber_io.specs.declared.real.RealFolder.{RealFolder}
use Rattle.amber_io.specs.declared.real.RealSink.{RealSink}
use Rattle.amber_io.specs.declared.real_source.RealSource.{RealSource}

-- how many loads failed
abbrev pub failed_loads : {R : Type 0} → RealFolder R → ℕ
failed_loads folder = folder.load_faults

-- how many writes failed
abbrev pub failed_writes : {R : Type 0} → RealFolder R → ℕ
failed_writes folder = folder.write_faults

-- how many puts failed
abbrev pub failed_puts : {R : Type 0} → RealSink R → ℕ
failed_puts sink = sink.faults

-- how many reads failed
abbrev pub failed_reads : {R : Type 0} → RealSource R → ℕ
failed_reads source = source.faults

-- each failure counts one more, to `u64::MAX` at most, and nothing else counts
abbrev pub IsCounted : {A : Type 0} → Result A IoErr → ℕ → ℕ → Type 0
IsCounted (Ok x) old new = new ≡ old
IsCounted (Err NoMemory) old new = new ≡ old
IsCounted (Err Failed) old new = new ≡ next_number old
