-- What is written into the log, and what is counted.
use Rattle.std.specs.Prelude.{◌≡◌, ◌≤◌, ◌⊎◌, List, ℕ, [], Result, Ok, Err}
use Rattle.amber_io.specs.Counts.{Rose}
use Rattle.amber_io.specs.Folder.{Piece, Starts, with_file, with_more, without_file}
use Rattle.amber_io.specs.World.{World}
use Rattle.amber_course.specs.declared.failure.Failure.{Failure}
use Rattle.amber_course.specs.declared.failure.Failure.TheVariants as failure

-- an empty file was made
abbrev pub Made : {A : Type 0} → Result A Failure → List ℕ → World → World → Type 0
Made (Ok x) name before after = after.files ≡ with_file before.files name []
Made (Err failure.LogFault) name before after =
    (after.files ≡ before.files) ⊎ (after.files ≡ without_file before.files name) ⊎ (after.files ≡ with_file before.files name [])
Made (Err failure.NoMemory) name before after = after.files ≡ before.files
Made (Err other) name before after = ⊥

-- a piece was written at the end of its file
abbrev pub Wrote : {A : Type 0} → Result A Failure → Piece → World → World → Type 0
Wrote (Ok x) piece before after = after.files ≡ with_more before.files piece.name piece.bytes
Wrote (Err failure.LogFault) piece before after = Starts before.files after.files piece.name piece.bytes
Wrote (Err failure.NoMemory) piece before after = after.files ≡ before.files
Wrote (Err other) piece before after = ⊥

-- nothing has failed
abbrev pub NoneFailed : World → World → Type 0
NoneFailed before after = (after.loads ≡ before.loads) × (after.writes ≡ before.writes) × (after.puts ≡ before.puts)

-- nothing but what this failure tells has failed
abbrev pub FailedAs : Failure → World → World → Type 0
FailedAs failure.LogFault before after =
    (after.loads ≡ before.loads) × ((before.writes ≤ after.writes) × Rose before.writes after.writes) × (after.puts ≡ before.puts)
FailedAs failure.OutFault before after =
    (after.loads ≡ before.loads) × (after.writes ≡ before.writes) × ((before.puts ≤ after.puts) × Rose before.puts after.puts)
FailedAs other before after = NoneFailed before after

-- a write has failed where the log could not be written, and a put where the sink failed, and nothing else
abbrev pub Counted : {A : Type 0} → Result A Failure → World → World → Type 0
Counted (Ok x) before after = NoneFailed before after
Counted (Err s) before after = FailedAs s before after
