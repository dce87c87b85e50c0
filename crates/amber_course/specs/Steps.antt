-- What the steps of a call answer, where the course says what each is to answer.
use Rattle.std.specs.Prelude.{◌≡◌, ℕ, ◌<◌, ◌≤◌, ◌⊎◌, List, length, Option, None, Some, Result, Ok, Err, IsSome, ⊤}
use Rattle.std.specs.Io.KnownBytes.{Appends, Keeps}
use Rattle.amber_io.specs.Counts.{Rose}
use Rattle.amber_io.specs.Folder.{Named, Told}
use Rattle.amber_io.specs.Sink.{Begins}
use Rattle.amber_io.specs.World.{World}
use Rattle.amber_io.specs.declared.error.IoErr.{IoErr}
use Rattle.amber_io.specs.declared.error.IoErr.TheVariants as io_err
use Rattle.amber_course.specs.declared.failure.Failure.{Failure}
use Rattle.amber_course.specs.declared.failure.Failure.TheVariants as failure

-- the files are told, and the fact holds of them
abbrev pub Tells : Option Named → (Named → Type 0) → Type 0
Tells None P = ⊥
Tells (Some files) P = P files

-- a failure after the words and before the output: over told files `meant` says that it is to come. A file could not be read only
-- where that is meant over files that are told, or the count rose
abbrev pub Stopped : Failure → (Named → Type 0) → World → World → Type 0
Stopped failure.Usage meant before after = ⊥
Stopped failure.LogFault meant before after = ⊥
Stopped failure.OutFault meant before after = ⊥
Stopped (failure.ReadFault name) meant before after = ((after.loads ≡ before.loads) × Tells before.files meant) ⊎ Rose before.loads after.loads
Stopped failure.NoMemory meant before after = ⊤
Stopped other meant before after = (after.loads ≡ before.loads) × Told before.files meant

-- a step that reads answers as `meant` says over told files, and where it does not stop, all is as before
abbrev pub Follows : {A : Type 0} → Result A Failure → (Named → Result A Failure) → World → World → Type 0
Follows (Ok x) meant before after = (after ≡ before) × Told before.files (λ files. meant files ≡ Ok x)
Follows (Err s) meant before after = Stopped s (λ files. meant files ≡ Err s) before after

-- a step that reads nothing answers what is meant, unless memory runs out
abbrev pub Judges : {A : Type 0} → Result A Failure → Result A Failure → Type 0
Judges (Ok x) meant = meant ≡ Ok x
Judges (Err failure.Usage) meant = ⊥
Judges (Err (failure.ReadFault name)) meant = ⊥
Judges (Err failure.LogFault) meant = ⊥
Judges (Err failure.OutFault) meant = ⊥
Judges (Err failure.NoMemory) meant = ⊤
Judges (Err other) meant = meant ≡ Err other

-- the words were read: they ask for this, or they are refused
abbrev pub AreRead : {A : Type 0} → Result A Failure → Option A → Type 0
AreRead (Ok words) meant = meant ≡ Some words
AreRead (Err failure.Usage) meant = meant ≡ None
AreRead (Err failure.NoMemory) meant = IsSome meant
AreRead (Err other) meant = ⊥

-- the output was put: the whole of it, or a front part where the count of failed puts rose
abbrev pub Sent : {A : Type 0} → Result A Failure → List ℕ → World → World → Type 0
Sent (Ok x) text before after = (after.puts ≡ before.puts) × Appends before.got after.got text
Sent (Err failure.OutFault) text before after = (before.puts ≤ after.puts) × Rose before.puts after.puts × Begins before.got after.got text
Sent (Err failure.NoMemory) text before after = (after.puts ≡ before.puts) × Keeps before.got after.got
Sent (Err other) text before after = ⊥

-- a line was put piece by piece: the whole of it, or a front part where a put was refused
abbrev pub Lined : {A : Type 0} → Result A IoErr → List ℕ → World → World → Type 0
Lined (Ok x) line before after = (after.puts ≡ before.puts) × Appends before.got after.got line
Lined (Err io_err.NoMemory) line before after = (after.puts ≡ before.puts) × Begins before.got after.got line
Lined (Err io_err.Failed) line before after = (before.puts ≤ after.puts) × Rose before.puts after.puts × Begins before.got after.got line

-- where a failure tells that a file could not be read, its name is one of these
abbrev pub Names : Failure → (List ℕ → Type 0) → Type 0
Names (failure.ReadFault name) IsName = IsName name
Names other IsName = ⊤

-- a file of this name could not be read, or there was no memory for the name
abbrev pub IsMissing : Failure → List ℕ → Type 0
IsMissing (failure.ReadFault name) file = name ≡ file
IsMissing failure.NoMemory file = ⊤
IsMissing other file = ⊥

-- a file of this name is too large, or there was no memory for the name
abbrev pub IsOversized : Failure → List ℕ → Type 0
IsOversized (failure.TooLarge name) file = name ≡ file
IsOversized failure.NoMemory file = ⊤
IsOversized other file = ⊥

-- a file's first bytes are no more than may be, or there are more
abbrev pub IsBounded : Result (List ℕ) Failure → List ℕ → ℕ → List ℕ → Type 0
IsBounded (Ok whole) file most bytes = (whole ≡ bytes) × (length bytes ≤ most)
IsBounded (Err s) file most bytes = IsOversized s file × (most < length bytes)
