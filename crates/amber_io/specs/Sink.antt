-- What a call leaves of a piece that it was to write.
use Rattle.std.specs.Prelude.{◌≡◌, ℕ, List, ◌++◌, Option, Result, Ok, Err}
use Rattle.std.specs.Io.KnownBytes.{Appends, Keeps}
use Rattle.amber_io.specs.declared.error.IoErr.{IoErr}
use Rattle.amber_io.specs.declared.error.IoErr.TheVariants.{Failed, NoMemory}

-- known bytes grow by the front part of a piece
abbrev pub Begins : Option (List ℕ) → Option (List ℕ) → List ℕ → Type 0
Begins old new piece = (part : List ℕ) × (rest : List ℕ) × (part ++ rest ≡ piece) × Appends old new part

-- the whole piece was appended, or nothing where memory ran out, or a front part at a failure
abbrev pub LeavesPiece : {A : Type 0} → Result A IoErr → Option (List ℕ) → Option (List ℕ) → List ℕ → Type 0
LeavesPiece (Ok x) old new piece = Appends old new piece
LeavesPiece (Err NoMemory) old new piece = Keeps old new
LeavesPiece (Err Failed) old new piece = Begins old new piece
