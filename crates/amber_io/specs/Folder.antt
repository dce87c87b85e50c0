-- The files of a folder, where they are known.
use Rattle.std.specs.Prelude.{◌≡◌, ℕ, List, [], ◌++◌, ◌⊎◌, take, Option, None, Some, IsSome, option_map, Result, Ok, Err, ⊤}
use Rattle.std.specs.Ordering.{nat_cmp}
use Rattle.std.specs.Cmp.Lexicographic.{slice_cmp}
use Rattle.std.specs.FinMap as finmap
use Rattle.amber_io.specs.declared.error.IoErr.{IoErr}
use Rattle.amber_io.specs.declared.error.IoErr.TheVariants.{Failed, NoMemory}

-- from the bytes of a name to those of its file
abbrev pub Named : Type 0
Named = finmap.FinMap (slice_cmp nat_cmp) (List ℕ)

-- the files of a list, of which the first of two with one name counts
abbrev pub files_of : List (List ℕ × List ℕ) → Named
files_of entries = finmap.from_entries entries

-- a fact about the files, where they are known
abbrev pub Told : Option Named → (Named → Type 0) → Type 0
Told None P = ⊤
Told (Some files) P = P files

-- the files are known, and there is none of this name
abbrev pub Lacks : Option Named → List ℕ → Type 0
Lacks None name = ⊥
Lacks (Some files) name = finmap.get files name ≡ None

-- where the files are known, there is one of this name
abbrev pub IsThere : Option Named → List ℕ → Type 0
IsThere None name = ⊤
IsThere (Some files) name = IsSome (finmap.get files name)

-- where the files are known, that of this name begins with these bytes, and they are its first `most`, or all where it has fewer
abbrev pub Gives : Option Named → List ℕ → ℕ → List ℕ → Type 0
Gives None name most bytes = ⊤
Gives (Some files) name most bytes = (whole : List ℕ) × (finmap.get files name ≡ Some whole) × (bytes ≡ take most whole)

-- ---- files that change

-- the file of this name holds these bytes, and all others stay
unfoldable pub with_file : Option Named → List ℕ → List ℕ → Option Named
with_file told name bytes = option_map (λ files. finmap.insert files name bytes) told

-- there is no file of this name, and all others stay
unfoldable pub without_file : Option Named → List ℕ → Option Named
without_file told name = option_map (λ files. finmap.remove files name) told

abbrev pub grown : Named → List ℕ → Option (List ℕ) → List ℕ → Named
grown files name None more = files
grown files name (Some bytes) more = finmap.insert files name (bytes ++ more)

-- more bytes at the end of the file of this name, where there is one, and all others stay
unfoldable pub with_more : Option Named → List ℕ → List ℕ → Option Named
with_more told name more = option_map (λ files. grown files name (finmap.get files name) more) told

-- the file of this name is there and empty; after a failure it may also be as it was, or absent
abbrev pub Creates : {A : Type 0} → Result A IoErr → Option Named → Option Named → List ℕ → Type 0
Creates (Ok x) old new name = new ≡ with_file old name []
Creates (Err NoMemory) old new name = new ≡ old
Creates (Err Failed) old new name = (new ≡ old) ⊎ (new ≡ without_file old name) ⊎ (new ≡ with_file old name [])

-- the file of this name grows by a front part of a piece
abbrev pub Starts : Option Named → Option Named → List ℕ → List ℕ → Type 0
Starts old new name piece = (part : List ℕ) × (rest : List ℕ) × (part ++ rest ≡ piece) × (new ≡ with_more old name part)

-- bytes for the file of this name
pub record Piece : Type 0 where
  pub name : List ℕ
  pub bytes : List ℕ

-- the piece follows the old end of its file, or nothing where memory ran out, or a front part at a failure
abbrev pub Extends : {A : Type 0} → Result A IoErr → Option Named → Option Named → Piece → Type 0
Extends (Ok x) old new piece = new ≡ with_more old piece.name piece.bytes
Extends (Err NoMemory) old new piece = new ≡ old
Extends (Err Failed) old new piece = Starts old new piece.name piece.bytes
