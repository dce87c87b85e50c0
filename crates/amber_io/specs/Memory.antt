-- What the folder and the sink in memory show, and which of their calls fail.
use Rattle.std.specs.Prelude.{◌≡◌, ◌==◌, ℕ, ◌⊎◌, List, [], ◌∷◌, ◌++◌, length, Bool, true, false, ⊤, Option, None, Result, Ok, Err, String, Vec, string_bytes, if◌then◌else◌}
use Rattle.std.specs.List.{list_any}
use Rattle.std.specs.Ordering.{nat_cmp}
use Rattle.std.specs.Cmp.Lexicographic.{slice_cmp}
use Rattle.std.specs.FinMap as finmap
use Rattle.std.specs.declared.alloc.Global.{Global}
use Rattle.amber_io.specs.Counts.{next_number}
use Rattle.amber_io.specs.Folder.{Named, with_file}
use Rattle.amber_io.specs.declared.error.IoErr.{IoErr}
use Rattle.amber_io.specs.declared.error.IoErr.TheVariants.{Failed, NoMemory}

-- the bytes of a file's name, and those of the file
abbrev pub entry_bytes : String Global × Vec ℕ Global → List ℕ × List ℕ
entry_bytes e = (string_bytes e.0, e.1.items)

-- the call of this number is one that fails
abbrev pub is_listed : List ℕ → ℕ → Bool
is_listed numbers number = list_any (λ n. n == number) numbers

-- whether a call is one that fails, and how many had failed before it and have failed now
pub record Planned : Type 0 where
  pub listed : Bool
  pub before : ℕ
  pub now : ℕ

-- a call succeeds only where it is not listed, and fails only where `free` holds or it is listed; then its count goes up by one, to `u64::MAX` at most
abbrev pub IsPlanned : {A : Type 0} → Result A IoErr → Type 0 → Planned → Type 0
IsPlanned (Ok x) free call = call.listed ≡ false
IsPlanned (Err NoMemory) free call = ⊤
IsPlanned (Err Failed) free call = free ⊎ ((call.listed ≡ true) × (call.now ≡ next_number call.before))

-- what there is now, where the call failed
abbrev pub FailsTo : {A X : Type 0} → Result A IoErr → X → X → Type 0
FailsTo (Ok x) now left = ⊤
FailsTo (Err NoMemory) now left = ⊤
FailsTo (Err Failed) now left = now ≡ left

-- a file that is empty, but where no byte is kept
abbrev pub left_empty : Option Named → List ℕ → ℕ → Option Named
left_empty told name keep = if keep == 0 then told else with_file told name []

-- no file of a list has this name
abbrev pub lacks_name : List ℕ → List (List ℕ × List ℕ) → Type 0
lacks_name name files = finmap.find (slice_cmp nat_cmp) name files ≡ None

-- the first file of this name in a list stands at this place
pub record IsPlace (name : List ℕ) (files : List (List ℕ × List ℕ)) (place : ℕ) : Type 0 where
  pub front : List (List ℕ × List ℕ)
  pub held : List ℕ
  pub behind : List (List ℕ × List ℕ)
  pub split : files ≡ front ++ (name, held) ∷ behind
  pub at : place ≡ length front
  pub first : lacks_name name front
