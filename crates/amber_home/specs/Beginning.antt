-- Whether a run can begin.
use Rattle.std.specs.Prelude.{◌≡◌, ℕ, ⊤, List, None, Some, Result, Ok, Err}
use Rattle.amber_rows.specs.declared.flow.Operator.{Operator}
use Rattle.amber_meaning.specs.Plain.{wrong_header}
use Rattle.amber_home.specs.declared.error.HomeErr.{HomeErr}
use Rattle.amber_home.specs.declared.error.HomeErr.TheVariants as home_err

-- the first scan is named whose file does not begin with the names of its columns
abbrev pub NamesScan : HomeErr → List Operator → List (List ℕ) → Type 0
NamesScan (home_err.Header op) flow files = wrong_header 1 files flow ≡ Some op
NamesScan home_err.NoMemory flow files = ⊤

-- a run begins only where each scan's file begins with the names of its columns; else the first that does not is named
abbrev pub BeginsOrNames : {A : Type 0} → Result A HomeErr → List Operator → List (List ℕ) → Type 0
BeginsOrNames (Ok made) flow files = wrong_header 1 files flow ≡ None
BeginsOrNames (Err error) flow files = NamesScan error flow files
