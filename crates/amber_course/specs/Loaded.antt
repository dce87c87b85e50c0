-- What is loaded for a job.
use Rattle.std.specs.Prelude.{◌≡◌, ℕ, List, None, length}
use Rattle.amber_rows.specs.FlowRules.{IsFlow}
use Rattle.amber_rows.specs.declared.flow.Operator.{Operator}
use Rattle.amber_meaning.specs.Plain.{scan_count, wrong_header}

-- a workflow, and the files of its scans
pub record Loaded : Type 0 where
  pub flow : List Operator
  pub files : List (List ℕ)

-- there is a file for each scan, and each begins with the names of its columns
pub record AreInputs (inputs : Loaded) : Type 0 where
  pub flow : IsFlow inputs.flow
  pub count : length inputs.files ≡ scan_count inputs.flow
  pub headed : wrong_header 1 inputs.files inputs.flow ≡ None
