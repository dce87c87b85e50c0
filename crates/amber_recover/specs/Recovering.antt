-- What becomes of a log that is done again.
use Rattle.std.specs.Prelude.{◌≡◌, ℕ, ⊤, List, Option, None, Some, Result, Ok, Err}
use Rattle.std.specs.List.{flat_map}
use Rattle.amber_lines.specs.Lines.{Between, bad_line_from, illegal_line}
use Rattle.amber_log.specs.LogText.{item_lines}
use Rattle.amber_log.specs.declared.log.Item.{Item}
use Rattle.amber_log.specs.declared.log.Log.{Log}
use Rattle.amber_meaning.specs.Legal.{Query, query_over}
use Rattle.amber_meaning.specs.Plain.{wrong_header}
use Rattle.amber_meaning.specs.State.{start_of}
use Rattle.amber_rows.specs.declared.flow.Operator.{Operator}
use Rattle.amber_recover.specs.declared.error.RebuildErr.{RebuildErr}
use Rattle.amber_recover.specs.declared.error.RebuildErr.TheVariants as rebuild_err

-- a log, and the run that is to have written it: its workflow, the files of its scans, and the most steps
pub record Recorded : Type 0 where
  pub flow : List Operator
  pub files : List (List ℕ)
  pub most : ℕ
  pub log : Log

abbrev pub recorded_query : Recorded → Query
recorded_query r = query_over r.flow r.files r.log.batch r.most

-- the first scan whose file does not begin with the names of its columns
abbrev pub header_in : Recorded → Option ℕ
header_in r = wrong_header 1 r.files r.flow

-- a log is recovered only where each scan's file begins with the names of its columns, and no line is illegal; else the first
-- scan whose file does not, or where there is none the illegal line, is named
abbrev pub Recovers : {A : Type 0} → Result A RebuildErr → Recorded → Type 0
Recovers (Ok made) r = (header_in r ≡ None) × (illegal_line (recorded_query r) r.log ≡ None)
Recovers (Err (rebuild_err.Header op)) r = header_in r ≡ Some op
Recovers (Err (rebuild_err.Illegal line)) r = (header_in r ≡ None) × (illegal_line (recorded_query r) r.log ≡ Some line)
Recovers (Err rebuild_err.NoMemory) r = ⊤

-- the same of a run that begins: it does so only where each file begins with the names of its columns
abbrev pub StartsOrNames : {A : Type 0} → Result A RebuildErr → List Operator → List (List ℕ) → Type 0
StartsOrNames (Ok made) flow files = wrong_header 1 files flow ≡ None
StartsOrNames (Err (rebuild_err.Header op)) flow files = wrong_header 1 files flow ≡ Some op
StartsOrNames (Err (rebuild_err.Illegal line)) flow files = ⊥
StartsOrNames (Err rebuild_err.NoMemory) flow files = ⊤

-- of the lines of these items, which stand behind the head of a log, the first that cannot stand there
abbrev pub bad_behind_head : Query → List Item → Option ℕ
bad_behind_head query items = bad_line_from query (Between (start_of query.flow)) 2 (flat_map item_lines items)

-- the lines behind the head were done only where none of them is bad, and else the first that is one is named
abbrev pub JudgesLines : {A : Type 0} → Result A RebuildErr → Option ℕ → Type 0
JudgesLines (Ok made) bad = bad ≡ None
JudgesLines (Err (rebuild_err.Header op)) bad = ⊥
JudgesLines (Err (rebuild_err.Illegal line)) bad = bad ≡ Some line
JudgesLines (Err rebuild_err.NoMemory) bad = ⊤
