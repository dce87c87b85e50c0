-- What a call answers, and what it leaves.
use Rattle.std.specs.Prelude.{◌≡◌, ◌≢◌, ℕ, ◌≤◌, ◌⊎◌, List, [], ◌∷◌, None, Result, Ok, Err, IsSome, ⊤}
use Rattle.std.specs.Io.KnownBytes.{Appends, Keeps}
use Rattle.amber_io.specs.Counts.{Rose}
use Rattle.amber_io.specs.Folder.{Named, Told}
use Rattle.amber_io.specs.Sink.{Begins}
use Rattle.amber_io.specs.World.{LoadsOnly, PutsOnly, World}
use Rattle.amber_course.specs.Steps.{Names, Stopped}
use Rattle.amber_course.specs.Told.{Reports}
use Rattle.amber_course.specs.declared.failure.Failure.TheVariants as failure
use Rattle.amber_course.specs.declared.status.Status.{Status}
use Rattle.amber_course.specs.declared.status.Status.TheVariants as status
use Rattle.amber_commands.specs.Course.{asked, script_course}
use Rattle.amber_commands.specs.Refusal.{TellsRefusal, refusal_line, refusal_status}
use Rattle.amber_commands.specs.declared.refusal.Refusal.{Refusal}
use Rattle.amber_commands.specs.declared.refusal.Refusal.TheVariants as refusal

-- ---- steps

-- a step that reads answers as `meant` says over told files, and where it does not stop, all is as before
abbrev pub LeadsToScript : {A : Type 0} → Result A Refusal → (Named → Result A Refusal) → World → World → Type 0
LeadsToScript (Ok x) meant before after = (after ≡ before) × Told before.files (λ files. meant files ≡ Ok x)
LeadsToScript (Err (refusal.Call failure)) meant before after = Stopped failure (λ files. meant files ≡ Err (refusal.Call failure)) before after
LeadsToScript (Err (refusal.Log line why)) meant before after =
    (after ≡ before) × Told before.files (λ files. meant files ≡ Err (refusal.Log line why))

-- a step that reads nothing answers what is meant, unless memory runs out
abbrev pub Decides : {A : Type 0} → Result A Refusal → Result A Refusal → Type 0
Decides (Ok x) meant = meant ≡ Ok x
Decides (Err (refusal.Call failure.NoMemory)) meant = ⊤
Decides (Err (refusal.Call failure)) meant = ⊥
Decides (Err (refusal.Log line why)) meant = meant ≡ Err (refusal.Log line why)

-- where a refusal tells that a file could not be read, its name is one of these
abbrev pub NamesFile : Refusal → (List ℕ → Type 0) → Type 0
NamesFile (refusal.Call failure) IsName = Names failure IsName
NamesFile (refusal.Log line why) IsName = ⊤

-- nothing but what the sink has got, and the counts of failed loads and puts, may differ
abbrev pub OutputOnly : World → World → Type 0
OutputOnly before after = after ≡ record before { got = after.got; loads = after.loads; puts = after.puts }

-- ---- a call before its error line

-- the words ask for a script, which was put whole
abbrev pub Prints : List (List ℕ) → World → World → Type 0
Prints words before after = (after.loads ≡ before.loads) × (after.puts ≡ before.puts)
    × Told before.files (λ files. (text : List ℕ) × (script_course words files ≡ Ok text) × Appends before.got after.got text)

-- the words ask for a script, and a front part of it was put, since a put failed
abbrev pub PrintsPart : List (List ℕ) → World → World → Type 0
PrintsPart words before after = (before.puts ≤ after.puts) × Rose before.puts after.puts
    × Told before.files (λ files. (text : List ℕ) × (script_course words files ≡ Ok text) × Begins before.got after.got text)

-- why a call stopped, and what it has left: nothing was put unless the sink failed
abbrev pub StopsCommands : Refusal → List (List ℕ) → World → World → Type 0
StopsCommands (refusal.Call failure.Usage) words before after = (after ≡ before) × (asked words ≡ None)
StopsCommands (refusal.Call failure.OutFault) words before after = (after.loads ≡ before.loads) × PrintsPart words before after
StopsCommands (refusal.Call failure.NoMemory) words before after = (after.puts ≡ before.puts) × Keeps before.got after.got
StopsCommands (refusal.Call other) words before after =
    LoadsOnly before after × Stopped other (λ files. script_course words files ≡ Err (refusal.Call other)) before after
StopsCommands (refusal.Log line why) words before after =
    (after ≡ before) × Told before.files (λ files. script_course words files ≡ Err (refusal.Log line why))

-- the words are refused where they ask for nothing, and only there
abbrev pub IsWorded : Refusal → List (List ℕ) → Type 0
IsWorded (refusal.Call failure.Usage) words = asked words ≡ None
IsWorded other words = IsSome (asked words)

abbrev pub Prepares : {A : Type 0} → Result A Refusal → List (List ℕ) → World → World → Type 0
Prepares (Ok x) words before after = IsSome (asked words) × Prints words before after
Prepares (Err refused) words before after = IsWorded refused words × StopsCommands refused words before after

-- ---- the whole of it

-- the name of one of the files that the words ask for
abbrev pub IsAsked : List (List ℕ) → List ℕ → Type 0
IsAsked (workflow ∷ log ∷ []) file = (file ≡ workflow) ⊎ (file ≡ log)
IsAsked others file = ⊥

-- why a call did not end with `Ok`: what was left before the line of the cause, and the line
pub record EndsCommands (words : List (List ℕ)) (result : Status) (before after : World) : Type 0 where
  pub cause : Refusal
  pub answer : TellsRefusal cause result
  pub named : NamesFile cause (IsAsked words)
  pub world : World
  pub left : StopsCommands cause words before world
  pub line : Reports result (refusal_line cause) (refusal_status cause) world after
  pub only : PutsOnly world after

-- the course decides the status, unless memory runs out, and but for loads and puts that failed, which raise their counts
abbrev pub IsStatusOf : Result (List ℕ) Refusal → Status → World → World → Type 0
IsStatusOf (Ok text) result before after =
    (result ≡ status.Ok) ⊎ (result ≡ status.NoMemory) ⊎ ((result ≡ status.ReadFault) × Rose before.loads after.loads)
    ⊎ ((result ≡ status.OutFault) × Rose before.puts after.puts)
IsStatusOf (Err refused) result before after =
    (result ≡ refusal_status refused) ⊎ (result ≡ status.NoMemory)
    ⊎ ((result ≡ status.ReadFault) × Rose before.loads after.loads)

-- what a call of these words answers, and what it leaves
pub record AnswersCommands (words : List (List ℕ)) (result : Status) (before after : World) : Type 0 where
  -- the script is put whole where the call ends with `Ok`, and else there is a cause, whose line is put
  pub ok : result ≡ status.Ok → Prints words before after
  pub ended : result ≢ status.Ok → EndsCommands words result before after
  -- which status it is, over files that are told, and `Usage` over any files
  pub course : Told before.files (λ files. IsStatusOf (script_course words files) result before after)
  pub usage : result ≡ status.Usage → asked words ≡ None
  pub bad_words : asked words ≡ None → (result ≡ status.Usage) ⊎ (result ≡ status.NoMemory)
  -- no file is changed, whatever the status is
  pub only : OutputOnly before after
