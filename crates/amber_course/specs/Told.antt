-- How a refusal is told.
use Rattle.std.specs.Prelude.{◌≡◌, ℕ, ◌≤◌, ◌⊎◌, List}
use Rattle.std.specs.Io.KnownBytes.{Appends}
use Rattle.amber_io.specs.Counts.{Rose}
use Rattle.amber_io.specs.Sink.{Begins}
use Rattle.amber_io.specs.World.{World}
use Rattle.amber_course.specs.Failure.{error_line_of, status_of}
use Rattle.amber_course.specs.declared.status.Status.{Status}
use Rattle.amber_course.specs.declared.status.Status.TheVariants as status
use Rattle.amber_course.specs.declared.failure.Failure.{Failure}

-- a line was put and a status answered; or a front part of it where memory ran out or a put was refused
abbrev pub Reports : Status → List ℕ → Status → World → World → Type 0
Reports result line meant before after = (before.puts ≤ after.puts) × Begins before.got after.got line
    × (((after.puts ≡ before.puts) × Appends before.got after.got line × (result ≡ meant)) ⊎ ((after.puts ≡ before.puts) × (result ≡ status.NoMemory))
    ⊎ (Rose before.puts after.puts × (result ≡ meant)))

-- a refusal was told by its line and its status
abbrev pub Refuses : Status → Failure → World → World → Type 0
Refuses result s before after = Reports result (error_line_of s) (status_of s) before after
