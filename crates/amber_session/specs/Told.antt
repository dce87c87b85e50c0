-- How the caller of a session is told of a failure.
use Rattle.std.specs.Prelude.{◌≡◌, ◌⊎◌, [], Result, Ok, Err, string_bytes}
use Rattle.amber_course.specs.Failure.{error_line_of, status_of}
use Rattle.amber_course.specs.declared.failure.Failure.{Failure}
use Rattle.amber_course.specs.declared.failure.Failure.TheVariants as failure
use Rattle.amber_course.specs.declared.status.Status.{Status}
use Rattle.amber_course.specs.declared.status.Status.TheVariants as status
use Rattle.amber_session.specs.declared.start_err.StartErr.{StartErr}

-- memory ran out, and there is no line
abbrev pub IsOutOfMemory : StartErr → Type 0
IsOutOfMemory told = (told.status ≡ status.NoMemory) × (string_bytes told.line ≡ [])

-- a cause is told by its status and its error line, unless there is no memory for the line
abbrev pub IsToldBy : Failure → StartErr → Type 0
IsToldBy failure.NoMemory told = IsOutOfMemory told
IsToldBy cause told = ((told.status ≡ status_of cause) × (string_bytes told.line ≡ error_line_of cause)) ⊎ IsOutOfMemory told

-- what came of a call, told by its status
abbrev pub told_as : Result (Unit {0}) Failure → Result (Unit {0}) Status
told_as (Ok x) = Ok x
told_as (Err cause) = Err (status_of cause)
