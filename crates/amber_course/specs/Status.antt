-- The numbers of the statuses.
use Rattle.std.specs.Prelude.{ℕ}
use Rattle.amber_course.specs.declared.status.Status.{Status}
use Rattle.amber_course.specs.declared.status.Status.TheVariants as status

abbrev pub code_of : Status → ℕ
code_of status.Ok = 0
code_of status.Usage = 1
code_of status.BadFlow = 2
code_of status.BadScript = 3
code_of status.ReadFault = 4
code_of status.LogFault = 5
code_of status.OutFault = 6
code_of status.BadLog = 7
code_of status.Long = 8
code_of status.TooLarge = 9
code_of status.NoMemory = 10
