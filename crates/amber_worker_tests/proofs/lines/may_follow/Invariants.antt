-- What may follow the last of the entries so far may follow them all.
use Rattle.std.proofs.Common.{◌++◌, List, false, take}
use Rattle.amber_log.specs.Grammar.{AreEntries}
use Rattle.amber_log.specs.declared.entry.Entry.{Entry}
use Rattle.amber_worker_tests.proofs.lines.may_follow.Given as goal

abbrev pub invariant-loop-i : goal.invariant-loop-i
invariant-loop-i l = (later : List Entry) → AreEntries l.gone later → AreEntries false (take l.i l.entries ++ later)
