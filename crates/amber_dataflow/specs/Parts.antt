-- What workers have done, as the parts of a leg.
use Rattle.std.specs.Prelude.{ℕ, ◌+◌, List, [], ◌∷◌, ◌++◌, false, if◌then◌else◌}
use Rattle.amber_log.specs.declared.entry.Entry.{Entry}
use Rattle.amber_log.specs.declared.leg.Part.{Part}
use Rattle.amber_link.specs.Links.{has_some}
use Rattle.amber_worker.specs.WorkerState.{WorkerState}

-- the part of a worker that did this; none where it did nothing
abbrev pub part_if_any : ℕ → List Entry → List Part
part_if_any worker entries = if has_some entries then record { worker = worker; entries = entries } ∷ [] else []

-- what the workers from this number on have done
unfoldable pub parts_from : ℕ → List WorkerState → List Part
parts_from number [] = []
parts_from number (w ∷ more) = part_if_any number w.journal ++ parts_from (number + 1) more

-- a worker whose journal was handed out
abbrev pub without_journal : WorkerState → WorkerState
without_journal w = record w { journal = []; reserved = false }
