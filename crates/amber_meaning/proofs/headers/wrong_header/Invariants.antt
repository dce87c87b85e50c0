-- The first wrong header is that of the operators which are left.
use Rattle.std.proofs.Common.{◌≡◌, ◌+◌, drop, take}
use Rattle.amber_meaning.specs.Plain.{wrong_header}
use Rattle.amber_meaning.specs.ScanFiles.{files_left}
use Rattle.amber_meaning.proofs.headers.wrong_header.Given as goal

abbrev pub invariant-loop-i : goal.invariant-loop-i
invariant-loop-i l = wrong_header 1 l.files l.flow ≡ wrong_header (l.i + 1) (files_left l.files (take l.i l.flow)) (drop l.i l.flow)
