-- None of the files that were passed has the name.
use Rattle.std.proofs.Common.{map, take}
use Rattle.amber_io.specs.Memory.{entry_bytes, lacks_name}
use Rattle.amber_io.proofs.named_files.NamedFiles.place.Given as goal

abbrev pub invariant-loop-place : goal.invariant-loop-place
invariant-loop-place l = lacks_name l.name (map entry_bytes (take l.place l.file-items))
