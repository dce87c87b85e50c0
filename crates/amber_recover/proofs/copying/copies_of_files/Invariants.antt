-- The files copied so far are the first ones.
use Rattle.std.proofs.Common.{◌≡◌, take}
use Rattle.amber_recover.proofs.copying.copies_of_files.Given as goal

abbrev pub invariant-loop-file : goal.invariant-loop-file
invariant-loop-file l = l.copies.items ≡ take l.file-index l.files
