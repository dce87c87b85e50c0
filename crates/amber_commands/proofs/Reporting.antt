-- A line that was put whole reports its status.
use Rattle.std.proofs.Common.{◌≡◌, inl, List, [], ℕ, refl, arith}
use Rattle.std.proofs.lemmas.List.{append-nil}
use Rattle.std.specs.Io.KnownBytes.{Appends}
use Rattle.amber_io.specs.World.{World}
use Rattle.amber_course.specs.Told.{Reports}
use Rattle.amber_course.specs.declared.status.Status.{Status}

pub reports-whole : (line : List ℕ) (meant : Status) (before after : World) → after.puts ≡ before.puts → Appends before.got after.got line → Reports meant line meant before after
reports-whole line meant before after same put = (omega (arith, same), (line, [], append-nil line, put), inl (same, put, refl))
