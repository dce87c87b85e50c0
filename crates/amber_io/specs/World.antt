-- What there is outside a call: the files of a folder, what a sink has got, and how often either has failed.
use Rattle.std.specs.Prelude.{◌≡◌, ℕ, List, Option}
use Rattle.std.specs.Borrow.{GName}
use Rattle.amber_io.specs.Folder.{Named}

-- the files, what the sink has got, and how many loads, writes and puts have failed
pub record World : Type 0 where
  pub files : Option Named
  pub got : Option (List ℕ)
  pub loads : ℕ
  pub writes : ℕ
  pub puts : ℕ

-- which folder and which sink these are
pub record Held : Type 0 where
  pub folder : GName
  pub out : GName

-- nothing but the count of failed loads may differ
abbrev pub LoadsOnly : World → World → Type 0
LoadsOnly before after = after ≡ record before { loads = after.loads }

-- nothing but the files and the count of failed writes may differ
abbrev pub WritesOnly : World → World → Type 0
WritesOnly before after = after ≡ record before { files = after.files; writes = after.writes }

-- nothing but what the sink has got and the count of failed puts may differ
abbrev pub PutsOnly : World → World → Type 0
PutsOnly before after = after ≡ record before { got = after.got; puts = after.puts }
