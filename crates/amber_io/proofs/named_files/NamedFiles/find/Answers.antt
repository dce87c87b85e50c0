-- The place of a name holds its file.
use Rattle.std.proofs.Common.{ap, sym, ◌∙◌, Some}
use Rattle.amber_io.proofs.Lookup.{found-held, get-lacking}
use Rattle.amber_io.proofs.named_files.NamedFiles.find.Goals as goal

pub returns-in-Some : goal.returns-in-Some
returns-in-Some c = ap (λ bytes. Some bytes) c.as_slice.ensures.value ∙ found-held _ _ c.self.inside.inner.items c.in-Some.place c.index.result.now c.self.view_is c.in-Some.ensures c.index.ensures

pub returns-in-None : goal.returns-in-None
returns-in-None c = sym (get-lacking _ _ c.in-None.ensures)
