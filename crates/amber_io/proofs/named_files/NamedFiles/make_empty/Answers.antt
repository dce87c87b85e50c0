-- The file at the place of a name is empty, or an empty one follows the others.
use Rattle.amber_io.proofs.Lookup.{files_of-appended, files_of-emptied}
use Rattle.amber_io.proofs.named_files.NamedFiles.make_empty.Goals as goal

pub returns-in-Some-clause-ok : goal.returns-in-Some-clause-ok
returns-in-Some-clause-ok c =
    files_of-emptied _ _ c.self.inside.inner.items c.in-Some.place c.index_mut.result.now c.clear.new.self
    c.self.view_is c.in-Some.ensures c.index_mut.ensures.value c.clear.ensures.items

pub returns-in_ok-push-in-None-clause-ok : goal.returns-in_ok-push-in-None-clause-ok
returns-in_ok-push-in-None-clause-ok c =
    files_of-appended _ _ c.self.inside.inner.items c.push.new.self.items c.in_ok-name-in-None.name c.new.result
    c.self.view_is c.in-None.ensures c.in_ok-name-in-None.ensures.ok c.new.ensures.items c.in_ok-push-in-None.ensures.items
