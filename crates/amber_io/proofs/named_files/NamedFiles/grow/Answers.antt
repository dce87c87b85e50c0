-- The file at the place of a name is longer, and the others are the same.
use Rattle.std.proofs.Common.{rules}
use Rattle.amber_io.proofs.Lookup.{held-kept, files_of-grown, files_of-kept}
use Rattle.amber_io.proofs.named_files.NamedFiles.grow.Goals as goal

pub returns-in_err-extend_from_slice-in-Some-clause-err : goal.returns-in_err-extend_from_slice-in-Some-clause-err
returns-in_err-extend_from_slice-in-Some-clause-err c =
    let same = held-kept _ c.self.inside.inner.items c.in-Some.place c.index_mut.result.now c.extend_from_slice.new.self
    c.self.view_is c.index_mut.ensures.value c.in_err-extend_from_slice-in-Some.ensures.items in
    search (rules, same)

pub returns-in_ok-extend_from_slice-in-Some-clause-ok : goal.returns-in_ok-extend_from_slice-in-Some-clause-ok
returns-in_ok-extend_from_slice-in-Some-clause-ok c =
    files_of-grown _ _ _ c.self.inside.inner.items c.in-Some.place c.index_mut.result.now c.extend_from_slice.new.self
    c.self.view_is c.in-Some.ensures c.index_mut.ensures.value c.in_ok-extend_from_slice-in-Some.ensures.items

pub returns-in-None-clause-ok : goal.returns-in-None-clause-ok
returns-in-None-clause-ok c = files_of-kept _ _ _ c.in-None.ensures
