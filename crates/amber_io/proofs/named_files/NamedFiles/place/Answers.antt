-- Each step of the look-up passes one more name.
use Rattle.std.proofs.Common.{◌∙◌, ap, nat_eq}
use Rattle.std.specs.Cmp.Lexicographic.{pointwise}
use Rattle.amber_io.proofs.Lookup.{lacks-next, place-at}
use Rattle.amber_io.proofs.named_files.NamedFiles.place.Goals as goal

pub returns-then-eq : goal.returns-then-eq
returns-then-eq c =
    place-at c.args.name.now c.args.self.now c.self.inside.inner.items c.deref-file-items.result.now c.loop-place.place c.file-item.result c.eq.result
    c.self.view_is c.deref-file-items.ensures.value c.loop-place-test.true c.file-item.is
    (c.eq.ensures ∙ ap (pointwise nat_eq c.args.name.now) c.as_str.ensures.value) c.if-eq.true c.loop-place.invariant

pub loop-place-preserved : goal.loop-place-preserved
loop-place-preserved c =
    lacks-next c.args.name.now c.deref-file-items.result.now c.loop-place.place c.file-item.result c.eq.result c.loop-place-test.true c.file-item.is
    (c.eq.ensures ∙ ap (pointwise nat_eq c.args.name.now) c.as_str.ensures.value) c.if-eq.false c.loop-place.invariant
