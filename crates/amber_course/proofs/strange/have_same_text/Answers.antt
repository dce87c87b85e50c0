-- The texts are those of the lines by which the commands' items begin.
use Rattle.std.proofs.Common.{◌≡◌, ◌∙◌}
use Rattle.std.specs.Prelude.{bytes_eq}
use Rattle.amber_course.proofs.Commanded.{same-text}
use Rattle.amber_course.proofs.strange.have_same_text.Goals as goal

pub returns : goal.returns
returns c =
    let same = same-text c.args.first.now c.args.second.now c.requires.first c.requires.second in
    let texts : c.eq.result ≡ bytes_eq c.in_ok-first.first.items c.in_ok-second.second.items = rw (← c.as_slice.ensures.value, ← c.as_slice-2.ensures.value) c.eq.ensures in
    texts ∙ (rw (c.in_ok-first.ensures, c.in_ok-second.ensures) same)
