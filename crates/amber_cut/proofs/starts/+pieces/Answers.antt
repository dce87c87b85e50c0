-- The places of both parts.
use Rattle.std.proofs.Common.{take}
use Rattle.std.proofs.lemmas.Result.{IfOk-at_ok}
use Rattle.amber_cut.specs.Lines.{AreStarts}
use Rattle.amber_cut.proofs.Halves.{halves}
use Rattle.amber_cut.proofs.starts.+pieces.Goals as goal

pub returns : goal.returns
returns g t c =
    let bytes = c.args.bytes.now in
    let middle = c.cut_place-middle.result in
    let first = IfOk-at_ok (λ starts. AreStarts (take middle bytes) c.args.from starts.items) {r = c.join-first.result.0} c.in_ok-starts.was c.join-first.ensures.first in
    let second = IfOk-at_ok (λ starts. AreStarts bytes middle starts.items) {r = c.join-first.result.1} c.in_ok-later.was c.join-first.ensures.second in
    rw c.in_ok-append.ensures.items (halves bytes _ _ c.args.from middle c.cut_place-middle.ensures.later c.cut_place-middle.ensures.begins first second)
