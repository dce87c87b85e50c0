-- The cells of one after those of the other.
use Rattle.std.proofs.Common.{◌∙◌, ◌++◌}
use Rattle.amber_keys.proofs.Answers.{appended}
use Rattle.amber_join.proofs.matches.beside.Goals as goal

pub returns : goal.returns
returns c =
    let none = c.in_ok-cells.cells.items in
    let first = c.extend_from_slice.new.self.items in
    c.new.ensures ∙ appended first c.extend_from_slice-2.new.self.items c.get-2.result.now c.in_ok-extend_from_slice-2.ensures.items
    ∙ (λ i. appended none first c.get.result.now c.in_ok-extend_from_slice.ensures.items i ++ c.get-2.ensures i)
    ∙ (λ i. (c.in_ok-cells.ensures.items i ++ c.get.ensures i) ++ c.args.build.now)
