-- The last line, and none after it.
use Rattle.std.proofs.Common.{◌≡◌, ◌+◌, ℕ, List, [], ◌∷◌, Ok, refl, ap, sym, ◌∙◌}
use Rattle.std.specs.Str.Lines.{strip_carriage_return}
use Rattle.amber_script.specs.Answers.{after, lines_left}
use Rattle.amber_script.specs.Script.{commands_from}
use Rattle.amber_script.proofs.Leading.{after_end}
use Rattle.amber_script.proofs.read.read_script.Goals as goal

pub loop-more-preserved : goal.loop-more-preserved
loop-more-preserved c =
    let meaning = λ (lines : List (List ℕ)). after c.loop-more.commands.items (commands_from c.loop-more.number c.args.flow.now lines) in
    let line = rw c.in-None.is at c.next_line.ensures.line in
    let left : lines_left c.loop-more.more c.loop-more.rest.now ≡ strip_carriage_return c.next_line.result.0.now ∷ [] = rw c.loop-more-test.true line in
    record {
      meant = c.loop-more.invariant.meant ∙ ap meaning left ∙ c.in_ok-add_line.ensures.leads [] ∙ after_end c.add_line.new.commands.items (c.loop-more.number + 1) c.args.flow.now ∙ sym (after_end c.add_line.new.commands.items c.loop-more.number c.args.flow.now);
      fit = c.in_ok-add_line.ensures.fits;
      scripted = c.in_ok-add_line.ensures.scripted;
      nth = c.loop-more.invariant.nth;
    }

pub returns-clause-answer : goal.returns-clause-answer
returns-clause-answer c =
    let none : lines_left c.loop-more.more c.loop-more.rest.now ≡ [] = rw c.loop-more-test.false refl in
    c.loop-more.invariant.meant ∙ ap (λ (lines : List (List ℕ)). after c.loop-more.commands.items (commands_from c.loop-more.number c.args.flow.now lines)) none
    ∙ after_end c.loop-more.commands.items c.loop-more.number c.args.flow.now ∙ ap Ok (sym c.new.ensures)
