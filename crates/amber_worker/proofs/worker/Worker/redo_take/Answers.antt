-- The batch is taken, where it may be and comes next.
use Rattle.std.proofs.Common.{◌≡◌, sym, ◌∙◌, true}
use Rattle.amber_link.specs.Sides.{have_builders_ended}
use Rattle.amber_log.specs.declared.entry.Entry.TheVariants as entry
use Rattle.amber_worker.specs.Fields.{AreShort}
use Rattle.amber_worker.specs.Redoable.{is_through}
use Rattle.amber_worker.specs.Redoing.{log_line}
use Rattle.amber_worker.proofs.LinesFinish.{through-parts}
use Rattle.amber_worker.proofs.LinesTake.{done-looked, take-cannot, take-done, take-none}
use Rattle.amber_worker.proofs.Turns.{same-after}
use Rattle.amber_worker.proofs.worker.Worker.redo_take.Goals as goal

pub returns-then-not-is_through-clause-ok : goal.returns-then-not-is_through-clause-ok
returns-then-not-is_through-clause-ok c = λ armed. take-cannot c.args.self.now c.args.from c.args.number armed (sym c.is_through.ensures ∙ c.if-not-is_through.true)

pub returns-in_default-clause-ok : goal.returns-in_default-clause-ok
returns-in_default-clause-ok c = λ armed. take-none c.args.self.now c.next_from.new.self c.args.from c.args.number armed c.next_from.ensures.looked c.in_default.ensures.none

pub returns-clause-ok : goal.returns-clause-ok
returns-clause-ok c = λ armed.
    let old = c.args.self.now in
    let between = c.next_from.new.self in
    let looked = c.next_from.ensures.looked in
    let through = same-after old between looked (λ w. is_through w ≡ true) (sym c.is_through.ensures ∙ c.if-not-is_through.false) in
    let short = same-after old between looked (λ w. AreShort w.journal) c.show_short.ensures in
    done-looked (log_line (entry.Take c.args.from c.args.number) armed) old between c.take_next_of.new.self looked
    (take-done c.in-Some.place c.args.from c.args.number between c.take_next_of.new.self armed (have_builders_ended between.ins) (through-parts between through) short
    c.in_ok-take_next_of.ensures.ok c.in-Some.ensures.next)
