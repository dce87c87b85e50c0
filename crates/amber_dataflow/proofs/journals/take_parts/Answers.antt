-- One worker more has handed out its journal.
use Rattle.std.proofs.Common.{◌<◌, ◌++◌, ap, refl, subst, sym}
use Rattle.amber_dataflow.proofs.Changed.{write-left}
use Rattle.amber_dataflow.specs.Parts.{parts_from, without_journal}
use Rattle.amber_dataflow.proofs.PartFacts.{parts-end, parts-next}
use Rattle.amber_dataflow.proofs.Changed.{map-whole}
use Rattle.amber_dataflow.proofs.journals.take_parts.Goals as goal

pub workers-preserved : goal.workers-preserved
workers-preserved c =
    let inside = c.workers-test.true in record {
      crew = write-left without_journal c.args.crew.now c.workers.crew c.workers.number c.index-crew-number.result c.take_journal-entries.new.self inside c.workers.invariant.crew
          c.take_journal-entries.ensures.rest;
      parts = parts-next c.args.crew.now c.workers.crew c.workers.number c.index-crew-number.result c.workers.parts.items c.push_part.new.parts.items _ c.take_journal-entries.result inside
          c.workers.invariant.crew c.take_journal-entries.ensures.journal c.in_ok-push_part.ensures c.workers.invariant.parts;
    }

pub returns-clause-parts : goal.returns-clause-parts
returns-clause-parts c = rw c.new.ensures (parts-end c.args.crew.now c.workers.number c.workers.parts.items _ c.workers-test.false c.workers.invariant.parts)

pub bounds-crew-number : goal.bounds-crew-number
bounds-crew-number c = subst (λ n. c.workers.number < n) (sym c.workers.auto.crew) c.workers-test.true

pub returns-clause-crew : goal.returns-clause-crew
returns-clause-crew c = map-whole without_journal c.args.crew.now c.workers.crew c.workers.number c.workers-test.false c.workers.invariant.crew

pub workers-init : goal.workers-init
workers-init c = record { crew = refl; parts = ap (λ parts. parts ++ parts_from 0 c.args.crew.now) c.new-parts.ensures.items }
