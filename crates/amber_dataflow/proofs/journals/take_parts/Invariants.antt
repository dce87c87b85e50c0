-- The workers so far have handed out their journals, and the parts go on with those of the others.
use Rattle.std.proofs.Common.{◌≡◌, ◌++◌, drop, map, take}
use Rattle.amber_dataflow.specs.Parts.{parts_from, without_journal}
use Rattle.amber_dataflow.proofs.journals.take_parts.Given as goal

abbrev pub invariant-workers : goal.invariant-workers
invariant-workers l = record {
  crew : l.crew ≡ map without_journal (take l.number l.initial.crew) ++ drop l.number l.initial.crew;
  parts : l.parts.items ++ parts_from l.number (drop l.number l.initial.crew) ≡ parts_from 0 l.initial.crew;
}
