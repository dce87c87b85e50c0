-- The views of the first workers of the operator are there.
use Rattle.std.proofs.Common.{◌+◌, map}
use Rattle.amber_rows.specs.Lists.{numbers_below}
use Rattle.amber_dataflow.specs.Answers.{ShowWorkers}
use Rattle.amber_dataflow.proofs.views.views_of.Given as goal

abbrev pub invariant-loop-place : goal.invariant-loop-place
invariant-loop-place l = ShowWorkers l.crew (map (λ place. l.first + place) (numbers_below l.place)) l.views.items
