-- The worker is one of this many from the first on.
use Rattle.std.proofs.Common.{arith}
use Rattle.amber_rows.specs.Routing.{route_of}
use Rattle.amber_worker.proofs.route.Route.number_to.Goals as goal

pub overflow_add-result : goal.overflow_add-result
unfolding route_of
overflow_add-result c =
    let sound = rw c.in-ByKeys.is at c.requires in
    omega (arith, sound.0, sound.1, c.route_row.ensures)
