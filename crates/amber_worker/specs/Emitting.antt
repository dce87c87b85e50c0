-- Pending rows that were handed on, many at a time.
use Rattle.std.specs.Prelude.{◌≡◌, ℕ, zero, suc, List, map}
use Rattle.amber_rows.specs.declared.value.Value.{Value}
use Rattle.amber_link.specs.Sides.{without_room}
use Rattle.amber_link.specs.declared.downstreams.Downstream.{Downstream}
use Rattle.amber_worker.specs.Links.{EmitsFirst, OutputSide}
use Rattle.amber_worker.specs.declared.route.Route.{Route}

-- a worker's side of output, whatever room there is
abbrev pub side_of : List (List Value) → List Downstream → OutputSide
side_of pending outs = record { pending = pending; outs = map without_room outs }

-- so many of the first pending rows were handed on, one after the other
unfoldable pub EmitsMany : Route → ℕ → OutputSide → OutputSide → Type 0
EmitsMany to zero old new = new ≡ old
EmitsMany to (suc n) old new = (between : OutputSide) × EmitsMany to n old between × EmitsFirst to between new
