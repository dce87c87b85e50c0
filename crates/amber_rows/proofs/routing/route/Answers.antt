-- A remainder of the hash.
use Rattle.std.proofs.Common.{refl}
use Rattle.amber_rows.specs.Routing.{fnv_of, route_of}
use Rattle.amber_rows.proofs.routing.route.Goals as goal

pub returns : goal.returns
unfolding route_of fnv_of
returns c = rw (c.hash_bytes.ensures, c.from.ensures) refl
