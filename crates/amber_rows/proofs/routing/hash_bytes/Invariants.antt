-- The hash of the bytes so far.
use Rattle.std.proofs.Common.{◌≡◌, fold, take}
use Rattle.amber_rows.specs.Routing.{fnv_step}
use Rattle.amber_rows.proofs.routing.hash_bytes.Given as goal

abbrev pub invariant-loop-byte : goal.invariant-loop-byte
invariant-loop-byte l = l.hash ≡ fold fnv_step l.before (take l.byte-index l.bytes)
