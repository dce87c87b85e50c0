-- The lists so far are spare.
use Rattle.std.proofs.Common.{◌≤◌, vec_len}
use Rattle.amber_link.specs.Rooms.{AreSpare}
use Rattle.amber_link.proofs.outbox.reserve_spares.Given as goal

abbrev pub invariant-loop : goal.invariant-loop
invariant-loop l = record {
  spare : AreSpare l.batch_size l.spare.items;
  more : vec_len l.initial.spare ≤ vec_len l.spare;
  counted : l.counter ≤ vec_len l.spare;
}
