-- As many fields were passed as turns were made.
use Rattle.std.proofs.Common.{◌≡◌, ◌≤◌, drop, length}
use Rattle.amber_cut.specs.Typing.{fields_if}
use Rattle.amber_cut.proofs.typing.fault_of.Given as goal

abbrev pub invariant-fields : goal.invariant-fields
invariant-fields l = record {
  rest : drop l.counter (fields_if l.fn.more l.line) ≡ fields_if l.more l.rest;
  passed : l.counter ≤ length (fields_if l.fn.more l.line);
}
