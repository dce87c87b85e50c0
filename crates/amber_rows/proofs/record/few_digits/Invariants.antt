-- The bytes so far are digits, and this is their number.
use Rattle.std.proofs.Common.{take}
use Rattle.amber_rows.proofs.Numerals.{IsRead}
use Rattle.amber_rows.proofs.record.few_digits.Given as goal

abbrev pub invariant-loop-byte : goal.invariant-loop-byte
invariant-loop-byte l = IsRead (take l.byte-index l.bytes) l.number
