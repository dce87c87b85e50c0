-- Blanks so far.
use Rattle.std.proofs.Common.{◌≡◌, drop}
use Rattle.amber_script.specs.Script.{says}
use Rattle.amber_script.proofs.lines.says_something.Given as goal

abbrev pub invariant-loop-byte : goal.invariant-loop-byte
invariant-loop-byte l = says l.line ≡ says (drop l.byte-index l.line)
