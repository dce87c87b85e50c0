-- No comma so far.
use Rattle.std.proofs.Common.{◌≡◌, ◌<◌, ℕ, false, get_or}
use Rattle.amber_cut.specs.Lines.{ends_field}
use Rattle.amber_cut.proofs.fields.field_end.Given as goal

abbrev pub invariant-bytes : goal.invariant-bytes
invariant-bytes l = (j : ℕ) → j < l.end → ends_field (get_or l.line j 0) ≡ false
