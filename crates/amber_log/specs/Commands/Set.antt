-- Another constant of a filter, for rows that are taken from here on.
use Rattle.std.specs.Prelude.{ℕ, [], ◌∷◌, codes, Some, true}
use Rattle.amber_rows.specs.declared.value.Value.{Value}
use Rattle.amber_log.specs.Effect.{Effect, done_at, no_change}
use Rattle.amber_log.specs.Effect.{Constant}

abbrev pub set : ℕ → Value → Effect
set op value = record (done_at op) {
  name = codes "set";
  words = codes "set" ∷ [];
  argument = Constant value;
  alters = true;
  arming = record no_change { constant = Some value };
}
