-- A count: a run stops once the operator has emitted `n` rows more, and not one beyond.
use Rattle.std.specs.Prelude.{ℕ, [], ◌∷◌, codes}
use Rattle.amber_log.specs.Effect.{Effect, done_at, no_change}
use Rattle.amber_log.specs.Effect.{Rows}
use Rattle.amber_log.specs.Effect.{Put}

abbrev pub count : ℕ → ℕ → Effect
count op n = record (done_at op) {
  name = codes "count";
  words = codes "break" ∷ codes "count" ∷ [];
  argument = Rows n;
  arming = record no_change { count = Put n };
}
