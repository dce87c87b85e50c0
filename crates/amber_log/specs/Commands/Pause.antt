-- A pause: a run stops once the operator has emitted `n` rows since the start.
use Rattle.std.specs.Prelude.{ℕ, [], ◌∷◌, codes}
use Rattle.amber_log.specs.Effect.{Effect, done_at, no_change}
use Rattle.amber_log.specs.Effect.{Rows}
use Rattle.amber_log.specs.Effect.{Put}

abbrev pub pause : ℕ → ℕ → Effect
pause op n = record (done_at op) {
  name = codes "pause";
  words = codes "pause" ∷ [];
  argument = Rows n;
  arming = record no_change { pause = Put n };
}
