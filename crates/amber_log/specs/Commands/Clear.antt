-- Taking back: nothing stops a run at the operator any more.
use Rattle.std.specs.Prelude.{ℕ, [], ◌∷◌, codes}
use Rattle.amber_log.specs.Effect.{Effect, done_at, no_change}
use Rattle.amber_log.specs.Effect.{TakeBack}

abbrev pub clear : ℕ → Effect
clear op = record (done_at op) {
  name = codes "clear";
  words = codes "clear" ∷ [];
  arming = record no_change { pause = TakeBack; count = TakeBack; when = TakeBack };
}
