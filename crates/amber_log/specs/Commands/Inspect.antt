-- A look: how far the operator's workers are.
use Rattle.std.specs.Prelude.{ℕ, [], ◌∷◌, codes}
use Rattle.amber_log.specs.Effect.{Effect, done_at}
use Rattle.amber_log.specs.Effect.{Shown}

abbrev pub inspect : ℕ → Effect
inspect op = record (done_at op) {
  name = codes "inspect";
  words = codes "inspect" ∷ [];
  reply = Shown;
}
