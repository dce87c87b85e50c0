-- The loss of a worker, which is then built again from the log.
use Rattle.std.specs.Prelude.{ℕ, [], ◌∷◌, codes, Some}
use Rattle.amber_log.specs.Effect.{Effect, done_at}
use Rattle.amber_log.specs.Effect.{Worker}

abbrev pub lose : ℕ → ℕ → Effect
lose op worker = record (done_at op) {
  name = codes "lose";
  words = codes "lose" ∷ [];
  argument = Worker worker;
  loses = Some worker;
}
