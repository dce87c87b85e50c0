-- Dropping a row: the one before which a worker is held is not emitted.
use Rattle.std.specs.Prelude.{ℕ, [], ◌∷◌, codes, Some, true}
use Rattle.amber_log.specs.Effect.{Effect, done_at}
use Rattle.amber_log.specs.Effect.{Worker}
use Rattle.amber_log.specs.Effect.{Dropped}

abbrev pub drop : ℕ → ℕ → Effect
drop op worker = record (done_at op) {
  name = codes "drop";
  words = codes "drop" ∷ [];
  argument = Worker worker;
  alters = true;
  drops = Some worker;
  reply = Dropped;
}
