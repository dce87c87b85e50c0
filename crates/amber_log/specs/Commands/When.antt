-- A condition: a run stops before each row of the operator for which it holds.
use Rattle.std.specs.Prelude.{ℕ, [], ◌∷◌, codes}
use Rattle.amber_rows.specs.declared.cond.Cond.{Cond}
use Rattle.amber_log.specs.Effect.{Effect, done_at, no_change}
use Rattle.amber_log.specs.Effect.{Condition}
use Rattle.amber_log.specs.Effect.{Put}

abbrev pub stop_when : ℕ → Cond → Effect
stop_when op cond = record (done_at op) {
  name = codes "when";
  words = codes "break" ∷ codes "when" ∷ [];
  argument = Condition cond;
  arming = record no_change { when = Put cond };
}
