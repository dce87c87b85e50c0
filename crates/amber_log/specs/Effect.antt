-- What there is to say of a command that is done at rest. The data stand in src/effect.rt; other crates import them from specs.declared.effect.
use Rattle.std.specs.Prelude.{ℕ, [], Option, None, Some, Bool, true, false}
pub use Rattle.amber_log.specs.declared.effect.Argument.{Argument}
pub use Rattle.amber_log.specs.declared.effect.Argument.TheVariants.{Nothing, Rows, Worker, Constant, Condition}
pub use Rattle.amber_log.specs.declared.effect.Change.{Change}
pub use Rattle.amber_log.specs.declared.effect.Change.TheVariants.{Keep, TakeBack, Put}
pub use Rattle.amber_log.specs.declared.effect.Arming.{Arming}
pub use Rattle.amber_log.specs.declared.effect.Reply.{Reply}
pub use Rattle.amber_log.specs.declared.effect.Reply.TheVariants.{Done, Dropped, Shown}
pub use Rattle.amber_log.specs.declared.effect.Effect.{Effect}

-- all stays as it is
abbrev pub no_change : Arming
no_change = record { pause = Keep; count = Keep; when = Keep; constant = None }

-- at this operator, nothing is said, changed or lost, and it is replied that it was done: each command says in what it differs
abbrev pub done_at : ℕ → Effect
done_at op = record {
  name = [];
  words = [];
  op = op;
  argument = Nothing;
  alters = false;
  arming = no_change;
  drops = None;
  loses = None;
  reply = Done;
}

-- no worker is meant
abbrev pub is_nobody : Option ℕ → Bool
is_nobody None = true
is_nobody (Some worker) = false
