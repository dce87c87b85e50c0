-- Commands that are done at rest: their operator is there, and whom they mean.
use Rattle.std.proofs.Common.{◌≡◌, ℕ, ◌<◌, ◌≤◌, List, length, Option, Some, None, true, refl}
use Rattle.std.specs.Option.{IsSomeAnd}
use Rattle.std.proofs.lemmas.Bool.{false≢true}
use Rattle.amber_rows.specs.Lists.{nth}
use Rattle.amber_rows.specs.declared.flow.Operator.{Operator}
use Rattle.amber_log.specs.Commands.{action_of}
use Rattle.amber_log.specs.Effect.{is_nobody}
use Rattle.amber_log.specs.Fits.{fits_at, fits_of}
use Rattle.amber_log.specs.declared.command.Command.{Command}
use Rattle.amber_log.specs.declared.effect.Argument.{Argument}
use Rattle.amber_log.specs.declared.effect.Argument.TheVariants as argument
use Rattle.amber_log.specs.declared.effect.Action.TheVariants as action
use Rattle.amber_log.specs.declared.effect.Effect.{Effect}
use Rattle.amber_meaning.proofs.Operators.{nth-within}

-- ---- its operator

-- an operator that takes what is said beside it is there
fits-there : (found : Option Operator) (said : Argument) → fits_at found said ≡ true → IsSomeAnd found (λ operator. Unit {0})
fits-there None argument.Nothing e = absurd (false≢true e)
fits-there None (argument.Rows n) e = absurd (false≢true e)
fits-there None (argument.Worker worker) e = absurd (false≢true e)
fits-there None (argument.Constant value) e = absurd (false≢true e)
fits-there None (argument.Condition cond) e = absurd (false≢true e)
fits-there (Some operator) said e = tt

pub rest-there : (flow : List Operator) (done : Command) (effect : Effect) → action_of done ≡ action.AtRest effect → fits_of flow done ≡ true → (0 < effect.op) × (effect.op ≤ length flow)
unfolding fits_of
rest-there flow done effect is fits = nth-within flow effect.op (λ operator. Unit {0}) (fits-there (nth flow effect.op) effect.argument (rw is at fits))

-- ---- whom it means

pub nobody-none : (worker : Option ℕ) → is_nobody worker ≡ true → worker ≡ None
nobody-none None e = refl
nobody-none (Some worker) e = cc
