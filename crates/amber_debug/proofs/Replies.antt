-- A command that is no leg.
use Rattle.std.proofs.Common.{◌≡◌, ap, true}
use Rattle.amber_log.specs.Commands.{action_of}
use Rattle.amber_log.specs.declared.command.Command.{Command}
use Rattle.amber_log.specs.declared.effect.Action.TheVariants as action
use Rattle.amber_log.specs.declared.effect.Effect.{Effect}
use Rattle.amber_home.specs.HomeState.{is_at_rest, is_done_at_rest}

-- it is one that a home does at rest
pub no-leg-rests : (done : Command) (effect : Effect) → action_of done ≡ action.AtRest effect → is_done_at_rest done ≡ true
no-leg-rests done effect is = ap is_at_rest is
