-- What each command does. Those that are done at rest stand each in a file of its own; they are told apart only here.
pub mod Clear
pub mod Count
pub mod Drop
pub mod Inspect
pub mod Lose
pub mod Pause
pub mod Set
pub mod When
use Rattle.std.specs.Prelude.{ℕ, List, codes, bytes_eq, Option, None, option_map, true, false, if◌then◌else◌}
pub use Rattle.amber_log.specs.declared.effect.Action.{Action}
pub use Rattle.amber_log.specs.declared.effect.Action.TheVariants.{Leg, AtRest}
use Rattle.amber_log.specs.declared.command.Command.{Command}
use Rattle.amber_log.specs.declared.command.Command.TheVariants as command
use Rattle.amber_log.specs.Effect.{Effect}
use Rattle.amber_log.specs.Operands.{condition_in, nothing_in, row_count_in, value_in, worker_in}
use Rattle.amber_log.specs.Commands.Clear.{clear}
use Rattle.amber_log.specs.Commands.Count.{count}
use Rattle.amber_log.specs.Commands.Drop.{drop}
use Rattle.amber_log.specs.Commands.Inspect.{inspect}
use Rattle.amber_log.specs.Commands.Lose.{lose}
use Rattle.amber_log.specs.Commands.Pause.{pause}
use Rattle.amber_log.specs.Commands.Set.{set}
use Rattle.amber_log.specs.Commands.When.{stop_when}

-- what a command does
abbrev pub action_of : Command → Action
action_of command.Run = Leg false
action_of command.End = Leg true
action_of (command.Pause op n) = AtRest (pause op n)
action_of (command.Count op n) = AtRest (count op n)
action_of (command.When op cond) = AtRest (stop_when op cond)
action_of (command.Clear op) = AtRest (clear op)
action_of (command.Set op value) = AtRest (set op value)
action_of (command.Drop op worker) = AtRest (drop op worker)
action_of (command.Inspect op) = AtRest (inspect op)
action_of (command.Lose op worker) = AtRest (lose op worker)

-- ---- in a log

-- the command of this name at this operator, and the words after it
unfoldable pub command_named : List ℕ → ℕ → List (List ℕ) → Option Command
command_named name op words =
    if bytes_eq name (codes "pause") then option_map (λ n. command.Pause op n) (row_count_in words)
    else if bytes_eq name (codes "count") then option_map (λ n. command.Count op n) (row_count_in words)
    else if bytes_eq name (codes "when") then option_map (λ cond. command.When op cond) (condition_in words)
    else if bytes_eq name (codes "clear") then option_map (λ none. command.Clear op) (nothing_in words)
    else if bytes_eq name (codes "set") then option_map (λ constant. command.Set op constant) (value_in words)
    else if bytes_eq name (codes "drop") then option_map (λ worker. command.Drop op worker) (worker_in words)
    else if bytes_eq name (codes "inspect") then option_map (λ none. command.Inspect op) (nothing_in words)
    else if bytes_eq name (codes "lose") then option_map (λ worker. command.Lose op worker) (worker_in words)
    else None
