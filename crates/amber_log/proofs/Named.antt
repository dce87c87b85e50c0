-- A command is read by its name in a log, and what is read so is that command.
use Rattle.std.proofs.Common.{◌≡◌, ℕ, ◌&&◌, Bool, true, List, [], ◌∷◌, Some, refl}
use Rattle.std.specs.Prelude.{codes, nat_lt, IfSome}
use Rattle.amber_rows.specs.declared.cond.Cond.{Cond}
use Rattle.amber_log.specs.Commands.{Action, AtRest, Leg, action_of}
use Rattle.amber_log.specs.Effect.{Condition, Effect}
use Rattle.amber_log.specs.Grammar.{IsArgument}
use Rattle.amber_log.specs.Operands.{condition_in}
use Rattle.amber_log.specs.Commands.{command_named}
use Rattle.amber_log.specs.Words.{argument_words}
use Rattle.amber_log.specs.declared.command.Command.{Command}
use Rattle.amber_log.specs.declared.command.Command.TheVariants as command
use Rattle.amber_log.proofs.OperandsRead.{number32, number64, constant_of-word, comparison_of-sign}
use Rattle.amber_log.proofs.FoundOperands.{mapped, word, nothing_in-found, rows_in-found, worker_in-found, constant_in-found, condition_in-found, IsSaid}

-- ---- what it says reads as it

-- whether every byte is above this one
abbrev pub above : ℕ → List ℕ → Bool
above least [] = true
above least (byte ∷ bytes) = nat_lt least byte && above least bytes

pub condition_in-words : (test : Cond) → IsArgument (Condition test) → condition_in (argument_words (Condition test)) ≡ Some test
condition_in-words test h = rw (number32 test.column h.0, comparison_of-sign test.op, constant_of-word test.constant h.1) refl

-- the name of a command is a word, and with what the command says it reads as it
pub record IsReadBack (one : Command) (effect : Effect) : Type 0 where
  pub plain : above 32 effect.name ≡ true
  pub read : IsArgument effect.argument → command_named effect.name effect.op (argument_words effect.argument) ≡ Some one

-- read so, where it is done at rest
abbrev pub IsNamed : Command → Action → Type 0
IsNamed one (Leg to_end) = Unit {0}
IsNamed one (AtRest effect) = IsReadBack one effect

-- each command is read by its name
pub command-named : (one : Command) → IsNamed one (action_of one)
unfolding command_named
command-named command.Run = tt
command-named command.End = tt
command-named (command.Pause op n) = record { plain = refl; read = λ h. rw (number64 n h) refl }
command-named (command.Count op n) = record { plain = refl; read = λ h. rw (number64 n h) refl }
command-named (command.When op test) = record { plain = refl; read = λ h. rw (condition_in-words test h) refl }
command-named (command.Clear op) = record { plain = refl; read = λ h. refl }
command-named (command.Set op constant) = record { plain = refl; read = λ h. rw (constant_of-word constant h) refl }
command-named (command.Drop op worker) = record { plain = refl; read = λ h. rw (number32 worker h) refl }
command-named (command.Inspect op) = record { plain = refl; read = λ h. refl }
command-named (command.Lose op worker) = record { plain = refl; read = λ h. rw (number32 worker h) refl }

-- ---- what is read so

-- this name, this operator and these words are a command's
abbrev pub Says : List ℕ → ℕ → List (List ℕ) → Action → Type 0
Says name op words (Leg to_end) = ⊥
Says name op words (AtRest effect) = (name ≡ effect.name) × (op ≡ effect.op) × IsSaid (λ argument. argument) words effect.argument

pub command_named-found : (name : List ℕ) (op : ℕ) (words : List (List ℕ)) → IfSome (command_named name op words) (λ one. Says name op words (action_of one))
unfolding command_named
command_named-found name op words =
    word Q name (codes "pause") _ _ (λ e. mapped _ _ (λ n. command.Pause op n) Q (rows_in-found words) (λ n h. (e, refl, h)))
    (word Q name (codes "count") _ _ (λ e. mapped _ _ (λ n. command.Count op n) Q (rows_in-found words) (λ n h. (e, refl, h)))
    (word Q name (codes "when") _ _ (λ e. mapped _ _ (λ test. command.When op test) Q (condition_in-found words) (λ test h. (e, refl, h)))
    (word Q name (codes "clear") _ _ (λ e. mapped _ _ (λ none. command.Clear op) Q (nothing_in-found words) (λ none h. (e, refl, h)))
    (word Q name (codes "set") _ _ (λ e. mapped _ _ (λ constant. command.Set op constant) Q (constant_in-found words) (λ constant h. (e, refl, h)))
    (word Q name (codes "drop") _ _ (λ e. mapped _ _ (λ worker. command.Drop op worker) Q (worker_in-found words) (λ worker h. (e, refl, h)))
    (word Q name (codes "inspect") _ _ (λ e. mapped _ _ (λ none. command.Inspect op) Q (nothing_in-found words) (λ none h. (e, refl, h)))
    (word Q name (codes "lose") _ _ (λ e. mapped _ _ (λ worker. command.Lose op worker) Q (worker_in-found words) (λ worker h. (e, refl, h)))
    tt)))))))
  where
    Q : Command → Type 0
    Q one = Says name op words (action_of one)
