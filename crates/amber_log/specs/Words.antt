-- The words of each line of a log.
use Rattle.std.specs.Prelude.{ℕ, List, [], ◌∷◌, codes, decimal}
use Rattle.std.specs.Fmt.{signed_decimal}
use Rattle.std.specs.List.{join_with_byte}
use Rattle.hex.specs.Hex.{encode_lower}
use Rattle.amber_rows.specs.declared.cond.Cmp.{Cmp}
use Rattle.amber_rows.specs.declared.cond.Cmp.TheVariants as cmp
use Rattle.amber_rows.specs.declared.value.Value.{Value}
use Rattle.amber_rows.specs.declared.value.Value.TheVariants as value
use Rattle.amber_log.specs.declared.command.Command.{Command}
use Rattle.amber_log.specs.declared.entry.Entry.{Entry}
use Rattle.amber_log.specs.declared.entry.Entry.TheVariants as entry
use Rattle.amber_log.specs.declared.leg.Close.{Close}
use Rattle.amber_log.specs.declared.leg.Close.TheVariants as close
use Rattle.amber_log.specs.declared.line.Line.{Line}
use Rattle.amber_log.specs.declared.line.Line.TheVariants as line
use Rattle.amber_log.specs.Commands.{Action, AtRest, Leg, action_of}
use Rattle.amber_log.specs.Effect.{Argument, Condition, Constant, Nothing, Rows, Worker}

-- the sign of a comparison
abbrev pub sign_of : Cmp → List ℕ
sign_of cmp.Eq = codes "="
sign_of cmp.Ne = codes "!="
sign_of cmp.Lt = codes "<"
sign_of cmp.Le = codes "<="
sign_of cmp.Gt = codes ">"
sign_of cmp.Ge = codes ">="

-- a constant: `i` and the number in decimal, or `t` and the text's bytes in lower case hexadecimal
abbrev pub constant_word : Value → List ℕ
constant_word (value.Int n) = 105 ∷ signed_decimal n
constant_word (value.Text text) = 116 ∷ encode_lower text

-- what a command says beside its operator
abbrev pub argument_words : Argument → List (List ℕ)
argument_words Nothing = []
argument_words (Rows n) = decimal n ∷ []
argument_words (Worker worker) = decimal worker ∷ []
argument_words (Constant constant) = constant_word constant ∷ []
argument_words (Condition test) = decimal test.column ∷ sign_of test.op ∷ constant_word test.constant ∷ []

-- the words of what is done at rest. Legs are kept as such and have none
abbrev pub action_words : Action → List (List ℕ)
action_words (Leg to_end) = []
action_words (AtRest effect) = effect.name ∷ decimal effect.op ∷ argument_words effect.argument

-- a command's words after `do`
abbrev pub command_words : Command → List (List ℕ)
command_words command = action_words (action_of command)

abbrev pub entry_words : Entry → List (List ℕ)
entry_words (entry.Take sender batch) = codes "t" ∷ decimal sender ∷ decimal batch ∷ []
entry_words (entry.Go rows outs) = codes "g" ∷ decimal rows ∷ decimal outs ∷ []
entry_words (entry.Grant n) = codes "a" ∷ decimal n ∷ []
entry_words (entry.Back n) = codes "b" ∷ decimal n ∷ []
entry_words entry.Pause = codes "p" ∷ []
entry_words entry.Resume = codes "r" ∷ []
entry_words entry.Hold = codes "h" ∷ []
entry_words entry.Finish = codes "f" ∷ []

abbrev pub close_word : Close → List ℕ
close_word close.Cut = codes "cut"
close_word close.Long = codes "long"

-- the words of a line
abbrev pub words_of : Line → List (List ℕ)
words_of (line.Head batch) = codes "amber" ∷ codes "1" ∷ decimal batch ∷ []
words_of (line.Do command) = codes "do" ∷ command_words command
words_of line.Run = codes "run" ∷ []
words_of line.End = codes "end" ∷ []
words_of (line.Worker worker) = codes "w" ∷ decimal worker ∷ []
words_of (line.Entry entry) = entry_words entry
words_of (line.Close close) = close_word close ∷ []

-- a line without its line feed: the words with one space between each two
abbrev pub spell : Line → List ℕ
spell one = join_with_byte 32 (words_of one)
