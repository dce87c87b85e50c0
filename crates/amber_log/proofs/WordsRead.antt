-- The words of a line read as that line.
use Rattle.std.proofs.Common.{◌≡◌, ◌+◌, true, ◌∷◌, Some, refl, arith}
use Rattle.std.specs.Prelude.{codes, nat_lt}
use Rattle.std.proofs.lemmas.Bool.{lt-ltb}
use Rattle.amber_log.specs.Commands.{Action, AtRest, Leg, action_of}
use Rattle.amber_log.specs.Grammar.{HasWords, IsEntry, IsLine}
use Rattle.amber_log.specs.ReadWords.{command_in, head_line, line_of, line_one, line_three, line_two}
use Rattle.amber_log.specs.Words.{action_words, entry_words, words_of}
use Rattle.amber_log.specs.declared.command.Command.{Command}
use Rattle.amber_log.specs.declared.entry.Entry.{Entry}
use Rattle.amber_log.specs.declared.entry.Entry.TheVariants as entry
use Rattle.amber_log.specs.declared.leg.Close.TheVariants as close
use Rattle.amber_log.specs.declared.line.Line.{Line}
use Rattle.amber_log.specs.declared.line.Line.TheVariants as line
use Rattle.amber_log.proofs.OperandsRead.{number-decimal, above_zero-same, number32, number64}
use Rattle.amber_log.proofs.Named.{IsNamed, command-named}

line_of-action : (one : Command) (action : Action) → IsNamed one action → HasWords action → line_of (codes "do" ∷ action_words action) ≡ Some (line.Do one)
unfolding line_of command_in
line_of-action one (Leg to_end) named h = absurd h
line_of-action one (AtRest effect) named h = rw (number32 effect.op h.0, named.read h.1) refl

-- ---- lines

line_of-entry : (one : Entry) → IsEntry one → line_of (entry_words one) ≡ Some (line.Entry one)
unfolding line_of line_one line_two line_three
line_of-entry (entry.Take sender batch) h = rw (number32 sender h.0, number64 batch h.1) refl
line_of-entry (entry.Go rows outs) h =
    let some : nat_lt 0 (rows + outs) ≡ true = lt-ltb 0 (rows + outs) h.2 in
    rw (number64 rows h.0, number64 outs h.1, some) refl
line_of-entry (entry.Grant n) h = rw (number64 n h.1, above_zero-same n h.0) refl
line_of-entry (entry.Back n) h = rw (number64 n h.1, above_zero-same n h.0) refl
line_of-entry entry.Pause h = refl
line_of-entry entry.Resume h = refl
line_of-entry entry.Hold h = refl
line_of-entry entry.Finish h = refl

-- the words of a line are those of no other
pub line_of-words_of : (one : Line) → IsLine one → line_of (words_of one) ≡ Some one
unfolding line_of line_one line_two line_three head_line
line_of-words_of (line.Head batch) h = rw (number-decimal 65537 batch (omega arith) (omega arith), above_zero-same batch h.0) refl
line_of-words_of (line.Do one) h = line_of-action one (action_of one) (command-named one) h
line_of-words_of line.Run h = refl
line_of-words_of line.End h = refl
line_of-words_of (line.Worker worker) h = rw (number32 worker h) refl
line_of-words_of (line.Entry one) h = line_of-entry one h
line_of-words_of (line.Close close.Cut) h = refl
line_of-words_of (line.Close close.Long) h = refl
