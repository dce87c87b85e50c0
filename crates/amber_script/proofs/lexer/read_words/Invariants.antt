-- The line's words are those that were read, then those of its rest.
use Rattle.std.proofs.Common.{◌≡◌, drop}
use Rattle.amber_script.specs.Lexing.{IsClear, words_with}
use Rattle.amber_script.specs.Words.{script_words_of}
use Rattle.amber_script.proofs.lexer.read_words.Given as goal

abbrev pub invariant-loop-byte : goal.invariant-loop-byte
invariant-loop-byte l = record {
  words : script_words_of l.line ≡ words_with l.lexer (drop l.byte-index l.line);
  clear : IsClear l.lexer;
}
