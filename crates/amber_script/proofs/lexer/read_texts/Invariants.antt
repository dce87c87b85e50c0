-- The words so far are texts.
use Rattle.std.proofs.Common.{◌≡◌, take, true}
use Rattle.std.specs.List.{list_all}
use Rattle.std.specs.Str.{is_utf8}
use Rattle.amber_script.proofs.lexer.read_texts.Given as goal

abbrev pub invariant-loop-word : goal.invariant-loop-word
invariant-loop-word l = record {
  texts : l.texts.items ≡ take l.word-index l.words;
  utf8 : list_all is_utf8 (take l.word-index l.words) ≡ true;
}
