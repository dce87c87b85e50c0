-- Each word is a text so far; the first that is none stops.
use Rattle.std.proofs.Common.{◌≡◌, ◌+◌, take, true, arith}
use Rattle.std.specs.List.{list_all}
use Rattle.std.specs.Str.{is_utf8}
use Rattle.std.proofs.lemmas.Grind.{common_steps}
use Rattle.amber_script.proofs.Texts.{texts_more, texts_none}
use Rattle.amber_script.proofs.lexer.read_texts.Goals as goal

pub returns-in-Err : goal.returns-in-Err
returns-in-Err c =
    texts_none c.args.words.now c.loop-word.word-index c.word-item.result c.get.result.now c.loop-word-test.true c.word-item.is c.get.ensures c.in-Err.ensures.cases.0

pub loop-word-preserved : goal.loop-word-preserved
loop-word-preserved c =
    let utf8 : list_all is_utf8 (take (c.loop-word.word-index + 1) c.args.words.now) ≡ true =
    texts_more c.args.words.now c.loop-word.word-index c.word-item.result c.get.result.now c.loop-word-test.true c.word-item.is c.get.ensures c.in-Ok.ensures.cases.1 c.loop-word.invariant.utf8 in
    record {
      texts = grind (arith, common_steps, c.loop-word.invariant.texts, c.word-item.is, c.get.ensures, c.in-Ok.ensures.cases.0, c.in_ok-new-in-Ok.ensures, c.in_ok-push-in-Ok.ensures.items);
      utf8 = utf8;
    }
