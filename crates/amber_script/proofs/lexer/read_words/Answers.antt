-- A byte that was read goes from the rest to the words; at the end nothing is left.
use Rattle.std.proofs.Common.{◌≡◌, [], ◌+◌, drop, sym, ◌∙◌}
use Rattle.std.proofs.lemmas.List.{at_drop_more, drop_all}
use Rattle.std.proofs.lemmas.Result.{IfOk-from_err}
use Rattle.amber_script.specs.Lexing.{words_with}
use Rattle.amber_script.proofs.lexer.read_words.Goals as goal

pub loop-byte-preserved : goal.loop-byte-preserved
loop-byte-preserved c =
    let line = c.args.line.now in
    let index = c.loop-byte.byte-index in
    let reads = rw c.if-not-branch.false at c.in_ok-step.ensures.words in
    record {
      words = c.loop-byte.invariant.words ∙ at_drop_more (words_with c.loop-byte.lexer) line index 0 c.loop-byte-test.true ∙ reads (drop (index + 1) line);
      clear = c.in_ok-step.ensures.clear c.if-not-branch.false;
    }

pub bounds-line-byte-index : goal.bounds-line-byte-index
bounds-line-byte-index c = c.loop-byte-test.true

pub step-requires : goal.step-requires
step-requires c = c.loop-byte.invariant.clear

pub returns-in_err-step : goal.returns-in_err-step
returns-in_err-step c = IfOk-from_err _ _ c.from_residual.ensures.0

pub returns-then-not-branch : goal.returns-then-not-branch
returns-then-not-branch c =
    let line = c.args.line.now in
    let index = c.loop-byte.byte-index in
    let stops = rw c.if-not-branch.true at c.in_ok-step.ensures.words in
    sym (c.loop-byte.invariant.words ∙ at_drop_more (words_with c.loop-byte.lexer) line index 0 c.loop-byte-test.true ∙ stops (drop (index + 1) line))

pub finish-requires : goal.finish-requires
finish-requires c = c.loop-byte.invariant.clear

pub returns : goal.returns
returns c =
    let none : drop c.loop-byte.byte-index c.args.line.now ≡ [] = drop_all c.loop-byte.byte-index c.args.line.now c.loop-byte-test.false in
    let all = rw none at c.loop-byte.invariant.words in
    rw all c.finish.ensures
