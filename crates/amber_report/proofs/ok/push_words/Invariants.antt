-- The words so far are printed.
use Rattle.std.proofs.Common.{◌≡◌, ◌++◌, map, take}
use Rattle.std.specs.List.{flat_map}
use Rattle.amber_meaning.specs.Texts.{after_blank}
use Rattle.amber_report.proofs.ok.push_words.Given as goal

abbrev pub invariant-loop-word : goal.invariant-loop-word
invariant-loop-word l = l.text.items ≡ l.fn.text.items ++ flat_map after_blank (map (λ w. w.now) (take l.word-index l.words))
