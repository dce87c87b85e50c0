-- The refusals so far are printed.
use Rattle.std.proofs.Common.{◌≡◌, ◌++◌, take}
use Rattle.std.specs.List.{flat_map}
use Rattle.amber_meaning.specs.Texts.{refusal_text}
use Rattle.amber_report.proofs.answer_text.push_refusals.Given as goal

abbrev pub invariant-loop-refusal : goal.invariant-loop-refusal
invariant-loop-refusal l = l.text.items ≡ l.fn.text.items ++ flat_map (refusal_text l.flow) (take l.refusal-index l.refused)
