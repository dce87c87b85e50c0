-- The texts of commands and legs, part by part.
use Rattle.std.specs.Prelude.{ℕ, List, [], ◌∷◌, ◌++◌, codes}
use Rattle.std.specs.List.{flat_map, join_with_byte}
use Rattle.amber_log.specs.declared.effect.Action.TheVariants.{AtRest}
use Rattle.amber_log.specs.declared.effect.Effect.{Effect}
use Rattle.amber_log.specs.LogText.{line_text}
use Rattle.amber_log.specs.Words.{action_words}
use Rattle.amber_log.specs.declared.entry.Entry.{Entry}
use Rattle.amber_log.specs.declared.leg.Leg.{Leg}
use Rattle.amber_log.specs.declared.leg.Part.{Part}
use Rattle.amber_log.specs.declared.line.Line.TheVariants as line

-- a space before a word
abbrev pub after_space : List ℕ → List ℕ
after_space word = 32 ∷ word

-- the line of what is done at rest
abbrev pub effect_line : Effect → List ℕ
effect_line effect = join_with_byte 32 (codes "do" ∷ action_words (AtRest effect)) ++ 10 ∷ []

abbrev pub entry_text : Entry → List ℕ
entry_text entry = line_text (line.Entry entry)

-- the line of the worker's number, then its entries
abbrev pub part_text : Part → List ℕ
part_text part = line_text (line.Worker part.worker) ++ flat_map entry_text part.entries

-- the workers' parts, then how the leg ended
abbrev pub leg_text : Leg → List ℕ
leg_text leg = flat_map part_text leg.parts ++ line_text (line.Close leg.close)
