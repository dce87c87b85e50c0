-- The text of an item, part by part.
use Rattle.std.proofs.Common.{◌≡◌, ℕ, ◌++◌, List, [], ◌∷◌, map, refl, sym, ap, ◌∙◌, append-nil}
use Rattle.std.specs.Prelude.{codes, decimal}
use Rattle.std.specs.List.{flat_map, join_with_byte}
use Rattle.std.proofs.lemmas.List.Concat.{flat_map-append}
use Rattle.amber_log.specs.LogText.{item_text, leg_lines, line_text, part_lines}
use Rattle.amber_log.specs.declared.effect.Effect.{Effect}
use Rattle.amber_log.specs.Words.{argument_words}
use Rattle.amber_log.specs.declared.command.Command.{Command}
use Rattle.amber_log.specs.declared.entry.Entry.{Entry}
use Rattle.amber_log.specs.declared.leg.Leg.{Leg}
use Rattle.amber_log.specs.declared.leg.Part.{Part}
use Rattle.amber_log.specs.declared.log.Item.TheVariants as item
use Rattle.amber_log.specs.declared.line.Line.TheVariants as line
use Rattle.amber_journal.specs.Written.{after_space, effect_line, entry_text, leg_text, part_text}

entries_text : (entries : List Entry) → flat_map line_text (map (λ entry. line.Entry entry) entries) ≡ flat_map entry_text entries
entries_text [] = refl
entries_text (one ∷ entries) = ap (λ (text : List ℕ). entry_text one ++ text) (entries_text entries)

parts_text : (parts : List Part) → flat_map line_text (flat_map part_lines parts) ≡ flat_map part_text parts
parts_text [] = refl
parts_text (part ∷ parts) =
    flat_map-append line_text (part_lines part) (flat_map part_lines parts)
    ∙ ap (λ (text : List ℕ). (line_text (line.Worker part.worker) ++ text) ++ flat_map line_text (flat_map part_lines parts)) (entries_text part.entries)
    ∙ ap (λ (text : List ℕ). part_text part ++ text) (parts_text parts)

leg_text_of : (leg : Leg) → flat_map line_text (leg_lines leg) ≡ leg_text leg
leg_text_of leg =
    flat_map-append line_text (flat_map part_lines leg.parts) (line.Close leg.close ∷ [])
    ∙ ap (λ (text : List ℕ). flat_map line_text (flat_map part_lines leg.parts) ++ text) (append-nil (line_text (line.Close leg.close)))
    ∙ ap (λ (text : List ℕ). text ++ line_text (line.Close leg.close)) (parts_text leg.parts)

-- the words after the first have a space before them
join-spaced : (word : List ℕ) (words : List (List ℕ)) → join_with_byte 32 (word ∷ words) ≡ word ++ flat_map after_space words
join-spaced word [] = sym (append-nil word)
join-spaced word (next ∷ words) = ap (λ (text : List ℕ). word ++ (32 ∷ text)) (join-spaced next words)

pub line_of_effect : (effect : Effect)
    → effect_line effect ≡ ((codes "do " ++ effect.name) ++ (32 ∷ (decimal effect.op ++ flat_map after_space (argument_words effect.argument)))) ++ 10 ∷ []
line_of_effect effect =
    ap (λ (text : List ℕ). text ++ 10 ∷ []) (join-spaced (codes "do") (effect.name ∷ decimal effect.op ∷ argument_words effect.argument))

pub text_of_command : (command : Command) → item_text (item.Do command) ≡ line_text (line.Do command)
unfolding item_text
text_of_command command = append-nil (line_text (line.Do command))

pub text_of_run : (leg : Leg) → item_text (item.Run leg) ≡ line_text line.Run ++ leg_text leg
unfolding item_text
text_of_run leg = ap (λ (text : List ℕ). line_text line.Run ++ text) (leg_text_of leg)

pub text_of_end : (leg : Leg) → item_text (item.End leg) ≡ line_text line.End ++ leg_text leg
unfolding item_text
text_of_end leg = ap (λ (text : List ℕ). line_text line.End ++ text) (leg_text_of leg)
