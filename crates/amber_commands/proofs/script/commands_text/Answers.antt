-- The lines of all items are those of all commands.
use Rattle.std.proofs.Common.{ap, ◌∙◌}
use Rattle.std.specs.List.{flat_map}
use Rattle.std.proofs.lemmas.List.{take_all}
use Rattle.amber_report.specs.Scripts.{script_line}
use Rattle.amber_commands.specs.Commands.{commands_in, commands_text}
use Rattle.amber_commands.proofs.Texting.{each-in-turn}
use Rattle.amber_commands.proofs.script.commands_text.Goals as goal

pub returns : goal.returns
unfolding commands_text
returns c =
    let items = c.args.items.now in
    c.new.ensures ∙ c.loop-item.invariant
    ∙ ap (flat_map (λ item. flat_map (script_line c.args.flow.now) (commands_in item))) (take_all c.loop-item.item-index items c.loop-item-test.false)
    ∙ each-in-turn (script_line c.args.flow.now) commands_in items
