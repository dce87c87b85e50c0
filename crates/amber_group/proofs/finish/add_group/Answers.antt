-- A group with a row adds it, and one without adds its key.
use Rattle.std.proofs.Common.{◌≡◌, ◌∙◌, ◌++◌, ◌∷◌, [], List, None, Option, Some, ap, option_map, sym}
use Rattle.std.specs.List.{cons_option}
use Rattle.std.proofs.lemmas.List.{append-nil}
use Rattle.amber_rows.specs.Operators.{key_if_none}
use Rattle.amber_rows.specs.declared.value.Value.{Value}
use Rattle.amber_keys.proofs.Answers.{appended}
use Rattle.amber_group.specs.Finished.{aggregate_values, finished_row}
use Rattle.amber_group.proofs.finish.add_group.Goals as goal

pub returns-in_ok-push-in-Some : goal.returns-in_ok-push-in-Some
returns-in_ok-push-in-Some c =
    let key = c.args.key.now in
    let rows = c.args.rows.now.items in
    let refused = c.args.refused.now.items in
    let copied = appended c.in_ok-cells.cells.items c.extend_from_slice.new.self.items c.get.result.now c.in_ok-extend_from_slice.ensures.items in
    let made = copied ∙ (λ i. c.in_ok-cells.ensures.items i ++ c.get.ensures i) in
    let row : Some c.in-Some.cells.items ≡ finished_row (key, c.args.runnings.now) = (rw c.in-Some.is at c.in_ok-cells-2.ensures)
    ∙ ap (λ (cells : List Value). option_map (λ values. cells ++ values) (aggregate_values c.args.runnings.now)) made in
    record {
      rows = c.in_ok-push-in-Some.ensures.items ∙ ap (λ (made : List Value). rows ++ made ∷ []) c.new.ensures ∙ ap (λ (found : Option (List Value)). rows ++ cons_option found []) row;
      refused = sym (ap (λ (found : Option (List Value)). refused ++ cons_option (key_if_none key found) []) (sym row) ∙ append-nil refused);
    }

pub returns-in_ok-push-in-None : goal.returns-in_ok-push-in-None
returns-in_ok-push-in-None c =
    let key = c.args.key.now in
    let rows = c.args.rows.now.items in
    let refused = c.args.refused.now.items in
    let copied = appended c.in_ok-cells.cells.items c.extend_from_slice.new.self.items c.get.result.now c.in_ok-extend_from_slice.ensures.items in
    let made = copied ∙ (λ i. c.in_ok-cells.ensures.items i ++ c.get.ensures i) in
    let row : None ≡ finished_row (key, c.args.runnings.now) = (rw c.in-None.is at c.in_ok-cells-2.ensures)
    ∙ ap (λ (cells : List Value). option_map (λ values. cells ++ values) (aggregate_values c.args.runnings.now)) made in
    record {
      rows = sym (ap (λ (found : Option (List Value)). rows ++ cons_option found []) (sym row) ∙ append-nil rows);
      refused = c.in_ok-push-in-None.ensures.items ∙ ap (λ (copy : List Value). refused ++ copy ∷ []) c.in_ok-clone-in-None.ensures.cases
          ∙ ap (λ (found : Option (List Value)). refused ++ cons_option (key_if_none key found) []) row;
    }
