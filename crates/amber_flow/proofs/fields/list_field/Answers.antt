use Rattle.std.proofs.Common.{◌≡◌, Bor, Global, List, Option, Vec, ok_or, option_and_then, option_map, rules, ap, ◌∙◌}
use Rattle.std.proofs.lemmas.Result.{err_from_is_err_and}
use Rattle.serde_json.specs.Data.{Data}
use Rattle.serde_json.specs.Find.{as_array, get}
use Rattle.serde_json.specs.View.{items_view, view}
use Rattle.serde_json.specs.declared.value.Value.{Value}
use Rattle.amber_flow.specs.Fields.{array_at, values_of}
use Rattle.amber_flow.specs.declared.error.FlowWhy.TheVariants.{Shape}
use Rattle.amber_flow.proofs.ListFacts.{values-found}
use Rattle.amber_flow.proofs.ReadFacts.{ok_or-none}
use Rattle.amber_flow.proofs.fields.list_field.Goals as goal

pub returns : goal.returns
returns c =
    let items : option_map (λ (list : Bor (Vec Value Global)). items_view list.now.items) c.and_then.result ≡ option_and_then as_array (get c.args.key.now (view c.args.object.now)) = search rules in
    let found = values-found (λ (list : Bor (Vec Value Global)). list.now.items) c.and_then.result ∙ ap (option_map values_of) items in
    let here = rw c.in_ok-list.ensures.ok_part at found in
    rw c.as_slice.ensures.value (ap (λ (list : Option (List Data)). ok_or list Shape) here)

pub returns-in_err-list : goal.returns-in_err-list
returns-in_err-list c =
    let items : option_map (λ (list : Bor (Vec Value Global)). items_view list.now.items) c.and_then.result ≡ option_and_then as_array (get c.args.key.now (view c.args.object.now)) = search rules in
    let found = values-found (λ (list : Bor (Vec Value Global)). list.now.items) c.and_then.result ∙ ap (option_map values_of) items in
    let p = err_from_is_err_and c.from_residual.result c.from_residual.ensures.1 in
    rw (p.1, p.2) (ok_or-none c.and_then.result (array_at c.args.key.now (view c.args.object.now)) Shape c.in_err-list.field-0.0 c.in_err-list.ensures.ok_part c.in_err-list.ensures.value (rw c.in_err-list.ensures.ok_part at found))
