use Rattle.std.proofs.lemmas.Result.{err_from_is_err_and}
use Rattle.serde_json.specs.Find.{as_str}
use Rattle.amber_rows.specs.Chain.{each}
use Rattle.amber_flow.proofs.ReadFacts.{ok_or-some, ok_or-then}
use Rattle.amber_flow.proofs.fields.texts_field.Goals as goal

pub returns : goal.returns
returns c =
    let found = ok_or-some _ _ _ c.in_ok-list_field.ensures in
    rw found c.read_texts.ensures

pub returns-in_err-list_field : goal.returns-in_err-list_field
returns-in_err-list_field c =
    let p = err_from_is_err_and c.from_residual.result c.from_residual.ensures.1 in
    rw (p.1, p.2) (ok_or-then (each as_str) _ _ c.in_err-list_field.field-0.0 c.in_err-list_field.ensures)
