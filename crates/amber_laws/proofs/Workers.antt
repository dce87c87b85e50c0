-- The sequential answer asks for no number of workers.
use Rattle.std.proofs.Common.{◌≡◌, ℕ, ◌+◌, Option, Some, None, option_map, List, [], ◌∷◌, ◌++◌, length, map, Result, refl, sym, ◌∙◌, ap}
use Rattle.std.proofs.lemmas.List.{length-map}
use Rattle.amber_rows.specs.Lists.{nth, first_list, later_of}
use Rattle.amber_rows.specs.Columns.{columns_at, schema_of}
use Rattle.amber_rows.specs.declared.record.RowFault.{RowFault}
use Rattle.amber_rows.specs.declared.value.Value.{Value}
use Rattle.amber_rows.specs.declared.flow.Operator.{Operator}
use Rattle.amber_meaning.specs.Plain.{answer_from, answer_of, files_after, outputs, records_of, refusals}
use Rattle.amber_meaning.specs.Kinds.{refused_by, rows_of}
use Rattle.amber_laws.proofs.Suited.{numbered_map}
use Rattle.amber_laws.specs.AnswerLaws.{WorkersChangeNoAnswer, with_one_worker}

abbrev Records : Type 0
Records = List (List (Result (List Value) RowFault))

abbrev Lists : Type 0
Lists = List (List (List Value))

records_same : (files : List (List ℕ)) (flow : List Operator) → records_of files (map with_one_worker flow) ≡ records_of files flow
unfolding records_of
records_same files [] = refl
records_same files (operator ∷ flow) = rw (records_same (files_after operator.what files) flow) refl

outputs_same : (records : Records) (done : Lists) (flow : List Operator) → outputs records done (map with_one_worker flow) ≡ outputs records done flow
unfolding outputs
outputs_same records done [] = refl
outputs_same records done (operator ∷ flow) =
    outputs_same (later_of records) (done ++ rows_of operator.what (first_list records) done ∷ []) flow

refusals_same : (op : ℕ) (records : Records) (done : Lists) (flow : List Operator) → refusals op records done (map with_one_worker flow) ≡ refusals op records done flow
unfolding refusals
refusals_same op records done [] = refl
refusals_same op records done (operator ∷ flow) =
    ap (λ later. refused_by op operator.what (first_list records) done ++ later) (refusals_same (op + 1) (later_of records) done flow)

schema_same : (o : Option Operator) → schema_of (option_map with_one_worker o) ≡ schema_of o
schema_same None = refl
schema_same (Some operator) = refl

columns_same : (flow : List Operator) (op : ℕ) → columns_at (map with_one_worker flow) op ≡ columns_at flow op
columns_same flow op = ap schema_of (numbered_map with_one_worker flow op) ∙ schema_same (nth flow op)

answer_same : (flow : List Operator) (files : List (List ℕ)) → answer_of (map with_one_worker flow) files ≡ answer_of flow files
unfolding answer_of answer_from
answer_same flow files =
    let records = records_of files flow in
    rw (records_same files flow, outputs_same records [] flow, refusals_same 1 records (outputs records [] flow) flow, length-map flow with_one_worker, columns_same flow (length flow)) refl

pub workers_change_no_answer : WorkersChangeNoAnswer
workers_change_no_answer flow other files e = sym (answer_same flow files) ∙ ap (λ operators. answer_of operators files) e ∙ answer_same other files
