-- One field more.
use Rattle.std.proofs.Common.{◌≡◌, ◌∙◌, ◌<◌, ◌+◌, ◌++◌, ◌∷◌, [], ap, append_assoc, arith, length, sym, take}
use Rattle.std.proofs.lemmas.List.{take_more}
use Rattle.csv.specs.Records.{fields_of}
use Rattle.csv.proofs.RecordFacts.{field-get, field-there}
use Rattle.amber_cut.proofs.file_fields.append.Goals as goal

pub unreachable-requires : goal.unreachable-requires
unreachable-requires c = field-there (fields_of c.args.fields.now) c.fields.i (omega (arith, c.fields-test.true, c.len-i-end.ensures)) (sym c.in_default.ensures.value)

pub fields-preserved : goal.fields-preserved
fields-preserved c =
    let old = fields_of c.args.store.now in
    let fields = fields_of c.args.fields.now in
    let i = c.fields.i in
    let field = c.in-Some.field.now in
    let there : i < length fields = omega (arith, c.fields-test.true, c.len-i-end.ensures) in
    let next : take (i + 1) fields ≡ take i fields ++ field ∷ [] = take_more fields i [] there ∙ ap (λ f. take i fields ++ f ∷ []) (field-get fields i field (sym c.in-Some.ensures.value)) in
    let pushed : fields_of c.push_field.new.self ≡ fields_of c.fields.store ++ field ∷ [] = rw c.fields.invariant.partial at c.in_ok-push_field.ensures.fields in
    record {
      fields = pushed ∙ ap (λ fs. fs ++ field ∷ []) c.fields.invariant.fields ∙ append_assoc old (take i fields) (field ∷ []) ∙ ap (λ fs. old ++ fs) (sym next);
      partial = c.in_ok-push_field.ensures.partial;
    }
