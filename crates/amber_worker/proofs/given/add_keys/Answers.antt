-- One key more is refused.
use Rattle.std.proofs.Common.{◌∙◌, ◌++◌, ◌∷◌, [], ap, append-nil, append_assoc, map, sym}
use Rattle.std.proofs.lemmas.List.{map-append}
use Rattle.amber_meaning.specs.declared.answer.Refusal.TheVariants as refusal
use Rattle.amber_worker.proofs.given.add_keys.Goals as goal

pub loop-key-init : goal.loop-key-init
loop-key-init c = sym (append-nil c.args.refused.now.items)

pub loop-key-preserved : goal.loop-key-preserved
loop-key-preserved c =
    let old = c.args.refused.now.items in
    let group = refusal.Group c.args.op in
    let key = c.in-Some.key in
    c.in_ok-push.ensures.items ∙ ap (λ l. l ++ group key ∷ []) c.loop-key.invariant ∙ append_assoc old (map group c.loop-key.yielded) (group key ∷ [])
    ∙ ap (λ l. old ++ l) (sym (map-append group c.loop-key.yielded (key ∷ [])))
