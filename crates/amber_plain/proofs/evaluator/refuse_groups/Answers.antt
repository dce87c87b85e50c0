-- Each key is refused.
use Rattle.std.proofs.Common.{◌∙◌, ◌++◌, ◌∷◌, [], ap, sym}
use Rattle.std.proofs.lemmas.List.{map-append}
use Rattle.std.proofs.lemmas.Result.{IfOk-from_err}
use Rattle.amber_meaning.specs.declared.answer.Refusal.TheVariants as refusal
use Rattle.amber_plain.proofs.evaluator.refuse_groups.Goals as goal

pub returns-in_err-refused : goal.returns-in_err-refused
returns-in_err-refused c = IfOk-from_err _ _ c.from_residual.ensures.0

pub returns-in_err-push : goal.returns-in_err-push
returns-in_err-push c = IfOk-from_err _ _ c.from_residual-in_err-push.ensures.0

pub loop-key-preserved : goal.loop-key-preserved
loop-key-preserved c =
    let one = refusal.Group c.args.op in
    c.in_ok-push.ensures.items ∙ ap (λ l. l ++ one c.in-Some.key ∷ []) c.loop-key.invariant ∙ sym (map-append one c.loop-key.yielded (c.in-Some.key ∷ []))
