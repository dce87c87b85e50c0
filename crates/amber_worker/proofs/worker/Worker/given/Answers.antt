-- Copies are given.
use Rattle.std.proofs.Common.{◌≡◌, ◌++◌, List, map, ap, ◌∙◌, subst}
use Rattle.std.proofs.lemmas.List.{map-id}
use Rattle.std.proofs.lemmas.Slice.Zip.{AllZip-map}
use Rattle.std.specs.List.{AllZip}
use Rattle.amber_worker.proofs.Both.{IfOk-both}
use Rattle.amber_rows.specs.Order.{sort_rows}
use Rattle.amber_meaning.specs.declared.answer.Refusal.TheVariants as refusal
use Rattle.amber_worker.specs.WorkerState.{WorkerState}
use Rattle.amber_worker.specs.Steps.{AreKeysOf}
use Rattle.amber_worker.proofs.KeptPosition.{given-is}
use Rattle.amber_worker.proofs.worker.Worker.given.Goals as goal

copies-same : {A : Type 0} (items copies : List A) → AllZip (λ one copy. copy ≡ one) items copies → copies ≡ items
copies-same items copies all = AllZip-map (λ one. one) items copies all ∙ map-id items

pub returns : goal.returns
returns c =
    let keys = c.in_ok-keys.keys.items in
    let refused_are : c.in_ok-refused.refused.items ≡ c.self.inside.gains.refused.items = copies-same _ _ c.in_ok-refused.ensures.cases.0 in
    let kept_are : c.in_ok-kept.kept.items ≡ c.self.inside.gains.kept.items = copies-same _ _ c.in_ok-kept.ensures.cases.0 in
    IfOk-both c.given_of.result _ _ _
    (λ given refused rows. given-is c.args.self.now given keys (subst (λ (w : WorkerState). AreKeysOf w.finished w.operator_state keys) c.self.view_is c.in_ok-keys.ensures)
    (refused ∙ ap (λ l. l ++ map (refusal.Group c.self.inside.op) (sort_rows keys)) refused_are
    ∙ ap (λ (w : WorkerState). w.refused ++ map (refusal.Group w.op) (sort_rows keys)) c.self.view_is)
    (rows ∙ ap sort_rows kept_are ∙ ap (λ (w : WorkerState). sort_rows w.kept) c.self.view_is))
    c.given_of.ensures.refused c.given_of.ensures.rows
