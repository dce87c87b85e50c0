-- What the worker keeps is given.
use Rattle.std.proofs.Common.{◌≡◌, subst}
use Rattle.std.specs.Result.{IfOk}
use Rattle.amber_rows.specs.Order.{sort_rows}
use Rattle.amber_worker.specs.WorkerState.{WorkerState}
use Rattle.amber_worker.specs.Steps.{AreKeysBehind, AreKeysOf}
use Rattle.amber_worker.specs.AtPosition.{IsGivenOf}
use Rattle.amber_worker.specs.declared.given.Given.{Given}
use Rattle.amber_worker.proofs.Both.{IfOk-both}
use Rattle.amber_worker.proofs.KeptPosition.{given-is}
use Rattle.amber_worker.proofs.worker.Worker.into_given.Goals as goal

given-of : (w : WorkerState) (given : Given) → AreKeysBehind w.op w.refused (AreKeysOf w.finished w.operator_state) given.refused → given.rows ≡ sort_rows w.kept → IsGivenOf w given
given-of w given keys rows = given-is w given keys.keys keys.are keys.behind rows

pub returns : goal.returns
returns c =
    subst (λ (w : WorkerState). IfOk c.gains_given.result (IsGivenOf w)) c.self.view_is
    (IfOk-both c.gains_given.result (λ (given : Given). AreKeysBehind c.self.inside.op c.self.inside.gains.refused.items (AreKeysOf c.self.inside.finished c.self.inside.operator_state) given.refused)
    (λ (given : Given). given.rows ≡ sort_rows c.self.inside.gains.kept.items) _ (λ given keys rows. given-of _ given keys rows) c.gains_given.ensures.refused c.gains_given.ensures.rows)
