-- The keys stand at the end.
use Rattle.std.proofs.lemmas.Result.{IfOk-weaker}
use Rattle.amber_worker.proofs.worker.views.gains_given.Goals as goal

pub returns-clause-refused : goal.returns-clause-refused
returns-clause-refused c =
    IfOk-weaker c.given_of.result _ _ (λ given behind. record { keys = c.in_ok-keys.keys.items; are = c.in_ok-keys.ensures; behind = behind }) c.given_of.ensures.refused

pub returns-clause-rows : goal.returns-clause-rows
returns-clause-rows c = c.given_of.ensures.rows
