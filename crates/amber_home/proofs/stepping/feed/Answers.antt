-- A worker that needs a unit gets all that are left.
use Rattle.amber_home.proofs.Fed.{ok-and}
use Rattle.amber_home.proofs.Ready.{targets-still}
use Rattle.amber_home.proofs.stepping.feed.Goals as goal

pub returns-clause-counted : goal.returns-clause-counted
returns-clause-counted c =
    ok-and c.hand_out.result
    (λ counted targets. record { counted = counted; targets = targets-still c.args.arms.now c.args.boards.now c.hand_out.new.self targets c.requires.counted.targets })
    c.hand_out.ensures.counted c.hand_out.ensures.targets
