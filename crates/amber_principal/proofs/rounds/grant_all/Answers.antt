-- One worker more has its share.
use Rattle.std.proofs.Common.{◌<◌, ◌∷◌, ◌==◌, if◌then◌else◌, List, length, slice_index, refl, sym, ap, ◌∙◌, arith}
use Rattle.amber_board.specs.declared.view.Step.{Step}
use Rattle.amber_board.specs.declared.view.Step.TheVariants.{Grant}
use Rattle.amber_board.specs.Seats.{chief_view}
use Rattle.amber_principal.proofs.Steps.{grants_more, grants_none, left_less}
use Rattle.amber_principal.proofs.rounds.grant_all.Goals as goal

pub loop-worker-init : goal.loop-worker-init
loop-worker-init c = (c.requires.own, refl, c.requires.all, sym (grants_none c.args.shares.now (chief_view c.args.seat.now).done))

pub loop-worker-preserved : goal.loop-worker-preserved
loop-worker-preserved c =
    let invariant = c.loop-worker.invariant in
    let w = c.loop-worker.worker in
    let less : w < length c.args.shares.now = omega (arith, c.told-shares, c.loop-worker-test.true, c.requires.workers.1) in (
      c.grant_share.ensures.own,
      c.grant_share.ensures.seen ∙ invariant.1,
      left_less c.args.shares.now w (chief_view c.loop-worker.seat).hand less invariant.2 ∙ sym c.grant_share.ensures.hand,
      c.grant_share.ensures.steps
          ∙ ap (λ (steps : List Step). if slice_index c.args.shares.now w == 0 then steps else Grant w (slice_index c.args.shares.now w) ∷ steps) invariant.3
          ∙ sym (grants_more c.args.shares.now (chief_view c.args.seat.now).done w),
    )
