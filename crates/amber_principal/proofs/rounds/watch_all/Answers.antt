-- One worker more is watched.
use Rattle.std.proofs.Common.{◌∷◌, List, refl, sym, ap, ◌∙◌}
use Rattle.amber_board.specs.declared.view.Step.{Step}
use Rattle.amber_board.specs.declared.view.Step.TheVariants.{Watch}
use Rattle.amber_board.specs.declared.view.View.{View}
use Rattle.amber_board.specs.Seats.{chief_view}
use Rattle.amber_principal.proofs.Steps.{watches_more, watches_none}
use Rattle.amber_principal.proofs.rounds.watch_all.Goals as goal

pub loop-worker-init : goal.loop-worker-init
loop-worker-init c = (c.requires.own, refl, sym (watches_none (chief_view c.args.seat.now).done))

pub loop-worker-preserved : goal.loop-worker-preserved
loop-worker-preserved c =
    let invariant = c.loop-worker.invariant in
    let w = c.loop-worker.worker in (
      c.watch.ensures.own,
      ap (λ (v : View). v.hand) c.watch.ensures.watched ∙ invariant.1,
      ap (λ (v : View). v.done) c.watch.ensures.watched ∙ ap (λ (steps : List Step). Watch w ∷ steps) invariant.2
          ∙ sym (watches_more (chief_view c.args.seat.now).done w),
    )
