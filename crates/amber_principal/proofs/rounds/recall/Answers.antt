-- One worker more is swept, or is starved.
use Rattle.std.proofs.Common.{◌∷◌, if◌then◌else◌, List, slice_index_or, sym, ap, ◌∙◌}
use Rattle.amber_board.specs.declared.view.Step.{Step}
use Rattle.amber_board.specs.declared.view.Step.TheVariants.{Draw, Sweep}
use Rattle.amber_board.specs.declared.view.View.{View}
use Rattle.amber_board.specs.Seats.{chief_view}
use Rattle.amber_principal.specs.Shares.{is_in_need}
use Rattle.amber_principal.specs.declared.dividing.Need.TheVariants as need
use Rattle.amber_principal.proofs.Steps.{sweeps_more, sweeps_none}
use Rattle.amber_principal.proofs.rounds.recall.Goals as goal

pub loop-worker-init : goal.loop-worker-init
loop-worker-init c = (
  c.draw.ensures.own,
  ap (λ (v : View). v.seen) c.draw.ensures.drew.1,
  ap (λ (v : View). v.done) c.draw.ensures.drew.1 ∙ sym (sweeps_none c.args.needs.now (Draw ∷ (chief_view c.args.seat.now).done)),
)

pub loop-worker-preserved : goal.loop-worker-preserved
loop-worker-preserved c =
    let invariant = c.loop-worker.invariant in
    let w = c.loop-worker.worker in (
      c.sweep_other.ensures.own,
      c.sweep_other.ensures.seen ∙ invariant.1,
      c.sweep_other.ensures.steps ∙ ap (λ (steps : List Step). if is_in_need (slice_index_or c.args.needs.now w need.Absent) then steps else Sweep w ∷ steps) invariant.2
          ∙ sym (sweeps_more c.args.needs.now (Draw ∷ (chief_view c.args.seat.now).done) w),
    )
