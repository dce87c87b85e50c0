-- The leg was driven.
use Rattle.std.proofs.Common.{ap, ◌∙◌}
use Rattle.amber_home.specs.HomeState.{HomeState, runs_to_end}
use Rattle.amber_home.specs.declared.phase.Counts.TheVariants.{Armed}
use Rattle.amber_home.specs.declared.phase.Phase.TheVariants as phase
use Rattle.amber_leg.proofs.Further.{drives-leg, if-none, undriven-armed}
use Rattle.amber_leg.proofs.legs.drive_leg.Goals as goal

pub returns-clause-drives : goal.returns-clause-drives
returns-clause-drives g c =
    let looked = c.in_ok-close.ensures in
    drives-leg c.args.home.now c.arm_leg.new.self c.go_rounds.new.home c.disarm_leg.new.self c.requires.within
    (c.in_ok-arm_leg.ensures.ok ∙ ap (λ (h : HomeState). record h { phase = phase.Open (runs_to_end h.phase) Armed }) looked.same)
    (if-none c.in_ok-close.field-0 c.in_default.not-Some looked.none) (if-none c.in_ok-close.field-0 c.in_default.not-Some looked.early) c.in_ok-close-2.ensures.ok c.in_ok-close-2.ensures.driven c.disarm_leg.ensures

pub go_rounds-requires-clause-undriven : goal.go_rounds-requires-clause-undriven
go_rounds-requires-clause-undriven g c κs within =
    undriven-armed c.args.home.now c.arm_leg.new.self Armed
    (c.in_ok-arm_leg.ensures.ok ∙ ap (λ (h : HomeState). record h { phase = phase.Open (runs_to_end h.phase) Armed }) c.in_ok-close.ensures.same) c.requires.undriven
