-- So many rounds have made as many steps, but where somebody is held.
use Rattle.std.proofs.Common.{◌≤◌}
use Rattle.amber_meaning.specs.State.{steps_in}
use Rattle.amber_home.specs.HomeState.{state_of}
use Rattle.amber_leg.specs.Leg.{GoesFurther}
use Rattle.amber_leg.proofs.Further.{HaveMoved}
use Rattle.amber_leg.proofs.Working.{HasWorked}
use Rattle.amber_leg.proofs.rounds.go_rounds.Given as goal

abbrev pub invariant-rounds : goal.invariant-rounds
invariant-rounds g l = record {
  further : GoesFurther l.initial.home l.home;
  few : steps_in (state_of l.home) ≤ l.initial.home.most;
  moved : HaveMoved l.number l.initial.home l.home;
  worked : HasWorked l.number l.initial.home l.home;
}
