-- A step more, or somebody is held.
use Rattle.std.proofs.Common.{refl}
use Rattle.amber_home.specs.HomeState.{alone_more}
use Rattle.amber_home.proofs.Fed.{ok-and}
use Rattle.amber_leg.proofs.Further.{further-step, moves-step}
use Rattle.amber_leg.proofs.Working.{step-alone}
use Rattle.amber_leg.proofs.rounds.step_on.Goals as goal

pub returns-clause-ok : goal.returns-clause-ok
returns-clause-ok c =
    let resumed = c.in_ok-resume.ensures.ok in
    ok-and c.home_step.result
    (λ stepped rows. further-step c.args.home.now c.resume.new.self c.home_step.new.self (alone_more c.resume.new.self.alone) c.requires.within c.requires.early resumed.only resumed.far stepped.only rows)
    c.home_step.ensures.ok c.home_step.ensures.rows

pub returns-clause-moves : goal.returns-clause-moves
returns-clause-moves c =
    let resumed = c.in_ok-resume.ensures.ok in
    ok-and c.home_step.result
    (λ moved also. moves-step c.args.home.now c.resume.new.self c.home_step.new.self (c.if-not-are_loose.ensures.loose refl) resumed.far moved c.requires.few)
    c.home_step.ensures.moves c.home_step.ensures.moves

pub returns-clause-alone : goal.returns-clause-alone
returns-clause-alone c =
    let resumed = c.in_ok-resume.ensures.ok in
    ok-and c.home_step.result
    (λ stepped moved. step-alone c.args.home.now c.resume.new.self c.home_step.new.self resumed.only resumed.far stepped.only moved)
    c.home_step.ensures.ok c.home_step.ensures.moves
