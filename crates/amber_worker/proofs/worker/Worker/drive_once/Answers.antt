-- One look, and one turn under its answer.
use Rattle.std.proofs.Common.{◌≡◌, ◌∙◌, Option, Some, None, true, refl, sym, subst}
use Rattle.std.proofs.lemmas.Bool.{false≢true}
use Rattle.amber_mail.specs.Controls.{is_pause}
use Rattle.amber_mail.specs.declared.mail.Control.{Control}
use Rattle.amber_mail.specs.declared.mail.Control.TheVariants as control
use Rattle.amber_worker.specs.Turning.{TurnsUnder}
use Rattle.amber_worker.proofs.ManyTurns.{makes-turn}
use Rattle.amber_worker.proofs.worker.Worker.drive_once.Goals as goal

-- an answer that is a pause
is-told : (told : Option Control) → is_pause told ≡ true → told ≡ Some control.Pause
is-told None is = absurd (false≢true is)
is-told (Some control.Pause) is = refl
is-told (Some control.Claim) is = absurd (false≢true is)
is-told (Some control.Return) is = absurd (false≢true is)

-- units may be dealt with
pub returns-then-deals-clause-drives : goal.returns-then-deals-clause-drives
returns-then-deals-clause-drives g c =
    let told = c.look-control.result in
    let turns = c.in_ok-turn.ensures.turned in
    record {
      told = told;
      turns = turns;
      looks = c.look-control.ensures.looks;
      pauses = c.look-control.ensures.pauses;
      plan = c.look-control.ensures.plan;
      answer = c.look-control.ensures.planned;
      makes = makes-turn told c.args.self.now c.turn.new.self c.in_ok-turn.turn c.turn.ensures.keeps c.turn.ensures.ends turns;
    }

-- it is told to pause
pub returns-then-is_pause-clause-drives : goal.returns-then-is_pause-clause-drives
returns-then-is_pause-clause-drives g c =
    let told = c.look-control.result in
    let is : told ≡ Some control.Pause = is-told told (sym c.is_pause.ensures ∙ c.if-is_pause.true) in
    let turns = subst (λ t. TurnsUnder t c.args.self.now c.turn_paused.new.self c.in_ok-turn-2.turn) (sym is) c.in_ok-turn-2.ensures.turned in
    record {
      told = told;
      turns = turns;
      looks = c.look-control.ensures.looks;
      pauses = c.look-control.ensures.pauses;
      plan = c.look-control.ensures.plan;
      answer = c.look-control.ensures.planned;
      makes = makes-turn told c.args.self.now c.turn_paused.new.self c.in_ok-turn-2.turn c.turn_paused.ensures.keeps c.turn_paused.ensures.ends turns;
    }

-- it is told nothing
pub returns-clause-drives : goal.returns-clause-drives
returns-clause-drives g c =
    let told = c.look-control.result in
    let is : told ≡ None = c.look-control.ensures.plain (sym c.may_deal-deals.ensures ∙ c.if-deals.false) (sym c.is_pause.ensures ∙ c.if-is_pause.false) in
    let turns = subst (λ t. TurnsUnder t c.args.self.now c.turn_untold.new.self c.in_ok-turn-3.turn) (sym is) c.in_ok-turn-3.ensures.turned in
    record {
      told = told;
      turns = turns;
      looks = c.look-control.ensures.looks;
      pauses = c.look-control.ensures.pauses;
      plan = c.look-control.ensures.plan;
      answer = c.look-control.ensures.planned;
      makes = makes-turn told c.args.self.now c.turn_untold.new.self c.in_ok-turn-3.turn c.turn_untold.ensures.keeps c.turn_untold.ensures.ends turns;
    }
