-- Turn after turn.
use Rattle.std.proofs.Common.{◌≡◌, ◌+◌, ◌∙◌, Some, refl, sym, subst, arith}
use Rattle.std.specs.Option.{option_copied}
use Rattle.amber_worker.specs.Counting.{IsBoardOf}
use Rattle.amber_worker.specs.Driving.{CountsTurns, HasSent, with_turns}
use Rattle.amber_worker.specs.WorkerState.{WorkerState}
use Rattle.amber_worker.proofs.Drives.{begins, breaks-calm, breaks-makes, breaks-off, counts-all, counts-turns, drives-more, goes-on, steps-within, tells-all, way-sent}
use Rattle.amber_worker.proofs.worker.Worker.drive.Goals as goal

pub turns-init : goal.turns-init
turns-init g c = (begins _, c.requires.own, omega arith)

pub drive_once-requires-clause-few : goal.drive_once-requires-clause-few
drive_once-requires-clause-few g c = let within = steps-within c.turns.made _ _ c.turns.last c.turns.invariant.0.reached in omega arith

pub turns-preserved : goal.turns-preserved
turns-preserved g c =
    let once = c.in-Ok.ensures.drives in
    let way = goes-on c.turns.made _ _ _ c.turns.last c.in-Ok.turn c.turns.invariant.0 once (sym c.stops.ensures ∙ c.if-stops.false) in (
      way-sent (c.turns.made + 1) _ _ _ (Some c.in-Ok.turn) way c.send_after-unsent.ensures.sends c.note.ensures.looks c.note.ensures.pauses c.note.ensures.plan,
      subst (λ (w : WorkerState). IsBoardOf (option_copied c.args.board) w.seat) (sym c.send_after-unsent.ensures.sends.only) c.in-Ok.ensures.own,
      c.send_after-unsent.ensures.some,
    )

-- ---- memory runs out

pub returns-in-Err-clause-breaks : goal.returns-in-Err-clause-breaks
returns-in-Err-clause-breaks g c = breaks-off c.turns.made _ _ _ _ c.turns.last c.turns.invariant.0 c.in-Err.ensures.breaks c.count_turns.ensures

pub returns-in-Err-clause-makes : goal.returns-in-Err-clause-makes
returns-in-Err-clause-makes g c = breaks-makes c.turns.made _ _ _ _ c.turns.last c.turns.invariant.0 c.in-Err.ensures.breaks c.count_turns.ensures

pub returns-in-Err-clause-calm : goal.returns-in-Err-clause-calm
returns-in-Err-clause-calm g c = breaks-calm c.turns.made _ _ _ _ c.turns.last c.turns.invariant.0 c.in-Err.ensures.breaks c.count_turns.ensures

-- ---- a turn stops

pub returns-then-stops-clause-drives : goal.returns-then-stops-clause-drives
returns-then-stops-clause-drives g c =
    let more = drives-more c.turns.made _ _ _ c.turns.last c.in-Ok.turn c.turns.invariant.0 c.in-Ok.ensures.drives in
    tells-all (c.turns.made + 1) _ _ (Some c.in-Ok.turn) _
    (counts-all (c.turns.made + 1) _ _ _ (Some c.in-Ok.turn) more c.end_drive.ensures.sends c.note.ensures.looks c.note.ensures.pauses c.note.ensures.plan) c.end_drive.ensures.turns c.end_drive.ensures.last

pub returns-then-stops-clause-makes : goal.returns-then-stops-clause-makes
returns-then-stops-clause-makes g c =
    let more = drives-more c.turns.made _ _ _ c.turns.last c.in-Ok.turn c.turns.invariant.0 c.in-Ok.ensures.drives in
    (counts-all (c.turns.made + 1) _ _ _ (Some c.in-Ok.turn) more c.end_drive.ensures.sends c.note.ensures.looks c.note.ensures.pauses c.note.ensures.plan).makes

pub returns-then-stops-clause-counts : goal.returns-then-stops-clause-counts
returns-then-stops-clause-counts g c =
    let more = drives-more c.turns.made _ _ _ c.turns.last c.in-Ok.turn c.turns.invariant.0 c.in-Ok.ensures.drives in
    subst (λ made. CountsTurns made c.args.self.now c.end_drive.new.self) (sym c.end_drive.ensures.turns)
    (counts-turns (c.turns.made + 1) _ _ (Some c.in-Ok.turn)
    (counts-all (c.turns.made + 1) _ _ _ (Some c.in-Ok.turn) more c.end_drive.ensures.sends c.note.ensures.looks c.note.ensures.pauses c.note.ensures.plan))

-- ---- all were driven

pub returns-clause-drives : goal.returns-clause-drives
returns-clause-drives g c =
    let made : c.end_drive-2.result.turns ≡ c.turns.made = omega (arith, c.end_drive-2.ensures.turns) in
    tells-all c.turns.made _ _ c.turns.last _ (counts-all c.turns.made _ _ _ c.turns.last c.turns.invariant.0.reached (subst (λ n. HasSent (with_turns n c.turns.self) c.end_drive-2.new.self) (omega arith) c.end_drive-2.ensures.sends) refl refl refl) made c.end_drive-2.ensures.last

pub returns-clause-makes : goal.returns-clause-makes
returns-clause-makes g c = (counts-all c.turns.made _ _ _ c.turns.last c.turns.invariant.0.reached (subst (λ n. HasSent (with_turns n c.turns.self) c.end_drive-2.new.self) (omega arith) c.end_drive-2.ensures.sends) refl refl refl).makes

pub returns-clause-counts : goal.returns-clause-counts
returns-clause-counts g c =
    let made : c.turns.made ≡ c.end_drive-2.result.turns = omega (arith, c.end_drive-2.ensures.turns) in
    subst (λ made. CountsTurns made c.args.self.now c.end_drive-2.new.self) made
    (counts-turns c.turns.made _ _ c.turns.last (counts-all c.turns.made _ _ _ c.turns.last c.turns.invariant.0.reached (subst (λ n. HasSent (with_turns n c.turns.self) c.end_drive-2.new.self) (omega arith) c.end_drive-2.ensures.sends) refl refl refl))
