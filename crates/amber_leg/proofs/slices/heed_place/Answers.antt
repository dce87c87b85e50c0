-- A worker that is told nothing does nothing.
use Rattle.std.proofs.Common.{Some, sym, subst}
use Rattle.std.specs.Option.{option_copied}
use Rattle.amber_leg.specs.Slices.{HasTurnedSo, HeedsAt, MayTurn}
use Rattle.amber_leg.proofs.Sliced.{heeds-same}
use Rattle.amber_leg.proofs.Turned.{turned-same}
use Rattle.amber_leg.proofs.slices.heed_place.Goals as goal

pub returns-in_default-told : goal.returns-in_default-told
returns-in_default-told c =
    let board = option_copied c.args.board in
    record {
      turned = subst (λ x. HasTurnedSo 0 board x (Some c.in-Some.worker)) (sym c.in-Some.is)
          (turned-same 0 board (Some c.in-Some.worker) (subst (MayTurn 0 board) c.in-Some.is c.requires.may));
      heeds = subst (λ x. HeedsAt c.args.told x (Some c.in-Some.worker)) (sym c.in-Some.is) (heeds-same c.args.told c.in-Some.worker c.in_default-told.not-Some);
    }
