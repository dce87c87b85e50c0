-- The leg stands in the log.
use Rattle.std.proofs.Common.{subst, ap, ◌∙◌}
use Rattle.amber_log.specs.declared.leg.Close.TheVariants as close
use Rattle.amber_home.specs.HomeState.{ClosesIn, query_of, runs_to_end, state_of, with_closed_leg}
use Rattle.amber_leg.proofs.Closing.{leg-closes}
use Rattle.amber_leg.proofs.legs.leg.Goals as goal

pub returns-in-Cut : goal.returns-in-Cut
returns-in-Cut g c =
    let closed = c.in_ok-close_leg.ensures in
    let ran = c.drive_leg.new.home in
    record {
      ends = leg-closes c.args.to_end c.args.home.now c.open_leg.new.self ran c.close_leg.new.self close.Cut c.open_leg.ensures.opens c.open_leg.ensures.begins c.in_ok-close.ensures.drives
          (closed.ok ∙ ap (with_closed_leg ran) c.in-Cut.is) (subst (ClosesIn (runs_to_end ran.phase) (query_of ran) (state_of ran)) c.in-Cut.is closed.so);
    }

pub returns-in-Long : goal.returns-in-Long
returns-in-Long g c =
    let closed = c.in_ok-close_leg.ensures in
    let ran = c.drive_leg.new.home in
    record {
      ends = leg-closes c.args.to_end c.args.home.now c.open_leg.new.self ran c.close_leg.new.self close.Long c.open_leg.ensures.opens c.open_leg.ensures.begins c.in_ok-close.ensures.drives
          (closed.ok ∙ ap (with_closed_leg ran) c.in-Long.is) (subst (ClosesIn (runs_to_end ran.phase) (query_of ran) (state_of ran)) c.in-Long.is closed.so);
    }
