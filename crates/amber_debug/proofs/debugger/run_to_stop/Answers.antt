-- The stops are told after the leg.
use Rattle.std.proofs.Common.{None}
use Rattle.amber_debug.proofs.Homes.{runs-stop}
use Rattle.amber_debug.proofs.debugger.run_to_stop.Goals as goal

pub returns-clause-runs : goal.returns-clause-runs
returns-clause-runs g c =
    runs-stop c.args.home.now c.leg_text.new.home (record { item = c.in_ok-item.item; reply = c.in_ok-reply.reply; rows = None }) c.flow.result.now c.in_ok-stops.stops
    c.in_ok-item.ensures.told c.flow.ensures c.in_ok-stops.ensures.stops c.in_ok-reply.ensures
