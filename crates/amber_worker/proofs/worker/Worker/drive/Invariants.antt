-- So many turns were driven, and none of them stops.
use Rattle.std.proofs.Common.{◌<◌}
use Rattle.std.specs.Option.{option_copied}
use Rattle.amber_worker.specs.Counting.{IsBoardOf}
use Rattle.amber_worker.proofs.Drives.{UnderWay}
use Rattle.amber_worker.proofs.worker.Worker.drive.Given as goal

abbrev pub invariant-turns : goal.invariant-turns
invariant-turns g l =
    UnderWay l.made
    (record { worker = l.initial.self; looks = g.M.Mail.looks l.initial.mail; pauses = g.M.Mail.pauses l.initial.mail; plan = g.M.Mail.plan l.initial.mail })
    (record { worker = l.self; looks = g.M.Mail.looks l.mail; pauses = g.M.Mail.pauses l.mail; plan = g.M.Mail.plan l.mail })
    l.last
    × IsBoardOf (option_copied l.initial.board) l.self.seat
    × (0 < l.unsent)
