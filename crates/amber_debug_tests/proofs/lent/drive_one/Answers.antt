-- A drive makes no more turns than it was asked for.
use Rattle.std.proofs.Common.{◌≡◌, ◌+◌, ◌-◌, ◌≤◌, count_by, length, arith}
use Rattle.std.proofs.lemmas.List.Sums.{count_by-le-length}
use Rattle.amber_mail.specs.Controls.{is_pause}
use Rattle.amber_worker.specs.Driving.{Driven}
use Rattle.amber_worker.proofs.ManyTurns.{makes-more}
use Rattle.amber_debug_tests.proofs.lent.drive_one.Goals as goal

pub returns-clause-made : goal.returns-clause-made
returns-clause-made c =
    let drove = c.in_ok-_drove.ensures in
    let turns = drove.drives.turns in
    let pauses = count_by (λ (one : Driven). is_pause one.told) turns in
    let few : pauses ≤ length turns = count_by-le-length (λ (one : Driven). is_pause one.told) turns in
    makes-more (length turns - pauses) 40 _ _
    (omega (arith, few, drove.within, drove.drives.tells.turns_made))
    (drove.makes (length turns - pauses) (omega (arith, few, drove.drives.driven.looks, drove.drives.driven.pauses)))
