-- Turns of a drive that nobody hears.
use Rattle.std.proofs.Common.{arith}
use Rattle.amber_leg.proofs.Sliced.{counted-drive, drives-most}
use Rattle.amber_leg.proofs.slices.drive_silent.Goals as goal

pub returns-clause-made : goal.returns-clause-made
returns-clause-made g c =
    let drove = c.in_ok-drove.ensures in
    let driven = drove.drives.driven in
    counted-drive _ c.args.turns c.args.worker.now c.drive.new.self c.requires.fits drove.within drove.some drove.counts
    (drives-most drove.drives.turns c.args.turns _ _ _ _ c.args.worker.now c.drive.new.self driven.looks driven.pauses (omega (arith, drove.within, drove.drives.tells.turns_made)) drove.makes)
