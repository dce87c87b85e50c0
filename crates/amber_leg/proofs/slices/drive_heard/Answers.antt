-- Turns of a drive, and what was told.
use Rattle.std.proofs.Common.{arith}
use Rattle.amber_leg.proofs.Sliced.{counted-drive, counted-heeds, drives-most}
use Rattle.amber_leg.proofs.slices.drive_heard.Goals as goal

pub returns-then-branch-clause-made : goal.returns-then-branch-clause-made
returns-then-branch-clause-made g c =
    let drove = c.in_ok-drove.ensures in
    let driven = drove.drives.driven in
    let looked = c.in_ok-heed_told.ensures.heeds in
    counted-heeds c.args.turns looked.told c.args.worker.now c.drive.new.self c.heed_told.new.worker c.requires.fits
    (counted-drive _ c.args.turns c.args.worker.now c.drive.new.self c.requires.fits drove.within drove.some drove.counts
    (drives-most drove.drives.turns c.args.turns _ _ _ _ c.args.worker.now c.drive.new.self driven.looks driven.pauses (omega (arith, drove.within, drove.drives.tells.turns_made)) drove.makes))
    looked.heeds

pub returns-clause-made : goal.returns-clause-made
returns-clause-made g c =
    let drove = c.in_ok-drove.ensures in
    let driven = drove.drives.driven in
    let looked = c.in_ok-heed_told.ensures.heeds in
    counted-heeds c.args.turns looked.told c.args.worker.now c.drive.new.self c.heed_told.new.worker c.requires.fits
    (counted-drive _ c.args.turns c.args.worker.now c.drive.new.self c.requires.fits drove.within drove.some drove.counts
    (drives-most drove.drives.turns c.args.turns _ _ _ _ c.args.worker.now c.drive.new.self driven.looks driven.pauses (omega (arith, drove.within, drove.drives.tells.turns_made)) drove.makes))
    looked.heeds

pub returns-then-branch-clause-heeds : goal.returns-then-branch-clause-heeds
returns-then-branch-clause-heeds g c =
    let drove = c.in_ok-drove.ensures in
    let driven = drove.drives.driven in
    record {
      before = c.note_stand.new.self.ring;
      between = c.drive.new.self;
      drives = counted-drive _ c.args.turns c.args.worker.now c.drive.new.self c.requires.fits drove.within drove.some drove.counts
          (drives-most drove.drives.turns c.args.turns _ _ _ _ c.args.worker.now c.drive.new.self driven.looks driven.pauses (omega (arith, drove.within, drove.drives.tells.turns_made)) drove.makes);
      heeds = c.in_ok-heed_told.ensures.heeds;
    }

pub returns-clause-heeds : goal.returns-clause-heeds
returns-clause-heeds g c =
    let drove = c.in_ok-drove.ensures in
    let driven = drove.drives.driven in
    record {
      before = c.note_stand.new.self.ring;
      between = c.drive.new.self;
      drives = counted-drive _ c.args.turns c.args.worker.now c.drive.new.self c.requires.fits drove.within drove.some drove.counts
          (drives-most drove.drives.turns c.args.turns _ _ _ _ c.args.worker.now c.drive.new.self driven.looks driven.pauses (omega (arith, drove.within, drove.drives.tells.turns_made)) drove.makes);
      heeds = c.in_ok-heed_told.ensures.heeds;
    }
