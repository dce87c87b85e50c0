-- They have made turns, each on the board of its operator.
use Rattle.std.proofs.Common.{◌≡◌, ◌<◌, All, refl, sym, ap, subst, length, arith}
use Rattle.amber_leg.specs.Dealing.{AreBoardsOf, HaveDriven}
use Rattle.amber_leg.specs.Driving.{MayDrive, turns_of}
use Rattle.amber_leg.specs.Coordinating.{AreLedOn}
use Rattle.amber_leg.proofs.CrewTurned.{crew-turned}
use Rattle.amber_leg.proofs.Led.{back-led, leds-on}
use Rattle.amber_leg.proofs.ReadyOut.{dealt-may}
use Rattle.amber_leg.proofs.drivers.drive_crew.Goals as goal

pub returns : goal.returns
returns g c =
    let old = c.args.crew.now.workers.items in
    let long : length c.gather.new.workers.items ≡ length old = (let all = c.gather.ensures.long in let count = c.len-count.ensures in omega (arith, all, count)) in
    let owners = c.as_slice-owners.result.now in
    let all : length owners ≡ length old = (let same = ap length c.as_slice-owners.ensures.value in let all = c.in_ok-chosen.ensures.long in let count = c.len-count.ensures in omega (arith, same, all, count)) in
    let drivers : length c.deal.new.drivers ≡ c.max-wanted.result = (let all = c.in_ok-made.ensures.long in let dealt = c.deal.ensures.long in omega (arith, all, dealt)) in
    let within : All (λ owner. owner < length c.deal.new.drivers) owners =
    subst (λ n. All (λ owner. owner < n) owners) (sym drivers)
    (subst (All (λ owner. owner < c.max-wanted.result)) (sym c.as_slice-owners.ensures.value) c.in_ok-chosen.ensures.within) in
    let turned = crew-turned owners _ c.args.crew.now.boards c.in_ok-boards.boards.items old c.gather.new.workers.items c.deal.new.drivers c.drive_beside.new.drivers
    c.deal.ensures.dealt (subst (λ found. HaveDriven (turns_of c.args.budget) found c.deal.new.drivers c.drive_beside.new.drivers) c.as_slice-5.ensures.value c.drive_beside.ensures.driven)
    (c.if-has_any_failed.ensures refl) c.gather.ensures.gathered
    (subst (λ crew. AreBoardsOf c.args.crew.now.boards crew c.in_ok-boards.boards.items) c.as_slice-4.ensures.value c.in_ok-boards.ensures) long all within in
    record {
      made = record {
        all = long;
        boards = refl;
        each = λ worker there. (turned worker there).0.makes;
        own = λ worker there. (turned worker there).1;
        led = back-led c.args.crew.now.chiefs.len c.args.crew.now.boards c.in_ok-all.all.items c.args.crew.now.chiefs.items c.drive_beside.new.chiefs c.in_ok-all.ensures c.args.crew.now.chiefs.ok.0 c.requires.ready.led
            (subst (λ found. AreLedOn found c.drive_beside.new.chiefs) c.as_slice-6.ensures.value c.drive_beside.ensures.led);
      };
      counted = record { each = λ worker there. (turned worker there).0 };
    }

pub drive_beside-requires-clause-may : goal.drive_beside-requires-clause-may
drive_beside-requires-clause-may g c κs some =
    subst (λ found. All (MayDrive (turns_of c.args.budget) found) c.deal.new.drivers) (sym c.as_slice-5.ensures.value)
    (dealt-may (turns_of c.args.budget) c.as_slice-owners.result.now c.args.crew.now c.in_ok-boards.boards.items c.deal.new.drivers c.deal.ensures.dealt
    (subst (λ crew. AreBoardsOf c.args.crew.now.boards crew c.in_ok-boards.boards.items) c.as_slice-4.ensures.value c.in_ok-boards.ensures) c.requires.ready)

pub drive_beside-requires-clause-led : goal.drive_beside-requires-clause-led
drive_beside-requires-clause-led g c κs some =
    subst (λ found. AreLedOn found c.as_mut_slice.result.now) (sym c.as_slice-6.ensures.value)
    (subst (AreLedOn c.in_ok-all.all.items) (sym c.as_mut_slice.ensures.value)
    (leds-on c.args.crew.now.boards c.in_ok-all.all.items c.args.crew.now.chiefs.items c.in_ok-all.ensures c.requires.ready.led))
