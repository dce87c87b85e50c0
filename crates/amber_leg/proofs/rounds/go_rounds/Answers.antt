-- A round more has moved the leg on.
use Rattle.std.proofs.Common.{ap, arith}
use Rattle.amber_home.specs.HomeState.{HomeState}
use Rattle.amber_leg.proofs.Further.{further-then, if-none, moved-more}
use Rattle.amber_leg.proofs.Working.{worked-more}
use Rattle.amber_leg.proofs.rounds.go_rounds.Goals as goal

pub returns-in-Some-clause-ok : goal.returns-in-Some-clause-ok
returns-in-Some-clause-ok g c =
    further-then c.args.home.now c.rounds.home c.go_on.new.home c.rounds.invariant.further c.in_ok-close.ensures.ok

pub rounds-preserved : goal.rounds-preserved
rounds-preserved g c =
    let before = c.rounds.invariant in
    let went = c.in_ok-close.ensures in
    let moves = if-none c.in_ok-close.field-0 c.in_default.not-Some went.moves in
    let works = if-none c.in_ok-close.field-0 c.in_default.not-Some went.works in
    record {
      further = further-then c.args.home.now c.rounds.home c.go_on.new.home before.further went.ok;
      few = (let few = moves.few in let most = ap (λ (h : HomeState). h.most) before.further.only in omega (arith, few, most));
      moved = moved-more c.rounds.number c.args.home.now c.rounds.home c.go_on.new.home before.moved moves;
      worked = worked-more c.rounds.number c.args.home.now c.rounds.home c.go_on.new.home before.worked
          (let test = c.rounds-test.true in let few = c.most.ensures.few in omega arith) works moves went.ok;
    }
