use Rattle.std.proofs.Common.{rules, arith, ◌==◌, if◌then◌else◌, ℕ}
use Rattle.std.proofs.lemmas.Grind.{common_steps}
use Rattle.amber_board.specs.Seats.{IsSeatOf, chief_view}
use Rattle.amber_board.proofs.Dealing.{dealt_more}
use Rattle.amber_board.proofs.Splits.{splits_step}
use Rattle.amber_board.proofs.types.Board.deal.Goals as goal

pub loop-number-preserved : goal.loop-number-preserved
loop-number-preserved c =
    let was = c.loop-number.invariant in
    let given : ℕ → ℕ = λ w. if w == c.args.favoured then (chief_view c.args.chief.now).hand else 0 in
    let own : IsSeatOf c.args.self.now c.next_seat.result = grind (arith, common_steps) in
    record {
      table = search rules;
      made = search rules;
      target = search rules;
      seen = search rules;
      did = splits_step _ c.loop-number.number (chief_view c.loop-number.chief) _ _ c.next_seat.ensures.chief was.made was.did;
      hand = search rules;
      given = search rules;
      count = search rules;
      seats = dealt_more _ c.loop-number.seats.items _ c.next_seat.result given (search rules) was.seats own (grind (arith, common_steps));
    }
