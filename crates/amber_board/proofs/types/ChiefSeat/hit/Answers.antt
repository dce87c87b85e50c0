use Rattle.std.proofs.Common.{ℕ, ◌^◌, arith, rules, tests}
use Rattle.std.proofs.lemmas.List.Sums.{sum_by-le}
use Rattle.amber_board.proofs.Ends.{hit_exact}
use Rattle.amber_board.proofs.types.ChiefSeat.hit.Goals as goal

pub total_of-requires : goal.total_of-requires
total_of-requires c = let most = sum_by-le (λ (n : ℕ). n) (2 ^ 40) c.args.self.now.seen c.args.self.now.at_most in omega arith

pub returns-clause-exact : goal.returns-clause-exact
returns-clause-exact c hit = hit_exact _ c.args.self.now.is_chief (search (rules, tests))
