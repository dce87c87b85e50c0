-- A run has a bound on its steps that is no more than may be.
use Rattle.amber_home.proofs.home.Home.most.Goals as goal

pub returns-clause-few : goal.returns-clause-few
returns-clause-few c = c.self.invariant.few
