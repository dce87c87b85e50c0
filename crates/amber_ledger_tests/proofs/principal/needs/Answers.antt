-- After two workers nobody is there.
use Rattle.amber_principal.specs.declared.dividing.Need.TheVariants as need
use Rattle.amber_ledger_tests.proofs.Absent.{all_same}
use Rattle.amber_ledger_tests.proofs.principal.needs.Goals as goal

pub returns : goal.returns
returns c = all_same 14 need.Absent
