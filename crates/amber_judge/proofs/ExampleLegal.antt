-- The example's log is legal.
use Rattle.std.proofs.Common.{◌≡◌, true, arith, refl}
use Rattle.amber_log.specs.Grammar.{AreEntries, AreItems, AreParts, IsLog}
use Rattle.amber_log.specs.declared.log.Log.{Log}
use Rattle.amber_meaning.specs.Legal.{IsLegal}
use Rattle.amber_judge.specs.LegalTests.{may_reach}
use Rattle.amber_meaning.specs.State.{start_of}
use Rattle.amber_meaning.proofs.ExampleCases.{counted_log, kept_from, query_of}
use Rattle.amber_judge.proofs.ExampleTests.{tests_on_literals}
use Rattle.amber_judge.proofs.LegalFrom.{logs_are_tested}
use Rattle.amber_meaning.proofs.Senders.{senders_first}

abbrev log : Log
log = record { batch = 400; items = counted_log }

has_text : IsLog log
unfolding AreItems AreParts AreEntries
has_text = record {
  batch = omega arith;
  items = (
    refl,
    omega arith,
    (
      refl,
      (
        omega arith,
        record { worker = omega arith; some = omega arith; entries = (omega arith, refl, (tt, refl, tt)) },
        (omega arith, record { worker = omega arith; some = omega arith; entries = (omega arith, refl, (omega arith, refl, (omega arith, refl, (tt, refl, tt)))) }, tt),
      ),
      (
        refl,
        omega arith,
        (
          refl,
          (
            omega arith,
            record { worker = omega arith; some = omega arith; entries = (omega arith, refl, (tt, refl, tt)) },
            (omega arith, record { worker = omega arith; some = omega arith; entries = (omega arith, refl, (omega arith, refl, (tt, refl, tt))) }, tt),
          ),
          tt,
        ),
      ),
    ),
  );
}

passes : may_reach (query_of (kept_from 0) 400) (start_of (kept_from 0)) counted_log ≡ true
unfolding tests_on_literals
passes = refl

is_legal : IsLegal (query_of (kept_from 0) 400) log
is_legal =
    let reached = (logs_are_tested (query_of (kept_from 0) 400) (start_of (kept_from 0)) counted_log (senders_first (kept_from 0) refl)).0 passes in
    record { text = has_text; batch = refl; after = reached.0; reached = reached.1 }
