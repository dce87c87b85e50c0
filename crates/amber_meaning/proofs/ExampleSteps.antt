-- How many steps queries have, and how many each worker makes.
use Rattle.std.proofs.Common.{◌≡◌, [], ◌∷◌, map, refl}
use Rattle.amber_meaning.specs.Position.{steps_of}
use Rattle.amber_meaning.specs.Replay.{state_after}
use Rattle.amber_meaning.specs.State.{steps_in}
use Rattle.amber_meaning.specs.Total.{step_total}
use Rattle.amber_meaning.proofs.ExampleCases.{by_item, counted_log, kept_from, query_of, states_on_literals, totals_on_literals}

kept_in_batches_of_400 : step_total (query_of (kept_from 7) 400) ≡ 26
unfolding totals_on_literals
kept_in_batches_of_400 = refl

all_kept : step_total (query_of (kept_from 0) 400) ≡ 30
unfolding totals_on_literals
all_kept = refl

grouped_in_batches_of_400 : step_total (query_of by_item 400) ≡ 35
unfolding totals_on_literals
grouped_in_batches_of_400 = refl

grouped_in_batches_of_2 : step_total (query_of by_item 2) ≡ 38
unfolding totals_on_literals
grouped_in_batches_of_2 = refl

-- the log has made them all, and so much each of the scan, the filter and the sink
log_makes_them : steps_in (state_after (query_of (kept_from 0) 400) counted_log) ≡ 30
unfolding states_on_literals
log_makes_them = refl

log_makes_them_so : map steps_of (state_after (query_of (kept_from 0) 400) counted_log).positions ≡ 11 ∷ 12 ∷ 7 ∷ []
unfolding states_on_literals
log_makes_them_so = refl
