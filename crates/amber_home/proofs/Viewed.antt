-- What an operator shows.
use Rattle.std.proofs.Common.{◌≡◌, refl, sym, ap, ◌∙◌, ℕ, List, Option, None, Some}
use Rattle.std.specs.Prelude.{option_map}
use Rattle.amber_rows.specs.Lists.{first_of}
use Rattle.amber_rows.specs.declared.cond.Cond.{Cond}
use Rattle.amber_rows.specs.declared.value.Value.{Value}
use Rattle.amber_meaning.specs.Legal.{Query}
use Rattle.amber_meaning.specs.State.{Counting, State, crew_at, emitted_by}
use Rattle.amber_meaning.specs.Views.{counted_view, inspected_of}
use Rattle.amber_meaning.specs.declared.view.Counted.{Counted}
use Rattle.amber_meaning.specs.declared.view.WorkerView.{WorkerView}
use Rattle.amber_dataflow.specs.AtWork.{state_reached}
use Rattle.amber_dataflow.specs.Dataflow.{DataflowState, ShowAt, rows_emitted}
use Rattle.amber_dataflow.proofs.Standing.{stand-emitted}
use Rattle.amber_home.specs.Asked.{Asked, IsCountOf, asked_at}
use Rattle.amber_home.specs.Leg.{ShowsAt, counted_rows}
use Rattle.amber_boards.specs.declared.target.Target.{Target}
use Rattle.amber_home.proofs.Counted.{counted-rows}

-- how far its count is
counted : (query : Query) (state : State) (op : ℕ) (kept : Option Target) (count : Option Counting) → IsCountOf (crew_at query.flow state op) kept count
    → option_map (counted_rows (emitted_by query.flow state op)) kept ≡ option_map (counted_view query state op) count
unfolding emitted_by
counted query state op None None is = refl
counted query state op None (Some counting) is = absurd is
counted query state op (Some kept) None is = absurd is
counted query state op (Some kept) (Some counting) is =
    λ i. Some (record { counted = sym (counted-rows (crew_at query.flow state op) kept counting is) i; target = is.target i })

-- what is read of it is what the definitions say that it shows
pub inspected : (arms : List Asked) (d : DataflowState) (op : ℕ) (constant : Option Value) (pause : Option ℕ) (count : Option Counted) (when : Option Cond) (views : List WorkerView)
    → constant ≡ first_of (asked_at arms op).constants → pause ≡ (asked_at arms op).pause → count ≡ option_map (counted_rows (rows_emitted d op)) (asked_at arms op).count
    → when ≡ (asked_at arms op).when → ShowAt d op views
    → ShowsAt arms d op (record { op = op; constant = constant; pause = pause; count = count; when = when; workers = views })
unfolding ShowsAt ShowAt inspected_of
inspected arms d op constant pause count when views constant-is pause-is count-is when-is shown query start positions stand in_force =
    let state = state_reached query start positions in
    let one = in_force.each op in
    let seen = shown query start positions stand in
    λ i. record {
      op = op;
      constant = (constant-is ∙ ap first_of one.constants) i;
      pause = (pause-is ∙ one.pause) i;
      count = (
          count-is ∙ ap (λ rows. option_map (counted_rows rows) (asked_at arms op).count) (sym (stand-emitted query start d positions stand op))
          ∙ counted query state op _ _ one.count) i;
      when = (when-is ∙ one.when) i;
      workers = seen i;
    }
