-- A run that has not begun is at home.
use Rattle.std.proofs.Common.{◌≡◌, refl, sym, subst, ℕ, zero, suc, ◌-◌, ◌<◌, ◌≤◌, ◌^◌, List, [], ◌∷◌, map, nat_eq, Bool, true, false, Option, None, unwrap_or, if◌then◌else◌}
use Rattle.std.specs.List.{slice_get}
use Rattle.amber_rows.specs.Topology.{crew_of}
use Rattle.amber_rows.specs.declared.flow.Operator.{Operator}
use Rattle.amber_log.specs.Grammar.{AreItems}
use Rattle.amber_log.specs.declared.log.Item.{Item}
use Rattle.amber_lines.specs.KeptStops.{kept_stops, stops_along}
use Rattle.amber_meaning.specs.declared.view.Stop.{Stop}
use Rattle.amber_meaning.specs.Legal.{IsLegal, Query, Reaches, query_over}
use Rattle.amber_meaning.specs.Position.{origin}
use Rattle.amber_meaning.specs.Replay.{after_items, state_after}
use Rattle.amber_meaning.specs.State.{first_constants, position_at, start_of}
use Rattle.amber_dataflow.specs.AtWork.{turned_by}
use Rattle.amber_dataflow.specs.Dataflow.{DataflowState, HaveDoneNothing, StandAt, rows_emitted, seat_of}
use Rattle.amber_dataflow.proofs.Begun.{start-position}
use Rattle.amber_dataflow.proofs.Standing.{stand-at}
use Rattle.amber_boards.specs.Boards.{CounterState, IsBelow, target_at}
use Rattle.amber_worker.specs.WorkerState.{WorkerState}
use Rattle.amber_home.specs.Asked.{Asked, first_asked, no_asked}
use Rattle.amber_home.specs.Kept.{AreHeaded, IsHome}
use Rattle.amber_home.specs.Leg.{counts_asked}
use Rattle.amber_home.specs.declared.phase.Phase.TheVariants as phase
use Rattle.amber_home.proofs.InForce.{in-force-first}
use Rattle.amber_home.proofs.Reached.{hand-at}

-- at first no count is in force
none-asked : (flow : List Operator) (op : ℕ) (arms : List Asked) → arms ≡ first_asked flow → (rows : ℕ) → IsBelow (target_at (counts_asked arms) op) rows
none-asked flow op arms arms-are rows = subst (λ now. IsBelow (target_at (counts_asked now) op) rows) (sym arms-are) (by (nat_eq op 0))
  where
    get : (xs : List Operator) (i : ℕ) → IsBelow (unwrap_or (slice_get (map (λ (a : Asked). a.count) (map (λ (o : Operator). record no_asked { constants = first_constants o.what }) xs)) i) None) rows
    get [] i = tt
    get (x ∷ xs) zero = tt
    get (x ∷ xs) (suc i) = get xs i

    by : (b : Bool) → IsBelow (unwrap_or (if b then None else slice_get (counts_asked (first_asked flow)) (op - 1)) None) rows
    by true = tt
    by false = get flow (op - 1)

-- the empty log is legal
fresh-legal : (query : Query) → 0 < query.batch_size → query.batch_size ≤ 65536 → IsLegal query (record { batch = query.batch_size; items = [] })
unfolding AreItems Reaches
fresh-legal query some few = record { text = record { batch = (some, few); items = tt }; batch = refl; after = start_of query.flow; reached = refl }

pub home-new : (flow : List Operator) (files : List (List ℕ)) (most batch : ℕ) (items : List Item) (d : DataflowState) (arms : List Asked) (boards : List (Option CounterState)) (stops : List Stop) (back : List WorkerState)
    → most ≤ 2 ^ 40 → AreHeaded flow files → 0 < batch → batch ≤ 65536 → items ≡ [] → arms ≡ first_asked flow → boards ≡ [] → stops ≡ []
    → StandAt (query_over flow files batch most) (start_of flow) d (λ _. origin) → HaveDoneNothing d → ((worker : ℕ) → seat_of d worker ≡ None)
    → IsHome (record { flow = flow; files = files; most = most; log = record { batch = batch; items = items }; phase = phase.Resting; parts = []; alone = 0; turned = turned_by d.workers })
    (record { dataflow = d; arms = arms; boards = boards; stops = stops; back = back })
unfolding state_after after_items kept_stops stops_along
home-new flow files most batch items d arms boards stops back few headed some small fresh arms-are no_boards none stand nothing unarmed =
    let query = query_over flow files batch most in
    subst (λ xs. IsHome (record { flow = flow; files = files; most = most; log = record { batch = batch; items = xs }; phase = phase.Resting; parts = []; alone = 0; turned = turned_by d.workers })
    (record { dataflow = d; arms = arms; boards = boards; stops = stops; back = back })) (sym fresh)
    (record {
      few = few;
      headed = headed;
      legal = fresh-legal query some small;
      stands = record {
        at = stand-at query (start_of flow) d (λ _. origin) stand (position_at (start_of flow).positions) (λ worker inside. start-position flow worker);
        none = nothing;
        in_force = rw arms-are (in-force-first flow);
        below = λ op. none-asked flow op arms arms-are (rows_emitted d op);
        units = record {
          none = no_boards;
          unarmed = λ worker inside. unarmed worker;
          empty = λ worker inside. hand-at query (start_of flow) d (λ _. origin) stand worker (subst (λ (f : List Operator). worker < crew_of f) stand.flow inside);
        };
        stops_are = none;
      };
    })
