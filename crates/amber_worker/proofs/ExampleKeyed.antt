-- A worker of a keyed operator with three senders and four receivers, under any condition, with a count armed or not.
use Rattle.std.proofs.Common.{◌≡◌, ℕ, zero, suc, List, [], ◌∷◌, All, Option, None, Result, Bool, false, codes, refl, sym, arith}
use Rattle.amber_rows.specs.Topology.{crew_of, first_worker_of, keyed_receiver_of, op_of, reader_from, receiver_of, receivers_of, senders_of, sends_to, what_at}
use Rattle.amber_rows.specs.Kinds.{is_scan}
use Rattle.amber_rows.specs.Lists.{numbers_below}
use Rattle.amber_rows.specs.Operators.{first_keys}
use Rattle.amber_rows.specs.declared.value.Value.{Value}
use Rattle.amber_rows.specs.declared.record.RowFault.{RowFault}
use Rattle.amber_rows.specs.declared.column.ColKind.TheVariants as kind
use Rattle.amber_rows.specs.declared.column.Column.{Column}
use Rattle.amber_rows.specs.declared.cond.Cond.{Cond}
use Rattle.amber_rows.specs.declared.flow.Operator.{Operator}
use Rattle.amber_rows.specs.declared.flow.What.TheVariants as what
use Rattle.amber_group.specs.Group.{groups_of}
use Rattle.amber_meaning.specs.Position.{origin}
use Rattle.amber_link.specs.declared.ends.Out.{Out}
use Rattle.amber_link.specs.declared.ends.In.{In}
use Rattle.amber_link.specs.declared.upstreams.Upstream.{Upstream}
use Rattle.amber_link.specs.declared.downstreams.Downstream.{Downstream}
use Rattle.amber_worker.specs.AtPosition.{IsAtPosition, first_context}
use Rattle.amber_worker.specs.Made.{AreFreshSenders, IsFresh, IsFreshIn, IsFreshOut}
use Rattle.amber_worker.specs.WorkerState.{WorkerState, empty_worker_state}
use Rattle.amber_operators.specs.declared.operator_state.OperatorState.TheVariants as operator_state
use Rattle.amber_worker.specs.declared.route.Route.TheVariants as route
use Rattle.amber_worker.proofs.Commands.{stands-watched}
use Rattle.amber_worker.specs.Changes.{with_when}
use Rattle.amber_worker.proofs.FreshStands.{fresh-stands}

-- ---- the workflow: the different numbers of a file, and the different ones of these

abbrev pub numbers : List Column
numbers = record { name = codes "n"; kind = kind.Int } ∷ []

abbrev pub operator : List ℕ → what.the_data → ℕ → Operator
operator name does workers = record { id = name; what = does; schema = numbers; workers = workers }

abbrev pub grouped : List Operator
grouped =
    operator (codes "all") (what.Scan (codes "n.csv")) 3 ∷ operator (codes "once") (what.Group 1 (1 ∷ []) []) 2 ∷ operator (codes "again") (what.Group 2 (1 ∷ []) []) 4
    ∷ operator (codes "out") (what.Sink 3) 1 ∷ []

-- the second operator's first worker has three senders and four receivers
senders : senders_of grouped 3 ≡ 0 ∷ 1 ∷ 2 ∷ []
unfolding senders_of sends_to op_of numbers_below crew_of
senders = refl

receivers : receivers_of grouped 3 ≡ 5 ∷ 6 ∷ 7 ∷ 8 ∷ []
unfolding receivers_of sends_to op_of numbers_below crew_of
receivers = refl

own : op_of grouped 3 ≡ 2
unfolding op_of
own = refl

-- a row goes to the four by its key
goes : (row : List Value) → receiver_of grouped 3 row ≡ keyed_receiver_of grouped 3 row
unfolding receiver_of op_of reader_from
goes row = refl

-- ---- the worker, whatever the ends of its links are

abbrev pub from : ℕ → In → Upstream
from number link = record { from = number; builds = false; taken = 0; ended = false; link = link }

abbrev pub to : ℕ → Out → Downstream
to number link = record { to = number; link = link }

pub record Ends : Type 0 where
  pub in0 : In
  pub in1 : In
  pub in2 : In
  pub out5 : Out
  pub out6 : Out
  pub out7 : Out
  pub out8 : Out
  pub fresh0 : IsFreshIn in0
  pub fresh1 : IsFreshIn in1
  pub fresh2 : IsFreshIn in2
  pub fresh5 : IsFreshOut 2 out5
  pub fresh6 : IsFreshOut 2 out6
  pub fresh7 : IsFreshOut 2 out7
  pub fresh8 : IsFreshOut 2 out8

abbrev pub worker : Ends → WorkerState
worker e = record empty_worker_state {
  op = 2;
  number = 3;
  operator_state = operator_state.Group (record { keys = 1 ∷ []; aggs = []; fed = 0; groups = [] });
  columns = numbers;
  ins = from 0 e.in0 ∷ from 1 e.in1 ∷ from 2 e.in2 ∷ [];
  outs = to 5 e.out5 ∷ to 6 e.out6 ∷ to 7 e.out7 ∷ to 8 e.out8 ∷ [];
  route = route.ByKeys (1 ∷ []) 5 4;
}

fresh-senders : (e : Ends) → AreFreshSenders grouped (what.Group 1 (1 ∷ []) []) (worker e).ins
fresh-senders e zero d less = (refl, refl, refl)
fresh-senders e (suc zero) d less = (refl, refl, refl)
fresh-senders e (suc (suc zero)) d less = (refl, refl, refl)
fresh-senders e (suc (suc (suc k))) d less = absurd (omega arith)

fresh-ins : (e : Ends) → All (λ (one : Upstream). IsFreshIn one.link) (worker e).ins
fresh-ins e zero d less = e.fresh0
fresh-ins e (suc zero) d less = e.fresh1
fresh-ins e (suc (suc zero)) d less = e.fresh2
fresh-ins e (suc (suc (suc k))) d less = absurd (omega arith)

fresh-outs : (e : Ends) → All (λ (one : Downstream). IsFreshOut 2 one.link) (worker e).outs
fresh-outs e zero d less = e.fresh5
fresh-outs e (suc zero) d less = e.fresh6
fresh-outs e (suc (suc zero)) d less = e.fresh7
fresh-outs e (suc (suc (suc zero))) d less = e.fresh8
fresh-outs e (suc (suc (suc (suc k)))) d less = absurd (omega arith)

is-fresh : (e : Ends) → IsFresh (record { flow = grouped; number = 3; batch_size = 2; share = None }) (worker e)
unfolding op_of receiver_of reader_from first_worker_of keyed_receiver_of crew_of groups_of first_keys
is-fresh e = record {
  op = refl;
  number = refl;
  does = (refl, refl, (refl, refl));
  columns = refl;
  build_columns = refl;
  building = refl;
  rest = refl;
  pending = refl;
  taken = refl;
  emitted = refl;
  batches = refl;
  refused = refl;
  kept = refl;
  when = refl;
  seat = refl;
  restraint = refl;
  finished = refl;
  senders = sym senders;
  ins = fresh-senders e;
  in_ends = fresh-ins e;
  receivers = sym receivers;
  out_ends = fresh-outs e;
  route = λ row some. refl;
  journal = refl;
}

-- it stands at the beginning, under any condition, with a count armed or not, from whatever records
pub stands : (e : Ends) (records : List (List (Result (List Value) RowFault))) (when : Option Cond) (counted : Bool)
    → IsAtPosition (with_when when counted (first_context grouped records 2 3)) (record (worker e) { when = when }) origin origin
stands e records when counted =
    stands-watched (first_context grouped records 2 3) (worker e) origin when counted
    (fresh-stands grouped records 2 3 None (worker e) (omega arith) (by refl) tt (is-fresh e)) refl
  where
    by : op_of grouped 3 ≡ op_of grouped 3 → false ≡ is_scan (what_at grouped (op_of grouped 3))
    by same = rw own refl
