-- The operator that reads, and its kind.
use Rattle.std.proofs.Common.{◌≡◌, ◌∙◌, ◌-◌, get_or, false, true, ap, sym, subst}
use Rattle.amber_rows.specs.Topology.{reader_of, what_at}
use Rattle.amber_rows.specs.Kinds.{is_keyed, side_keys}
use Rattle.amber_rows.specs.declared.flow.What.{What}
use Rattle.amber_rows.proofs.CrewFacts.{kind-there}
use Rattle.amber_worker.proofs.Fresh.{no-reader, route-follows, route-keyed}
use Rattle.amber_worker.proofs.new_worker.route_of.Goals as goal

pub returns-in_default-clause-route : goal.returns-in_default-clause-route
returns-in_default-clause-route c row some = no-reader c.args.flow.now c.args.worker _ (ap (reader_of c.args.flow.now) (sym c.op_of-op.ensures) ∙ c.in_default.ensures.none) some

pub returns-in-None-clause-route : goal.returns-in-None-clause-route
returns-in-None-clause-route c row some =
    let flow = c.args.flow.now in
    let there = c.in-Some.ensures.there in
    let one = c.index-get-reader.result in
    let kind : (get_or c.get.result.now (c.in-Some.reader - 1) one).what ≡ what_at flow c.in-Some.reader =
    ap (λ ops. (get_or ops (c.in-Some.reader - 1) one).what) c.get.ensures.operators
    ∙ kind-there flow c.in-Some.reader one there.0 there.1 in
    c.follower.ensures
    ∙ route-follows flow c.args.worker c.in-Some.reader row (c.in-Some.ensures.some ∙ ap (reader_of flow) c.op_of-op.ensures)
    (subst (λ (k : What). is_keyed k ≡ false) kind c.in-None.ensures.none)

pub returns-in_ok-clone-in-Some-keys_into-clause-route : goal.returns-in_ok-clone-in-Some-keys_into-clause-route
returns-in_ok-clone-in-Some-keys_into-clause-route c row some =
    let flow = c.args.flow.now in
    let there = c.in-Some.ensures.there in
    let one = c.index-get-reader.result in
    let kind : (get_or c.get.result.now (c.in-Some.reader - 1) one).what ≡ what_at flow c.in-Some.reader =
    ap (λ ops. (get_or ops (c.in-Some.reader - 1) one).what) c.get.ensures.operators
    ∙ kind-there flow c.in-Some.reader one there.0 there.1 in
    let into = c.in-Some-keys_into.ensures.some in
    let keys : c.in_ok-clone-in-Some-keys_into.field-0 ≡ c.in-Some-keys_into.keys.now = c.in_ok-clone-in-Some-keys_into.ensures.cases in
    route-keyed flow c.args.worker c.in-Some.reader row c.in_ok-clone-in-Some-keys_into.field-0 c.first_worker.result c.worker_count.result
    (c.in-Some.ensures.some ∙ ap (reader_of flow) c.op_of-op.ensures)
    (subst (λ (k : What). is_keyed k ≡ true) kind into.0)
    (keys ∙ into.1 ∙ ap (λ (k : What). side_keys k c.op_of-op.result) kind ∙ ap (side_keys (what_at flow c.in-Some.reader)) c.op_of-op.ensures)
    c.first_worker.ensures.first c.worker_count.ensures.count
