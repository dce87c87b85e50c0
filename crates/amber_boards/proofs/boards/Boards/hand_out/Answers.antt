-- The board of the worker's operator is taken out, and the new one is put in its place.
use Rattle.std.proofs.Common.{◌≡◌, ◌∙◌, sym, ap, subst, ◌+◌, ◌-◌, ◌<◌, ◌++◌, ◌∷◌, [], length, Some, None, is_some, get_or, set, arith, length-set}
use Rattle.std.specs.Prelude.{option_map}
use Rattle.amber_log.specs.declared.entry.Entry.TheVariants as entry
use Rattle.amber_rows.specs.Topology.{op_of}
use Rattle.amber_meaning.proofs.Crews.{op-within}
use Rattle.amber_dataflow.specs.Dataflow.{journal_of, rows_emitted}
use Rattle.amber_boards.specs.declared.target.Target.{Target}
use Rattle.amber_boards.specs.Boards.{ChangesAt, CounterState, HasLeft, IsCountedAt, IsCountedOn, IsLedBy, board_at, has_board, targets_of}
use Rattle.amber_boards.proofs.Led.{chief-there, led-put}
use Rattle.amber_boards.proofs.OthersKept.{stands-counted, units-none}
use Rattle.amber_boards.proofs.Refilled.{hand-empty}
use Rattle.amber_boards.proofs.OneReplaced.{board-there, counted-put, has-one, keeps-none, keeps-other, op-inside, read-there, some-inside, targets-put, units-one}
use Rattle.amber_boards.proofs.boards.Boards.hand_out.Goals as goal

pub overflow_sub-place : goal.overflow_sub-place
overflow_sub-place c =
    let op = c.op_of.ensures ∙ ap (λ f. op_of f c.args.worker) c.flow.ensures in
    let some = (op-within c.args.dataflow.now.flow c.args.worker c.requires.there).0 in
    omega arith

pub index_mut-requires : goal.index_mut-requires
index_mut-requires c =
    let op = c.op_of.ensures ∙ ap (λ f. op_of f c.args.worker) c.flow.ensures in
    let at = op-within c.args.dataflow.now.flow c.args.worker c.requires.there in
    let some = at.0 in
    let last = at.1 in
    let view = ap length c.self.view_is in
    let all = op-inside c.args.self.now c.args.dataflow.now c.args.worker c.requires.counted c.requires.there c.requires.short in
    let long = c.self.inside.counters.ok.0 in
    omega arith

-- the worker's operator has a board
pub unreachable-requires : goal.unreachable-requires
unreachable-requires c =
    let op = c.op_of.ensures ∙ ap (λ f. op_of f c.args.worker) c.flow.ensures in
    let at = op-within c.args.dataflow.now.flow c.args.worker c.requires.there in
    let some = at.0 in
    let last = at.1 in
    let all = op-inside c.args.self.now c.args.dataflow.now c.args.worker c.requires.counted c.requires.there c.requires.short in
    let board = board-there c.self.inside.counters.items c.args.self.now c.op_of.result c.index_mut.result.now c.take.result c.self.view_is (omega arith) (omega arith)
    c.index_mut.ensures.value c.take.ensures.value in
    has-one c.args.self.now c.args.dataflow.now c.args.worker c.requires.counted c.requires.there c.requires.short (subst (λ n. board_at c.args.self.now n ≡ None) op (board ∙ c.in_default.is))

-- what it asks for is kept
pub index-requires : goal.index-requires
index-requires c =
    let items = c.self.inside.counters.items in
    let place = c.op_of.result - 1 in
    let op = c.op_of.ensures ∙ ap (λ f. op_of f c.args.worker) c.flow.ensures in
    let at = op-within c.args.dataflow.now.flow c.args.worker c.requires.there in
    let some = at.0 in
    let last = at.1 in
    let view = ap length c.self.view_is in
    let all = op-inside c.args.self.now c.args.dataflow.now c.args.worker c.requires.counted c.requires.there c.requires.short in
    let inside : place < length items = omega arith in
    let here = read-there items place c.index_mut.result.now inside c.index_mut.ensures.value ∙ sym c.take.ensures.value ∙ c.in-Some.is in
    let kept = c.self.invariant.0 place c.in-Some.counter here in
    let less = some-inside c.self.inside.targets.items place c.in-Some.counter.target kept in
    let long = c.self.inside.targets.ok.0 in
    omega arith

pub unreachable-requires-in_default-index : goal.unreachable-requires-in_default-index
unreachable-requires-in_default-index c =
    let items = c.self.inside.counters.items in
    let targets = c.self.inside.targets.items in
    let place = c.op_of.result - 1 in
    let op = c.op_of.ensures ∙ ap (λ f. op_of f c.args.worker) c.flow.ensures in
    let at = op-within c.args.dataflow.now.flow c.args.worker c.requires.there in
    let some = at.0 in
    let last = at.1 in
    let view = ap length c.self.view_is in
    let all = op-inside c.args.self.now c.args.dataflow.now c.args.worker c.requires.counted c.requires.there c.requires.short in
    let inside : place < length items = omega arith in
    let here = read-there items place c.index_mut.result.now inside c.index_mut.ensures.value ∙ sym c.take.ensures.value ∙ c.in-Some.is in
    let kept = c.self.invariant.0 place c.in-Some.counter here in
    let clash : Some c.in-Some.counter.target ≡ None =
    sym kept ∙ read-there targets place c.index.result.now (some-inside targets place c.in-Some.counter.target kept) c.index.ensures ∙ c.in_default-index.is in
    cc clash

pub hand_to-requires-clause-target : goal.hand_to-requires-clause-target
hand_to-requires-clause-target c =
    let items = c.self.inside.counters.items in
    let targets = c.self.inside.targets.items in
    let place = c.op_of.result - 1 in
    let op = c.op_of.ensures ∙ ap (λ f. op_of f c.args.worker) c.flow.ensures in
    let at = op-within c.args.dataflow.now.flow c.args.worker c.requires.there in
    let some = at.0 in
    let last = at.1 in
    let view = ap length c.self.view_is in
    let all = op-inside c.args.self.now c.args.dataflow.now c.args.worker c.requires.counted c.requires.there c.requires.short in
    let inside : place < length items = omega arith in
    let here = read-there items place c.index_mut.result.now inside c.index_mut.ensures.value ∙ sym c.take.ensures.value ∙ c.in-Some.is in
    let kept = c.self.invariant.0 place c.in-Some.counter here in
    let same : Some c.in-Some.counter.target ≡ Some c.in-Some-index.target =
    sym kept ∙ read-there targets place c.index.result.now (some-inside targets place c.in-Some.counter.target kept) c.index.ensures ∙ c.in-Some-index.is in
    cc same

pub hand_to-requires-clause-left : goal.hand_to-requires-clause-left
hand_to-requires-clause-left c =
    let op = c.op_of.ensures ∙ ap (λ f. op_of f c.args.worker) c.flow.ensures in
    let at = op-within c.args.dataflow.now.flow c.args.worker c.requires.there in
    let some = at.0 in
    let last = at.1 in
    let all = op-inside c.args.self.now c.args.dataflow.now c.args.worker c.requires.counted c.requires.there c.requires.short in
    let board = board-there c.self.inside.counters.items c.args.self.now c.op_of.result c.index_mut.result.now c.take.result c.self.view_is (omega arith) (omega arith)
    c.index_mut.ensures.value c.take.ensures.value in
    subst (λ b. HasLeft b (rows_emitted c.args.dataflow.now (op_of c.args.dataflow.now.flow c.args.worker)))
    (subst (λ n. board_at c.args.self.now n ≡ Some c.in-Some.counter) op (board ∙ c.in-Some.is)) c.requires.left

pub hand_to-requires-clause-counted : goal.hand_to-requires-clause-counted
hand_to-requires-clause-counted c =
    let own = op_of c.args.dataflow.now.flow c.args.worker in
    let op = c.op_of.ensures ∙ ap (λ f. op_of f c.args.worker) c.flow.ensures in
    let at = op-within c.args.dataflow.now.flow c.args.worker c.requires.there in
    let some = at.0 in
    let last = at.1 in
    let all = op-inside c.args.self.now c.args.dataflow.now c.args.worker c.requires.counted c.requires.there c.requires.short in
    let board = board-there c.self.inside.counters.items c.args.self.now c.op_of.result c.index_mut.result.now c.take.result c.self.view_is (omega arith) (omega arith)
    c.index_mut.ensures.value c.take.ensures.value in
    subst (λ b. IsCountedAt b own c.args.dataflow.now) (subst (λ n. board_at c.args.self.now n ≡ Some c.in-Some.counter) op (board ∙ c.in-Some.is)) (c.requires.counted.each own some last)

pub hand_to-requires-clause-stand : goal.hand_to-requires-clause-stand
hand_to-requires-clause-stand c =
    let op = c.op_of.ensures ∙ ap (λ f. op_of f c.args.worker) c.flow.ensures in
    let at = op-within c.args.dataflow.now.flow c.args.worker c.requires.there in
    let some = at.0 in
    let last = at.1 in
    let all = op-inside c.args.self.now c.args.dataflow.now c.args.worker c.requires.counted c.requires.there c.requires.short in
    let board = board-there c.self.inside.counters.items c.args.self.now c.op_of.result c.index_mut.result.now c.take.result c.self.view_is (omega arith) (omega arith)
    c.index_mut.ensures.value c.take.ensures.value in
    stands-counted (has_board c.args.self.now) (op_of c.args.dataflow.now.flow c.args.worker) c.args.dataflow.now c.args.dataflow.now (units-none (has_board c.args.self.now) c.args.dataflow.now) c.requires.stand
    (ap is_some (subst (λ n. board_at c.args.self.now n ≡ Some c.in-Some.counter) op (board ∙ c.in-Some.is)))

pub invariant_of-self : goal.invariant_of-self
invariant_of-self c =
    let items = c.self.inside.counters.items in
    let op = c.op_of.ensures ∙ ap (λ f. op_of f c.args.worker) c.flow.ensures in
    let at = op-within c.args.dataflow.now.flow c.args.worker c.requires.there in
    let some = at.0 in
    let last = at.1 in
    let view = ap length c.self.view_is in
    let all = op-inside c.args.self.now c.args.dataflow.now c.args.worker c.requires.counted c.requires.there c.requires.short in
    let inside : c.op_of.result - 1 < length items = omega arith in (
      keeps-none c.self.inside.targets.items items (c.op_of.result - 1) c.take.new.self inside c.take.ensures.after c.self.invariant.0,
      led-put items c.self.inside.chiefs.items (c.op_of.result - 1) c.take.new.self c.take-2.new.self inside c.self.invariant.1 (rw (c.take.ensures.after, c.take-2.ensures.after) tt),
    )

pub index_mut-requires-2 : goal.index_mut-requires-2
index_mut-requires-2 c =
    let op = c.op_of.ensures ∙ ap (λ f. op_of f c.args.worker) c.flow.ensures in
    let at = op-within c.args.dataflow.now.flow c.args.worker c.requires.there in
    let some = at.0 in
    let last = at.1 in
    let view = ap length c.self.view_is in
    let all = op-inside c.args.self.now c.args.dataflow.now c.args.worker c.requires.counted c.requires.there c.requires.short in
    let long = c.self.inside.chiefs.ok.0 in
    let same = c.self.invariant.1.all in
    omega arith

-- which has a chief
pub unreachable-requires-in_default-take : goal.unreachable-requires-in_default-take
unreachable-requires-in_default-take c =
    let items = c.self.inside.counters.items in
    let chiefs = c.self.inside.chiefs.items in
    let place = c.op_of.result - 1 in
    let op = c.op_of.ensures ∙ ap (λ f. op_of f c.args.worker) c.flow.ensures in
    let at = op-within c.args.dataflow.now.flow c.args.worker c.requires.there in
    let some = at.0 in
    let last = at.1 in
    let view = ap length c.self.view_is in
    let all = op-inside c.args.self.now c.args.dataflow.now c.args.worker c.requires.counted c.requires.there c.requires.short in
    let same = c.self.invariant.1.all in
    let inside : place < length items = omega arith in
    let also : place < length chiefs = omega arith in
    let here = read-there items place c.index_mut.result.now inside c.index_mut.ensures.value ∙ sym c.take.ensures.value ∙ c.in-Some.is in
    let chief = read-there chiefs place c.index_mut-2.result.now also c.index_mut-2.ensures.value ∙ sym c.take-2.ensures.value ∙ c.in_default-take.is in
    chief-there c.in-Some.counter (get_or items place None) (get_or chiefs place None) here (c.self.invariant.1.each place) chief

pub hand_to-requires-clause-led : goal.hand_to-requires-clause-led
hand_to-requires-clause-led c =
    let items = c.self.inside.counters.items in
    let chiefs = c.self.inside.chiefs.items in
    let place = c.op_of.result - 1 in
    let op = c.op_of.ensures ∙ ap (λ f. op_of f c.args.worker) c.flow.ensures in
    let at = op-within c.args.dataflow.now.flow c.args.worker c.requires.there in
    let some = at.0 in
    let last = at.1 in
    let view = ap length c.self.view_is in
    let all = op-inside c.args.self.now c.args.dataflow.now c.args.worker c.requires.counted c.requires.there c.requires.short in
    let same = c.self.invariant.1.all in
    let inside : place < length items = omega arith in
    let also : place < length chiefs = omega arith in
    let here = read-there items place c.index_mut.result.now inside c.index_mut.ensures.value ∙ sym c.take.ensures.value ∙ c.in-Some.is in
    let chief = read-there chiefs place c.index_mut-2.result.now also c.index_mut-2.ensures.value ∙ sym c.take-2.ensures.value ∙ c.in-Some-take.is in
    subst (λ board. IsLedBy board (Some c.in-Some-take.chief)) here (subst (IsLedBy (get_or items place None)) chief (c.self.invariant.1.each place))

pub index_mut-requires-4 : goal.index_mut-requires-4
index_mut-requires-4 c =
    let op = c.op_of.ensures ∙ ap (λ f. op_of f c.args.worker) c.flow.ensures in
    let at = op-within c.args.dataflow.now.flow c.args.worker c.requires.there in
    let some = at.0 in
    let last = at.1 in
    let view = ap length c.self.view_is in
    let all = op-inside c.args.self.now c.args.dataflow.now c.args.worker c.requires.counted c.requires.there c.requires.short in
    let long = c.self.inside.chiefs.ok.0 in
    let same = c.self.invariant.1.all in
    omega arith

pub index_mut-requires-3 : goal.index_mut-requires-3
index_mut-requires-3 c =
    let op = c.op_of.ensures ∙ ap (λ f. op_of f c.args.worker) c.flow.ensures in
    let at = op-within c.args.dataflow.now.flow c.args.worker c.requires.there in
    let some = at.0 in
    let last = at.1 in
    let view = ap length c.self.view_is in
    let all = op-inside c.args.self.now c.args.dataflow.now c.args.worker c.requires.counted c.requires.there c.requires.short in
    let long = c.self.inside.counters.ok.0 in
    omega arith

pub invariant_of-self-2 : goal.invariant_of-self-2
invariant_of-self-2 c =
    let items = c.self.inside.counters.items in
    let targets = c.self.inside.targets.items in
    let place = c.op_of.result - 1 in
    let op = c.op_of.ensures ∙ ap (λ f. op_of f c.args.worker) c.flow.ensures in
    let at = op-within c.args.dataflow.now.flow c.args.worker c.requires.there in
    let some = at.0 in
    let last = at.1 in
    let view = ap length c.self.view_is in
    let all = op-inside c.args.self.now c.args.dataflow.now c.args.worker c.requires.counted c.requires.there c.requires.short in
    let inside : place < length items = omega arith in
    let here = read-there items place c.index_mut.result.now inside c.index_mut.ensures.value ∙ sym c.take.ensures.value ∙ c.in-Some.is in
    let kept = c.self.invariant.0 place c.in-Some.counter here in
    let there = read-there targets place c.index.result.now (some-inside targets place c.in-Some.counter.target kept) c.index.ensures ∙ c.in-Some-index.is in
    let less = length-set items place c.take.new.self in
    let put = led-put items c.self.inside.chiefs.items place c.take.new.self c.take-2.new.self inside c.self.invariant.1 (rw (c.take.ensures.after, c.take-2.ensures.after) tt) in (
      keeps-other targets items place c.take.new.self c.in_ok-refilled.refilled c.in-Some-index.target inside c.take.ensures.after c.self.invariant.0 there c.in_ok-refilled.ensures.target,
      led-put (set items place c.take.new.self) (set c.self.inside.chiefs.items place c.take-2.new.self) place (Some c.in_ok-refilled.refilled) (Some c.in_ok-refilled.next) (omega arith) put c.in_ok-refilled.ensures.led,
    )

pub returns-clause-hands : goal.returns-clause-hands
returns-clause-hands c =
    let items = c.self.inside.counters.items in
    let targets = c.self.inside.targets.items in
    let boards = c.args.self.now in
    let old = c.args.dataflow.now in
    let own = op_of old.flow c.args.worker in
    let place = c.op_of.result - 1 in
    let op = c.op_of.ensures ∙ ap (λ f. op_of f c.args.worker) c.flow.ensures in
    let at = op-within old.flow c.args.worker c.requires.there in
    let some = at.0 in
    let last = at.1 in
    let view = ap length c.self.view_is in
    let all = op-inside c.args.self.now c.args.dataflow.now c.args.worker c.requires.counted c.requires.there c.requires.short in
    let inside : place < length items = omega arith in
    let here = read-there items place c.index_mut.result.now inside c.index_mut.ensures.value ∙ sym c.take.ensures.value ∙ c.in-Some.is in
    let kept = c.self.invariant.0 place c.in-Some.counter here in
    let same : Some c.in-Some.counter.target ≡ Some c.in-Some-index.target =
    sym kept ∙ read-there targets place c.index.result.now (some-inside targets place c.in-Some.counter.target kept) c.index.ensures ∙ c.in-Some-index.is in
    let target : c.in-Some-index.target ≡ c.in-Some.counter.target = cc same in
    let board = subst (λ n. board_at boards n ≡ Some c.in-Some.counter) op
    (board-there items boards c.op_of.result c.index_mut.result.now c.take.result c.self.view_is (omega arith) (omega arith) c.index_mut.ensures.value c.take.ensures.value ∙ c.in-Some.is) in
    let done = c.in_ok-refilled.ensures in
    record {
      units = units-one boards own old c.hand_to.new.dataflow (ap is_some board) done.change;
      counter = c.in-Some.counter;
      counted = board;
      empty = hand-empty old c.args.worker c.requires.short;
      fed = done.fed;
      grant = done.grant ∙ ap (λ (t : Target). journal_of old c.args.worker ++ entry.Grant (t.target + t.since - rows_emitted old own) ∷ []) target;
      own = done.own;
      others = done.change.others;
    }

pub returns-clause-counted : goal.returns-clause-counted
returns-clause-counted c =
    let old = c.args.dataflow.now in
    let op = c.op_of.ensures ∙ ap (λ f. op_of f c.args.worker) c.flow.ensures in
    let at = op-within old.flow c.args.worker c.requires.there in
    let some = at.0 in
    let last = at.1 in
    let all = op-inside c.args.self.now c.args.dataflow.now c.args.worker c.requires.counted c.requires.there c.requires.short in
    let done = c.in_ok-refilled.ensures in
    counted-put c.self.inside.counters.items c.args.self.now c.op_of.result c.take.new.self (Some c.in_ok-refilled.refilled) c.self.view_is (omega arith) (omega arith) old c.hand_to.new.dataflow
    c.requires.counted (subst (λ n. ChangesAt n old c.hand_to.new.dataflow) (sym op) done.change) (subst (λ n. IsCountedOn c.in_ok-refilled.refilled n c.hand_to.new.dataflow) (sym op) done.counted)

pub returns-clause-targets : goal.returns-clause-targets
returns-clause-targets c =
    let items = c.self.inside.counters.items in
    let targets = c.self.inside.targets.items in
    let place = c.op_of.result - 1 in
    let op = c.op_of.ensures ∙ ap (λ f. op_of f c.args.worker) c.flow.ensures in
    let at = op-within c.args.dataflow.now.flow c.args.worker c.requires.there in
    let some = at.0 in
    let last = at.1 in
    let view = ap length c.self.view_is in
    let all = op-inside c.args.self.now c.args.dataflow.now c.args.worker c.requires.counted c.requires.there c.requires.short in
    let inside : place < length items = omega arith in
    let here = read-there items place c.index_mut.result.now inside c.index_mut.ensures.value ∙ sym c.take.ensures.value ∙ c.in-Some.is in
    let kept = c.self.invariant.0 place c.in-Some.counter here in
    let there = read-there targets place c.index.result.now (some-inside targets place c.in-Some.counter.target kept) c.index.ensures ∙ c.in-Some-index.is in
    targets-put items place c.take.new.self (Some c.in_ok-refilled.refilled)
    (ap Some c.in_ok-refilled.ensures.target ∙ sym there ∙ kept ∙ sym (ap (option_map (λ (k : CounterState). k.target)) here))
    ∙ ap targets_of c.self.view_is
