-- One row more was moved, and can be moved back.
use Rattle.std.proofs.Common.{◌≡◌, ◌∙◌, ◌+◌, ◌++◌, append-nil, ap, arith, drop, filter, length, refl, subst, sym, take}
use Rattle.std.proofs.lemmas.List.{drop-drop, length-drop, length_push}
use Rattle.amber_rows.specs.Suits.{suits_of}
use Rattle.amber_join.specs.Join.{Join}
use Rattle.amber_join.specs.Moving.{BuildSide, CanMoveAllBack, all_moved_back}
use Rattle.amber_join.proofs.MovedRows.{back-more, back-none, filter-next}
use Rattle.amber_join.proofs.several.stage_all.Goals as goal

pub loop-init : goal.loop-init
loop-init c =
    let start = c.args.state.now in
    record {
      state = ap (λ l. record start { rows = l }) (sym (append-nil start.rows));
      rows = refl;
      back = back-none c.in_ok-all.all.items (record { state = start; rows = c.args.rows.now.items }) c.in_ok-all.ensures.items;
      long = ap length c.in_ok-all.ensures.items;
      len = c.in_ok-all.ensures.len;
      slots = c.in_ok-all.ensures.capacity;
      room = omega (arith, c.args.rows.now.small.1);
    }

pub loop-preserved : goal.loop-preserved
loop-preserved c =
    let start = c.args.state.now in
    let rows = c.args.rows.now.items in
    let test = suits_of c.args.columns.now in
    let old = c.loop.invariant in
    let i = c.loop.counter in
    record {
      state = c.in-Ok.ensures.state ∙ (λ j. record (old.state j) { rows = (old.state j).rows ++ filter test (take 1 c.loop.rows.items) })
          ∙ ap (λ l. record start { rows = l }) (filter-next test start.rows rows c.loop.rows.items i old.rows);
      rows = c.in-Ok.ensures.rows ∙ ap (drop 1) old.rows ∙ drop-drop 1 i rows;
      back = back-more c.loop.all.items c.push_reserved.new.self.items c.in-Ok.moved (record { state = start; rows = rows })
          (record { state = c.loop.state; rows = c.loop.rows.items }) (record { state = c.move_first.new.state; rows = c.move_first.new.rows.items })
          c.in-Ok.ensures.back c.push_reserved.ensures.items old.back;
      long = ap length c.push_reserved.ensures.items ∙ length_push c.loop.all.items c.in-Ok.moved ∙ ap (λ n. n + 1) old.long;
      len = omega (arith, old.len, c.push_reserved.ensures.len);
      slots = omega (arith, old.slots, c.push_reserved.ensures.capacity);
      room = omega (arith, old.room, c.in-Ok.ensures.shorter, c.move_first.ensures.slots);
    }

pub move_first-requires-clause-unsealed : goal.move_first-requires-clause-unsealed
move_first-requires-clause-unsealed c = ap (λ (state : Join). state.sealed) c.loop.invariant.state ∙ c.requires.unsealed

pub move_first-requires-clause-some : goal.move_first-requires-clause-some
move_first-requires-clause-some c =
    omega (arith, ap length c.loop.invariant.rows ∙ length-drop c.loop.counter c.args.rows.now.items, c.loop-test.true, c.requires.there)

pub push_reserved-requires : goal.push_reserved-requires
push_reserved-requires c = omega (arith, c.loop.invariant.len, c.loop.invariant.slots, c.loop-test.true)

pub unstage_all-requires-clause-can : goal.unstage_all-requires-clause-can
unstage_all-requires-clause-can c =
    let same : (record { state = c.loop.state; rows = c.loop.rows.items }) ≡ (record { state = c.move_first.new.state; rows = c.move_first.new.rows.items }) =
    λ i. record { state = sym c.in-Err.ensures.state_on_err i; rows = sym c.in-Err.ensures.rows_on_err i } in
    subst (CanMoveAllBack c.loop.all.items) same c.loop.invariant.back.can

pub unstage_all-requires-clause-room : goal.unstage_all-requires-clause-room
unstage_all-requires-clause-room c = omega (arith, c.loop.invariant.room, c.loop.invariant.long, c.in-Err.ensures.shorter_on_err, c.move_first.ensures.slots)

pub returns-in-Err-clause-state_on_err : goal.returns-in-Err-clause-state_on_err
returns-in-Err-clause-state_on_err c =
    let same : (record { state = c.move_first.new.state; rows = c.move_first.new.rows.items }) ≡ (record { state = c.loop.state; rows = c.loop.rows.items }) =
    λ i. record { state = c.in-Err.ensures.state_on_err i; rows = c.in-Err.ensures.rows_on_err i } in
    ap (λ (side : BuildSide). side.state) (c.unstage_all.ensures ∙ ap (all_moved_back c.loop.all.items) same ∙ c.loop.invariant.back.back)

pub returns-in-Err-clause-rows_on_err : goal.returns-in-Err-clause-rows_on_err
returns-in-Err-clause-rows_on_err c =
    let same : (record { state = c.move_first.new.state; rows = c.move_first.new.rows.items }) ≡ (record { state = c.loop.state; rows = c.loop.rows.items }) =
    λ i. record { state = c.in-Err.ensures.state_on_err i; rows = c.in-Err.ensures.rows_on_err i } in
    ap (λ (side : BuildSide). side.rows) (c.unstage_all.ensures ∙ ap (all_moved_back c.loop.all.items) same ∙ c.loop.invariant.back.back)

pub returns-clause-state : goal.returns-clause-state
returns-clause-state c =
    let at : c.loop.counter ≡ c.args.count = omega (arith, c.loop-test.false, c.loop.auto.counter-end) in
    c.loop.invariant.state ∙ ap (λ n. record c.args.state.now { rows = c.args.state.now.rows ++ filter (suits_of c.args.columns.now) (take n c.args.rows.now.items) }) at

pub returns-clause-rows : goal.returns-clause-rows
returns-clause-rows c =
    let at : c.loop.counter ≡ c.args.count = omega (arith, c.loop-test.false, c.loop.auto.counter-end) in
    c.loop.invariant.rows ∙ ap (λ n. drop n c.args.rows.now.items) at

pub returns-clause-back : goal.returns-clause-back
returns-clause-back c = c.loop.invariant.back

pub returns-clause-room : goal.returns-clause-room
returns-clause-room c = omega (arith, c.loop.invariant.room, c.loop.invariant.long)
