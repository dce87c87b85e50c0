-- There is room for as many rows.
use Rattle.std.proofs.Common.{◌≡◌, ℕ, ◌+◌, ◌-◌, ◌*◌, ◌≤◌, Result, Ok, Err, OnErr, ap, arith, refl, subst, sym, vec_capacity, vec_len}
use Rattle.std.proofs.Math.Nat.{mul-le-mul_left}
use Rattle.std.proofs.lemmas.Result.{IfOk-from_err}
use Rattle.std.specs.VecDeque.{deque_capacity, deque_len}
use Rattle.amber_link.specs.Outgoing.{Outgoing}
use Rattle.amber_link.specs.Rooms.{HasRoom, Room}
use Rattle.amber_link.proofs.Rooms.{room-more}
use Rattle.amber_link.proofs.outbox.Outbox.reserve.Goals as goal

err-so : {T E : Type 0} (r : Result T E) (P : Type 0) → P → OnErr r P
err-so (Ok x) P h = tt
err-so (Err e) P h = h

-- there is as much room where there is more memory
room-wider : (r : Room) (capacity spares slots : ℕ) → HasRoom r → r.capacity ≤ capacity → r.spares ≤ spares → r.slots ≤ slots
    → HasRoom (record r { capacity = capacity; spares = spares; slots = slots })
room-wider r capacity spares slots h a b e =
    let places : r.slots - r.waiting ≤ slots - r.waiting = omega (arith, e) in
    record {
      some = h.some;
      few = h.few;
      own = λ small. omega (arith, a, small, h.own);
      more = omega (arith, h.more, mul-le-mul_left r.batch_size b);
      free = λ some. omega (arith, h.free some, mul-le-mul_left r.batch_size places);
    }

pub returns-then-rows-gt-MOST_ROWS : goal.returns-then-rows-gt-MOST_ROWS
returns-then-rows-gt-MOST_ROWS c = record { only = refl; more = omega arith; ok = tt; err = refl }

pub overflow_add-held : goal.overflow_add-held
overflow_add-held c = omega (arith, c.self.invariant.0.few, c.len-held.ensures)

pub batches_for-batches-requires : goal.batches_for-batches-requires
batches_for-batches-requires c = record { some = omega (arith, c.self.invariant.0.some, c.from-batch_size.ensures); few = omega (arith, c.self.invariant.0.few, c.len-held.ensures) }

pub overflow_add-held-2 : goal.overflow_add-held-2
overflow_add-held-2 c = omega (arith, c.self.invariant.0.few, c.len-held.ensures)

pub overflow_sub-most : goal.overflow_sub-most
overflow_sub-most c = omega (arith, c.self.invariant.0.few, c.len-held.ensures, c.from-batch_size.ensures, c.min-most.ensures)

pub overflow_sub-spares : goal.overflow_sub-spares
overflow_sub-spares c = c.batches_for-batches.ensures.some

pub reserve_spares-requires : goal.reserve_spares-requires
reserve_spares-requires c = c.self.invariant.1

pub overflow_add-batches : goal.overflow_add-batches
overflow_add-batches c = omega (arith, c.self.invariant.0.few, c.len-held.ensures, c.batches_for-batches.ensures.few)

pub overflow_add-rows : goal.overflow_add-rows
overflow_add-rows c = omega arith

pub invariant_of-self : goal.invariant_of-self
invariant_of-self c =
    let own = c.self.inside in (
      subst HasRoom (λ i. record {
        batch_size = own.batch_size;
        room = own.room;
        held = sym c.reserve.ensures.len i;
        capacity = vec_capacity c.reserve.new.self;
        spares = vec_len own.spare;
        waiting = deque_len own.waiting;
        slots = deque_capacity own.waiting;
      })
          (room-wider _ (vec_capacity c.reserve.new.self) (vec_len own.spare) (deque_capacity own.waiting) c.self.invariant.0 c.reserve.ensures.capacity (omega arith) (omega arith)),
      c.self.invariant.1,
    )

pub invariant_of-self-in_err-reserve_spares : goal.invariant_of-self-in_err-reserve_spares
invariant_of-self-in_err-reserve_spares c =
    let own = c.self.inside in (
      subst HasRoom (λ i. record {
        batch_size = own.batch_size;
        room = own.room;
        held = sym c.reserve.ensures.len i;
        capacity = vec_capacity c.reserve.new.self;
        spares = vec_len c.reserve_spares.new.spare;
        waiting = deque_len own.waiting;
        slots = deque_capacity own.waiting;
      })
          (room-wider _ (vec_capacity c.reserve.new.self) (vec_len c.reserve_spares.new.spare) (deque_capacity own.waiting) c.self.invariant.0 c.reserve.ensures.capacity c.reserve_spares.ensures.more (omega arith)),
      c.reserve_spares.ensures.spare,
    )

pub invariant_of-self-in_err-reserve-2 : goal.invariant_of-self-in_err-reserve-2
invariant_of-self-in_err-reserve-2 c =
    let own = c.self.inside in (
      subst HasRoom (λ i. record {
        batch_size = own.batch_size;
        room = own.room;
        held = sym c.reserve.ensures.len i;
        capacity = vec_capacity c.reserve.new.self;
        spares = vec_len c.reserve_spares.new.spare;
        waiting = sym c.reserve-2.ensures.len i;
        slots = deque_capacity c.reserve-2.new.self;
      })
          (room-wider _ (vec_capacity c.reserve.new.self) (vec_len c.reserve_spares.new.spare) (deque_capacity c.reserve-2.new.self) c.self.invariant.0 c.reserve.ensures.capacity c.reserve_spares.ensures.more c.reserve-2.ensures.capacity),
      c.reserve_spares.ensures.spare,
    )

pub invariant_of-self-2 : goal.invariant_of-self-2
invariant_of-self-2 c =
    let own = c.self.inside in
    let batches = c.batches_for-batches.result in
    let enough = c.batches_for-batches.ensures.enough in
    let some = c.batches_for-batches.ensures.some in
    let lists = c.in_ok-reserve_spares.ensures.enough in
    let slots = c.in_ok-reserve-2.ensures.ok in
    let rows = c.in_ok-reserve.ensures.ok in
    let least = c.min-most.ensures in
    let held_is = c.len-held.ensures in
    let size_is = c.from-batch_size.ensures in
    let product : c.from-batch_size.result * batches ≡ own.batch_size * batches = ap (λ n. n * batches) size_is in
    let filled : vec_len own.partial + (c.args.rows + 1 - 1) ≤ own.batch_size * batches = omega (arith, enough, held_is, product) in (
      subst HasRoom (λ i. record {
        batch_size = own.batch_size;
        room = sym c.max-self-inside.ensures i;
        held = sym c.reserve.ensures.len i;
        capacity = vec_capacity c.reserve.new.self;
        spares = vec_len c.reserve_spares.new.spare;
        waiting = sym c.reserve-2.ensures.len i;
        slots = deque_capacity c.reserve-2.new.self;
      })
          (room-more _ (c.args.rows + 1) (vec_capacity c.reserve.new.self) (vec_len c.reserve_spares.new.spare) (deque_capacity c.reserve-2.new.self) batches c.self.invariant.0
          (omega (arith, slots, c.reserve-2.ensures.len)) c.reserve-2.ensures.capacity c.reserve.ensures.capacity c.reserve_spares.ensures.more
          some (omega (arith, lists)) filled (omega arith) (λ small. omega (arith, rows, least, held_is, size_is, c.reserve.ensures.len))),
      c.reserve_spares.ensures.spare,
    )

pub returns : goal.returns
returns c =
    let room : c.self.inside.room ≡ c.args.self.now.room = ap (λ (kept : Outgoing). kept.room) c.self.view_is in
    record {
      only = rw (c.reserve-2.ensures.items, c.reserve.ensures.items) (ap (λ (kept : Outgoing). record kept { room = c.max-self-inside.result }) c.self.view_is);
      more = omega (arith, room, c.max-self-inside.ensures);
      ok = omega (arith, c.max-self-inside.ensures);
      err = tt;
    }

pub returns-in_err-reserve : goal.returns-in_err-reserve
returns-in_err-reserve c =
    let room : c.self.inside.room ≡ c.args.self.now.room = ap (λ (kept : Outgoing). kept.room) c.self.view_is in
    record {
      only = rw c.reserve.ensures.items (ap (λ (kept : Outgoing). record kept { room = c.self.inside.room }) c.self.view_is);
      more = omega (arith, room);
      ok = IfOk-from_err _ _ c.from_residual.ensures.0;
      err = err-so c.from_residual.result _ (rw c.reserve.ensures.items c.self.view_is);
    }

pub returns-in_err-reserve_spares : goal.returns-in_err-reserve_spares
returns-in_err-reserve_spares c =
    let room : c.self.inside.room ≡ c.args.self.now.room = ap (λ (kept : Outgoing). kept.room) c.self.view_is in
    record {
      only = rw c.reserve.ensures.items (ap (λ (kept : Outgoing). record kept { room = c.self.inside.room }) c.self.view_is);
      more = omega (arith, room);
      ok = IfOk-from_err _ _ c.from_residual-in_err-reserve_spares.ensures.0;
      err = err-so c.from_residual-in_err-reserve_spares.result _ (rw c.reserve.ensures.items c.self.view_is);
    }

pub returns-in_err-reserve-2 : goal.returns-in_err-reserve-2
returns-in_err-reserve-2 c =
    let room : c.self.inside.room ≡ c.args.self.now.room = ap (λ (kept : Outgoing). kept.room) c.self.view_is in
    record {
      only = rw (c.reserve-2.ensures.items, c.reserve.ensures.items) (ap (λ (kept : Outgoing). record kept { room = c.self.inside.room }) c.self.view_is);
      more = omega (arith, room);
      ok = IfOk-from_err _ _ c.from_residual-in_err-reserve-2.ensures.0;
      err = err-so c.from_residual-in_err-reserve-2.result _ (rw (c.reserve-2.ensures.items, c.reserve.ensures.items) c.self.view_is);
    }
