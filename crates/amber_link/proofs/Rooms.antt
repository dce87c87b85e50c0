-- Room is kept, row by row.
use Rattle.std.proofs.Common.{◌≡◌, ℕ, ◌+◌, ◌-◌, ◌*◌, ◌<◌, ◌≤◌, ◌⊎◌, inl, inr, zero, suc, max, ap, refl, arith}
use Rattle.std.proofs.Math.Nat.{mul-le-mul_left}
use Rattle.std.proofs.lemmas.Bool.{cases_lt}
use Rattle.amber_link.specs.Rooms.{HasRoom, Room}

mul-add-one : (a b : ℕ) → a * (b + 1) ≡ a * b + a
mul-add-one a b = omega arith

-- nothing is pushed, and nothing has room
pub room-none : (batch_size capacity slots : ℕ) → 0 < batch_size → HasRoom (record { batch_size = batch_size; room = 0; held = 0; capacity = capacity; spares = 0; waiting = 0; slots = slots })
room-none batch_size capacity slots some = record {
  some = some;
  few = some;
  own = λ less. omega arith;
  more = omega arith;
  free = λ has. absurd (omega arith);
}

-- more lists are spare
pub room-spares : (r : Room) (spares : ℕ) → HasRoom r → r.spares ≤ spares → HasRoom (record r { spares = spares })
room-spares r spares has more = record {
  some = has.some;
  few = has.few;
  own = has.own;
  more = let enough = has.more in let product = mul-le-mul_left r.batch_size more in omega (arith, enough, product);
  free = has.free;
}

-- a row more, that does not fill the batch
pub room-row : (r : Room) → HasRoom r → 1 < r.room → r.held + 1 < r.batch_size → HasRoom (record r { room = r.room - 1; held = r.held + 1 })
room-row r has some less = record {
  some = has.some;
  few = less;
  own = λ small. let own = has.own small in omega (arith, own);
  more = let more = has.more in omega (arith, more);
  free = λ left. let free = has.free (omega arith) in omega (arith, free);
}

-- a row that fills it: a list that was spare takes the next ones, or a new one
pub room-full : (r : Room) (capacity spares : ℕ) → HasRoom r → 1 < r.room → r.held + 1 ≡ r.batch_size → (0 < r.spares → r.batch_size ≤ capacity)
    → (0 < r.spares → r.spares ≡ spares + 1) → (r.spares ≡ 0 → spares ≡ 0)
    → HasRoom (record r { room = r.room - 1; held = 0; capacity = capacity; spares = spares; waiting = r.waiting + 1 })
room-full r capacity spares has some full large fewer none = record {
  some = has.some;
  few = has.some;
  own = λ small. own-full small (zero-or r.spares);
  more = more-full (zero-or r.spares);
  free = λ left. free-full (zero-or (r.slots - r.waiting));
}
  where
    zero-or : (n : ℕ) → (n ≡ 0) ⊎ (0 < n)
    zero-or zero = inl refl
    zero-or (suc n) = inr (omega arith)

    last : r.spares ≡ 0 → r.room ≤ 2
    last e = let more = has.more in let gone : r.batch_size * r.spares ≡ r.batch_size * 0 = ap (λ n. r.batch_size * n) e in omega (arith, more, gone)

    own-full : capacity < r.batch_size → (r.spares ≡ 0) ⊎ (0 < r.spares) → 0 + (r.room - 1) ≤ capacity + 1
    own-full small (inl e) = let few = last e in omega (arith, few)
    own-full small (inr spare) = let enough = large spare in absurd (omega (arith, enough))

    more-full : (r.spares ≡ 0) ⊎ (0 < r.spares) → 0 + (r.room - 1) ≤ r.batch_size + r.batch_size * spares + 1
    more-full (inl e) = let few = last e in let all = has.some in omega (arith, few, all)
    more-full (inr spare) =
        let more = has.more in
        let product : r.batch_size * r.spares ≡ r.batch_size * (spares + 1) = ap (λ n. r.batch_size * n) (fewer spare) in
        let out : r.batch_size * (spares + 1) ≡ r.batch_size * spares + r.batch_size = mul-add-one r.batch_size spares in
        omega (arith, more, product, out)

    free-full : (r.slots - r.waiting ≡ 0) ⊎ (0 < r.slots - r.waiting) → 0 + (r.room - 1) ≤ r.batch_size * (r.slots - (r.waiting + 1))
    free-full (inl e) =
        let free = has.free (omega arith) in
        let gone : r.batch_size * (r.slots - r.waiting) ≡ r.batch_size * 0 = ap (λ n. r.batch_size * n) e in
        absurd (omega (arith, free, gone))
    free-full (inr left) =
        let free = has.free (omega arith) in
        let one : r.slots - r.waiting ≡ r.slots - (r.waiting + 1) + 1 = omega arith in
        let product : r.batch_size * (r.slots - r.waiting) ≡ r.batch_size * (r.slots - (r.waiting + 1) + 1) = ap (λ n. r.batch_size * n) one in
        let out : r.batch_size * (r.slots - (r.waiting + 1) + 1) ≡ r.batch_size * (r.slots - (r.waiting + 1)) + r.batch_size = mul-add-one r.batch_size (r.slots - (r.waiting + 1)) in
        omega (arith, free, product, out)

-- the last batch
pub room-end : (r : Room) (capacity : ℕ) → HasRoom r → HasRoom (record r { room = 0; held = 0; capacity = capacity; waiting = r.waiting + 1 })
room-end r capacity has = record {
  some = has.some;
  few = has.some;
  own = λ small. omega arith;
  more = omega arith;
  free = λ left. absurd (omega arith);
}

-- a batch less that waits
pub room-sent : (r : Room) (waiting : ℕ) → HasRoom r → waiting ≤ r.waiting → HasRoom (record r { waiting = waiting })
room-sent r waiting has less = record {
  some = has.some;
  few = has.few;
  own = has.own;
  more = has.more;
  free = λ left.
      let free = has.free left in
      let more : r.batch_size * (r.slots - r.waiting) ≤ r.batch_size * (r.slots - waiting) = mul-le-mul_left r.batch_size (omega arith) in
      omega (arith, free, more);
}

-- room for this many rows and the end
pub room-more : (r : Room) (room capacity spares slots batches : ℕ) → HasRoom r → r.waiting + (batches + 1) ≤ slots → r.slots ≤ slots → r.capacity ≤ capacity → r.spares ≤ spares
    → 0 < batches → batches ≤ spares + 1 → r.held + (room - 1) ≤ r.batch_size * batches → 0 < room
    → (capacity < r.batch_size → r.held + (room - 1) ≤ capacity)
    → HasRoom (record r { room = max r.room room; capacity = capacity; spares = spares; slots = slots })
room-more r room capacity spares slots batches has free_slots more_slots more_capacity more_spares some enough_spares enough has_room own = record {
  some = has.some;
  few = has.few;
  own = λ small. let new = own small in let old = has.own (omega arith) in omega (arith, new, old);
  more =
      let old = has.more in
      let lists : r.batch_size * r.spares ≤ r.batch_size * spares = mul-le-mul_left r.batch_size more_spares in
      let filled : r.batch_size * batches ≤ r.batch_size * (spares + 1) = mul-le-mul_left r.batch_size enough_spares in
      let out : r.batch_size * (spares + 1) ≡ r.batch_size * spares + r.batch_size = mul-add-one r.batch_size spares in
      omega (arith, old, lists, filled, out);
  free = λ any.
      let filled : r.batch_size * (batches + 1) ≤ r.batch_size * (slots - r.waiting) = mul-le-mul_left r.batch_size (omega arith) in
      let out : r.batch_size * (batches + 1) ≡ r.batch_size * batches + r.batch_size = mul-add-one r.batch_size batches in
      let some = has.some in
      let new : r.held + room ≤ r.batch_size * (slots - r.waiting) = omega (arith, filled, out, some) in
      by new (cases_lt 0 r.room);
}
  where
    by : r.held + room ≤ r.batch_size * (slots - r.waiting) → (0 < r.room) ⊎ (r.room ≤ 0) → r.held + max r.room room ≤ r.batch_size * (slots - r.waiting)
    by new (inl had) =
        let old = has.free had in
        let more : r.batch_size * (r.slots - r.waiting) ≤ r.batch_size * (slots - r.waiting) = mul-le-mul_left r.batch_size (omega arith) in
        omega (arith, old, more)
    by new (inr none) = omega arith
