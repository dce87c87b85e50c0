-- There is room for one row less.
use Rattle.std.proofs.Common.{◌≡◌, ◌+◌, ◌-◌, ◌<◌, ◌≤◌, ◌∙◌, ap, arith, subst, sym, vec_capacity, vec_len}
use Rattle.amber_link.specs.Outgoing.{Outgoing}
use Rattle.amber_link.specs.Rooms.{HasRoom}
use Rattle.amber_link.proofs.Rooms.{room-full}
use Rattle.amber_link.proofs.outbox.Outbox.push_reserved.Goals as goal

pub invariant_of-self-2 : goal.invariant_of-self-2
invariant_of-self-2 c =
    let own = c.self.inside in
    let room : own.room ≡ c.args.self.now.room = ap (λ (o : Outgoing). o.room) c.self.view_is in
    let more = c.requires.room in
    let some : 1 < own.room = omega arith in
    let full : vec_len own.partial + 1 ≡ own.batch_size = omega (arith, c.if-len-self.false, c.len.ensures, c.push_reserved.ensures.len) in
    let held : 0 ≡ vec_len c.cut.new.partial = sym (ap (λ list. vec_len list) c.cut.ensures.left ∙ c.next_list-next.ensures.none_held) in
    let large : 0 < vec_len own.spare → own.batch_size ≤ vec_capacity c.cut.new.partial = λ has. rw c.cut.ensures.left (c.next_list-next.ensures.large has) in (
      subst HasRoom (λ i. record {
        batch_size = own.batch_size;
        room = own.room - 1;
        held = held i;
        capacity = vec_capacity c.cut.new.partial;
        spares = vec_len c.next_list-next.new.spare;
        waiting = sym c.cut.ensures.longer i;
        slots = sym c.cut.ensures.slots i;
      })
          (room-full _ (vec_capacity c.cut.new.partial) (vec_len c.next_list-next.new.spare) c.self.invariant.0 some full large c.next_list-next.ensures.fewer c.next_list-next.ensures.none),
      c.next_list-next.ensures.spare,
    )
