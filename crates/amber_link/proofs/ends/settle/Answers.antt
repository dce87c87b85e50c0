-- What is in the ring goes first, then what waits.
use Rattle.std.proofs.Common.{◌≡◌, ◌∙◌, ◌+◌, ◌≤◌, ◌++◌, [], ◌∷◌, Result, Ok, Err, OnErr, ap, sym, arith, length, length-append, refl}
use Rattle.std.proofs.lemmas.Result.{IfOk-from_err}
use Rattle.std.specs.VecDeque.{deque_capacity, deque_len}
use Rattle.amber_link.specs.Outgoing.{Outgoing}
use Rattle.rtrb.specs.Ring.{known_items, sent}
use Rattle.amber_link.specs.declared.ends.In.{In}
use Rattle.amber_link.specs.declared.ends.Out.{Out}
use Rattle.amber_link.proofs.LinkEnds.{forwards-one, gives-looked, gives-one, gives-then, linked-still, same-in-then, none-first, settled-by, whole-by}
use Rattle.amber_link.proofs.ends.settle.Goals as goal

err-so : {T E : Type 0} (r : Result T E) (P : Type 0) → P → OnErr r P
err-so (Ok x) P h = tt
err-so (Err e) P h = h

pub slots_beside-known-requires : goal.slots_beside-known-requires
slots_beside-known-requires c = c.requires.0

pub returns-in_default : goal.returns-in_default
returns-in_default c =
    let looked = c.slots_beside-known.ensures in
    let out : Out = record { ring = c.slots_beside-known.new.producer; kept = c.args.out.now.kept; back = tt } in
    let into : In = record { ring = c.slots_beside-known.new.self; inbox = c.args.into.now.inbox; back = tt } in
    record {
      linked = linked-still c.args.out.now out c.args.into.now into c.requires looked.producer.0 looked.looked.0;
      forwards = record { ring = looked.producer.0; only = refl; order = ap (λ l. l ++ c.args.out.now.kept.waiting) looked.producer.1 };
      gives = gives-looked c.args.into.now into looked.looked.0 looked.looked.1 looked.looked.2 refl;
      whole = whole-by c.args.out.now out c.args.into.now into looked.producer.1 looked.looked.1 looked.looked.2 looked.fifo;
      ok = tt;
      inbox_on_err = refl;
      out_on_err = refl;
    }

pub returns-in_err-reserve : goal.returns-in_err-reserve
returns-in_err-reserve c =
    let looked = c.slots_beside-known.ensures in
    let out : Out = record { ring = c.slots_beside-known.new.producer; kept = c.args.out.now.kept; back = tt } in
    let into : In = record { ring = c.slots_beside-known.new.self; inbox = c.reserve.new.self; back = tt } in
    record {
      linked = linked-still c.args.out.now out c.args.into.now into c.requires looked.producer.0 looked.looked.0;
      forwards = record { ring = looked.producer.0; only = refl; order = ap (λ l. l ++ c.args.out.now.kept.waiting) looked.producer.1 };
      gives = gives-looked c.args.into.now into looked.looked.0 looked.looked.1 looked.looked.2 c.reserve.ensures.items;
      whole = whole-by c.args.out.now out c.args.into.now (record { ring = c.slots_beside-known.new.self; inbox = c.args.into.now.inbox; back = tt }) looked.producer.1 looked.looked.1 looked.looked.2 looked.fifo;
      ok = IfOk-from_err _ _ c.from_residual.ensures.0;
      inbox_on_err = err-so c.from_residual.result _ c.reserve.ensures.items;
      out_on_err = err-so c.from_residual.result _ refl;
    }

pub drain-requires : goal.drain-requires
drain-requires c =
    omega (
      arith,
      length-append c.reserve.new.self.items (known_items c.slots_beside-known.new.self),
      c.reserve.new.self.ok.0,
      c.in_ok-reserve.ensures.ok,
      c.len.ensures,
      c.slots_beside-known.ensures.value,
      c.in-Some.ensures,
    )

pub carry-requires : goal.carry-requires
carry-requires c =
    let kept = c.loop-batch.invariant in
    let one : length c.loop-batch.out.kept.waiting ≡ length c.pop.new.self.waiting + 1 = ap length c.in-Some-pop.ensures.batch ∙ omega arith in
    record { linked = kept.linked; even = kept.even; known = kept.known; room = omega (arith, kept.room, one) }

pub loop-batch-smaller : goal.loop-batch-smaller
loop-batch-smaller c =
    let one : length c.loop-batch.out.kept.waiting ≡ length c.pop.new.self.waiting + 1 = ap length c.in-Some-pop.ensures.batch ∙ omega arith in
    let left : length c.carry.new.out.kept.waiting ≡ length c.pop.new.self.waiting = ap (λ (o : Outgoing). length o.waiting) c.carry.ensures.kept in
    omega (arith, one, left)

pub loop-batch-init : goal.loop-batch-init
loop-batch-init c =
    let looked = c.slots_beside-known.ensures in
    let before : In = record { ring = c.slots_beside-known.new.self; inbox = c.reserve.new.self; back = tt } in
    let drained = c.drain.ensures in
    let known = drained.known in
    let count = c.checked_add.ensures in
    let all : length c.drain.new.into.inbox.items ≡ length c.reserve.new.self.items + length (known_items c.slots_beside-known.new.self) =
    ap length drained.inbox ∙ length-append c.reserve.new.self.items (known_items c.slots_beside-known.new.self) in
    let room : deque_len c.drain.new.into.inbox + length c.args.out.now.kept.waiting ≤ deque_capacity c.drain.new.into.inbox =
    omega (arith, all, c.drain.new.into.inbox.ok.0, c.reserve.new.self.ok.0, drained.slots, c.in_ok-reserve.ensures.ok, c.len.ensures, looked.value, c.in-Some.ensures) in
    let both = gives-looked c.args.into.now before looked.looked.0 looked.looked.1 looked.looked.2 c.reserve.ensures.items in
    record {
      linked = linked-still c.args.out.now (record { ring = c.slots_beside-known.new.producer; kept = c.args.out.now.kept; back = tt }) c.args.into.now c.drain.new.into c.requires looked.producer.0
          (same-in-then c.args.into.now before c.drain.new.into looked.looked.0 drained.gives.ring);
      forwards = record { ring = looked.producer.0; only = refl; order = ap (λ l. l ++ c.args.out.now.kept.waiting) looked.producer.1 };
      gives = gives-then c.args.into.now before c.drain.new.into [] [] both drained.gives;
      even = drained.came ∙ looked.fifo;
      known = known;
      room = room;
    }

pub loop-batch-preserved : goal.loop-batch-preserved
loop-batch-preserved c =
    let kept = c.loop-batch.invariant in
    let popped = c.in-Some-pop.ensures in
    let one : length c.loop-batch.out.kept.waiting ≡ length c.pop.new.self.waiting + 1 = ap length popped.batch ∙ omega arith in
    let left : length c.carry.new.out.kept.waiting ≡ length c.pop.new.self.waiting = ap (λ (o : Outgoing). length o.waiting) c.carry.ensures.kept in
    let put : length c.carry.new.into.inbox.items ≡ length c.loop-batch.into.inbox.items + 1 = ap length c.carry.ensures.inbox ∙ length-append c.loop-batch.into.inbox.items _ in
    record {
      linked = c.carry.ensures.linked;
      forwards = forwards-one c.args.out.now c.loop-batch.out c.carry.new.out c.in-Some-pop.batch kept.forwards c.carry.ensures.out
          (c.carry.ensures.kept ∙ popped.only ∙ ap (λ (kept : Outgoing). record c.loop-batch.out.kept { waiting = kept.waiting }) (sym c.carry.ensures.kept))
          (popped.batch ∙ ap (λ (kept : Outgoing). c.in-Some-pop.batch ∷ kept.waiting) (sym c.carry.ensures.kept)) c.carry.ensures.sent;
      gives = gives-one c.args.into.now c.loop-batch.into c.carry.new.into c.in-Some-pop.batch kept.gives c.carry.ensures.into
          (c.carry.ensures.even ∙ c.carry.ensures.sent ∙ ap (λ l. l ++ c.in-Some-pop.batch ∷ []) (sym kept.even)) kept.known c.carry.ensures.known c.carry.ensures.inbox;
      even = c.carry.ensures.even;
      known = c.carry.ensures.known;
      room = omega (arith, kept.room, one, left, put, c.carry.new.into.inbox.ok.0, c.loop-batch.into.inbox.ok.0, c.carry.ensures.slots);
    }

pub returns : goal.returns
returns c =
    let looked = c.slots_beside-known.ensures in
    let inv = c.loop-batch.invariant in
    let popped = c.in_default-pop.ensures in
    let waiting = c.pop.new.self.waiting in
    record {
      linked = inv.linked;
      forwards = record {
        ring = inv.forwards.ring;
        only = popped.only ∙ ap (λ (kept : Outgoing). record kept { waiting = waiting }) inv.forwards.only;
        order = ap (λ l. sent c.loop-batch.out.ring ++ l) (sym popped.batch) ∙ inv.forwards.order;
      };
      gives = inv.gives;
      whole = whole-by c.args.out.now (record { ring = c.slots_beside-known.new.producer; kept = c.args.out.now.kept; back = tt }) c.args.into.now (record { ring = c.slots_beside-known.new.self; inbox = c.args.into.now.inbox; back = tt })
          looked.producer.1 looked.looked.1 looked.looked.2 looked.fifo;
      ok = settled-by (record { ring = c.loop-batch.out.ring; kept = c.pop.new.self; back = tt }) c.loop-batch.into (sym popped.batch ∙ none-first _ popped.found) inv.even inv.known;
      inbox_on_err = tt;
      out_on_err = tt;
    }
