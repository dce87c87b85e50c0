-- The header first, then record by record.
use Rattle.std.proofs.Common.{◌≡◌, [], ◌∷◌, ◌++◌, Err, refl, arith, rules}
use Rattle.std.proofs.lemmas.List.{length_push}
use Rattle.csv.specs.Records.{fields_of}
use Rattle.amber_plain.proofs.Records.{Gathers-more, Gathers-none, gathers-all, gathers-nothing, gathers-short}
use Rattle.amber_plain.proofs.scan.read_records.Goals as goal

pub returns-then-not-headed-clause-moved : goal.returns-then-not-headed-clause-moved
returns-then-not-headed-clause-moved c = λ file unread.
    (gathers-nothing c.args.op c.args.schema.now file c.args.chain.now c.new.result.items (c.in_ok-headed.ensures.all file [] unread (search rules)) c.new.ensures.items).0

pub returns-then-not-headed-clause-left : goal.returns-then-not-headed-clause-left
returns-then-not-headed-clause-left c = λ file unread.
    (gathers-nothing c.args.op c.args.schema.now file c.args.chain.now c.new.result.items (c.in_ok-headed.ensures.all file [] unread (search rules)) c.new.ensures.items).1

pub returns-then-not-headed-clause-refused : goal.returns-then-not-headed-clause-refused
returns-then-not-headed-clause-refused c = λ file unread.
    (gathers-nothing c.args.op c.args.schema.now file c.args.chain.now c.new.result.items (c.in_ok-headed.ensures.all file [] unread (search rules)) c.new.ensures.items).2

pub records-init : goal.records-init
records-init c = λ file unread. record {
  header = fields_of c.next.new.fields;
  done = [];
  read = c.in_ok-headed.ensures.more file [] unread (search rules);
  counted = refl;
  gathers = Gathers-none c.args.op c.args.schema.now c.args.chain.now c.new-refused.result.items c.new-refused.ensures.items;
}

pub returns-then-not-found-clause-moved : goal.returns-then-not-found-clause-moved
returns-then-not-found-clause-moved c = λ file unread.
    let inv = c.records.invariant file unread in
    (gathers-all c.args.op c.args.schema.now file inv.header inv.done _ _ _ inv.gathers (c.in_ok-found.ensures.all file (inv.header ∷ inv.done) inv.read (search rules))).0

pub returns-then-not-found-clause-left : goal.returns-then-not-found-clause-left
returns-then-not-found-clause-left c = λ file unread.
    let inv = c.records.invariant file unread in
    (gathers-all c.args.op c.args.schema.now file inv.header inv.done _ _ _ inv.gathers (c.in_ok-found.ensures.all file (inv.header ∷ inv.done) inv.read (search rules))).1

pub returns-then-not-found-clause-refused : goal.returns-then-not-found-clause-refused
returns-then-not-found-clause-refused c = λ file unread.
    let inv = c.records.invariant file unread in
    (gathers-all c.args.op c.args.schema.now file inv.header inv.done _ _ _ inv.gathers (c.in_ok-found.ensures.all file (inv.header ∷ inv.done) inv.read (search rules))).2

pub returns-in_err-room-clause-left : goal.returns-in_err-room-clause-left
returns-in_err-room-clause-left c = λ file unread.
    let inv = c.records.invariant file unread in
    let e : c.from_residual-in_err-room.result ≡ Err c.in_err-room.field-0.0 = search rules in
    let place = c.in_ok-found.ensures.place file (inv.header ∷ inv.done) inv.read (search rules) in
    rw e (gathers-short c.args.op c.args.schema.now file inv.header inv.done (fields_of c.next-in-records.new.fields) place.0 c.args.chain.now c.records.chain c.records.refused.items c.in_ok-typed.typed
    c.in_err-room.field-0.0 inv.gathers place.1 c.in_ok-typed.ensures c.in_err-room.ensures.left)

pub records-preserved : goal.records-preserved
records-preserved c = λ file unread.
    let inv = c.records.invariant file unread in
    let fields = fields_of c.next-in-records.new.fields in
    record {
      header = inv.header;
      done = inv.done ++ fields ∷ [];
      read = c.in_ok-found.ensures.more file (inv.header ∷ inv.done) inv.read (search rules);
      counted = omega (arith, inv.counted, length_push inv.done fields);
      gathers = Gathers-more c.args.op c.args.schema.now inv.done c.args.chain.now c.records.chain c.add_record.new.chain
          c.records.refused.items c.add_record.new.refused.items fields c.in_ok-typed.typed c.records.number
          inv.gathers inv.counted c.in_ok-typed.ensures c.in_ok-room.ensures.moved c.in_ok-room.ensures.left c.in_ok-room.ensures.refused;
    }
