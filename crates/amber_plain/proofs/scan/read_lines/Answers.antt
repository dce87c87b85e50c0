-- The header first, then line by line.
use Rattle.std.proofs.Common.{◌≡◌, ◌∙◌, [], ◌∷◌, ◌++◌, Err, ap, map, refl, sym, arith, rules}
use Rattle.std.proofs.lemmas.List.{length_push}
use Rattle.amber_cut.specs.Lines.{cut}
use Rattle.amber_plain.proofs.LineRecords.{read-more, read-none, read-one}
use Rattle.amber_plain.proofs.Records.{Gathers-more, Gathers-none, gathers-all, gathers-nothing, gathers-short}
use Rattle.amber_plain.proofs.scan.read_lines.Goals as goal

pub returns-in_default-clause-moved : goal.returns-in_default-clause-moved
returns-in_default-clause-moved c = λ file e.
    (gathers-nothing c.args.op c.args.schema.now file c.args.chain.now c.new.result.items (sym e ∙ ap (map cut) c.in_default.ensures.0) c.new.ensures.items).0

pub returns-in_default-clause-left : goal.returns-in_default-clause-left
returns-in_default-clause-left c = λ file e.
    (gathers-nothing c.args.op c.args.schema.now file c.args.chain.now c.new.result.items (sym e ∙ ap (map cut) c.in_default.ensures.0) c.new.ensures.items).1

pub returns-in_default-clause-refused : goal.returns-in_default-clause-refused
returns-in_default-clause-refused c = λ file e.
    (gathers-nothing c.args.op c.args.schema.now file c.args.chain.now c.new.result.items (sym e ∙ ap (map cut) c.in_default.ensures.0) c.new.ensures.items).2

pub records-init : goal.records-init
records-init c = λ file e. record {
  header = cut c.in-Some._header.now;
  done = [];
  read = sym e ∙ ap (map cut) c.in-Some.ensures;
  counted = refl;
  gathers = Gathers-none c.args.op c.args.schema.now c.args.chain.now c.new-refused.result.items c.new-refused.ensures.items;
}

pub returns-in_default-next-clause-moved : goal.returns-in_default-next-clause-moved
returns-in_default-next-clause-moved c = λ file e.
    let inv = c.records.invariant file e in
    (gathers-all c.args.op c.args.schema.now file inv.header inv.done _ _ _ inv.gathers (read-none file c.records.reader inv.header inv.done inv.read c.in_default-next.ensures.0)).0

pub returns-in_default-next-clause-left : goal.returns-in_default-next-clause-left
returns-in_default-next-clause-left c = λ file e.
    let inv = c.records.invariant file e in
    (gathers-all c.args.op c.args.schema.now file inv.header inv.done _ _ _ inv.gathers (read-none file c.records.reader inv.header inv.done inv.read c.in_default-next.ensures.0)).1

pub returns-in_default-next-clause-refused : goal.returns-in_default-next-clause-refused
returns-in_default-next-clause-refused c = λ file e.
    let inv = c.records.invariant file e in
    (gathers-all c.args.op c.args.schema.now file inv.header inv.done _ _ _ inv.gathers (read-none file c.records.reader inv.header inv.done inv.read c.in_default-next.ensures.0)).2

pub returns-in_err-room-clause-left : goal.returns-in_err-room-clause-left
returns-in_err-room-clause-left c = λ file unread.
    let inv = c.records.invariant file unread in
    let e : c.from_residual-in_err-room.result ≡ Err c.in_err-room.field-0.0 = search rules in
    let line = c.in-Some-next.line.now in
    let read = read-one file c.records.reader c.next-in-records.new.self line inv.header inv.done inv.read c.in-Some-next.ensures in
    rw e (gathers-short c.args.op c.args.schema.now file inv.header inv.done (cut line) (map cut c.next-in-records.new.self) c.args.chain.now c.records.chain c.records.refused.items c.in_ok-typed.typed
    c.in_err-room.field-0.0 inv.gathers read c.in_ok-typed.ensures c.in_err-room.ensures.left)

pub records-preserved : goal.records-preserved
records-preserved c = λ file e.
    let inv = c.records.invariant file e in
    let line = c.in-Some-next.line.now in
    let later = c.next-in-records.new.self in
    record {
      header = inv.header;
      done = inv.done ++ cut line ∷ [];
      read = read-more file later line inv.header inv.done (read-one file c.records.reader later line inv.header inv.done inv.read c.in-Some-next.ensures);
      counted = omega (arith, inv.counted, length_push inv.done (cut line));
      gathers = Gathers-more c.args.op c.args.schema.now inv.done c.args.chain.now c.records.chain c.add_record.new.chain
          c.records.refused.items c.add_record.new.refused.items (cut line) c.in_ok-typed.typed c.records.number
          inv.gathers inv.counted c.in_ok-typed.ensures c.in_ok-room.ensures.moved c.in_ok-room.ensures.left c.in_ok-room.ensures.refused;
    }
