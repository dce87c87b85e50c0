-- The record's fields stand from the end of the record before it to its own end.
use Rattle.std.proofs.Common.{◌≢◌, ◌-◌, ◌∙◌, ap, arith, drop, length, sym, take}
use Rattle.csv.specs.Records.{fields_of}
use Rattle.amber_rows.proofs.TypedCells.{row-width}
use Rattle.amber_cut.proofs.PieceFacts.{length-piece, length-pieces, record-at}
use Rattle.amber_cut.proofs.file_fields.Fields.typed.Goals as goal

pub bounds-start-requires : goal.bounds-start-requires
bounds-start-requires c =
    let a = c.self.inside in
    rw c.deref.ensures.value (omega (arith, c.requires.there, length-pieces 0 a.ends.items (fields_of a.store), ap length c.self.view_is))

pub overflow_sub-end : goal.overflow_sub-end
overflow_sub-end c =
    let a = c.self.inside in
    let ends = rw c.deref.ensures.value at c.bounds-start.ensures in
    (record-at a.ends.items (fields_of a.store) c.args.self.now c.args.number _ _ c.self.view_is c.self.invariant c.requires.there ends.start ends.end).0

pub returns-then-end-start : goal.returns-then-end-start
returns-then-end-start c =
    let a = c.self.inside in
    let store = fields_of a.store in
    let start = c.bounds-start.result.0 in
    let end = c.bounds-start.result.1 in
    let ends = rw c.deref.ensures.value at c.bounds-start.ensures in
    let at = record-at a.ends.items store c.args.self.now c.args.number _ _ c.self.view_is c.self.invariant c.requires.there ends.start ends.end in
    let long = length-piece start (end - start) store (omega (arith, at.0, at.1)) in
    let other : length (take (end - start) (drop start store)) ≢ length c.args.schema.now = λ e. c.if-end-start.true (sym long ∙ e ∙ sym c.len.ensures) in
    rw at.2 (row-width c.args.schema.now (take (end - start) (drop start store)) other)

pub retype_fields-requires-clause-fields : goal.retype_fields-requires-clause-fields
retype_fields-requires-clause-fields c =
    let a = c.self.inside in
    let ends = rw c.deref.ensures.value at c.bounds-start.ensures in
    let at = record-at a.ends.items (fields_of a.store) c.args.self.now c.args.number _ _ c.self.view_is c.self.invariant c.requires.there ends.start ends.end in
    omega (arith, at.0, c.if-end-start.false, c.len.ensures)

pub retype_fields-requires-clause-within : goal.retype_fields-requires-clause-within
retype_fields-requires-clause-within c =
    let a = c.self.inside in
    let ends = rw c.deref.ensures.value at c.bounds-start.ensures in
    (record-at a.ends.items (fields_of a.store) c.args.self.now c.args.number _ _ c.self.view_is c.self.invariant c.requires.there ends.start ends.end).1

pub returns : goal.returns
returns c =
    let a = c.self.inside in
    let store = fields_of a.store in
    let start = c.bounds-start.result.0 in
    let ends = rw c.deref.ensures.value at c.bounds-start.ensures in
    let at = record-at a.ends.items store c.args.self.now c.args.number _ _ c.self.view_is c.self.invariant c.requires.there ends.start ends.end in
    let width = c.if-end-start.false ∙ c.len.ensures in
    rw (at.2, width) c.retype_fields.ensures
