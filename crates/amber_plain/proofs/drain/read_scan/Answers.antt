-- The operator's records are those of its file, and there are none where there is no operator or it is no scan.
use Rattle.std.proofs.Common.{◌≡◌, [], refl, sym, ◌∙◌}
use Rattle.amber_rows.specs.Lists.{list_at}
use Rattle.amber_meaning.specs.Plain.{records_of}
use Rattle.amber_plain.proofs.Scans.{read-none, records-none, records-some}
use Rattle.amber_plain.proofs.drain.read_scan.Goals as goal

pub returns-in_default-clause-moved : goal.returns-in_default-clause-moved
returns-in_default-clause-moved c =
    let none = records-none c.args.files.now c.args.flow.now c.args.op (sym c.in_default.ensures.operator) in
    (read-none c.args.op _ c.args.chain.now c.new.result.items none c.new.ensures.items).0

pub returns-in_default-clause-left : goal.returns-in_default-clause-left
returns-in_default-clause-left c =
    let none = records-none c.args.files.now c.args.flow.now c.args.op (sym c.in_default.ensures.operator) in
    (read-none c.args.op _ c.args.chain.now c.new.result.items none c.new.ensures.items).1

pub returns-in_default-clause-refused : goal.returns-in_default-clause-refused
returns-in_default-clause-refused c =
    let none = records-none c.args.files.now c.args.flow.now c.args.op (sym c.in_default.ensures.operator) in
    (read-none c.args.op _ c.args.chain.now c.new.result.items none c.new.ensures.items).2

pub returns-then-not-is_scan-clause-moved : goal.returns-then-not-is_scan-clause-moved
returns-then-not-is_scan-clause-moved c =
    let records = records-some c.args.files.now c.args.flow.now c.args.op c.in-Some.operator.now (sym c.in-Some.ensures.operator) in
    let none : list_at (records_of c.args.files.now c.args.flow.now) c.args.op ≡ [] = rw (records, sym c.is_scan.ensures ∙ c.if-not-is_scan.true) refl in
    (read-none c.args.op _ c.args.chain.now c.new-then-not-is_scan.result.items none c.new-then-not-is_scan.ensures.items).0

pub returns-then-not-is_scan-clause-left : goal.returns-then-not-is_scan-clause-left
returns-then-not-is_scan-clause-left c =
    let records = records-some c.args.files.now c.args.flow.now c.args.op c.in-Some.operator.now (sym c.in-Some.ensures.operator) in
    let none : list_at (records_of c.args.files.now c.args.flow.now) c.args.op ≡ [] = rw (records, sym c.is_scan.ensures ∙ c.if-not-is_scan.true) refl in
    (read-none c.args.op _ c.args.chain.now c.new-then-not-is_scan.result.items none c.new-then-not-is_scan.ensures.items).1

pub returns-then-not-is_scan-clause-refused : goal.returns-then-not-is_scan-clause-refused
returns-then-not-is_scan-clause-refused c =
    let records = records-some c.args.files.now c.args.flow.now c.args.op c.in-Some.operator.now (sym c.in-Some.ensures.operator) in
    let none : list_at (records_of c.args.files.now c.args.flow.now) c.args.op ≡ [] = rw (records, sym c.is_scan.ensures ∙ c.if-not-is_scan.true) refl in
    (read-none c.args.op _ c.args.chain.now c.new-then-not-is_scan.result.items none c.new-then-not-is_scan.ensures.items).2

pub returns-clause-moved : goal.returns-clause-moved
returns-clause-moved c =
    let records = records-some c.args.files.now c.args.flow.now c.args.op c.in-Some.operator.now (sym c.in-Some.ensures.operator) in
    rw (records, sym c.is_scan.ensures ∙ c.if-not-is_scan.false, ← c.file_after-file.ensures) c.scan.ensures.moved

pub returns-clause-left : goal.returns-clause-left
returns-clause-left c =
    let records = records-some c.args.files.now c.args.flow.now c.args.op c.in-Some.operator.now (sym c.in-Some.ensures.operator) in
    rw (records, sym c.is_scan.ensures ∙ c.if-not-is_scan.false, ← c.file_after-file.ensures) c.scan.ensures.left

pub returns-clause-refused : goal.returns-clause-refused
returns-clause-refused c =
    let records = records-some c.args.files.now c.args.flow.now c.args.op c.in-Some.operator.now (sym c.in-Some.ensures.operator) in
    rw (records, sym c.is_scan.ensures ∙ c.if-not-is_scan.false, ← c.file_after-file.ensures) c.scan.ensures.refused
