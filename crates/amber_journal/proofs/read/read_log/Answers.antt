-- The definition's reading, as the laws state it.
use Rattle.std.proofs.Common.{ℕ, Result, subst}
use Rattle.amber_log.specs.declared.log.Log.{Log}
use Rattle.amber_journal.specs.Answered.{GivesLog}
use Rattle.amber_journal.proofs.ReadBack.{bad, found, read-whole, reads, refuses}
use Rattle.amber_journal.proofs.read.read_log.Goals as goal

pub returns-clause-found : goal.returns-clause-found
returns-clause-found c =
    let whole = read-whole c.args.bytes.now c.whole_items-whole.result c.whole_items-whole.ensures.value in
    found c.args.bytes.now c.read_lines.result (subst (λ (r : Result Log ℕ). GivesLog c.read_lines.result r) whole c.read_lines.ensures)

pub returns-clause-bad : goal.returns-clause-bad
returns-clause-bad c =
    let whole = read-whole c.args.bytes.now c.whole_items-whole.result c.whole_items-whole.ensures.value in
    bad c.args.bytes.now c.read_lines.result (subst (λ (r : Result Log ℕ). GivesLog c.read_lines.result r) whole c.read_lines.ensures)

pub returns-clause-reads : goal.returns-clause-reads
returns-clause-reads c =
    let whole = read-whole c.args.bytes.now c.whole_items-whole.result c.whole_items-whole.ensures.value in
    reads c.args.bytes.now c.read_lines.result (subst (λ (r : Result Log ℕ). GivesLog c.read_lines.result r) whole c.read_lines.ensures)

pub returns-clause-refuses : goal.returns-clause-refuses
returns-clause-refuses c =
    let whole = read-whole c.args.bytes.now c.whole_items-whole.result c.whole_items-whole.ensures.value in
    refuses c.args.bytes.now c.read_lines.result (subst (λ (r : Result Log ℕ). GivesLog c.read_lines.result r) whole c.read_lines.ensures)
