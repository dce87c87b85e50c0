-- As many as the rows that come of what is ready.
use Rattle.std.proofs.Common.{◌∙◌, ap, arith, length, sym, take}
use Rattle.amber_operators.specs.Handed.{arrivals_in}
use Rattle.amber_operators.specs.ReadiedRows.{AreBuiltReady, AreKeptReady, AreMadeReady, AreRecordsReady, AreRowsReady}
use Rattle.amber_operators.proofs.ReadiedFacts.{built-are, kept-are, made-are, records-are, rows-are}
use Rattle.amber_operators.proofs.readied_rows.ReadiedRows.made.Goals as goal

pub returns-in-Records : goal.returns-in-Records
returns-in-Records c how rest ready =
    let r : AreRecordsReady how rest c.in-Records.before c.in-Records.made = rw c.in-Records.is at ready in
    r.made_so ∙ sym (ap length (records-are how rest how.count r.share r.shared r.scan))

pub returns-in-Rows : goal.returns-in-Rows
returns-in-Rows c how rest ready =
    let r : AreRowsReady how rest c.in-Rows.fates = rw c.in-Rows.is at ready in
    r.made_so ∙ sym (ap length (rows-are how rest how.count r.batch r.plain))

pub returns-in-Made : goal.returns-in-Made
returns-in-Made c how rest ready =
    let r : AreMadeReady how rest c.in-Made.made = rw c.in-Made.is at ready in
    let same = ap length (r.yields ∙ sym (made-are how rest how.count r.batch r.still)) in
    omega (arith, c.len.ensures, c.in-Made.made.rows.ok.0, same)

pub returns-in-Kept : goal.returns-in-Kept
returns-in-Kept c how rest ready =
    let r : AreKeptReady how rest = rw c.in-Kept.is at ready in
    sym (ap length (kept-are how rest how.count r.sink))

pub returns-in-Built : goal.returns-in-Built
returns-in-Built c how rest ready =
    let r : AreBuiltReady how rest = rw c.in-Built.is at ready in
    sym (ap length (built-are how (take how.count (arrivals_in rest)) r.joins r.side))
