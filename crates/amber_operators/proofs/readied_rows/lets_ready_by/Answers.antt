-- What comes of what is ready is looked at.
use Rattle.std.proofs.Common.{◌≤◌, ◌++◌, ◌∙◌, List, ap, length, not, subst, sym, take}
use Rattle.amber_scan.specs.Shares.{ShareState}
use Rattle.amber_operators.specs.Handed.{arrivals_in}
use Rattle.amber_operators.specs.ReadiedRows.{AreBuiltReady, AreKeptReady, AreMadeReady, AreRecordsReady, AreRowsReady, Reading, yielded_to}
use Rattle.amber_operators.specs.ManyRows.{lets_by, passed_by, yielded_records}
use Rattle.amber_operators.specs.declared.taking_rows.Fate.{Fate}
use Rattle.amber_operators.proofs.LettingBy.{lets-any}
use Rattle.amber_operators.proofs.ReadiedFacts.{built-are, kept-are, made-are, records-are, rows-are, some-same}
use Rattle.amber_operators.proofs.readied_rows.lets_ready_by.Goals as goal

-- no condition is in force
pub returns-then-is_none : goal.returns-then-is_none
returns-then-is_none c how later count columns ready =
    lets-any c.args.when.now c.args.gate.now later (yielded_to how (arrivals_in c.args.rest.now) ++ later) (c.is_none.ensures ∙ ap not c.if-is_none.true)

pub lets_records_by-requires-clause-there : goal.lets_records_by-requires-clause-there
lets_records_by-requires-clause-there c =
    let how : Reading = c.requires.0 in
    let r : AreRecordsReady how c.args.rest.now c.in-Records.before c.in-Records.made = rw c.in-Records.is at c.requires.3 in
    subst (λ (share : ShareState). c.args.count ≤ length share.left) (some-same r.share c.in-Some.share (sym r.shared ∙ c.in-Some.is)) (subst (λ n. n ≤ length r.share.left) c.requires.1 r.there)

pub returns-in-Some : goal.returns-in-Some
returns-in-Some c how later count columns ready =
    let r : AreRecordsReady how c.args.rest.now c.in-Records.before c.in-Records.made = rw c.in-Records.is at ready in
    c.lets_records_by.ensures later
    ∙ ap (λ l. lets_by c.args.when.now c.args.gate.now (l ++ later))
    ((λ i. yielded_records (sym columns i) (take (sym count i) c.in-Some.share.left)) ∙ sym (records-are how c.args.rest.now how.count c.in-Some.share c.in-Some.is r.scan))

pub returns-in-Rows : goal.returns-in-Rows
returns-in-Rows c how later count columns ready =
    let r : AreRowsReady how c.args.rest.now c.in-Rows.fates = rw c.in-Rows.is at ready in
    c.lets_fates_by.ensures later
    ∙ ap (λ l. lets_by c.args.when.now c.args.gate.now (l ++ later))
    (ap (λ (l : List Fate). passed_by l c.args.rest.now.rows.items) c.as_slice.ensures.value ∙ r.yields ∙ sym (rows-are how c.args.rest.now how.count r.batch r.plain))

pub returns-in-Made : goal.returns-in-Made
returns-in-Made c how later count columns ready =
    let r : AreMadeReady how c.args.rest.now c.in-Made.made = rw c.in-Made.is at ready in
    c.lets_rows_by.ensures later ∙ ap (λ l. lets_by c.args.when.now c.args.gate.now (l ++ later)) (r.yields ∙ sym (made-are how c.args.rest.now how.count r.batch r.still))

pub returns-in-Kept : goal.returns-in-Kept
returns-in-Kept c how later count columns ready =
    let r : AreKeptReady how c.args.rest.now = rw c.in-Kept.is at ready in
    ap (λ l. lets_by c.args.when.now c.args.gate.now (l ++ later)) (sym (kept-are how c.args.rest.now how.count r.sink))

pub returns-in-Built : goal.returns-in-Built
returns-in-Built c how later count columns ready =
    let r : AreBuiltReady how c.args.rest.now = rw c.in-Built.is at ready in
    ap (λ l. lets_by c.args.when.now c.args.gate.now (l ++ later)) (sym (built-are how (take how.count (arrivals_in c.args.rest.now)) r.joins r.side))
