-- One share more.
use Rattle.std.proofs.Common.{◌≡◌, ◌∙◌, ◌+◌, ℕ, ap, arith, refl}
use Rattle.std.proofs.lemmas.List.{length_push}
use Rattle.std.proofs.lemmas.List.Elements.{All-push}
use Rattle.std.specs.Arc.{arc_value}
use Rattle.amber_rows.specs.Shares.{share_of}
use Rattle.amber_scan.specs.Shares.{ShareState, scanned_number, scanned_of}
use Rattle.amber_scan.proofs.Every.{records-scanned}
use Rattle.amber_scan.proofs.Taking.{each-push}
use Rattle.amber_scan.proofs.dealing.deal_checked.Goals as goal

pub workers-preserved : goal.workers-preserved
workers-preserved g c =
    let shares = c.workers.shares.items in
    let share = c.new-share.result in
    let worker = c.workers.worker in
    let inv = c.workers.invariant in
    let columns = c.args.schema.now in
    let records = arc_value c.in_ok-records.records in
    let IsDealt = λ (k : ℕ) (one : ShareState). one.left ≡ share_of scanned_number c.args.workers k (scanned_of columns records) in
    let left : IsDealt worker share = c.new-share.ensures.left ∙ rw (c.in_ok-clone.ensures.cases, c.in_ok-clone-2.ensures.cases) refl in
    let same : share.columns ≡ columns = c.new-share.ensures.columns ∙ c.in_ok-clone-2.ensures.cases in
    rw c.in_ok-push.ensures.items (record {
      one_each = length_push shares share ∙ ap (λ n. n + 1) inv.one_each;
      shares = each-push IsDealt shares share worker inv.one_each inv.shares left;
      columns = All-push (λ one. one.columns ≡ columns) shares share inv.columns same;
    })

pub returns-clause-shares : goal.returns-clause-shares
returns-clause-shares g c = λ worker d h.
    let scanned = records-scanned c.args.schema.now (arc_value c.in_ok-records.records) c.args.file.now (c.in_ok-records.ensures.ok ∙ c.in_ok-new.ensures) in
    c.workers.invariant.shares worker d (omega (arith, h, c.workers-test.false)) ∙ ap (share_of scanned_number c.args.workers worker) scanned
