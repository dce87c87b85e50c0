-- From each worker to the next.
use Rattle.std.proofs.Common.{◌≡◌, ◌++◌, ◌<◌, ◌≤◌, get_or, length, sym, ap, ◌∙◌}
use Rattle.amber_meaning.specs.Texts.{next_text, view_words, words_line}
use Rattle.amber_report.proofs.Lines.{views_end, views_step}
use Rattle.amber_report.proofs.inspect.push_views.Goals as goal

pub loop-worker-preserved : goal.loop-worker-preserved
loop-worker-preserved c =
    let views = c.args.views.now in
    let view = c.view-item.result in
    let i = c.loop-worker.worker in
    let less : i < length views = rw c.get-view-items.ensures at c.loop-worker-test.true in
    let is : view ≡ get_or views i view = rw c.get-view-items.ensures at c.view-item.is in
    let told : c.push_next.new.text.items ≡ (c.loop-worker.text.items ++ words_line (view_words i view)) ++ next_text view.next =
    c.in_ok-push_next.ensures ∙ ap (λ text. text ++ next_text view.next) c.in_ok-push_worker.ensures in
    views_step c.loop-worker.text.items c.push_next.new.text.items views i view less is told ∙ c.loop-worker.invariant

pub returns : goal.returns
returns c =
    let most : length c.args.views.now ≤ c.loop-worker.worker = rw c.get-view-items.ensures at c.loop-worker-test.false in
    sym (views_end c.loop-worker.text.items c.args.views.now c.loop-worker.worker most) ∙ c.loop-worker.invariant
