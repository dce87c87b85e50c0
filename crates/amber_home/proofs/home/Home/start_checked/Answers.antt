-- A run that has not begun.
use Rattle.std.proofs.Common.{sym, subst, ◌∙◌, [], ap, List}
use Rattle.amber_rows.specs.declared.flow.Operator.{Operator}
use Rattle.amber_dataflow.specs.AtWork.{turned_by}
use Rattle.amber_home.specs.Asked.{first_asked}
use Rattle.amber_home.specs.Kept.{IsHome}
use Rattle.amber_home.specs.declared.phase.Phase.TheVariants as phase
use Rattle.amber_home.proofs.Fresh.{home-new}
use Rattle.amber_home.proofs.home.Home.start_checked.Goals as goal

pub invariant_of-result : goal.invariant_of-result
invariant_of-result g c =
    let made = c.in_ok-dataflow.ensures in
    let d = c.in_ok-dataflow.dataflow in
    subst (λ (flow : List Operator). IsHome (record { flow = flow; files = c.args.files; most = c.args.most; log = record { batch = c.args.batch_size; items = c.new-4.result }; phase = phase.Resting; parts = []; alone = 0; turned = turned_by d.workers })
    (record { dataflow = d; arms = c.in_ok-arms.arms; boards = c.new-5.result; stops = c.new-7.result; back = c.new-8.result.items })) (sym made.flow)
    (home-new c.args.flow c.args.files c.args.most c.args.batch_size c.new-4.result d c.in_ok-arms.arms c.new-5.result c.new-7.result c.new-8.result.items c.requires.steps (record { one_each = c.requires.one_each; headers = c.requires.headers }) c.requires.some c.requires.few (c.new-4.ensures ∙ c.new-3.ensures.items)
    (c.in_ok-arms.ensures ∙ ap first_asked (c.flow.ensures ∙ made.flow)) c.new-5.ensures (c.new-7.ensures ∙ c.new-6.ensures.items) (made.start c.args.most) made.journals made.unarmed)
