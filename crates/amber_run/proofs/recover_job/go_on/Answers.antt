-- The commands that are left are done.
use Rattle.std.proofs.Common.{◌≡◌, ◌++◌, ◌-◌, ◌≤◌, ◌<◌, [], List, Ok, drop, take, length, false, true, sym, ap, subst, ◌∙◌, arith}
use Rattle.amber_rows.specs.FlowRules.{IsFlow}
use Rattle.amber_log.specs.Fits.{fits_of}
use Rattle.amber_log.specs.declared.log.Item.{Item}
use Rattle.amber_log.specs.declared.log.Log.{Log}
use Rattle.amber_script.specs.Commands.{is_scripted}
use Rattle.amber_recorder.specs.Left.{ends_long}
use Rattle.amber_run.specs.RunTask.{end_alone}
use Rattle.amber_run.specs.UnderWay.{IsAt}
use Rattle.amber_run.proofs.Finishing.{worked-script}
use Rattle.amber_run.proofs.GoingOn.{left-all, left-behind, may-go-on, none-behind, slice-behind, taken-at, taken-items, taken-long}
use Rattle.amber_run.proofs.recover_job.go_on.Goals as goal

pub returns-then-ends_long-clause-worked : goal.returns-then-ends_long-clause-worked
returns-then-ends_long-clause-worked g c =
    λ t name all taken.
    let d = c.args.debugger.now in
    let now = g.W.Outside.world c.args.recorder.now.outside.now in
    let long = ap (λ (items : List Item). ends_long false items) (sym (taken-items t d now taken) ∙ ap (λ (l : Log). l.items) (sym c.log.ensures.log)) in
    taken-long t d now (subst IsFlow taken.session.flow c.requires.flow) taken (long ∙ sym c.ends_long.ensures ∙ c.if-ends_long.true)

pub returns-then-done-commands-clause-worked : goal.returns-then-done-commands-clause-worked
returns-then-done-commands-clause-worked g c =
    λ t name all taken.
    let d = c.args.debugger.now in
    let now = g.W.Outside.world c.args.recorder.now.outside.now in
    let items = taken-items t d now taken in
    let short = ap (λ (items : List Item). ends_long false items) (sym items ∙ ap (λ (l : Log). l.items) (sym c.log.ensures.log)) ∙ sym c.ends_long.ensures ∙ c.if-ends_long.false in
    let done = ap (λ (items : List Item). length items) (c.get-done.ensures ∙ ap (λ (l : Log). l.items) c.log-2.ensures.log ∙ items) in
    let more : length c.args.commands.now < length t.begun = omega (arith, done, c.if-done-commands.true) in
    worked-script {A = Unit {0}} (Ok tt) t c.args.commands.now d now (subst IsFlow taken.session.flow c.requires.flow) all
    (taken-at t d now [] taken (none-behind t.begun c.args.commands.now taken.left (taken.commands ∙ all) more) short)

pub do_script-requires-clause-script : goal.do_script-requires-clause-script
do_script-requires-clause-script g c κs within =
    let commands = c.args.commands.now in
    let n = length c.get-done.result.now in
    rw (slice-behind commands n) (record {
      fit = left-all (fits_of c.args.debugger.now.flow) commands n c.requires.script.fit;
      scripted = left-all is_scripted commands n c.requires.script.scripted;
    })

pub do_script-requires-clause-open : goal.do_script-requires-clause-open
do_script-requires-clause-open g c κs within =
    let items = c.args.debugger.now.log.items in
    let short = ap (λ (l : Log). ends_long false l.items) (sym c.log.ensures.log) ∙ sym c.ends_long.ensures ∙ c.if-ends_long.false in
    let done = ap (λ (items : List Item). length items) (c.get-done.ensures ∙ ap (λ (l : Log). l.items) c.log-2.ensures.log) in
    let few : length items ≤ length c.args.commands.now = omega (arith, done, c.if-done-commands.false) in
    may-go-on items c.args.commands.now c.requires.first.0 c.requires.first.1 few c.requires.script.scripted short

pub returns-clause-worked : goal.returns-clause-worked
returns-clause-worked g c =
    λ t name all taken.
    let d = c.args.debugger.now in
    let commands = c.args.commands.now in
    let now = g.W.Outside.world c.args.recorder.now.outside.now in
    let items = taken-items t d now taken in
    let n = length c.get-done.result.now in
    let short = ap (λ (items : List Item). ends_long false items) (sym items ∙ ap (λ (l : Log). l.items) (sym c.log.ensures.log)) ∙ sym c.ends_long.ensures ∙ c.if-ends_long.false in
    let done : n ≡ length t.begun = ap (λ (items : List Item). length items) (c.get-done.ensures ∙ ap (λ (l : Log). l.items) c.log-2.ensures.log ∙ items) in
    let few : length t.begun ≤ length commands = omega (arith, done, c.if-done-commands.false) in
    let left : taken.left ≡ take (length commands - n) (drop n commands) ++ end_alone =
    left-behind t.begun commands taken.left (taken.commands ∙ all) few ∙ ap (λ k. drop k commands ++ end_alone) (sym done) ∙ ap (λ c. c ++ end_alone) (sym (slice-behind commands n)) in
    worked-script c.do_script.result t commands c.do_script.new.debugger (g.W.Outside.world c.do_script.new.recorder.outside.now) (subst IsFlow taken.session.flow c.requires.flow) all
    (c.do_script.ensures.did t name (taken-at t d now (take (length commands - n) (drop n commands) ++ end_alone) taken left short))
