-- A session is cut short while it is fed or at its end, or comes to its end.
use Rattle.std.proofs.Common.{◌≡◌, Err, refl, rules}
use Rattle.amber_session.specs.declared.halt.Halt.TheVariants as halt
use Rattle.amber_session.proofs.Whole.{cut-feeding, cut-finishing, run-finished}
use Rattle.amber_session.proofs.run.do_session.Goals as goal

pub returns-in_err-feed_all-clause-ran : goal.returns-in_err-feed_all-clause-ran
returns-in_err-feed_all-clause-ran g c =
    let started = c.in_ok-dialogue.ensures.started in
    let h = c.in_err-feed_all.field-0.0 in
    let e : c.from_residual-in_err-feed_all.result ≡ Err h = search rules in
    rw e (cut-feeding h (record { words = _; before = _; after = _ }) started.0 c.in_ok-dialogue.dialogue c.feed_all.new.dialogue _
    (record { asked = started.1; loads = started.2; begins = started.3; going = c.in_ok-dialogue.ensures.going; supply = refl }) c.in_err-feed_all.ensures.feeds c.in_err-feed_all.ensures.counted)

pub returns-in_err-finish-clause-ran : goal.returns-in_err-finish-clause-ran
returns-in_err-finish-clause-ran g c =
    let started = c.in_ok-dialogue.ensures.started in
    let fed = c.in_ok-feed_all.ensures in
    let f = c.in_err-finish.field-0.0 in
    let e : c.from_residual-in_err-finish.result ≡ Err (halt.Failure f) = search rules in
    rw e (cut-finishing f (record { words = _; before = _; after = _ }) started.0 c.in_ok-dialogue.dialogue c.feed_all.new.dialogue c.finish.new.self.debugger _ _
    (record { asked = started.1; loads = started.2; begins = started.3; going = c.in_ok-dialogue.ensures.going; supply = refl })
    (record { input = fed.feeds.0; fed = fed.feeds.1; all = fed.feeds.2; going = fed.going; failed = fed.counted }) c.in_err-finish.ensures.finishes c.in_err-finish.ensures.legal
    c.in_err-finish.ensures.counted)

pub returns-clause-ran : goal.returns-clause-ran
returns-clause-ran g c =
    let started = c.in_ok-dialogue.ensures.started in
    let fed = c.in_ok-feed_all.ensures in
    run-finished (record { words = _; before = _; after = _ }) started.0 c.in_ok-dialogue.dialogue c.feed_all.new.dialogue c.finish.new.self.debugger _ _
    (record { asked = started.1; loads = started.2; begins = started.3; going = c.in_ok-dialogue.ensures.going; supply = refl })
    (record { input = fed.feeds.0; fed = fed.feeds.1; all = fed.feeds.2; going = fed.going; failed = fed.counted }) c.in_ok-finish.ensures.finishes c.in_ok-finish.ensures.legal
    c.in_ok-finish.ensures.counted
