-- A piece more is fed, and at the end all of the source.
use Rattle.std.proofs.Common.{◌≡◌, ◌∙◌, [], Err, false, true, refl, rules}
use Rattle.amber_session.proofs.Running.{cuts-on, fed-none, less-left, next-on}
use Rattle.amber_session.proofs.run.feed_all.Goals as goal

pub loop-more-init : goal.loop-more-init
loop-more-init g c = record {
  fed = ([], fed-none _ _, λ e. let never : true ≡ false = e in cc);
  going = c.requires.going;
  name = refl;
  there = c.requires.there;
  faults = refl;
  counted = (refl, refl, refl);
  held = refl;
}

pub loop-more-preserved : goal.loop-more-preserved
loop-more-preserved g c =
    let sofar = c.loop-more.invariant in
    let done = c.in_ok-more.ensures in
    record {
      fed = next-on c.in_ok-more.more _ _ _ sofar.fed.0 sofar.fed.1 done.feeds;
      going = done.going;
      name = done.name ∙ sofar.name;
      there = rw sofar.name at done.there;
      faults = done.reads ∙ sofar.faults;
      counted = (done.counted.0 ∙ sofar.counted.0, done.counted.1 ∙ sofar.counted.1, done.counted.2 ∙ sofar.counted.2);
      held = done.held ∙ sofar.held;
    }

pub returns-in_err-more-clause-feeds : goal.returns-in_err-more-clause-feeds
returns-in_err-more-clause-feeds g c =
    let h = c.in_err-more.field-0.0 in
    let e : c.from_residual.result ≡ Err h = search rules in
    rw e (cuts-on h _ _ _ c.loop-more.invariant.fed.0 c.loop-more.invariant.fed.1 c.in_err-more.ensures.feeds)

pub returns-clause-feeds : goal.returns-clause-feeds
returns-clause-feeds g c = (c.loop-more.invariant.fed.0, c.loop-more.invariant.fed.1, c.loop-more.invariant.fed.2 c.loop-more-test.false)

pub loop-more-smaller : goal.loop-more-smaller
loop-more-smaller g c = rw c.loop-more-test.true (less-left c.in_ok-more.more _ c.in_ok-more.ensures.feeds c.in_ok-more.ensures.going)
