-- Turns that are driven one after the other.
use Rattle.std.proofs.Common.{◌≡◌, ℕ, ◌+◌, ◌-◌, ◌≤◌, not, List, [], ◌∷◌, length, count_by, Option, Some, None, Bool, true, false, if◌then◌else◌, refl, sym, ap, ◌∙◌, subst, arith}
use Rattle.std.specs.List.{list_all}
use Rattle.std.specs.Option.{IfSome, option_map}
use Rattle.std.proofs.lemmas.Bool.{and_from}
use Rattle.std.proofs.Math.Nat.{min-eq_left}
use Rattle.std.proofs.lemmas.List.Sums.{sum_by-cons}
use Rattle.amber_rows.specs.Lists.{first_of, later_of}
use Rattle.amber_link.proofs.SentOn.{sent_on-same, sent_on-then}
use Rattle.amber_mail.specs.Controls.{answer_at, is_pause}
use Rattle.amber_mail.specs.declared.mail.Control.{Control}
use Rattle.amber_worker.specs.Acting.{Acts}
use Rattle.amber_worker.specs.AtPosition.{IsLookedAt}
use Rattle.amber_worker.specs.Steps.{held_at}
use Rattle.amber_worker.specs.declared.driving.Drove.{Drove}
use Rattle.amber_worker.specs.Driving.{AreAnswers, BreaksOff, CountsTurns, Driven, Drives, DrivesOnce, Driving, HasDriven, HasSent, OnlyLooks, RanBy, StandsAfter, stops, with_turns}
use Rattle.amber_worker.specs.Turning.{IsCalm, MakesTurn, MakesTurns, StaysCalm}
use Rattle.amber_worker.specs.WorkerState.{WorkerState, is_starved, next_turn, steps_made}
use Rattle.amber_worker.specs.declared.turn.Turn.{Turn}
use Rattle.amber_worker.specs.declared.turn.Turn.TheVariants as turn
use Rattle.amber_worker.proofs.TurnCases.{ends-by, pauses-by, starves-by}
use Rattle.amber_worker.proofs.CalmTurns.{calm-broken, calm-then, calm-turn}
use Rattle.amber_worker.proofs.Selves.{turns-uncounted}
use Rattle.amber_worker.proofs.ManyTurns.{makes-armed, makes-looked, makes-more, makes-same, makes-sent, makes-then}

-- ---- batches that are sent

pub sent-same : (w : WorkerState) → HasSent w w
sent-same w = record { sent = sent_on-same w.outs; only = refl }

pub sent-then : (a b c : WorkerState) → HasSent a b → HasSent b c → HasSent a c
sent-then a b c one two = record {
  sent = sent_on-then a.outs b.outs c.outs one.sent two.sent;
  only = two.only ∙ ap (λ (w : WorkerState). record w { outs = c.outs }) one.only;
}

ran-sent : (turns : List Driven) (old mid new : WorkerState) → RanBy turns old mid → HasSent mid new → RanBy turns old new
unfolding RanBy
ran-sent [] old mid new ran sent = sent-then old mid new ran sent
ran-sent (one ∷ earlier) old mid new ran sent = (ran.0, ran.1, ran.2, ran.3, sent-then ran.1 mid new ran.4 sent)

-- what a worker stands on after a turn does not depend on what was sent
stands-sent : (old new : WorkerState) (done : Turn) → HasSent old new → StandsAfter old done → StandsAfter new done
stands-sent old new turn.Moved sent stands = tt
stands-sent old new turn.Idle sent stands = ap next_turn sent.only ∙ stands
stands-sent old new turn.Held sent stands = ap (λ (w : WorkerState). w.restraint.held) sent.only ∙ stands
stands-sent old new turn.Starved sent stands = ap is_starved sent.only ∙ stands
stands-sent old new turn.Paused sent stands = ap (λ (w : WorkerState). w.restraint.paused) sent.only ∙ stands
stands-sent old new turn.Ended sent stands = ap (λ (w : WorkerState). w.finished) sent.only ∙ stands

pub if-sent : (old new : WorkerState) (last : Option Turn) → HasSent old new → IfSome last (StandsAfter old) → IfSome last (StandsAfter new)
if-sent old new None sent stands = tt
if-sent old new (Some done) sent stands = stands-sent old new done sent stands

-- ---- turns so far

-- these turns were made, the last one first, and none of them was counted yet
pub record HasRun (turns : List Driven) (old new : Driving) : Type 0 where
  pub ran : RanBy turns old.worker new.worker
  pub looks : new.looks ≡ old.looks + length turns
  pub pauses : new.pauses ≡ old.pauses + count_by (λ one. is_pause one.told) turns
  pub plan : new.plan ≡ old.plan
  pub answers : IfSome old.plan (λ plan. AreAnswers plan old.looks turns)
  pub on : list_all (λ one. not (stops one.done)) (later_of turns) ≡ true
  pub turned : new.worker.turned ≡ old.worker.turned

-- so many turns were made, and the last of them came to this
pub record Reached (made : ℕ) (old new : Driving) (last : Option Turn) : Type 0 where
  pub turns : List Driven
  pub driven : HasRun turns old new
  pub long : length turns ≡ made
  pub last_is : last ≡ option_map (λ one. one.done) (first_of turns)
  pub makes : (n : ℕ) → n + old.looks + new.pauses ≡ new.looks + old.pauses → MakesTurns n old.worker new.worker
  pub few : new.pauses + old.looks ≤ new.looks + old.pauses
  pub calm : IsCalm old.worker → old.plan ≡ Some [] → StaysCalm old.worker new.worker
  pub stands : IfSome last (StandsAfter new.worker)

-- and none of them stops
pub record UnderWay (made : ℕ) (old new : Driving) (last : Option Turn) : Type 0 where
  pub reached : Reached made old new last
  pub on : list_all (λ one. not (stops one.done)) reached.turns ≡ true

-- none was made
pub begins : (old : Driving) → UnderWay 0 old old None
unfolding RanBy
begins old = record {
  reached = record {
    turns = [];
    driven = record {
      ran = sent-same old.worker;
      looks = omega arith;
      pauses = omega arith;
      plan = refl;
      answers = none old.plan;
      on = refl;
      turned = refl;
    };
    long = refl;
    last_is = refl;
    makes = λ n same. makes-more 0 n old.worker old.worker (omega arith) (makes-same old.worker);
    few = omega arith;
    calm = λ calm plan. record { calm = calm; writes = refl };
    stands = tt;
  };
  on = refl;
}
  where
    none : (plan : Option (List (Option Control))) → IfSome plan (λ answers. AreAnswers answers old.looks [])
    none None = tt
    none (Some answers) = tt

answers-more : (plan was : Option (List (Option Control))) (looks now : ℕ) (turns : List Driven) (one : Driven) → was ≡ plan → now ≡ looks + length turns
    → IfSome plan (λ answers. AreAnswers answers looks turns) → IfSome was (λ answers. one.told ≡ answer_at answers now) → IfSome plan (λ answers. AreAnswers answers looks (one ∷ turns))
answers-more None was looks now turns one same at earlier answer = tt
answers-more (Some plan) was looks now turns one same at earlier answer =
    let here : one.told ≡ answer_at plan now = subst (λ p. IfSome p (λ answers. one.told ≡ answer_at answers now)) same answer in
    (here ∙ ap (answer_at plan) at, earlier)

-- under a mail that says nothing
silent : (plan : Option (List (Option Control))) (told : Option Control) (looks : ℕ) → plan ≡ Some [] → IfSome plan (λ answers. told ≡ answer_at answers looks) → told ≡ None
silent plan told looks is answer = subst (λ p. IfSome p (λ answers. told ≡ answer_at answers looks)) is answer

-- how it stands after a turn
stands-turned : (old new : WorkerState) (done : Turn) → MakesTurn old new done → StandsAfter new done
stands-turned old new turn.Moved makes = tt
stands-turned old new turn.Idle makes = makes.turned.idle
stands-turned old new turn.Held makes = subst (λ (w : WorkerState). w.restraint.held ≡ true) (sym makes.turned) (by old.restraint.held refl)
  where
    by : (b : Bool) → old.restraint.held ≡ b → (if b then old else held_at old).restraint.held ≡ true
    by true e = e
    by false e = refl
stands-turned old new turn.Starved makes = ap is_starved makes.turned ∙ starves-by old makes.next
stands-turned old new turn.Paused makes = ap (λ (w : WorkerState). w.restraint.paused) makes.turned ∙ pauses-by old makes.next
stands-turned old new turn.Ended makes = ap (λ (w : WorkerState). w.finished) makes.turned ∙ ends-by old makes.next

stands-counted : (n : ℕ) (w : WorkerState) (done : Turn) → StandsAfter w done → StandsAfter (with_turns n w) done
stands-counted n w turn.Moved stands = tt
stands-counted n w turn.Idle stands = stands
stands-counted n w turn.Held stands = stands
stands-counted n w turn.Starved stands = stands
stands-counted n w turn.Paused stands = stands
stands-counted n w turn.Ended stands = stands

if-counted : (n : ℕ) (w : WorkerState) (last : Option Turn) → IfSome last (StandsAfter w) → IfSome last (StandsAfter (with_turns n w))
if-counted n w None stands = tt
if-counted n w (Some done) stands = stands-counted n w done stands

-- a turn more was made
pub drives-more : (made : ℕ) (old mid new : Driving) (last : Option Turn) (done : Turn) → UnderWay made old mid last → DrivesOnce mid new done → Reached (made + 1) old new (Some done)
unfolding RanBy
drives-more made old mid new last done way once =
    let before = way.reached in
    let one : Driven = record { told = once.told; done = done } in
    let driven = before.driven in
    record {
      turns = one ∷ before.turns;
      driven = record {
        ran = (mid.worker, new.worker, driven.ran, once.turns, sent-same new.worker);
        looks = omega (arith, once.looks, driven.looks);
        pauses = by (is_pause once.told) refl ∙ ap (λ n. old.pauses + n) (sym (sum_by-cons (λ (other : Driven). if is_pause other.told then 1 else 0) one before.turns));
        plan = once.plan ∙ driven.plan;
        answers = answers-more old.plan mid.plan old.looks mid.looks before.turns one driven.plan driven.looks driven.answers once.answer;
        on = way.on;
        turned = turns-uncounted once.told mid.worker new.worker done once.turns ∙ driven.turned;
      };
      long = omega (arith, before.long);
      last_is = refl;
      makes = λ n same. adds (is_pause once.told) refl n same;
      few = more (is_pause once.told) refl;
      calm = λ calm plan. stays calm plan;
      stands = stands-turned once.turns.between new.worker done once.turns.makes;
    }
  where
    by : (b : Bool) → is_pause once.told ≡ b → new.pauses ≡ old.pauses + ((if is_pause once.told then 1 else 0) + count_by (λ (other : Driven). is_pause other.told) way.reached.turns)
    by true e = let now = rw e at once.pauses in let before = way.reached.driven.pauses in rw e (omega (arith, now, before))
    by false e = let now = rw e at once.pauses in let before = way.reached.driven.pauses in rw e (omega (arith, now, before))

    adds : (b : Bool) → is_pause once.told ≡ b → (n : ℕ) → n + old.looks + new.pauses ≡ new.looks + old.pauses → MakesTurns n old.worker new.worker
    adds true e n same =
        let now = rw e at once.pauses in
        let first = way.reached.makes n (omega (arith, now, once.looks, same)) in
        subst (λ k. MakesTurns k old.worker new.worker) (omega arith)
        (makes-then n 0 old.worker mid.worker new.worker (makes-armed n old.worker mid.worker first) first (rw e at once.makes))
    adds false e n same =
        let now = rw e at once.pauses in
        let few = way.reached.few in
        let first = way.reached.makes (n - 1) (omega (arith, now, once.looks, same, few)) in
        let at_least : 1 ≤ n = omega (arith, now, once.looks, same, few) in
        subst (λ k. MakesTurns k old.worker new.worker) (omega arith)
        (makes-then (n - 1) 1 old.worker mid.worker new.worker (makes-armed (n - 1) old.worker mid.worker first) first (rw e at once.makes))

    more : (b : Bool) → is_pause once.told ≡ b → new.pauses + old.looks ≤ new.looks + old.pauses
    more true e = let now = rw e at once.pauses in let few = way.reached.few in omega (arith, now, once.looks, few)
    more false e = let now = rw e at once.pauses in let few = way.reached.few in omega (arith, now, once.looks, few)

    stays : IsCalm old.worker → old.plan ≡ Some [] → StaysCalm old.worker new.worker
    stays calm plan =
        let first = way.reached.calm calm plan in
        let told = silent mid.plan once.told mid.looks (way.reached.driven.plan ∙ plan) once.answer in
        let acts : once.turns.between ≡ mid.worker = subst (λ t. Acts t mid.worker once.turns.between) told once.turns.acts in
        calm-then old.worker mid.worker new.worker first
        (calm-turn mid.worker new.worker done first.calm (subst (λ w. MakesTurn w new.worker done) acts once.turns.makes))

-- and is under way where it does not stop
pub goes-on : (made : ℕ) (old mid new : Driving) (last : Option Turn) (done : Turn) → (way : UnderWay made old mid last) → DrivesOnce mid new done → stops done ≡ false
    → UnderWay (made + 1) old new (Some done)
unfolding drives-more
goes-on made old mid new last done way once goes =
    record { reached = drives-more made old mid new last done way once; on = and_from _ _ (ap not goes) way.on }

-- and then batches were sent
pub reached-sent : (made : ℕ) (old mid new : Driving) (last : Option Turn) → Reached made old mid last → HasSent mid.worker new.worker → new.looks ≡ mid.looks → new.pauses ≡ mid.pauses
    → new.plan ≡ mid.plan → Reached made old new last
reached-sent made old mid new last reached sent looks pauses plan = record {
  turns = reached.turns;
  driven = record {
    ran = ran-sent reached.turns old.worker mid.worker new.worker reached.driven.ran sent;
    looks = looks ∙ reached.driven.looks;
    pauses = pauses ∙ reached.driven.pauses;
    plan = plan ∙ reached.driven.plan;
    answers = reached.driven.answers;
    on = reached.driven.on;
    turned = ap (λ (w : WorkerState). w.turned) sent.only ∙ reached.driven.turned;
  };
  long = reached.long;
  last_is = reached.last_is;
  makes = λ n same.
      let first = reached.makes n (rw (looks, pauses) at same) in
      subst (λ k. MakesTurns k old.worker new.worker) (omega arith)
      (makes-then n 0 old.worker mid.worker new.worker (makes-armed n old.worker mid.worker first) first (makes-sent mid.worker new.worker mid.worker.turned sent));
  few = rw (looks, pauses) reached.few;
  calm = λ calm is.
      let first = reached.calm calm is in
      calm-then old.worker mid.worker new.worker first
      (subst (StaysCalm mid.worker) (sym sent.only)
      (record { calm = record { unwatched = first.calm.unwatched; unarmed = first.calm.unarmed; loose = first.calm.loose }; writes = refl }));
  stands = if-sent mid.worker new.worker last sent reached.stands;
}

pub way-sent : (made : ℕ) (old mid new : Driving) (last : Option Turn) → UnderWay made old mid last → HasSent mid.worker new.worker → new.looks ≡ mid.looks → new.pauses ≡ mid.pauses
    → new.plan ≡ mid.plan → UnderWay made old new last
unfolding reached-sent
way-sent made old mid new last way sent looks pauses plan = record { reached = reached-sent made old mid new last way.reached sent looks pauses plan; on = way.on }

-- ---- the end of a drive

-- so many turns were driven and counted, and the last of them came to this
pub record Counted (made : ℕ) (old new : Driving) (last : Option Turn) : Type 0 where
  pub turns : List Driven
  pub driven : HasDriven turns old new
  pub long : length turns ≡ made
  pub last_is : last ≡ option_map (λ one. one.done) (first_of turns)
  pub makes : (n : ℕ) → n + old.looks + new.pauses ≡ new.looks + old.pauses → MakesTurns n old.worker new.worker
  pub few : new.pauses + old.looks ≤ new.looks + old.pauses
  pub calm : IsCalm old.worker → old.plan ≡ Some [] → StaysCalm old.worker new.worker
  pub stands : IfSome last (StandsAfter new.worker)

-- the turns are counted, and batches are sent: what is not counted is as after the turns
sent-apart : (n turned : ℕ) (mid new : WorkerState) → mid.turned ≡ turned → HasSent (with_turns n mid) new → HasSent mid (record new { turned = turned })
sent-apart n turned mid new same sent = record {
  sent = sent.sent;
  only = ap (λ (w : WorkerState). record w { turned = turned }) sent.only ∙ ap (λ t. record mid { turned = t; outs = new.outs }) (sym same);
}

pub counts-all : (made : ℕ) (old mid new : Driving) (last : Option Turn) → Reached made old mid last → HasSent (with_turns made mid.worker) new.worker
    → new.looks ≡ mid.looks → new.pauses ≡ mid.pauses → new.plan ≡ mid.plan → Counted made old new last
counts-all made old mid new last reached sent looks pauses plan =
    let counted : WorkerState = with_turns made mid.worker in
    let driven = reached.driven in
    record {
      turns = reached.turns;
      driven = record {
        ran = ran-sent reached.turns old.worker mid.worker (record new.worker { turned = old.worker.turned }) driven.ran
            (sent-apart made old.worker.turned mid.worker new.worker driven.turned sent);
        turned = ap (λ (w : WorkerState). w.turned) sent.only ∙ rw (driven.turned, reached.long) refl;
        looks = looks ∙ driven.looks;
        pauses = pauses ∙ driven.pauses;
        plan = plan ∙ driven.plan;
        answers = driven.answers;
        on = driven.on;
      };
      long = reached.long;
      last_is = reached.last_is;
      makes = λ n same.
          let first = reached.makes n (rw (looks, pauses) at same) in
          subst (λ k. MakesTurns k old.worker new.worker) (omega arith)
          (makes-then n 0 old.worker mid.worker new.worker (makes-armed n old.worker mid.worker first) first (makes-sent mid.worker new.worker counted.turned sent));
      few = rw (looks, pauses) reached.few;
      calm = λ calm is.
          let first = reached.calm calm is in
          calm-then old.worker mid.worker new.worker first
          (subst (StaysCalm mid.worker) (sym sent.only)
          (record { calm = record { unwatched = first.calm.unwatched; unarmed = first.calm.unarmed; loose = first.calm.loose }; writes = refl }));
      stands = if-sent counted new.worker last sent (if-counted made mid.worker last reached.stands);
    }

-- ---- what a drive answers

pub tells-all : (made : ℕ) (old new : Driving) (last : Option Turn) (drove : Drove) → Counted made old new last → drove.turns ≡ made → drove.last ≡ last → Drives old new drove
tells-all made old new last drove counted turns_are last_is = record {
  turns = counted.turns;
  driven = counted.driven;
  tells = record { turns_made = turns_are ∙ sym counted.long; last = last_is ∙ counted.last_is };
}

-- memory ran out: the turns before are counted, then one look was made
looked-counted : (n : ℕ) (old new : WorkerState) → IsLookedAt old new → IsLookedAt (with_turns n old) (with_turns n new)
looked-counted n old new looked = record { looked = looked.looked; only = ap (with_turns n) looked.only }

pub breaks-off : (made : ℕ) (old mid between : Driving) (new : WorkerState) (last : Option Turn) → UnderWay made old mid last → OnlyLooks mid between
    → new ≡ with_turns made between.worker → BreaksOff old (record between { worker = new })
unfolding counts-all
breaks-off made old mid between new last way looked is =
    let counted : Driving = record mid { worker = with_turns made mid.worker } in
    let so = counts-all made old mid counted last way.reached (sent-same (with_turns made mid.worker)) refl refl refl in
    record {
      turns = so.turns;
      between = counted;
      driven = so.driven;
      on = way.on;
      looked = subst (λ w. OnlyLooks counted (record between { worker = w })) (sym is)
          (record { worker = looked-counted made mid.worker between.worker looked.worker; looks = looked.looks; pauses = looked.pauses; plan = looked.plan });
    }

-- it makes no more turns than looks that were no pause, also where it breaks off
pub breaks-makes : (made : ℕ) (old mid between : Driving) (new : WorkerState) (last : Option Turn) → UnderWay made old mid last → OnlyLooks mid between
    → new ≡ with_turns made between.worker → (n : ℕ) → n + old.looks + between.pauses ≡ between.looks + old.pauses → MakesTurns n old.worker new
breaks-makes made old mid between new last way looked is n same =
    let few = way.reached.few in
    let pauses = looked.pauses in
    let m : ℕ = (mid.looks + old.pauses) - (old.looks + mid.pauses) in
    let first = way.reached.makes m (omega (arith, few)) in
    let counted : WorkerState = with_turns made between.worker in
    let more = makes-then m 0 old.worker mid.worker between.worker (makes-armed m old.worker mid.worker first) first (makes-looked mid.worker between.worker looked.worker) in
    subst (MakesTurns n old.worker) (sym is)
    (makes-more (m + 0 + 0) n old.worker counted (omega (arith, few, pauses, looked.looks, same))
    (makes-then (m + 0) 0 old.worker between.worker counted (makes-armed (m + 0) old.worker between.worker more) more
    (makes-sent between.worker counted counted.turned (sent-same counted))))

pub breaks-calm : (made : ℕ) (old mid between : Driving) (new : WorkerState) (last : Option Turn) → UnderWay made old mid last → OnlyLooks mid between
    → new ≡ with_turns made between.worker → IsCalm old.worker → old.plan ≡ Some [] → StaysCalm old.worker new
breaks-calm made old mid between new last way looked is calm plan =
    let first = way.reached.calm calm plan in
    let broken = calm-broken mid.worker between.worker first.calm looked.worker in
    calm-then old.worker mid.worker new first
    (subst (StaysCalm mid.worker) (sym is)
    (record { calm = record { unwatched = broken.calm.unwatched; unarmed = broken.calm.unarmed; loose = broken.calm.loose }; writes = broken.writes }))

-- ---- what a drive needs

-- no more steps were made than turns
pub steps-within : (made : ℕ) (old new : Driving) (last : Option Turn) → Reached made old new last → steps_made new.worker ≤ steps_made old.worker + made
steps-within made old new last reached =
    let n : ℕ = (new.looks + old.pauses) - (old.looks + new.pauses) in
    let makes = reached.makes n (omega (arith, reached.few)) in
    omega (arith, makes.steps, reached.driven.looks, reached.driven.pauses, reached.long)

-- as many turns were counted as were driven
pub counts-turns : (made : ℕ) (old new : Driving) (last : Option Turn) → Counted made old new last → CountsTurns made old.worker new.worker
counts-turns made old new last counted = record {
  turned = λ fits. counted.driven.turned ∙ min-eq_left (omega (arith, counted.long, fits)) ∙ ap (λ n. old.worker.turned + n) counted.long;
  steps =
      let n : ℕ = (new.looks + old.pauses) - (old.looks + new.pauses) in
      let makes = counted.makes n (omega (arith, counted.few)) in
      omega (arith, makes.steps, counted.driven.looks, counted.driven.pauses, counted.long);
}
