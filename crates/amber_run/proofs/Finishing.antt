-- A run that has ended gives the sequential answer, and one that was too long has a query of too many steps.
use Rattle.std.proofs.Common.{◌≡◌, ◌<◌, ◌⊎◌, inl, inr, List, [], ◌∷◌, ◌++◌, map, Result, Ok, Err, true, false, refl, sym, ap, subst, ◌∙◌}
use Rattle.std.specs.Result.{MatchResult}
use Rattle.std.proofs.lemmas.List.{append-nil, map-append}
use Rattle.amber_rows.specs.FlowRules.{IsFlow}
use Rattle.amber_log.specs.declared.command.Command.{Command}
use Rattle.amber_log.specs.declared.command.Command.TheVariants as command
use Rattle.amber_log.specs.declared.log.Item.{Item}
use Rattle.amber_log.specs.declared.log.Log.{Log}
use Rattle.amber_meaning.specs.Legal.{IsLegal}
use Rattle.amber_meaning.specs.Total.{step_total}
use Rattle.amber_debug.specs.Session.{Session, command_of}
use Rattle.amber_io.specs.World.{World}
use Rattle.amber_run.specs.UnderWay.{EndsTorn, FailsAtBegun, Halts, HasAnswer, HasText, HasTornBegun, IsAt, IsLeft, IsUnderWay, Leaves, Opens, Worked, log_of_items}
use Rattle.amber_run.specs.RunTask.{RunTask, end_alone, most_steps, query_at}
use Rattle.amber_recorder.specs.Left.{AlterNothing, ClosesAs, ends_long}
use Rattle.amber_recorder.proofs.Halting.{ends_long-push, keeps-same}
use Rattle.amber_recorder.proofs.Last.{EndsLong, end-answers, some-long, total-of, unaltered-items}
use Rattle.amber_course.specs.declared.failure.Failure.{Failure}
use Rattle.amber_course.specs.declared.failure.Failure.TheVariants as failure
use Rattle.amber_laws.proofs.CountReplies.{stop-for-counts}

-- ---- the last item

no-push : {X : Type 0} (xs : List X) (x : X) → [] ≡ xs ++ x ∷ [] → ⊥
no-push [] x e = cc
no-push (a ∷ xs) x e = cc

last-same : {X : Type 0} (xs ys : List X) (x y : X) → xs ++ x ∷ [] ≡ ys ++ y ∷ [] → x ≡ y
last-same [] [] x y e = cc
last-same [] (b ∷ ys) x y e =
    let rest : [] ≡ ys ++ y ∷ [] = cc in
    absurd (no-push ys y rest)
last-same (a ∷ xs) [] x y e =
    let rest : xs ++ x ∷ [] ≡ [] = cc in
    absurd (no-push xs x (sym rest))
last-same (a ∷ xs) (b ∷ ys) x y e =
    let rest : xs ++ x ∷ [] ≡ ys ++ y ∷ [] = cc in
    last-same xs ys x y rest

-- where all is done, the last item is the leg to the end
last-end : (done : List Item) (last : Item) (script : List Command) → map command_of (done ++ last ∷ []) ++ [] ≡ script ++ end_alone → command_of last ≡ command.End
last-end done last script e =
    last-same (map command_of done) script (command_of last) command.End
    (sym (map-append command_of done (last ∷ [])) ∙ sym (append-nil (map command_of (done ++ last ∷ []))) ∙ e)

-- ---- the answer

pub has-answer : (t : RunTask) (script : List Command) (log : Log) (now : World) → IsFlow t.flow → t.commands ≡ script ++ end_alone → IsUnderWay t [] log now → HasAnswer t log
has-answer t script log now flow all h unaltered done last is =
    let commands = rw is at (h.commands ∙ all) in
    let short = rw is at h.short in
    end-answers t.flow t.inputs log.batch most_steps done last flow (subst (λ items. IsLegal (query_at t log.batch) (record { batch = log.batch; items = items })) is h.legal)
    (last-end done last script commands) (sym (ends_long-push false done last) ∙ short) (rw is at unaltered)

-- ---- a leg that was too long

-- the log that is left is of the run's batch size, where it has an item
same-size : (t : RunTask) (s : Failure) (now : World) → (h : IsLeft t s now) → EndsLong (h.done ++ h.last) → h.batch ≡ t.batch_size
same-size t s now h ends = by-form h.stands
  where
    by-form : HasText t (log_of_items h.batch (h.done ++ h.last)) h.bytes
        ⊎ ((s ≡ failure.LogFault) × (h.last ≡ []) × EndsTorn t h.left (log_of_items h.batch (h.done ++ h.last)) h.bytes)
        ⊎ ((s ≡ failure.LogFault) × (h.done ≡ []) × HasTornBegun t (log_of_items h.batch (h.done ++ h.last)) h.bytes) → h.batch ≡ t.batch_size
    by-form (inl text) = text.batch
    by-form (inr (inr torn)) = torn.2.batch
    by-form (inr (inl (is, all, inl torn))) = torn.batch
    by-form (inr (inl (is, all, inr torn))) = absurd (no-push ends.front ends.one (sym (ap (λ (log : Log). log.items) torn.none) ∙ ends.split))

-- the last leg of what is left where the steps were as many as may be
pub closes-long : (s : Failure) (begun done last : List Item) → s ≡ failure.Long → ClosesAs s (ends_long false (done ++ last)) ⊎ FailsAtBegun s begun done last
    → ends_long false (done ++ last) ≡ true
closes-long failure.Long begun done last e (inl long) = long
closes-long failure.Long begun done last e (inr fails) = absurd (let two : failure.Long ≡ failure.OutFault = fails.0 in cc)
closes-long other begun done last e h = cc

pub too-long : (t : RunTask) (now : World) → IsFlow t.flow → IsLeft t failure.Long now → AlterNothing t.commands
    → most_steps < step_total (query_at t t.batch_size)
too-long t now flow h nothing =
    let items = h.done ++ h.last in
    let long = closes-long failure.Long t.begun h.done h.last refl h.closed in
    let unaltered = unaltered-items items h.left (subst AlterNothing (sym h.commands) nothing) in
    rw (same-size t failure.Long now h (some-long items long)) at (total-of (query_at t h.batch) (record { batch = h.batch; items = items }) flow h.legal unaltered long)

-- ---- the run

-- it has not begun, since memory ran out
pub begin-failure : (s : Failure) (t : RunTask) → s ≡ failure.NoMemory → Leaves t s t.before
begin-failure s t e = rw e (inl (inl refl, keeps-same t.before.got t.before.got refl))

-- the log was not made
pub opens-failure : (s : Failure) (t : RunTask) (now : World) → Opens {A = Unit {0}} (Err s) t now → Leaves t s now
opens-failure failure.LogFault t now h = h
opens-failure failure.NoMemory t now h = inl h
opens-failure other t now h = absurd h

-- a command was not done
halts-failure : (s : Failure) (t : RunTask) (now : World) → IsFlow t.flow → Halts t now s → Leaves t s now
halts-failure failure.LogFault t now flow h = inr h
halts-failure failure.OutFault t now flow h = h
halts-failure failure.Long t now flow h = (h, λ nothing. too-long t now flow h nothing)
halts-failure failure.NoMemory t now flow h = inr h
halts-failure other t now flow h = absurd h

-- the commands were done, or one was not
pub worked-script : {A : Type 0} (r : Result A Failure) (t : RunTask) (script : List Command) (d : Session) (now : World) → IsFlow t.flow → t.commands ≡ script ++ end_alone
    → MatchResult r (λ rows. IsAt t [] d now) (Halts t now) → Worked r t now
worked-script (Ok rows) t script d now flow all h = record {
  log = d.log;
  way = h.way;
  answer = has-answer t script d.log now flow all h.way;
  counts = stop-for-counts (query_at t d.log.batch) d.log flow h.way.legal;
}
worked-script (Err s) t script d now flow all h = halts-failure s t now flow h
