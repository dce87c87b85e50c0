-- The last item of a legal log: the reply to the leg to the end is the sequential answer; and where a leg was too long, the query has
-- too many steps.
use Rattle.std.proofs.Common.{◌≡◌, ℕ, ◌<◌, ◌≤◌, List, [], ◌∷◌, ◌++◌, map, Bool, true, false, refl, sym, ap, subst, ◌∙◌, arith}
use Rattle.std.specs.Prelude.{◌&&◌, not}
use Rattle.std.specs.List.{list_all}
use Rattle.std.proofs.lemmas.Bool.{and_from}
use Rattle.amber_rows.specs.FlowRules.{IsFlow}
use Rattle.amber_rows.specs.declared.flow.Operator.{Operator}
use Rattle.amber_log.specs.Grammar.{IsCommand, is_long}
use Rattle.amber_log.specs.declared.command.Command.{Command}
use Rattle.amber_log.specs.declared.command.Command.TheVariants as command
use Rattle.amber_log.specs.declared.leg.Close.{Close}
use Rattle.amber_log.specs.declared.leg.Close.TheVariants as close
use Rattle.amber_log.specs.declared.log.Item.{Item}
use Rattle.amber_log.specs.declared.log.Item.TheVariants as item
use Rattle.amber_log.specs.declared.log.Log.{Log}
use Rattle.amber_meaning.specs.Legal.{IsLegal, IsUnaltered, Query, Reaches, after_close, alters, query_over, role_in, stops_in}
use Rattle.amber_meaning.specs.Plain.{answer_of}
use Rattle.amber_meaning.specs.Replay.{state_after}
use Rattle.amber_meaning.specs.State.{State, have_finished, start_of, steps_in}
use Rattle.amber_meaning.specs.Stops.{count_stops, end_stop, held_stops, pause_stops, stops_of}
use Rattle.amber_meaning.specs.Texts.{answer_text}
use Rattle.amber_meaning.specs.Total.{step_total}
use Rattle.amber_meaning.specs.Transcript.{reply_of}
use Rattle.amber_meaning.proofs.Fronts.{Reaches-parts}
use Rattle.amber_laws.proofs.Counted.{schedules_take_one_total}
use Rattle.amber_laws.proofs.Schedules.{ends_reply_the_answer}
use Rattle.amber_debug.specs.Session.{command_of, is_long_item}
use Rattle.amber_recorder.specs.Left.{AlterNothing, ends_long}
use Rattle.amber_recorder.proofs.Halting.{last-is}

-- ---- a leg's close

is-cut : (c : Close) → is_long c ≡ false → c ≡ close.Cut
is-cut close.Cut h = refl
is-cut close.Long h = cc

is-long : (c : Close) → is_long c ≡ true → c ≡ close.Long
is-long close.Cut h = cc
is-long close.Long h = refl

-- ---- the answer

not-done : (one : Command) → IsCommand one → one ≡ command.End → ⊥
not-done one h e = subst IsCommand e h

-- the reply to the leg to the end, where nothing was altered
pub end-answers : (flow : List Operator) (files : List (List ℕ)) (batch most : ℕ) (done : List Item) (last : Item) → IsFlow flow
    → IsLegal (query_over flow files batch most) (record { batch = batch; items = done ++ last ∷ [] }) → command_of last ≡ command.End → is_long_item last ≡ false
    → IsUnaltered (done ++ last ∷ []) → reply_of (query_over flow files batch most) (state_after (query_over flow files batch most) done) last ≡ answer_text flow (answer_of flow files)
end-answers flow files batch most done (item.Do c) is legal ends short unaltered = absurd (not-done c (last-is false done (item.Do c) legal.text.items) ends)
end-answers flow files batch most done (item.Run leg) is legal ends short unaltered = cc
end-answers flow files batch most done (item.End leg) is legal ends short unaltered =
    ends_reply_the_answer flow files batch most batch done leg is (is-cut leg.close short) unaltered legal

-- ---- the steps

-- the last item of a log that ends with a leg that was too long
pub record EndsLong (items : List Item) : Type 0 where
  pub front : List Item
  pub one : Item
  pub split : items ≡ front ++ one ∷ []
  pub long : is_long_item one ≡ true

ends-long : (first : Item) (items : List Item) → ends_long (is_long_item first) items ≡ true → EndsLong (first ∷ items)
ends-long first [] h = record { front = []; one = first; split = refl; long = h }
ends-long first (next ∷ more) h =
    let rest = ends-long next more h in
    record { front = first ∷ rest.front; one = rest.one; split = ap (λ xs. first ∷ xs) rest.split; long = rest.long }

pub some-long : (items : List Item) → ends_long false items ≡ true → EndsLong items
some-long [] h = cc
some-long (one ∷ more) h = ends-long one more h

less : (steps most total : ℕ) → steps ≡ most → steps ≤ total → (steps ≡ total → ⊥) → most < total
less steps most total e le differ = grind arith

-- ---- a leg that was too long

no-more : {X : Type 0} (xs ys : List X) → xs ++ ys ≡ [] → ys ≡ []
no-more [] ys e = e
no-more (x ∷ xs) ys e = cc

-- where no stop stands, somebody has not finished
unstopped : (query : Query) (state : State) → stops_in query state ≡ [] → have_finished state ≡ false
unfolding stops_of
unstopped query state h =
    let role = role_in query in
    let counts = no-more (held_stops query.flow role state) (count_stops query.flow state ++ (pause_stops query.flow state ++ end_stop state)) h in
    let pauses = no-more (count_stops query.flow state) (pause_stops query.flow state ++ end_stop state) counts in
    by-finished (have_finished state) refl (no-more (pause_stops query.flow state) (end_stop state) pauses)
  where
    by-finished : (b : Bool) → have_finished state ≡ b → end_stop state ≡ [] → have_finished state ≡ false
    by-finished true e none = absurd (let some = rw e at none in cc)
    by-finished false e none = e

-- what a leg that was too long has reached
abbrev IsReached : Query → State → Type 0
IsReached query after = (steps_in after ≡ query.most) × (have_finished after ≡ false)

long-reached : (query : Query) (start after : State) (one : Item) → Reaches query start (one ∷ []) after → is_long_item one ≡ true → IsReached query after
unfolding Reaches
long-reached query start after (item.Do c) h long = cc
long-reached query start after (item.Run leg) (m, (reached, worked, closed, leads), ends) long =
    let is = is-long leg.close long in
    let closes = rw is at closed in
    let same : after ≡ reached = sym ends ∙ leads ∙ ap (λ c. after_close query reached c) is in
    rw same (closes.1, unstopped query reached closes.2)
long-reached query start after (item.End leg) (m, (reached, worked, closed, leads), ends) long =
    let closes = rw (is-long leg.close long) at closed in
    rw (← ends, leads) (closes.1, closes.2)

pub total-of : (query : Query) (log : Log) → IsFlow query.flow → (legal : IsLegal query log) → IsUnaltered log.items → ends_long false log.items ≡ true → query.most < step_total query
total-of query log flow legal unaltered long =
    let last = some-long log.items long in
    let parts = Reaches-parts query (start_of query.flow) legal.after last.front (last.one ∷ []) (subst (λ items. Reaches query (start_of query.flow) items legal.after) last.split legal.reached) in
    let reached = long-reached query parts.0 legal.after last.one parts.2 last.long in
    let total = schedules_take_one_total query log flow unaltered legal in
    less (steps_in legal.after) query.most (step_total query) reached.0 total.0 (λ same. absurd (unfinished (have_finished legal.after) reached.1 (total.1.0 same)))
  where
    unfinished : (b : Bool) → b ≡ false → b ≡ true → ⊥
    unfinished b pending over = cc

-- ---- commands that alter nothing

and-first : (a b : Bool) → (a && b) ≡ true → a ≡ true
and-first true b e = refl
and-first false b e = e

and-second : (a b : Bool) → (a && b) ≡ true → b ≡ true
and-second true b e = e
and-second false b e = cc

-- the items that were made for such commands alter nothing
pub unaltered-items : (items : List Item) (left : List Command) → AlterNothing (map command_of items ++ left) → IsUnaltered items
unaltered-items [] left h = refl
unaltered-items (item.Do c ∷ items) left h =
    and_from (not (alters (item.Do c))) (list_all (λ one. not (alters one)) items) (and-first (not (alters (item.Do c))) _ h)
    (unaltered-items items left (and-second (not (alters (item.Do c))) (list_all (λ one. not (alters one)) (map item.Do (map command_of items ++ left))) h))
unaltered-items (item.Run leg ∷ items) left h = unaltered-items items left h
unaltered-items (item.End leg ∷ items) left h = unaltered-items items left h
