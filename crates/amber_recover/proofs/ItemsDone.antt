-- Items that are done again at home.
use Rattle.std.proofs.Common.{◌≡◌, ℕ, ◌+◌, List, [], ◌++◌, length, replicate, Option, Some, None, is_some, Bool, true, false, refl, sym, ap, ◌∙◌}
use Rattle.std.specs.Prelude.{option_and_then}
use Rattle.std.specs.List.{flat_map}
use Rattle.amber_rows.specs.Topology.{crew_of}
use Rattle.amber_log.specs.Fits.{fits_of}
use Rattle.amber_log.specs.LogText.{item_lines, part_lines}
use Rattle.amber_log.specs.declared.command.Command.{Command}
use Rattle.amber_log.specs.declared.leg.Close.{Close}
use Rattle.amber_log.specs.declared.leg.Close.TheVariants as close
use Rattle.amber_log.specs.declared.leg.Part.{Part}
use Rattle.amber_log.specs.declared.log.Item.{Item}
use Rattle.amber_log.specs.declared.log.Item.TheVariants as item
use Rattle.amber_judge.specs.LegalTests.{may_close_end}
use Rattle.amber_judge.proofs.LegalFrom.{close_end-from}
use Rattle.amber_meaning.specs.Legal.{Query, leg_start}
use Rattle.amber_meaning.specs.Replay.{after_item}
use Rattle.amber_meaning.specs.State.{State, after_command, have_finished}
use Rattle.amber_meaning.proofs.Fronts.{transcripts_grow}
use Rattle.amber_lines.specs.Lines.{Between, Progress, Within, bad_line_from, bad_or, judge_all, judge_close, when}
use Rattle.amber_lines.proofs.Judged.{passes}
use Rattle.amber_home.specs.HomeState.{HomeState, item_of_leg, query_of, rest_state, runs_to_end, state_at, state_of, with_closed_leg, with_item}
use Rattle.amber_home.specs.Redoing.{ClosesRedone}
use Rattle.amber_home.specs.declared.phase.Counts.TheVariants.{Unarmed}
use Rattle.amber_home.specs.declared.phase.Phase.{Phase}
use Rattle.amber_home.specs.declared.phase.Phase.TheVariants as phase
use Rattle.amber_recover.specs.Redone.{HasDoneParts, HasRedoneItem, bad_in_item, bad_in_parts, within}
use Rattle.amber_recover.proofs.Judging.{bad-none}
use Rattle.amber_recover.proofs.LegsDone.{PartsLead, leg-bad, leg-good, leg-unclosed}

-- ---- the home behind an item

-- the home with an item more in its log
abbrev grown : HomeState → Item → Phase → ℕ → List ℕ → HomeState
grown old one at alone turned = record old { log = with_item old.log one; phase = at; parts = []; alone = alone; turned = turned }

only-grown : (old new : HomeState) (one : Item) (at : Phase) (alone : ℕ) (turned : List ℕ) → new ≡ grown old one at alone turned
    → new ≡ grown old one new.phase new.alone new.turned
only-grown old new one at alone turned e = e ∙ sym (ap (λ (h : HomeState). grown old one h.phase h.alone h.turned) e)

-- the state behind it is the one that the item leads to
pub state-grown : (old new : HomeState) (one : Item) (at : Phase) (alone : ℕ) (turned : List ℕ) → new ≡ grown old one at alone turned
    → rest_state new ≡ after_item (query_of old) (rest_state old) one
state-grown old new one at alone turned e = ap rest_state e ∙ (transcripts_grow (query_of old) old.log.items one).1

-- no line of it is bad
pub item-good : (old new : HomeState) (number : ℕ) (one : Item) → HasRedoneItem one old new → bad_in_item old number one ≡ None
item-good old new number one h = bad-none (query_of old) (Between (rest_state old)) (Between (rest_state new)) number (item_lines one) h.good

-- ---- a command

-- with nothing done in a leg
emptied : (old : HomeState) (one : Item) → old.parts ≡ [] → record old { log = with_item old.log one } ≡ grown old one old.phase old.alone old.turned
emptied old one none = ap (λ (parts : List Part). record old { log = with_item old.log one; parts = parts }) none

command-line : (query : Query) (state : State) (command : Command) → fits_of query.flow command ≡ true
    → judge_all query (Between state) (item_lines (item.Do command)) ≡ Some (Between (after_command query.flow command state))
unfolding judge_all
command-line query state command fits =
    ap (λ (b : Bool). option_and_then (λ next. judge_all query next []) (when b (Between (after_command query.flow command state)))) fits

pub command-done : (old new : HomeState) (command : Command) → old.phase ≡ phase.Resting → old.parts ≡ [] → fits_of old.flow command ≡ true
    → new ≡ record old { log = with_item old.log (item.Do command) } → HasRedoneItem (item.Do command) old new
unfolding after_item
command-done old new command rests none fits e =
    let is = e ∙ emptied old (item.Do command) none in
    record {
      only = only-grown old new (item.Do command) old.phase old.alone old.turned is;
      rests = λ more. ap (λ (h : HomeState). h.phase) e ∙ rests;
      good = command-line (query_of old) (rest_state old) command fits
          ∙ ap (λ (s : State). Some (Between s)) (sym (state-grown old new (item.Do command) old.phase old.alone old.turned is));
    }

pub command-bad : (home : HomeState) (number : ℕ) (command : Command) → fits_of home.flow command ≡ false
    → bad_in_item home number (item.Do command) ≡ Some number
unfolding bad_line_from
command-bad home number command unfit =
    ap (λ (b : Bool). bad_or number (when b (Between (after_command home.flow command (rest_state home)))) (λ next. bad_line_from (query_of home) next (number + 1) [])) unfit

pub command-fits : (home : HomeState) (number : ℕ) (command : Command) → bad_in_item home number (item.Do command) ≡ None → fits_of home.flow command ≡ true
command-fits home number command e = by (fits_of home.flow command) refl
  where
    by : (fits : Bool) → fits_of home.flow command ≡ fits → fits ≡ true
    by true is = refl
    by false is = absurd (let never : Some number ≡ None = sym (command-bad home number command is) ∙ e in cc)

-- ---- a leg

-- the leg was opened
pub record IsOpened (to_end : Bool) (old opened : HomeState) : Type 0 where
  pub opens : opened ≡ record old { phase = phase.Open to_end Unarmed; parts = []; alone = 0; turned = replicate (crew_of old.flow) 0 }
  pub begins : state_of opened ≡ leg_start to_end (rest_state old)

pub opened-by : (to_end : Bool) (old opened : HomeState)
    → opened ≡ record old { phase = phase.Open to_end Unarmed; parts = []; alone = 0; turned = replicate (crew_of old.flow) 0 }
    → state_of opened ≡ leg_start to_end (rest_state old) → IsOpened to_end old opened
opened-by to_end old opened e begins = record { opens = e; begins = begins }

opened-query : (to_end : Bool) (old opened : HomeState) → IsOpened to_end old opened → query_of opened ≡ query_of old
opened-query to_end old opened h = ap query_of h.opens

opened-within : (to_end : Bool) (old opened : HomeState) → IsOpened to_end old opened → within opened 0 ≡ Within to_end (leg_start to_end (rest_state old)) 0
opened-within to_end old opened h =
    ap (λ (p : Phase). Within (runs_to_end p) (state_of opened) 0) (ap (λ (e : HomeState). e.phase) h.opens)
    ∙ ap (λ (s : State). Within to_end s 0) h.begins

opened-parts : (to_end : Bool) (old opened : HomeState) (number : ℕ) (parts : List Part) → IsOpened to_end old opened
    → bad_in_parts opened number parts ≡ bad_line_from (query_of old) (Within to_end (leg_start to_end (rest_state old)) 0) number (flat_map part_lines parts)
opened-parts to_end old opened number parts h =
    ap (λ (q : Query). bad_line_from q (within opened 0) number (flat_map part_lines parts)) (opened-query to_end old opened h)
    ∙ ap (λ (p : Progress). bad_line_from (query_of old) p number (flat_map part_lines parts)) (opened-within to_end old opened h)

-- its parts were done
worked-end : (to_end : Bool) (old opened worked : HomeState) (parts : List Part) → IsOpened to_end old opened → HasDoneParts parts opened worked
    → runs_to_end worked.phase ≡ to_end
worked-end to_end old opened worked parts begins h = h.end ∙ ap (λ (e : HomeState). runs_to_end e.phase) begins.opens

worked-query : (to_end : Bool) (old opened worked : HomeState) (parts : List Part) → IsOpened to_end old opened → HasDoneParts parts opened worked
    → query_of worked ≡ query_of old
worked-query to_end old opened worked parts begins h = ap query_of h.only ∙ opened-query to_end old opened begins

worked-lead : (to_end : Bool) (old opened worked : HomeState) (parts : List Part) → IsOpened to_end old opened → (h : HasDoneParts parts opened worked)
    → PartsLead (query_of old) to_end (rest_state old) parts (state_of worked) h.last
worked-lead to_end old opened worked parts begins h =
    ap (λ (q : Query). judge_all q (Within to_end (leg_start to_end (rest_state old)) 0) (flat_map part_lines parts)) (sym (opened-query to_end old opened begins))
    ∙ ap (λ (p : Progress). judge_all (query_of opened) p (flat_map part_lines parts)) (sym (opened-within to_end old opened begins))
    ∙ h.good ∙ ap (λ (b : Bool). Some (Within b (state_of worked) h.last)) (worked-end to_end old opened worked parts begins h)

-- it was closed: the home has the leg in its log
closed-grown : (to_end : Bool) (old opened worked new : HomeState) (parts : List Part) (closed : Close) → IsOpened to_end old opened → HasDoneParts parts opened worked
    → new ≡ with_closed_leg worked closed → new ≡ grown old (item_of_leg to_end parts closed) phase.Resting 0 (replicate (crew_of old.flow) 0)
closed-grown to_end old opened worked new parts closed begins h e =
    e ∙ ap (λ (b : Bool). by worked b worked.parts) (worked-end to_end old opened worked parts begins h)
    ∙ ap (λ (w : HomeState). by w to_end w.parts) h.only
    ∙ ap (λ (o : HomeState). by o to_end (o.parts ++ parts)) begins.opens
  where
    by : HomeState → Bool → List Part → HomeState
    by w b made = record w { log = with_item w.log (item_of_leg b made closed); phase = phase.Resting; parts = [] }

closes-leg : (to_end : Bool) (old opened worked new : HomeState) (parts : List Part) (closed : Close) → IsOpened to_end old opened → HasDoneParts parts opened worked
    → (after : Option Progress) → judge_close (query_of worked) (runs_to_end worked.phase) (state_of worked) closed ≡ after
    → judge_close (query_of old) to_end (state_of worked) closed ≡ after
closes-leg to_end old opened worked new parts closed begins h after e =
    ap (λ (q : Query). judge_close q to_end (state_of worked) closed) (sym (worked-query to_end old opened worked parts begins h))
    ∙ ap (λ (b : Bool). judge_close (query_of worked) b (state_of worked) closed) (sym (worked-end to_end old opened worked parts begins h)) ∙ e

pub leg-redone : (to_end : Bool) (old opened worked new : HomeState) (parts : List Part) (closed : Close) → IsOpened to_end old opened → HasDoneParts parts opened worked
    → ClosesRedone closed worked new true → HasRedoneItem (item_of_leg to_end parts closed) old new
leg-redone to_end old opened worked new parts closed begins h (e, good) =
    let is = closed-grown to_end old opened worked new parts closed begins h e in
    record {
      only = only-grown old new (item_of_leg to_end parts closed) phase.Resting 0 (replicate (crew_of old.flow) 0) is;
      rests = λ more. ap (λ (s : HomeState). s.phase) e;
      good = leg-good (query_of old) to_end (rest_state old) (state_of worked) h.last (Between (rest_state new)) parts closed
          (worked-lead to_end old opened worked parts begins h)
          (closes-leg to_end old opened worked new parts closed begins h (Some (Between (rest_state new))) good);
    }

-- a line of its parts is bad
pub leg-parts-bad : (to_end : Bool) (old opened : HomeState) (number found : ℕ) (parts : List Part) (closed : Close) → IsOpened to_end old opened
    → bad_in_parts opened (number + 1) parts ≡ Some found → bad_in_item old number (item_of_leg to_end parts closed) ≡ Some found
leg-parts-bad to_end old opened number found parts closed begins e =
    leg-bad (query_of old) to_end (rest_state old) number found parts closed (sym (opened-parts to_end old opened (number + 1) parts begins) ∙ e)

pub leg-found : (to_end : Bool) (old opened : HomeState) (number : ℕ) (parts : List Part) (closed : Close) (bad : Option ℕ) → IsOpened to_end old opened
    → is_some bad ≡ true → bad ≡ bad_in_parts opened (number + 1) parts → bad ≡ bad_in_item old number (item_of_leg to_end parts closed)
leg-found to_end old opened number parts closed None begins some e = absurd (let never : false ≡ true = some in cc)
leg-found to_end old opened number parts closed (Some found) begins some e = sym (leg-parts-bad to_end old opened number found parts closed begins (sym e))

-- it could not be closed so
pub leg-close-bad : (to_end : Bool) (old opened worked new : HomeState) (number : ℕ) (parts : List Part) (closed : Close) → IsOpened to_end old opened
    → HasDoneParts parts opened worked → ClosesRedone closed worked new false
    → bad_in_item old number (item_of_leg to_end parts closed) ≡ Some (number + 1 + length (flat_map part_lines parts))
leg-close-bad to_end old opened worked new number parts closed begins h (spent, e) =
    leg-unclosed (query_of old) to_end (rest_state old) (state_of worked) h.last number parts closed (worked-lead to_end old opened worked parts begins h)
    (closes-leg to_end old opened worked new parts closed begins h None e)

-- all have finished where a leg to the end was cut
finished-by : (query : Query) (now after : State) → judge_close query true now close.Cut ≡ Some (Between after) → have_finished after ≡ true
finished-by query now after e =
    let test = passes (may_close_end query now close.Cut) (Between now) (Between after) e in
    let same : now ≡ after = let between : Between now ≡ Between after = test.1 in cc in
    ap have_finished (sym same) ∙ (close_end-from query now close.Cut test.0).2

pub leg-finished : (to_end : Bool) (old opened worked new : HomeState) (parts : List Part) (closed : Close) → IsOpened to_end old opened → HasDoneParts parts opened worked
    → ClosesRedone closed worked new true → to_end ≡ true → closed ≡ close.Cut → have_finished (state_of new) ≡ true
unfolding state_of
leg-finished to_end old opened worked new parts closed begins h (e, good) ends cut =
    let told = closes-leg to_end old opened worked new parts closed begins h (Some (Between (rest_state new))) good in
    let all = finished-by (query_of old) (state_of worked) (rest_state new)
    (ap (λ (b : Bool). judge_close (query_of old) b (state_of worked) close.Cut) (sym ends)
    ∙ ap (judge_close (query_of old) to_end (state_of worked)) (sym cut) ∙ told) in
    let stands : state_of new ≡ rest_state new = ap (λ (p : Phase). state_at p new) (ap (λ (s : HomeState). s.phase) e) in
    ap have_finished stands ∙ all
