-- The replies to items that were done again.
use Rattle.std.proofs.Common.{◌≡◌, ℕ, List, [], Some, true, false, refl, sym, ap, ◌∙◌}
use Rattle.amber_log.specs.declared.leg.Close.{Close}
use Rattle.amber_log.specs.declared.leg.Close.TheVariants as close
use Rattle.amber_log.specs.declared.leg.Part.{Part}
use Rattle.amber_log.specs.declared.log.Item.{Item}
use Rattle.amber_meaning.specs.Legal.{Query}
use Rattle.amber_meaning.specs.Replay.{after_item}
use Rattle.amber_meaning.specs.State.{State}
use Rattle.amber_meaning.specs.Texts.{stops_text}
use Rattle.amber_meaning.specs.Transcript.{end_reply, reply_of}
use Rattle.amber_meaning.proofs.Fronts.{transcripts_grow}
use Rattle.amber_lines.specs.Lines.{Between}
use Rattle.amber_lines.proofs.Kept.{kept_stops_were_replied}
use Rattle.amber_home.specs.HomeState.{HomeState, item_of_leg, query_of, rest_state, state_at, state_of, stops_at, stops_of_home, with_item}
use Rattle.amber_home.specs.declared.phase.Phase.{Phase}
use Rattle.amber_home.specs.declared.phase.Phase.TheVariants as phase
use Rattle.amber_recover.specs.Redone.{HasRedoneItem, kept_stops_text}

-- nothing else is run
pub redone-query : (old new : HomeState) (one : Item) → HasRedoneItem one old new → query_of new ≡ query_of old
redone-query old new one h = ap query_of h.only

pub redone-state : (old new : HomeState) (one : Item) → HasRedoneItem one old new → rest_state new ≡ after_item (query_of old) (rest_state old) one
redone-state old new one h = ap rest_state h.only ∙ (transcripts_grow (query_of old) old.log.items one).1

-- ---- up to a stop

long-told : (new : HomeState) (query : Query) (state : State) (parts : List Part) → kept_stops_text new close.Long ≡ reply_of query state (item_of_leg false parts close.Long)
unfolding reply_of
long-told new query state parts = refl

pub stops-told : (old new : HomeState) (parts : List Part) (closed : Close) → HasRedoneItem (item_of_leg false parts closed) old new → new.phase ≡ phase.Resting
    → kept_stops_text new closed ≡ reply_of (query_of old) (rest_state old) (item_of_leg false parts closed)
unfolding stops_of_home
stops-told old new parts close.Cut h rests =
    ap (λ (p : Phase). stops_text new.flow (stops_at p new)) rests
    ∙ ap (λ (e : HomeState). stops_text e.flow (stops_at phase.Resting e)) h.only
    ∙ sym (kept_stops_were_replied (query_of old) old.log.items parts)
stops-told old new parts close.Long h rests = long-told new (query_of old) (rest_state old) parts

-- ---- to the end

pub answer-told : (old new : HomeState) (parts : List Part) (closed : Close) → HasRedoneItem (item_of_leg true parts closed) old new → new.phase ≡ phase.Resting
    → end_reply (query_of new) (state_of new) closed ≡ reply_of (query_of old) (rest_state old) (item_of_leg true parts closed)
unfolding state_of reply_of after_item
answer-told old new parts closed h rests =
    ap (λ (p : Phase). end_reply (query_of new) (state_at p new) closed) rests
    ∙ ap (λ (q : Query). end_reply q (rest_state new) closed) (redone-query old new (item_of_leg true parts closed) h)
    ∙ ap (λ (s : State). end_reply (query_of old) s closed) (redone-state old new (item_of_leg true parts closed) h)

-- the workers of a leg to the end may have gone
pub redone-over : (old mid new : HomeState) (parts : List Part) (closed : Close) → HasRedoneItem (item_of_leg true parts closed) old mid
    → new ≡ record mid { phase = new.phase; turned = new.turned } → HasRedoneItem (item_of_leg true parts closed) old new
redone-over old mid new parts closed h e = record {
  only = e ∙ ap (λ (m : HomeState). record m { phase = new.phase; turned = new.turned }) h.only
      ∙ ap (λ (alone : ℕ). record old { log = with_item old.log (item_of_leg true parts closed); phase = new.phase; parts = []; alone = alone; turned = new.turned }) (sym (ap (λ (m : HomeState). m.alone) e));
  rests = λ more. absurd (let never : true ≡ false = more in cc);
  good = h.good ∙ ap (λ (s : State). Some (Between s)) (sym (ap rest_state e));
}
