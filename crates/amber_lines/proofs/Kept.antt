-- The stops that are kept after a leg.
use Rattle.std.proofs.Common.{◌≡◌, List, [], ◌∷◌, ◌++◌, not, Bool, true, false, refl, sym, ap, ◌∙◌}
use Rattle.std.specs.List.{list_all}
use Rattle.std.proofs.lemmas.Bool.{false≢true}
use Rattle.amber_log.specs.declared.leg.Close.{Close}
use Rattle.amber_log.specs.declared.leg.Close.TheVariants as close
use Rattle.amber_log.specs.declared.leg.Part.{Part}
use Rattle.amber_log.specs.declared.log.Item.{Item}
use Rattle.amber_log.specs.declared.log.Item.TheVariants as item
use Rattle.amber_meaning.specs.declared.view.Stop.{Stop}
use Rattle.amber_meaning.specs.Legal.{Query, leg_start, stops_in}
use Rattle.amber_meaning.specs.Replay.{after_item, after_items, state_after, after_leg}
use Rattle.amber_meaning.specs.State.{State, start_of}
use Rattle.amber_meaning.specs.Texts.{stops_text}
use Rattle.amber_meaning.specs.Transcript.{reply_of}
use Rattle.amber_meaning.proofs.OneState.{legal_logs_have_one_state, after_leg-is}
use Rattle.amber_lines.specs.KeptStops.{CommandsKeepStops, KeptStopsWereReplied, LegsKeepTheirStops, NoStopsAtFirst, is_leg_item, kept_stops, leg_of, stops_along, stops_left}

none-along : (query : Query) (state : State) (items : List Item) → list_all (λ (one : Item). not (is_leg_item one)) items ≡ true → stops_along query state [] items ≡ []
unfolding stops_along
none-along query state [] e = refl
none-along query state (item.Do command ∷ more) e = none-along query (after_item query state (item.Do command)) more e
none-along query state (item.Run leg ∷ more) e = absurd (false≢true e)
none-along query state (item.End leg ∷ more) e = absurd (false≢true e)

pub no_stops_at_first : NoStopsAtFirst
unfolding kept_stops
no_stops_at_first query items e = none-along query (start_of query.flow) items e

-- an item more
along-push : (query : Query) (state : State) (kept : List Stop) (items : List Item) (one : Item)
    → stops_along query state kept (items ++ one ∷ []) ≡ stops_left query (after_items query state items) (stops_along query state kept items) one
unfolding stops_along after_items
along-push query state kept [] one = refl
along-push query state kept (first ∷ items) one = along-push query (after_item query state first) (stops_left query state kept first) items one

kept-push : (query : Query) (items : List Item) (one : Item) → kept_stops query (items ++ one ∷ []) ≡ stops_left query (state_after query items) (kept_stops query items) one
unfolding kept_stops state_after
kept-push query items one = along-push query (start_of query.flow) [] items one

command-leaves : (query : Query) (state : State) (kept : List Stop) (one : Item) → is_leg_item one ≡ false → stops_left query state kept one ≡ kept
command-leaves query state kept (item.Do command) e = refl
command-leaves query state kept (item.Run leg) e = absurd (false≢true (sym e))
command-leaves query state kept (item.End leg) e = absurd (false≢true (sym e))

pub commands_keep_stops : CommandsKeepStops
commands_keep_stops query items one e = kept-push query items one ∙ command-leaves query (state_after query items) (kept_stops query items) one e

leg-leaves : (query : Query) (state : State) (kept : List Stop) (to_end : Bool) (parts : List Part) (closed : Close)
    → stops_left query state kept (leg_of to_end parts closed) ≡ stops_in query (after_leg query (leg_start to_end state) parts)
leg-leaves query state kept false parts closed = refl
leg-leaves query state kept true parts closed = refl

pub legs_keep_their_stops : LegsKeepTheirStops
legs_keep_their_stops query log to_end parts closed reached first legal h =
    kept-push query log.items (leg_of to_end parts closed)
    ∙ leg-leaves query (state_after query log.items) (kept_stops query log.items) to_end parts closed
    ∙ ap (λ (s : State). stops_in query (after_leg query (leg_start to_end s) parts)) (legal_logs_have_one_state query log first legal)
    ∙ ap (stops_in query) (after_leg-is query (leg_start to_end legal.after) reached parts first h)

pub kept_stops_were_replied : KeptStopsWereReplied
unfolding reply_of
kept_stops_were_replied query items parts = ap (stops_text query.flow) (sym (kept-push query items (leg_of false parts close.Cut)))
