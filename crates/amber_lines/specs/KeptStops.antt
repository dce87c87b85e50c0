-- The stops that are kept after a leg: those with which it ended, before its end took any away.
use Rattle.std.specs.Prelude.{◌≡◌, List, [], ◌∷◌, ◌++◌, not, Bool, true, false}
use Rattle.std.specs.List.{list_all}
use Rattle.amber_log.specs.declared.leg.Close.{Close}
use Rattle.amber_log.specs.declared.leg.Close.TheVariants as close
use Rattle.amber_log.specs.declared.leg.Part.{Part}
use Rattle.amber_log.specs.declared.log.Item.{Item}
use Rattle.amber_log.specs.declared.log.Item.TheVariants as item
use Rattle.amber_log.specs.declared.log.Log.{Log}
use Rattle.amber_meaning.specs.declared.view.Stop.{Stop}
use Rattle.amber_meaning.specs.Laws.{SendersFirst}
use Rattle.amber_meaning.specs.Legal.{IsLegal, IsWorked, Query, leg_start, stops_in}
use Rattle.amber_meaning.specs.Replay.{after_item, state_after, after_leg}
use Rattle.amber_meaning.specs.State.{State, begin_leg, begin_last_leg, start_of}
use Rattle.amber_meaning.specs.Texts.{stops_text}
use Rattle.amber_meaning.specs.Transcript.{reply_of}

-- the stops that an item leaves, in the state before it: a leg its own, a command those that were kept
abbrev pub stops_left : Query → State → List Stop → Item → List Stop
stops_left query state kept (item.Do command) = kept
stops_left query state kept (item.Run leg) = stops_in query (after_leg query (begin_leg state) leg.parts)
stops_left query state kept (item.End leg) = stops_in query (after_leg query (begin_last_leg state) leg.parts)

unfoldable pub stops_along : Query → State → List Stop → List Item → List Stop
stops_along query state kept [] = kept
stops_along query state kept (one ∷ more) = stops_along query (after_item query state one) (stops_left query state kept one) more

-- the stops that are kept after items: those of the last leg, none before the first
unfoldable pub kept_stops : Query → List Item → List Stop
kept_stops query items = stops_along query (start_of query.flow) [] items

-- ---- laws

abbrev pub is_leg_item : Item → Bool
is_leg_item (item.Do command) = false
is_leg_item (item.Run leg) = true
is_leg_item (item.End leg) = true

-- before the first leg none are kept
abbrev pub NoStopsAtFirst : Type 0
NoStopsAtFirst = (query : Query) (items : List Item) → list_all (λ one. not (is_leg_item one)) items ≡ true → kept_stops query items ≡ []

-- a command changes nothing of them
abbrev pub CommandsKeepStops : Type 0
CommandsKeepStops = (query : Query) (items : List Item) (one : Item) → is_leg_item one ≡ false → kept_stops query (items ++ one ∷ []) ≡ kept_stops query items

-- a leg, to the end or not
abbrev pub leg_of : Bool → List Part → Close → Item
leg_of false parts closed = item.Run (record { parts = parts; close = closed })
leg_of true parts closed = item.End (record { parts = parts; close = closed })

-- after a leg of a legal log they are the stops of the state that its workers reached
abbrev pub LegsKeepTheirStops : Type 0
LegsKeepTheirStops = (query : Query) (log : Log) (to_end : Bool) (parts : List Part) (closed : Close) (reached : State)
    → SendersFirst query.flow → (legal : IsLegal query log) → IsWorked query (leg_start to_end legal.after) parts reached
    → kept_stops query (log.items ++ leg_of to_end parts closed ∷ []) ≡ stops_in query reached

-- and what was replied to a leg that was cut is their text
abbrev pub KeptStopsWereReplied : Type 0
KeptStopsWereReplied = (query : Query) (items : List Item) (parts : List Part)
    → reply_of query (state_after query items) (leg_of false parts close.Cut) ≡ stops_text query.flow (kept_stops query (items ++ leg_of false parts close.Cut ∷ []))
