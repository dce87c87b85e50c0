-- The links of a worker.
use Rattle.std.specs.Prelude.{◌≡◌, ℕ, ◌+◌, ◌==◌, ◌<◌, ◌≤◌, ◌^◌, List, ◌∷◌, length, map, slice_index_or, MatchOption, Option, Bool, false, true}
use Rattle.std.specs.List.{list_any}
use Rattle.amber_rows.specs.Routing.{key_bytes_of, route_of}
use Rattle.amber_rows.specs.declared.value.Value.{Value}
use Rattle.amber_link.specs.Links.{AreLinked}
use Rattle.amber_link.specs.Sides.{HandsOn, LinkSides, Settles, Way, have_builders_ended, may_come}
use Rattle.amber_link.specs.declared.upstreams.Upstream.{Upstream}
use Rattle.amber_link.specs.declared.downstreams.Downstream.{Downstream}
use Rattle.amber_worker.specs.declared.route.Route.{Route}
use Rattle.amber_worker.specs.declared.route.Route.TheVariants as route

-- ---- to whom a row goes

-- the running number of the worker to which a row goes
abbrev pub number_to : Route → List Value → ℕ
number_to (route.One number) row = number
number_to (route.ByKeys keys first workers) row = first + route_of (key_bytes_of keys row) workers

-- there is a worker, and its number is small
abbrev pub IsSoundRoute : Route → Type 0
IsSoundRoute (route.One number) = Unit {0}
IsSoundRoute (route.ByKeys keys first workers) = (0 < workers) × (first + workers ≤ 2 ^ 32)

-- a row more was pushed for the receiver with this number, if there is one
pub record IsHandedOn (number : ℕ) (row : List Value) (outs after : List Downstream) : Type 0 where
  pub place : Option ℕ
  pub so : MatchOption place ((list_any (λ one. one.to == number) outs ≡ false) × (after ≡ outs))
      (λ i. HandsOn i row outs after × ((d : Downstream) → (slice_index_or outs i d).to ≡ number))

-- a worker's side of output: the rows that are pending, and the receivers
pub record OutputSide : Type 0 where
  pub pending : List (List Value)
  pub outs : List Downstream

-- the first of the pending rows was handed on
pub record EmitsFirst (to : Route) (old new : OutputSide) : Type 0 where
  pub row : List Value
  pub first : old.pending ≡ row ∷ new.pending
  pub handed : IsHandedOn (number_to to row) row old.outs new.outs

-- the place of the receiver to which the first of the pending rows goes, if there is one
unfoldable pub IsFirstPlace : Route → OutputSide → Option ℕ → Type 0
IsFirstPlace to side place = (row : List Value) (later : List (List Value)) → side.pending ≡ row ∷ later
    → MatchOption place (list_any (λ one. one.to == number_to to row) side.outs ≡ false)
    (λ i. (i < length side.outs) × ((d : Downstream) → (slice_index_or side.outs i d).to ≡ number_to to row))

-- nothing was sent: the rings of the receivers are as they were
abbrev pub HaveSentNothing : List Downstream → List Downstream → Type 0
HaveSentNothing old new = map (λ one. one.link.ring) new ≡ map (λ one. one.link.ring) old

-- ---- from whom a batch comes

-- a batch of the sender at this place may be taken
abbrev pub MayTakeAt : List Upstream → ℕ → Type 0
MayTakeAt ins place = (d : Upstream) → may_come (have_builders_ended ins) (slice_index_or ins place d) ≡ true

-- ---- the link of two workers

-- what one keeps of its receiver and the other of its sender are the two ends of a link
abbrev pub AreEndsOf : ℕ → ℕ → List Downstream → List Upstream → Type 0
AreEndsOf from to outs ins = (j k : ℕ) (one : Downstream) (other : Upstream) → j < length outs → k < length ins
    → (slice_index_or outs j one).to ≡ to → (slice_index_or ins k other).from ≡ from
    → AreLinked (slice_index_or outs j one).link (slice_index_or ins k other).link

-- what was made for the receiver went on to it; nothing was taken
pub record Passes (all : Bool) (way : Way) (old new : LinkSides) : Type 0 where
  pub j : ℕ
  pub k : ℕ
  pub j_within : j < length old.outs
  pub k_within : k < length old.ins
  pub to_is : (one : Downstream) → (slice_index_or old.outs j one).to ≡ way.to
  pub from_is : (one : Upstream) → (slice_index_or old.ins k one).from ≡ way.from
  pub settles : Settles all (record { from = j; to = k }) old new
