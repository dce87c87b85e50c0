-- A home as its fields are seen: what it shows, what it keeps, and what is known of it within a leg.
use Rattle.std.proofs.Common.{◌≡◌, ap, ◌∙◌, length, true}
use Rattle.amber_dataflow.specs.Dataflow.{AreAllThere}
use Rattle.amber_home.specs.HomeState.{HomeState, has_crew, is_open}
use Rattle.amber_home.specs.Kept.{IsHome, LiveState}
use Rattle.amber_home.specs.Parts.{open_parts, open_turned}
use Rattle.amber_home.specs.declared.home.Home.TheInside.{Inside}
use Rattle.amber_home.proofs.Homes.{home-there, long-open, open-there}

-- what it keeps beside its log
abbrev pub kept : Inside → LiveState
kept i = record { dataflow = i.dataflow; arms = i.arms; boards = i.boards; stops = i.stops; back = i.back.items }

-- what it shows
abbrev pub seen : Inside → HomeState
seen i = record { flow = i.dataflow.flow; files = i.files; most = i.most; log = i.log; phase = i.phase; parts = open_parts i.phase (kept i); alone = i.alone; turned = open_turned i.phase (kept i) }

module _ (i : Inside) (home : IsHome (seen i) (kept i)) (old : HomeState) (is : seen i ≡ old) where
  -- where the workers are there
  pub all-there : has_crew old.phase ≡ true → AreAllThere i.dataflow
  all-there there = home-there (seen i) (kept i) i.phase home (ap (λ (h : HomeState). has_crew h.phase) is ∙ there)

  -- within a leg
  pub opens : is_open old.phase ≡ true → is_open i.phase ≡ true
  opens within = ap (λ (h : HomeState). is_open h.phase) is ∙ within

  pub there-within : is_open old.phase ≡ true → AreAllThere i.dataflow
  there-within within = home-there (seen i) (kept i) i.phase home (open-there i.phase (opens within))

  pub long-within : is_open old.phase ≡ true → length i.arms ≡ length i.dataflow.flow
  long-within within = long-open (seen i) (kept i) i.phase home (opens within)
