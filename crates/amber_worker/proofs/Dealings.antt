-- What a turn comes to that began with dealing with units.
use Rattle.std.proofs.Common.{◌≡◌, ℕ, zero, suc, Some, None, inl, inr, ◌+◌, ◌-◌, ◌&&◌, eqb, ◌<◌, List, [], ◌∷◌, ◌++◌, Option, Bool, true, false, if◌then◌else◌, refl, sym, ap, ◌∙◌, arith, subst}
use Rattle.std.specs.Option.{IfSome, is_some}
use Rattle.std.proofs.lemmas.Bool.{false≢true}
use Rattle.amber_board.specs.Seats.{work_view}
use Rattle.amber_link.specs.Links.{has_some}
use Rattle.amber_link.specs.Sides.{AreLooked, IsLooked, have_all_ended}
use Rattle.amber_link.proofs.Sides.{looked-same, looked-then, pairwise-refl, pairwise-then}
use Rattle.amber_board.specs.declared.types.WorkSeat.{WorkSeat}
use Rattle.amber_rows.specs.declared.value.Value.{Value}
use Rattle.amber_link.specs.declared.downstreams.Downstream.{Downstream}
use Rattle.amber_log.specs.declared.entry.Entry.{Entry}
use Rattle.amber_meaning.specs.Position.{Restraint}
use Rattle.amber_meaning.specs.Rules.{restraint_used}
use Rattle.amber_log.specs.declared.entry.Entry.TheVariants as entry
use Rattle.amber_worker.specs.Acting.{DealsAt, paused_at}
use Rattle.amber_worker.specs.AtPosition.{IsLookedAt}
use Rattle.amber_worker.specs.Counting.{Claims, CountsOne, DealsUnits, GivesBack, SeatSide, hand_in, with_back, with_grant}
use Rattle.amber_worker.specs.Links.{EmitsFirst}
use Rattle.amber_worker.specs.Steps.{EmitsRow, Finishes, TakesBatch, TakesRow, held_at, with_go}
use Rattle.amber_worker.specs.Turning.{FinishesDealing, IsNextTurn, MakesTurn, TakesDealing, TurnsDealing}
use Rattle.amber_worker.specs.WorkerState.{IsUnrestrained, StandsStill, WorkerState, has_ready, is_armed, is_starved, must_hold, next_turn}
use Rattle.amber_worker.specs.declared.counting.Dealing.{Dealing}
use Rattle.amber_worker.specs.declared.counting.Dealing.TheVariants as dealing
use Rattle.amber_worker.specs.declared.turn.Turn.{Turn}
use Rattle.amber_worker.specs.declared.turn.Turn.TheVariants as turn
use Rattle.amber_worker.proofs.Dealt.{deals-at, dealt, hand-counted, is-dealt, seat_side}
use Rattle.amber_worker.proofs.Looks.{takes-looked}

-- without a look
pub next-plain : (w : WorkerState) (done : Turn) → done ≡ next_turn w → IsNextTurn w done
next-plain w done is = record { found = w.ins; looked = pairwise-refl IsLooked looked-same w.ins; is = is }

module _ (how : Dealing) (w : WorkerState) (now : SeatSide) (own : w.restraint.hand ≡ hand_in w.seat) (deals : DealsUnits how (seat_side w) now) where
  -- a row holds it
  pub holds-dealing : IsUnrestrained w → has_some w.pending ≡ true → must_hold w ≡ true → is_starved (dealt now w) ≡ false → TurnsDealing how w (held_at (dealt now w)) turn.Held
  holds-dealing free some must fed = record {
    between = dealt now w;
    deals = deals-at how w now own deals;
    makes = record {
      next = next-plain (dealt now w) turn.Held (rw (free.unfinished, free.running, free.loose, some, fed, must) refl);
      turned = rw free.loose refl;
    };
  }

  -- it has no unit for the row that is pending
  pub starves-dealing : IsUnrestrained w → has_some w.pending ≡ true → is_starved (dealt now w) ≡ true → TurnsDealing how w (dealt now w) turn.Starved
  starves-dealing free some starved = record {
    between = dealt now w;
    deals = deals-at how w now own deals;
    makes = record { next = next-plain (dealt now w) turn.Starved (rw (free.unfinished, free.running, free.loose, some, starved) refl); turned = refl };
  }

  -- nor for the row that is left
  pub starves-left : IsUnrestrained w → has_some w.pending ≡ false → has_some w.rest ≡ true → is_starved (dealt now w) ≡ true → TurnsDealing how w (dealt now w) turn.Starved
  starves-left free none some starved = record {
    between = dealt now w;
    deals = deals-at how w now own deals;
    makes = record { next = next-plain (dealt now w) turn.Starved (rw (free.unfinished, free.running, free.loose, none, some, starved) refl); turned = refl };
  }

  -- a row was emitted
  pub emits-dealing : (new : WorkerState) → IsUnrestrained w → has_some w.pending ≡ true → must_hold w ≡ false → is_starved (dealt now w) ≡ false → EmitsRow (dealt now w) new
      → TurnsDealing how w new turn.Moved
  emits-dealing new free some must fed emits = record {
    between = dealt now w;
    deals = deals-at how w now own deals;
    makes = record { next = next-plain (dealt now w) turn.Moved (rw (free.unfinished, free.running, free.loose, some, fed, must) refl); turned = inl emits };
  }

  -- a batch was taken
  pub takes-dealing : (new : WorkerState) → TakesBatch (dealt now w) new → TakesDealing how w new
  takes-dealing new takes = record { between = dealt now w; deals = deals-at how w now own deals; takes = takes }

  -- the end was reached
  pub ends-dealing : (new : WorkerState) → Finishes (dealt now w) new → FinishesDealing how w new
  ends-dealing new ends = record { between = dealt now w; deals = deals-at how w now own deals; finishes = ends }

-- ---- with a look before

-- what was dealt with after a look might have been before it
before-look : (how : Dealing) (old seen between : WorkerState) → IsLookedAt old seen → DealsAt how seen between
    → DealsAt how old (record between { ins = old.ins }) × IsLookedAt (record between { ins = old.ins }) between
before-look dealing.Nothing old seen between looked same = (
  ap (λ (w : WorkerState). record w { ins = old.ins }) same ∙ ap (λ (w : WorkerState). record w { ins = old.ins }) looked.only,
  record { looked = subst (λ (w : WorkerState). AreLooked old.ins w.ins) (sym same) looked.looked; only = refl },
)
before-look dealing.Claims old seen between looked claims = subst
    (λ w. DealsAt dealing.Claims old (record w { ins = old.ins }) × IsLookedAt (record w { ins = old.ins }) w) (sym claims.after)
    (subst
    (λ (s : WorkerState). DealsAt dealing.Claims old (record s { seat = claims.seat; restraint = record s.restraint { hand = s.restraint.hand + claims.units }; journal = with_grant claims.units s.journal; ins = old.ins })
    × IsLookedAt (record s { seat = claims.seat; restraint = record s.restraint { hand = s.restraint.hand + claims.units }; journal = with_grant claims.units s.journal; ins = old.ins })
    (record s { seat = claims.seat; restraint = record s.restraint { hand = s.restraint.hand + claims.units }; journal = with_grant claims.units s.journal }))
    (sym looked.only) (
      record { units = claims.units; few = claims.few; seat = claims.seat; claims = subst (λ (s : WorkerState). Claims claims.units s.seat claims.seat) looked.only claims.claims; after = refl },
      record { looked = looked.looked; only = refl },
    ))
before-look dealing.Returns old seen between looked gives = subst
    (λ w. DealsAt dealing.Returns old (record w { ins = old.ins }) × IsLookedAt (record w { ins = old.ins }) w) (sym gives.after)
    (subst
    (λ (s : WorkerState). DealsAt dealing.Returns old (record s { seat = gives.seat; restraint = record s.restraint { hand = 0 }; journal = with_back s.restraint.hand s.journal; ins = old.ins })
    × IsLookedAt (record s { seat = gives.seat; restraint = record s.restraint { hand = 0 }; journal = with_back s.restraint.hand s.journal; ins = old.ins })
    (record s { seat = gives.seat; restraint = record s.restraint { hand = 0 }; journal = with_back s.restraint.hand s.journal }))
    (sym looked.only) (
      record { seat = gives.seat; gives = subst (λ (s : WorkerState). GivesBack s.seat gives.seat) looked.only gives.gives; after = refl },
      record { looked = looked.looked; only = refl },
    ))

looked-twice : (a b c : WorkerState) → IsLookedAt a b → IsLookedAt b c → IsLookedAt a c
looked-twice a b c one two = record {
  looked = pairwise-then IsLooked looked-then a.ins b.ins c.ins one.looked two.looked;
  only = two.only ∙ ap (λ (w : WorkerState). record w { ins = c.ins }) one.only;
}

-- what dealing with units leaves
free-dealt : (how : Dealing) (old new : WorkerState) → DealsAt how old new → (P : WorkerState → Type 0)
    → ((w : WorkerState) → w ≡ record old { seat = w.seat; restraint = record old.restraint { hand = w.restraint.hand }; journal = w.journal } → P w) → P new
free-dealt how old new deals P so = so new (is-dealt how old new deals).only

module _ (how : Dealing) (old seen : WorkerState) (looked : IsLookedAt old seen) (free : IsUnrestrained old) (none : has_some old.pending ≡ false) (used : has_some old.rest ≡ false) where
  -- which turn comes after both
  next-then : (between : WorkerState) (done : Turn) (ready ended : Bool) → DealsAt how seen between → has_ready seen.ins ≡ ready → have_all_ended seen.ins ≡ ended
      → done ≡ (if ready then turn.Moved else if ended then turn.Moved else turn.Idle) → done ≡ next_turn between
  next-then between done ready ended deals is_ready is_ended is =
      let same = (is-dealt how seen between deals).only in
      let whole = same ∙ ap (λ (w : WorkerState). record w { seat = between.seat; restraint = record w.restraint { hand = between.restraint.hand }; journal = between.journal }) looked.only in
      is ∙ sym (ap next_turn whole ∙ rw (free.unfinished, free.running, free.loose, none, used, is_ready, is_ended) refl)

  -- a batch was taken
  pub takes-then : (new : WorkerState) → has_ready seen.ins ≡ true → TakesDealing how seen new → TurnsDealing how old new turn.Moved
  takes-then new ready takes =
      let first = before-look how old seen takes.between looked takes.deals in
      let start : WorkerState = record takes.between { ins = old.ins } in
      record {
        between = start;
        deals = first.0;
        makes = record {
          next = record {
            found = takes.between.ins;
            looked = first.1.looked;
            is = next-then takes.between turn.Moved true (have_all_ended seen.ins) takes.deals ready refl refl;
          };
          turned = inr (inr (inl (takes-looked start takes.between new first.1 takes.takes)));
        };
      }

  -- the end was reached
  pub finishes-then : (new : WorkerState) → has_ready seen.ins ≡ false → have_all_ended seen.ins ≡ true → FinishesDealing how seen new → TurnsDealing how old new turn.Moved
  finishes-then new unready ended ends =
      let first = before-look how old seen ends.between looked ends.deals in
      let start : WorkerState = record ends.between { ins = old.ins } in
      let open_still : start.finished ≡ false =
      ap (λ (w : WorkerState). w.finished) (is-dealt how seen ends.between ends.deals).only ∙ ap (λ (w : WorkerState). w.finished) looked.only ∙ free.unfinished in
      record {
        between = start;
        deals = first.0;
        makes = record {
          next = record {
            found = ends.between.ins;
            looked = first.1.looked;
            is = next-then ends.between turn.Moved false true ends.deals unready ended refl;
          };
          turned = inr (inr (inr (record { unfinished = open_still; between = ends.between; looked = first.1; finishes = ends.finishes })));
        };
      }

  -- nothing was found
  pub idles-then : (new : WorkerState) → has_ready seen.ins ≡ false → have_all_ended seen.ins ≡ false → DealsAt how seen new → TurnsDealing how old new turn.Idle
  idles-then new unready unended deals =
      let first = before-look how old seen new looked deals in
      let start : WorkerState = record new { ins = old.ins } in
      let is = next-then new turn.Idle false false deals unready unended refl in
      record {
        between = start;
        deals = first.0;
        makes = record {
          next = record { found = new.ins; looked = first.1.looked; is = is };
          turned = record { looked = first.1; idle = sym is };
        };
      }

-- ---- one that stands still

pub stands-dealing : (how : Dealing) (old new : WorkerState) (done : Turn) → StandsStill old done → DealsAt how old new → TurnsDealing how old new done
stands-dealing how old new turn.Moved still deals = absurd still
stands-dealing how old new turn.Idle still deals = absurd still
stands-dealing how old new turn.Held still deals =
    let same = (is-dealt how old new deals).only in
    let held : new.restraint.held ≡ true = ap (λ (w : WorkerState). w.restraint.held) same ∙ still.2 in
    record {
      between = new;
      deals = deals;
      makes = record {
        next = next-plain new turn.Held (sym (ap next_turn same ∙ rw (still.0, still.1, still.2) refl));
        turned = rw held refl;
      };
    }
stands-dealing how old new turn.Starved still deals = absurd still
stands-dealing how old new turn.Paused still deals =
    let same = (is-dealt how old new deals).only in
    record {
      between = new;
      deals = deals;
      makes = record { next = next-plain new turn.Paused (sym (ap next_turn same ∙ rw (still.0, still.1) refl)); turned = refl };
    }
stands-dealing how old new turn.Ended still deals =
    let same = (is-dealt how old new deals).only in
    record {
      between = new;
      deals = deals;
      makes = record { next = next-plain new turn.Ended (sym (ap next_turn same ∙ rw still refl)); turned = refl };
    }

-- ---- one that is told to pause

pub pauses-ended : (w : WorkerState) → w.finished ≡ true → MakesTurn (paused_at w) w turn.Ended
pauses-ended w over =
    let same : paused_at w ≡ w = rw over refl in
    subst (λ between. MakesTurn between w turn.Ended) (sym same) (record { next = next-plain w turn.Ended (rw over refl); turned = refl })

pub pauses-again : (w : WorkerState) → w.finished ≡ false → w.restraint.paused ≡ true → MakesTurn (paused_at w) w turn.Paused
pauses-again w unfinished paused =
    let same : paused_at w ≡ w = rw (unfinished, paused) refl in
    subst (λ between. MakesTurn between w turn.Paused) (sym same) (record { next = next-plain w turn.Paused (rw (unfinished, paused) refl); turned = refl })

pub pauses-now : (w : WorkerState) → w.finished ≡ false → w.restraint.paused ≡ false
    → MakesTurn (paused_at w) (record w { restraint = record w.restraint { paused = true }; journal = w.journal ++ entry.Pause ∷ [] }) turn.Paused
pauses-now w unfinished running =
    let now : WorkerState = record w { restraint = record w.restraint { paused = true }; journal = w.journal ++ entry.Pause ∷ [] } in
    let same : paused_at w ≡ now = rw (unfinished, running) refl in
    subst (λ between. MakesTurn between now turn.Paused) (sym same) (record { next = next-plain now turn.Paused (rw unfinished refl); turned = refl })

-- ---- a row that was emitted

no_wave : (b : Bool) → (b && false) ≡ false
no_wave true = refl
no_wave false = refl

used-one : (armed : Bool) (r : Restraint) (hand : ℕ) → hand ≡ (if armed then r.hand - 1 else r.hand) → record r { hand = hand; waved = false } ≡ restraint_used armed 1 r
used-one armed r hand is = λ i. record r { hand = is i; waved = sym (no_wave r.waved) i }

-- a row less is pending, a unit less is in hand
pub emits-row : (w : WorkerState) (later : List (List Value)) (outs after : List Downstream) (seat : Option WorkSeat) (journal : List Entry) → w.restraint.hand ≡ hand_in w.seat
    → EmitsFirst w.route (record { pending = w.pending; outs = w.outs }) (record { pending = later; outs = after }) → outs ≡ after → CountsOne w.seat seat → journal ≡ with_go w.journal 0 1
    → EmitsRow w (record w {
      pending = later;
      emitted = w.emitted + 1;
      seat = seat;
      restraint = record w.restraint { hand = hand_in seat; waved = false };
      outs = outs;
      journal = journal;
    })
emits-row w later outs after seat journal own emits outs_is counts journal_is = record {
  row = emits.row;
  later = later;
  outs = after;
  seat = seat;
  first = emits.first;
  handed = emits.handed;
  counts = counts;
  after = rw (outs_is, journal_is)
      (ap (λ (r : Restraint). record w { pending = later; emitted = w.emitted + 1; seat = seat; restraint = r; outs = after; journal = with_go w.journal 0 1 })
      (used-one (is_armed w) w.restraint (hand_in seat)
      (hand-counted w.seat seat counts ∙ ap (λ hand. if is_armed w then hand - 1 else hand) (sym own))));
}

-- a seat that is not starved has a unit
pub counts-unit : (seat : Option WorkSeat) → (is_some seat && eqb (hand_in seat) 0) ≡ false → IfSome seat (λ one. 0 < (work_view one).hand)
counts-unit None fed = tt
counts-unit (Some seat) fed = by (work_view seat).hand fed
  where
    by : (n : ℕ) → eqb n 0 ≡ false → 0 < n
    by zero h = absurd (false≢true (sym h))
    by (suc n) h = omega arith

-- ---- a row that was taken

-- nothing is dealt with, and it has no unit for the row that is left
pub starves-plain : (w : WorkerState) → IsUnrestrained w → has_some w.pending ≡ false → has_some w.rest ≡ true → is_starved w ≡ true → TurnsDealing dealing.Nothing w w turn.Starved
starves-plain w free none some starved = record {
  between = w;
  deals = refl;
  makes = record { next = next-plain w turn.Starved (rw (free.unfinished, free.running, free.loose, none, some, starved) refl); turned = refl };
}

pub takes-plain : (w new : WorkerState) → IsUnrestrained w → has_some w.pending ≡ false → has_some w.rest ≡ true → is_starved w ≡ false → TakesRow w new → TurnsDealing dealing.Nothing w new turn.Moved
takes-plain w new free none some fed takes = record {
  between = w;
  deals = refl;
  makes = record { next = next-plain w turn.Moved (rw (free.unfinished, free.running, free.loose, none, some, fed) refl); turned = inr (inl takes) };
}

-- it gave its units back, and has none for the row that is left
pub starves-given : (w new : WorkerState) → IsUnrestrained w → has_some w.pending ≡ false → has_some w.rest ≡ true → is_armed w ≡ true → DealsAt dealing.Returns w new
    → TurnsDealing dealing.Returns w new turn.Starved
starves-given w new free none some armed gives =
    let dealt_so = is-dealt dealing.Returns w new gives in
    let hand : new.restraint.hand ≡ 0 = ap (λ (v : WorkerState). v.restraint.hand) gives.after in
    let starved : is_starved new ≡ true = ap (λ b. b && eqb new.restraint.hand 0) (dealt_so.armed ∙ armed) ∙ ap (λ n. eqb n 0) hand in
    record {
      between = new;
      deals = gives;
      makes = record {
        next = next-plain new turn.Starved (sym (ap next_turn dealt_so.only
            ∙ ap (λ b. if w.finished then turn.Ended else if w.restraint.paused then turn.Paused else if w.restraint.held then turn.Held
            else if has_some w.pending then (if b then turn.Starved else if must_hold w then turn.Held else turn.Moved)
            else if has_some w.rest then (if b then turn.Starved else turn.Moved) else if has_ready w.ins then turn.Moved else if have_all_ended w.ins then turn.Moved else turn.Idle) starved
            ∙ rw (free.unfinished, free.running, free.loose, none, some) refl));
        turned = refl;
      };
    }
