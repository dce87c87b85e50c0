-- A worker that claimed units, or gave them back, stands where that leads.
use Rattle.std.proofs.Common.{◌≡◌, ℕ, zero, suc, ◌+◌, ◌-◌, ◌^◌, ◌<◌, ◌==◌, ◌&&◌, [], ◌∷◌, ◌++◌, Option, Some, None, Bool, true, false, refl, sym, ap, ◌∙◌, arith, subst, if◌then◌else◌}
use Rattle.std.specs.Option.{is_some}
use Rattle.std.proofs.lemmas.Bool.{ne_eqb}
use Rattle.amber_board.specs.declared.types.WorkSeat.{WorkSeat}
use Rattle.amber_board.specs.declared.view.View.{View}
use Rattle.amber_log.specs.declared.entry.Entry.TheVariants as entry
use Rattle.amber_meaning.specs.Position.{Restraint}
use Rattle.amber_meaning.specs.Rules.{MayGiveBack, MayGrant}
use Rattle.amber_meaning.proofs.Led.{Leads-push, no_batch}
use Rattle.amber_worker.specs.Acting.{DealsAt}
use Rattle.amber_worker.specs.AtPosition.{KeepsUnder}
use Rattle.amber_worker.specs.Counting.{Claims, CountsOne, DealsUnits, GivesBack, SeatSide, hand_in, mine_in, with_back, with_grant}
use Rattle.amber_worker.specs.WorkerState.{WorkerState, is_armed}
use Rattle.amber_worker.specs.declared.counting.Dealing.{Dealing}
use Rattle.amber_worker.specs.declared.counting.Dealing.TheVariants as dealing
use Rattle.amber_worker.proofs.Apart.{shows-apart}
use Rattle.amber_worker.proofs.Journals.{AreEntries-push}
use Rattle.amber_worker.proofs.KeptPosition.{Keeps-then}
use Rattle.amber_worker.specs.Changes.{armed_at, disarmed_at}
use Rattle.amber_board.specs.Seats.{work_view}

-- ---- hands

pub hand-claimed : (n : ℕ) (seat now : Option WorkSeat) → Claims n seat now → hand_in now ≡ hand_in seat + n
hand-claimed n None now claims = rw (claims.0, claims.1) refl
hand-claimed n (Some seat) now claims = rw claims.1 (ap (λ (v : View). v.hand) claims.2)

pub hand-given : (seat now : Option WorkSeat) → GivesBack seat now → hand_in now ≡ 0
hand-given None now gives = rw gives refl
hand-given (Some seat) now gives = rw gives.1 (ap (λ (v : View). v.hand) gives.2)

-- a unit less is in the hand that counted one
pub hand-counted : (seat now : Option WorkSeat) → CountsOne seat now → hand_in now ≡ (if is_some seat then hand_in seat - 1 else hand_in seat)
hand-counted None now counts = rw counts refl
hand-counted (Some seat) now counts = rw counts.1 (ap (λ (v : View). v.hand) counts.2)

-- ---- what a worker becomes

-- its hand was dealt with: it has this seat and this journal
abbrev pub dealt : SeatSide → WorkerState → WorkerState
dealt now w = record w { seat = now.seat; restraint = record w.restraint { hand = hand_in now.seat }; journal = now.journal }

abbrev pub seat_side : WorkerState → SeatSide
seat_side w = record { seat = w.seat; journal = w.journal }

pub deals-at : (how : Dealing) (w : WorkerState) (now : SeatSide) → w.restraint.hand ≡ hand_in w.seat → DealsUnits how (seat_side w) now → DealsAt how w (dealt now w)
deals-at dealing.Nothing w now own deals =
    ap (λ (side : SeatSide). dealt side w) deals ∙ ap (λ hand. record w { restraint = record w.restraint { hand = hand } }) (sym own)
deals-at dealing.Claims w now own deals = record {
  units = deals.units;
  few = deals.few;
  seat = now.seat;
  claims = deals.claims;
  after = ap (λ hand. record w { seat = now.seat; restraint = record w.restraint { hand = hand }; journal = now.journal })
      (hand-claimed deals.units w.seat now.seat deals.claims ∙ ap (λ hand. hand + deals.units) (sym own))
      ∙ ap (λ l. record w { seat = now.seat; restraint = record w.restraint { hand = w.restraint.hand + deals.units }; journal = l }) deals.journal;
}
deals-at dealing.Returns w now own deals = record {
  seat = now.seat;
  gives = deals.gives;
  after = ap (λ hand. record w { seat = now.seat; restraint = record w.restraint { hand = hand }; journal = now.journal }) (hand-given w.seat now.seat deals.gives)
      ∙ ap (λ l. record w { seat = now.seat; restraint = record w.restraint { hand = 0 }; journal = l }) (deals.journal ∙ ap (λ hand. with_back hand w.journal) (sym own));
}

-- only its seat, its hand and its journal are others
pub record IsDealt (old new : WorkerState) : Type 0 where
  pub armed : is_armed new ≡ is_armed old
  pub only : new ≡ record old { seat = new.seat; restraint = record old.restraint { hand = new.restraint.hand }; journal = new.journal }
  pub mine : mine_in new.seat ≡ mine_in old.seat

mine-claimed : (n : ℕ) (seat now : Option WorkSeat) → Claims n seat now → mine_in now ≡ mine_in seat
mine-claimed n None now claims = ap mine_in claims.0
mine-claimed n (Some seat) now claims = ap mine_in claims.1 ∙ ap (λ (v : View). v.mine) claims.2

mine-given : (seat now : Option WorkSeat) → GivesBack seat now → mine_in now ≡ mine_in seat
mine-given None now gives = ap mine_in gives
mine-given (Some seat) now gives = ap mine_in gives.1 ∙ ap (λ (v : View). v.mine) gives.2

armed-claims : (n : ℕ) (seat now : Option WorkSeat) → Claims n seat now → is_some now ≡ is_some seat
armed-claims n None now claims = ap (λ (s : Option WorkSeat). is_some s) claims.0
armed-claims n (Some seat) now claims = ap (λ (s : Option WorkSeat). is_some s) claims.1

armed-gives : (seat now : Option WorkSeat) → GivesBack seat now → is_some now ≡ is_some seat
armed-gives None now gives = ap (λ (s : Option WorkSeat). is_some s) gives
armed-gives (Some seat) now gives = ap (λ (s : Option WorkSeat). is_some s) gives.1

pub is-dealt : (how : Dealing) (old new : WorkerState) → DealsAt how old new → IsDealt old new
is-dealt dealing.Nothing old new same = subst (IsDealt old) (sym same) (record { armed = refl; only = refl; mine = refl })
is-dealt dealing.Claims old new claims = subst (IsDealt old) (sym claims.after) (record {
  armed = armed-claims claims.units old.seat claims.seat claims.claims;
  only = refl;
  mine = mine-claimed claims.units old.seat claims.seat claims.claims;
})
is-dealt dealing.Returns old new gives = subst (IsDealt old) (sym gives.after) (record {
  armed = armed-gives old.seat gives.seat gives.gives;
  only = refl;
  mine = mine-given old.seat gives.seat gives.gives;
})

-- ---- where it stands

-- the same hand, whatever the seat
pub Keeps-apart : (counted : Bool) (w : WorkerState) (seat : Option WorkSeat) (reserved : Bool) (turned : ℕ)
    → KeepsUnder counted w (record w { seat = seat; reserved = reserved; turned = turned })
unfolding KeepsUnder
Keeps-apart counted w seat reserved turned context start p armed stands = (
  p,
  record {
    leads = stands.leads;
    text = stands.text;
    shows = shows-apart context w p (record { seat = seat; restraint = w.restraint; journal = w.journal; reserved = reserved; turned = turned }) p.restraint stands.shows.restraint stands.shows;
  },
)

claimed-some : (counted : Bool) (w : WorkerState) (n : ℕ) (seat : Option WorkSeat) → counted ≡ true → w.finished ≡ false → 0 < n → n < 2 ^ 64
    → KeepsUnder counted w (record w { seat = seat; restraint = record w.restraint { hand = w.restraint.hand + n }; journal = w.journal ++ entry.Grant n ∷ [] })
unfolding KeepsUnder
claimed-some counted w n seat has_seat unfinished some few context start p armed stands =
    let shows = stands.shows in
    let may : MayGrant context.orders p = record { counted = armed ∙ has_seat; unfinished = sym shows.finished ∙ unfinished } in
    let after : Restraint = record p.restraint { hand = p.restraint.hand + n } in (
      record p { restraint = after },
      record {
        leads = Leads-push context.placement.role context.orders start w.journal p (entry.Grant n) (record p { restraint = after }) stands.leads (no_batch, may, refl);
        text = AreEntries-push false w.journal (entry.Grant n) stands.text (some, few) refl;
        shows = shows-apart context w p
            (record { seat = seat; restraint = record w.restraint { hand = w.restraint.hand + n }; journal = w.journal ++ entry.Grant n ∷ []; reserved = w.reserved; turned = w.turned })
            after (ap (λ (r : Restraint). record r { hand = r.hand + n }) shows.restraint) shows;
      },
    )

no_more : (n : ℕ) → n + zero ≡ n
no_more n = omega arith

pub Keeps-claimed : (counted : Bool) (w : WorkerState) (n : ℕ) (seat : Option WorkSeat) → counted ≡ true → w.finished ≡ false → n < 2 ^ 64
    → KeepsUnder counted w (record w { seat = seat; restraint = record w.restraint { hand = w.restraint.hand + n }; journal = with_grant n w.journal })
Keeps-claimed counted w zero seat has_seat unfinished few =
    subst (λ hand. KeepsUnder counted w (record w { seat = seat; restraint = record w.restraint { hand = hand } })) (sym (no_more w.restraint.hand)) (Keeps-apart counted w seat w.reserved w.turned)
Keeps-claimed counted w (suc n) seat has_seat unfinished few =
    rw (ne_eqb (suc n) 0 (λ e. omega arith)) (claimed-some counted w (suc n) seat has_seat unfinished (omega arith) few)

given-some : (counted : Bool) (w : WorkerState) (seat : Option WorkSeat) → counted ≡ true → 0 < w.restraint.hand → w.restraint.hand < 2 ^ 64
    → KeepsUnder counted w (record w { seat = seat; restraint = record w.restraint { hand = 0 }; journal = w.journal ++ entry.Back w.restraint.hand ∷ [] })
unfolding KeepsUnder
given-some counted w seat has_seat some few context start p armed stands =
    let shows = stands.shows in
    let n : ℕ = w.restraint.hand in
    let may : MayGiveBack context.orders p n = record { counted = armed ∙ has_seat; whole = ap (λ (r : Restraint). r.hand) shows.restraint } in
    let after : Restraint = record p.restraint { hand = 0 } in (
      record p { restraint = after },
      record {
        leads = Leads-push context.placement.role context.orders start w.journal p (entry.Back n) (record p { restraint = after }) stands.leads (no_batch, may, refl);
        text = AreEntries-push false w.journal (entry.Back n) stands.text (some, few) refl;
        shows = shows-apart context w p
            (record { seat = seat; restraint = record w.restraint { hand = 0 }; journal = w.journal ++ entry.Back n ∷ []; reserved = w.reserved; turned = w.turned })
            after (ap (λ (r : Restraint). record r { hand = 0 }) shows.restraint) shows;
      },
    )

pub Keeps-given : (counted : Bool) (w : WorkerState) (seat : Option WorkSeat) → counted ≡ true → w.restraint.hand < 2 ^ 64
    → KeepsUnder counted w (record w { seat = seat; restraint = record w.restraint { hand = 0 }; journal = with_back w.restraint.hand w.journal })
Keeps-given counted w seat has_seat few = by w.restraint.hand refl
  where
    by : (n : ℕ) → w.restraint.hand ≡ n → KeepsUnder counted w (record w { seat = seat; restraint = record w.restraint { hand = 0 }; journal = with_back n w.journal })
    by zero is =
        subst (λ hand. KeepsUnder counted w (record w { seat = seat; restraint = record w.restraint { hand = hand } })) is (Keeps-apart counted w seat w.reserved w.turned)
    by (suc n) is =
        rw (ne_eqb (suc n) 0 (λ e. omega arith))
        (subst (λ m. KeepsUnder counted w (record w { seat = seat; restraint = record w.restraint { hand = 0 }; journal = w.journal ++ entry.Back m ∷ [] })) is
        (given-some counted w seat has_seat (omega arith) few))

-- ---- a seat comes, and goes

-- with so many units in its hand
abbrev armed : WorkSeat → WorkerState → ℕ → Type 0
armed seat w n = KeepsUnder true w (record w {
  seat = Some seat;
  restraint = record w.restraint { hand = n };
  journal = with_grant n w.journal;
  reserved = w.reserved && (n == 0);
})

-- units in its hand were granted
pub Keeps-armed_at : (seat : WorkSeat) (w : WorkerState) → w.restraint.hand ≡ 0 → (0 < (work_view seat).hand → w.finished ≡ false) → (work_view seat).hand < 2 ^ 64
    → KeepsUnder true w (armed_at seat w)
Keeps-armed_at seat w none unfinished few = by (work_view seat).hand refl
  where
    by : (n : ℕ) → (work_view seat).hand ≡ n → armed seat w n
    by zero is =
        subst (λ hand. KeepsUnder true w (record w { seat = Some seat; restraint = record w.restraint { hand = hand }; reserved = w.reserved && true })) none
        (Keeps-apart true w (Some seat) (w.reserved && true) w.turned)
    by (suc n) is =
        subst (λ hand. KeepsUnder true w (record w {
          seat = Some seat;
          restraint = record w.restraint { hand = hand };
          journal = with_grant (suc n) w.journal;
          reserved = w.reserved && (suc n == 0);
        })) (ap (λ m. m + suc n) none ∙ omega arith)
        (Keeps-then true w
        (record w { seat = Some seat; restraint = record w.restraint { hand = w.restraint.hand + suc n }; journal = with_grant (suc n) w.journal })
        (record w {
          seat = Some seat;
          restraint = record w.restraint { hand = w.restraint.hand + suc n };
          journal = with_grant (suc n) w.journal;
          reserved = w.reserved && (suc n == 0);
        })
        (Keeps-claimed true w (suc n) (Some seat) refl (unfinished (omega (arith, is))) (omega (arith, is, few)))
        (Keeps-apart true (record w { seat = Some seat; restraint = record w.restraint { hand = w.restraint.hand + suc n }; journal = with_grant (suc n) w.journal })
        (Some seat) (w.reserved && (suc n == 0)) w.turned))

-- units that were in its hand were given back
pub Keeps-disarmed_at : (w : WorkerState) → w.restraint.hand < 2 ^ 64 → KeepsUnder true w (disarmed_at w)
Keeps-disarmed_at w few =
    Keeps-then true w (record w { seat = None; restraint = record w.restraint { hand = 0 }; journal = with_back w.restraint.hand w.journal }) (disarmed_at w)
    (Keeps-given true w None refl few)
    (Keeps-apart true (record w { seat = None; restraint = record w.restraint { hand = 0 }; journal = with_back w.restraint.hand w.journal }) None false w.turned)
