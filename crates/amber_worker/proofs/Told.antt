-- A worker that does what it is told, and makes its turn then: it stands where that leads, with the same ends.
use Rattle.std.proofs.Common.{◌≡◌, Result, Ok, Err, ◌^◌, ◌<◌, ◌||◌, ℕ, eqb, map, List, [], ◌∷◌, ◌++◌, Option, Some, None, if◌then◌else◌, Bool, true, false, refl, sym, ap, ◌∙◌, arith, subst}
use Rattle.std.specs.Result.{IfOk, OnErr}
use Rattle.std.proofs.lemmas.List.Elements.{All-push}
use Rattle.amber_link.specs.declared.downstreams.Downstream.{Downstream}
use Rattle.amber_link.proofs.SameEnds.{receivers-same, senders-same}
use Rattle.amber_log.specs.declared.entry.Entry.{Entry}
use Rattle.amber_log.specs.declared.entry.Entry.TheVariants as entry
use Rattle.amber_worker.specs.Acting.{Acts, DealsAt, IsDealingUnder, MayDeal, paused_at}
use Rattle.amber_worker.specs.AtPosition.{HasSameEnds, IsLookedAt, KeepsUnder}
use Rattle.amber_worker.specs.Counting.{with_back, with_grant}
use Rattle.amber_worker.specs.Fields.{AreShort, rows_moved}
use Rattle.amber_worker.specs.Links.{HaveSentNothing}
use Rattle.amber_worker.specs.Turning.{MakesTurn, TurnsDealing, TurnsUnder}
use Rattle.amber_worker.specs.WorkerState.{WorkerState, is_armed}
use Rattle.amber_worker.specs.declared.counting.Dealing.{Dealing}
use Rattle.amber_worker.specs.declared.counting.Dealing.TheVariants as dealing
use Rattle.amber_mail.specs.declared.mail.Control.{Control}
use Rattle.amber_mail.specs.declared.mail.Control.TheVariants as control
use Rattle.amber_worker.specs.declared.turn.Turn.{Turn}
use Rattle.amber_worker.proofs.Dealt.{IsDealt, Keeps-claimed, Keeps-given, is-dealt}
use Rattle.amber_worker.proofs.KeptPosition.{Keeps-refl, Keeps-then}
use Rattle.amber_worker.proofs.Stills.{Keeps-paused_at}
use Rattle.amber_worker.proofs.Turns.{ends-looked, ends-same, ends-then, ends-turn, keeps-looked, keeps-same, keeps-turn, looked-none, unsent-looked, unsent-same, unsent-turn}

-- ---- units are dealt with

pub keeps-dealt : (how : Dealing) (old new : WorkerState) → MayDeal how old → DealsAt how old new → KeepsUnder (is_armed old) old new
keeps-dealt dealing.Nothing old new may same = subst (KeepsUnder (is_armed old) old) (sym same) (Keeps-refl (is_armed old) old)
keeps-dealt dealing.Claims old new may claims =
    subst (KeepsUnder (is_armed old) old) (sym claims.after) (Keeps-claimed (is_armed old) old claims.units claims.seat may.0 may.1 claims.few)
keeps-dealt dealing.Returns old new may gives =
    subst (KeepsUnder (is_armed old) old) (sym gives.after) (Keeps-given (is_armed old) old gives.seat may.0 may.2)

short-granted : (n : ℕ) (journal : List Entry) → AreShort journal → AreShort (with_grant n journal)
short-granted n journal few = by (eqb n 0)
  where
    by : (b : Bool) → AreShort (if b then journal else journal ++ entry.Grant n ∷ [])
    by true = few
    by false = All-push (λ one. rows_moved one < 2 ^ 63) journal (entry.Grant n) few (omega arith)

short-given : (n : ℕ) (journal : List Entry) → AreShort journal → AreShort (with_back n journal)
short-given n journal few = by (eqb n 0)
  where
    by : (b : Bool) → AreShort (if b then journal else journal ++ entry.Back n ∷ [])
    by true = few
    by false = All-push (λ one. rows_moved one < 2 ^ 63) journal (entry.Back n) few (omega arith)

pub short-dealt : (how : Dealing) (old new : WorkerState) → DealsAt how old new → AreShort old.journal → AreShort new.journal
short-dealt dealing.Nothing old new same few = subst (λ (w : WorkerState). AreShort w.journal) (sym same) few
short-dealt dealing.Claims old new claims few = subst (λ (w : WorkerState). AreShort w.journal) (sym claims.after) (short-granted claims.units old.journal few)
short-dealt dealing.Returns old new gives few = subst (λ (w : WorkerState). AreShort w.journal) (sym gives.after) (short-given old.restraint.hand old.journal few)

pub ends-dealt : (old new : WorkerState) → IsDealt old new → HasSameEnds old new
ends-dealt old new is = subst (HasSameEnds old) (sym is.only)
    (record { ins = senders-same old.ins; outs = receivers-same old.outs; number = refl; when = refl; route = refl })

-- ---- a turn after it

pub keeps-dealing : (how : Dealing) (old new : WorkerState) (done : Turn) → AreShort old.journal → MayDeal how old → TurnsDealing how old new done
    → KeepsUnder (is_armed old) old new
keeps-dealing how old new done few may turns =
    let dealt = is-dealt how old turns.between turns.deals in
    Keeps-then (is_armed old) old turns.between new (keeps-dealt how old turns.between may turns.deals)
    (subst (λ b. KeepsUnder b turns.between new) dealt.armed (keeps-turn turns.between new done (short-dealt how old turns.between turns.deals few) turns.makes))

pub ends-dealing : (how : Dealing) (old new : WorkerState) (done : Turn) → TurnsDealing how old new done → HasSameEnds old new
ends-dealing how old new done turns =
    ends-then old turns.between new (ends-dealt old turns.between (is-dealt how old turns.between turns.deals)) (ends-turn turns.between new done turns.makes.turned)

pub unsent-dealing : (how : Dealing) (old new : WorkerState) (done : Turn) → TurnsDealing how old new done → HaveSentNothing old.outs new.outs
unsent-dealing how old new done turns =
    unsent-turn turns.between new done turns.makes.turned
    ∙ ap (λ (w : WorkerState). map (λ (one : Downstream). one.link.ring) w.outs) (is-dealt how old turns.between turns.deals).only

-- ---- what it is told

-- one that is not told to pause deals with its hand so
pub not-paused : (told : Option Control) (how : Dealing) (old new : WorkerState) (done : Turn) → IsDealingUnder told old how → TurnsDealing how old new done → TurnsUnder told old new done
not-paused None how old new done is turns =
    record { between = turns.between; acts = subst (λ h. DealsAt h old turns.between) is turns.deals; makes = turns.makes }
not-paused (Some control.Pause) how old new done is turns = absurd is
not-paused (Some control.Claim) how old new done is turns =
    record { between = turns.between; acts = subst (λ h. DealsAt h old turns.between) is turns.deals; makes = turns.makes }
not-paused (Some control.Return) how old new done is turns =
    record { between = turns.between; acts = subst (λ h. DealsAt h old turns.between) is turns.deals; makes = turns.makes }

-- what was dealt with is what it was told
pub acts-dealt : (told : Option Control) (how : Dealing) (old new : WorkerState) → IsDealingUnder told old how → DealsAt how old new → Acts told old new
acts-dealt None how old new is deals = subst (λ h. DealsAt h old new) is deals
acts-dealt (Some control.Pause) how old new is deals = absurd is
acts-dealt (Some control.Claim) how old new is deals = subst (λ h. DealsAt h old new) is deals
acts-dealt (Some control.Return) how old new is deals = subst (λ h. DealsAt h old new) is deals

-- ---- whatever a call answers

either : {T E : Type 0} (r : Result T E) (P : T → Type 0) (Q C : Type 0) → ((x : T) → P x → C) → (Q → C) → IfOk r P → OnErr r Q → C
either (Ok x) P Q C f g ok err = f x ok
either (Err e) P Q C f g ok err = g err

module _ {E : Type 0} (how : Dealing) (old new : WorkerState) (r : Result Turn E) (ok : IfOk r (TurnsDealing how old new)) (err : OnErr r (IsLookedAt old new)) where
  pub keeps-result : AreShort old.journal → MayDeal how old → KeepsUnder (is_armed old) old new
  keeps-result few may =
      either r (TurnsDealing how old new) (IsLookedAt old new) (KeepsUnder (is_armed old) old new) (λ done turns. keeps-dealing how old new done few may turns)
      (λ looked. keeps-looked (is_armed old) old new looked) ok err

  pub ends-result : HasSameEnds old new
  ends-result =
      either r (TurnsDealing how old new) (IsLookedAt old new) (HasSameEnds old new) (λ done turns. ends-dealing how old new done turns) (λ looked. ends-looked old new looked) ok err

  pub unsent-result : HaveSentNothing old.outs new.outs
  unsent-result =
      either r (TurnsDealing how old new) (IsLookedAt old new) (HaveSentNothing old.outs new.outs) (λ done turns. unsent-dealing how old new done turns)
      (λ looked. unsent-looked old new looked) ok err

  pub turned-result : (told : Option Control) → IsDealingUnder told old how → IfOk r (TurnsUnder told old new)
  turned-result told is = weaker r ok
    where
      weaker : (s : Result Turn E) → IfOk s (TurnsDealing how old new) → IfOk s (TurnsUnder told old new)
      weaker (Ok done) turns = not-paused told how old new done is turns
      weaker (Err e) h = tt

-- where nothing has changed a look has been made
pub same-looked : {T E : Type 0} (r : Result T E) (old new : WorkerState) → OnErr r (new ≡ old) → OnErr r (IsLookedAt old new)
same-looked (Ok x) old new h = tt
same-looked (Err e) old new h = looked-none old new h

-- what a pause leaves
pub record IsPausedOr (old new : WorkerState) : Type 0 where
  pub armed : is_armed new ≡ is_armed old
  pub short : AreShort old.journal → AreShort new.journal
  pub ends : HasSameEnds old new
  pub outs : new.outs ≡ old.outs

pub paused-or : (w : WorkerState) → IsPausedOr w (paused_at w)
paused-or w = by w.finished w.restraint.paused
  where
    by : (a b : Bool) → IsPausedOr w (if a || b then w else record w { restraint = record w.restraint { paused = true }; journal = w.journal ++ entry.Pause ∷ [] })
    by true b = record { armed = refl; short = λ few. few; ends = ends-same w w refl; outs = refl }
    by false true = record { armed = refl; short = λ few. few; ends = ends-same w w refl; outs = refl }
    by false false = record {
      armed = refl;
      short = λ few. All-push (λ one. rows_moved one < 2 ^ 63) w.journal entry.Pause few (omega arith);
      ends = record { ins = senders-same w.ins; outs = receivers-same w.outs; number = refl; when = refl; route = refl };
      outs = refl;
    }

module _ {E : Type 0} (old new : WorkerState) (r : Result Turn E) (ok : IfOk r (MakesTurn (paused_at old) new)) (err : OnErr r (new ≡ old)) where
  pub keeps-paused : AreShort old.journal → KeepsUnder (is_armed old) old new
  keeps-paused few =
      let between = paused-or old in
      either r (MakesTurn (paused_at old) new) (new ≡ old) (KeepsUnder (is_armed old) old new)
      (λ done makes. Keeps-then (is_armed old) old (paused_at old) new (Keeps-paused_at (is_armed old) old)
      (subst (λ b. KeepsUnder b (paused_at old) new) between.armed (keeps-turn (paused_at old) new done (between.short few) makes)))
      (λ same. keeps-same (is_armed old) old new same) ok err

  pub ends-paused : HasSameEnds old new
  ends-paused =
      either r (MakesTurn (paused_at old) new) (new ≡ old) (HasSameEnds old new)
      (λ done makes. ends-then old (paused_at old) new (paused-or old).ends (ends-turn (paused_at old) new done makes.turned)) (λ same. ends-same old new same) ok err

  pub unsent-paused : HaveSentNothing old.outs new.outs
  unsent-paused =
      either r (MakesTurn (paused_at old) new) (new ≡ old) (HaveSentNothing old.outs new.outs)
      (λ done makes. unsent-turn (paused_at old) new done makes.turned ∙ ap (λ outs. map (λ (one : Downstream). one.link.ring) outs) (paused-or old).outs)
      (λ same. unsent-same old new same) ok err

  pub turned-paused : IfOk r (TurnsUnder (Some control.Pause) old new)
  turned-paused = weaker r ok
    where
      weaker : (s : Result Turn E) → IfOk s (MakesTurn (paused_at old) new) → IfOk s (TurnsUnder (Some control.Pause) old new)
      weaker (Ok done) makes = record { between = paused_at old; acts = refl; makes = makes }
      weaker (Err e) h = tt
