-- Homes whose workers do a leg again.
use Rattle.std.proofs.Common.{◌≡◌, ◌⊎◌, refl, sym, ap, subst, ◌∙◌, ℕ, ◌≤◌, ◌^◌, List, Bool, true, false, inl, inr}
use Rattle.std.proofs.lemmas.Bool.{false≢true}
use Rattle.amber_rows.specs.declared.flow.Operator.{Operator}
use Rattle.amber_log.specs.declared.leg.Part.{Part}
use Rattle.amber_meaning.specs.Legal.{IsLegal}
use Rattle.amber_worker.specs.WorkerState.{WorkerState}
use Rattle.amber_dataflow.specs.Dataflow.{DataflowState}
use Rattle.amber_dataflow.specs.Parts.{parts_from}
use Rattle.amber_home.specs.HomeState.{HomeState, counts_in, is_open, leg_state, query_of, runs_to_end, state_at, state_of}
use Rattle.amber_home.specs.Kept.{AreHeaded, AreRedoing, IsHome, LiveState, StandsIn}
use Rattle.amber_home.specs.Parts.{open_parts}
use Rattle.amber_home.specs.Redoing.{may_redo}
use Rattle.amber_home.specs.declared.phase.Counts.{Counts}
use Rattle.amber_home.specs.declared.phase.Counts.TheVariants.{Armed, Disarmed, Unarmed}
use Rattle.amber_home.specs.declared.phase.Phase.{Phase}
use Rattle.amber_home.specs.declared.phase.Phase.TheVariants as phase
use Rattle.amber_home.proofs.Homes.{IsLeg, leg-unarmed}
use Rattle.amber_home.proofs.Redone.{begins-redoing}

-- ---- phases

abbrev pub IsRedoing : Phase → Type 0
IsRedoing now = (to_end : Bool) × (empty : Bool) × (now ≡ phase.Redoing to_end empty)

-- a leg in which lines may be done again is open and unarmed, or some were done already
pub redo-or-open : (now : Phase) → may_redo now ≡ true → ((is_open now ≡ true) × (counts_in now ≡ Unarmed)) ⊎ IsRedoing now
redo-or-open phase.Resting may = absurd (false≢true may)
redo-or-open (phase.Open to_end Unarmed) may = inl (refl, refl)
redo-or-open (phase.Open to_end Armed) may = absurd (false≢true may)
redo-or-open (phase.Open to_end Disarmed) may = absurd (false≢true may)
redo-or-open (phase.Lent to_end) may = absurd (false≢true may)
redo-or-open (phase.Unsettled to_end) may = absurd (false≢true may)
redo-or-open (phase.Redoing to_end empty) may = inr (to_end, empty, refl)
redo-or-open phase.Over may = absurd (false≢true may)
redo-or-open phase.Spent may = absurd (false≢true may)

pub begins-open : (now : Phase) → may_redo now ≡ true → (IsRedoing now → ⊥) → (is_open now ≡ true) × (counts_in now ≡ Unarmed)
begins-open now may not = elim (redo-or-open now may) [ inl begun ↦ begun | inr redoing ↦ absurd (not redoing) ]

-- the state of the leg is that of its parts
pub state-of-leg : (e : HomeState) → may_redo e.phase ≡ true → state_of e ≡ leg_state e (runs_to_end e.phase) e.parts
unfolding state_of
state-of-leg e may = by e.phase refl may
  where
    by : (now : Phase) → e.phase ≡ now → may_redo now ≡ true
        → state_at now e ≡ leg_state e (runs_to_end now) e.parts
    by phase.Resting is may = absurd (false≢true may)
    by (phase.Open to_end counts) is may = refl
    by (phase.Lent to_end) is may = absurd (false≢true may)
    by (phase.Unsettled to_end) is may = absurd (false≢true may)
    by (phase.Redoing to_end empty) is may = refl
    by phase.Over is may = absurd (false≢true may)
    by phase.Spent is may = absurd (false≢true may)

-- ---- what they keep

redoing-as : (to_end empty : Bool) (e : HomeState) (live : LiveState) (now : Phase) (parts : List Part) (turned : List ℕ) → AreRedoing to_end empty e live
    → AreRedoing to_end empty (record e { phase = now; parts = parts; turned = turned }) live
redoing-as to_end empty e live now parts turned re = record {
  away = record { more = re.away.more; in_force = re.away.in_force };
  positions = re.positions;
  stand = re.stand;
  worked = re.worked;
  few = re.few;
  seats = re.seats;
  fresh = re.fresh;
  empty_handed = re.empty_handed;
  full_handed = re.full_handed;
  none = re.none;
  targets = re.targets;
}

-- a home of it
pub home-redoing : (e : HomeState) (live : LiveState) (to_end empty : Bool) (flow : List Operator) (turned : List ℕ) → flow ≡ e.flow → e.most ≤ 2 ^ 40 → AreHeaded e.flow e.files → IsLegal (query_of e) e.log
    → AreRedoing to_end empty e live → IsHome (record e { flow = flow; phase = phase.Redoing to_end empty; parts = parts_from 0 live.back; turned = turned }) live
home-redoing e live to_end empty flow turned same few headed legal re =
    subst (λ (f : List Operator). IsHome (record e { flow = f; phase = phase.Redoing to_end empty; parts = parts_from 0 live.back; turned = turned }) live) (sym same)
    (record { few = few; headed = headed; legal = legal; stands = redoing-as to_end empty e live (phase.Redoing to_end empty) (parts_from 0 live.back) turned re })

-- what a home keeps in that phase
pub redoing-of : (e : HomeState) (live : LiveState) (to_end empty : Bool) → IsHome e live → e.phase ≡ phase.Redoing to_end empty → AreRedoing to_end empty e live
redoing-of e live to_end empty home is = subst (λ now. StandsIn now e live) is home.stands

pub parts-redoing : (now : Phase) (live : LiveState) (to_end empty : Bool) → now ≡ phase.Redoing to_end empty → open_parts now live ≡ parts_from 0 live.back
parts-redoing now live to_end empty is = ap (λ p. open_parts p live) is

-- the workers of an open leg begin
pub home-begins : (e : HomeState) (live : LiveState) (now : Phase) → IsHome (record e { phase = now }) live → is_open now ≡ true → counts_in now ≡ Unarmed
    → (after : DataflowState) (back : List WorkerState) → back ≡ live.dataflow.workers → AreRedoing (runs_to_end now) true e (record live { dataflow = after; back = back })
home-begins e live now home within unarmed after back same =
    subst (λ (workers : List WorkerState). AreRedoing (runs_to_end now) true e (record live { dataflow = after; back = workers })) (sym same)
    (begins-redoing e live (runs_to_end now) (leg-unarmed e live now home within unarmed) after)
