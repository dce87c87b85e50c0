-- What a home keeps from call to call.
use Rattle.std.proofs.Common.{◌≡◌, refl, sym, ap, subst, ◌∙◌, ℕ, ◌≤◌, ◌^◌, List, [], length, map, Bool, true, false, Option, None, Some, if◌then◌else◌, arith}
use Rattle.std.proofs.lemmas.Bool.{false≢true}
use Rattle.amber_rows.specs.declared.flow.Operator.{Operator}
use Rattle.amber_log.specs.Grammar.{ends_over}
use Rattle.amber_log.specs.declared.leg.Part.{Part}
use Rattle.amber_meaning.specs.Legal.{IsLegal, leg_start}
use Rattle.amber_dataflow.specs.Dataflow.{AreAllThere, DataflowState, leg_begun, leg_parts, rows_emitted, step_count}
use Rattle.amber_dataflow.proofs.Standing.{begun-parts, stand-there}
use Rattle.amber_boards.specs.Boards.{AreWithinTargets, CounterState, IsBelow, IsWithinTarget, target_at}
use Rattle.amber_boards.specs.declared.target.Target.{Target}
use Rattle.amber_home.specs.Asked.{Asked, without_asked}
use Rattle.amber_home.specs.Going.{GoOn}
use Rattle.amber_home.specs.Leg.{counts_asked}
use Rattle.amber_home.specs.HomeState.{HomeState, counts_in, has_crew, is_open, query_of, rest_state, runs_to_end, state_of}
use Rattle.amber_home.specs.Kept.{AreHeaded, CountsStand, HaveNoUnits, IsAtRest, IsHome, IsWithinLeg, LiveState, StandsIn}
use Rattle.amber_home.specs.Parts.{open_parts}
use Rattle.amber_home.specs.declared.phase.Counts.{Counts}
use Rattle.amber_home.specs.declared.phase.Counts.TheVariants.{Armed, Disarmed, Unarmed}
use Rattle.amber_home.specs.declared.phase.Phase.{Phase}
use Rattle.amber_home.specs.declared.phase.Phase.TheVariants as phase
use Rattle.amber_home.proofs.Begun.{state-begun}
use Rattle.amber_home.proofs.Legs.{within-on}
use Rattle.amber_home.proofs.Opened.{opened, opened-below, opened-units}

pub at-rest : (e : HomeState) (live : LiveState) → IsHome e live → e.phase ≡ phase.Resting → IsAtRest e live
at-rest e live home resting = subst (λ now. StandsIn now e live) resting home.stands

-- a phase in which a leg is open is one in which the workers are there
pub open-there : (now : Phase) → is_open now ≡ true → has_crew now ≡ true
open-there phase.Resting within = refl
open-there (phase.Open to_end counts) within = refl
open-there phase.Over within = within
open-there (phase.Lent to_end) within = within
open-there (phase.Unsettled to_end) within = within
open-there (phase.Redoing to_end empty) within = within
open-there phase.Spent within = within

-- and it is this one
pub open-is : (now : Phase) → is_open now ≡ true → now ≡ phase.Open (runs_to_end now) (counts_in now)
open-is phase.Resting within = absurd (false≢true within)
open-is (phase.Open to_end counts) within = refl
open-is phase.Over within = absurd (false≢true within)
open-is (phase.Lent to_end) within = absurd (false≢true within)
open-is (phase.Unsettled to_end) within = absurd (false≢true within)
open-is (phase.Redoing to_end empty) within = absurd (false≢true within)
open-is phase.Spent within = absurd (false≢true within)

-- the home in it, with what its workers have done
pub in-open : (e : HomeState) (live : LiveState) (now : Phase) → is_open now ≡ true
    → record e { phase = now; parts = open_parts now live } ≡ record e { phase = phase.Open (runs_to_end now) (counts_in now); parts = leg_parts live.dataflow }
in-open e live phase.Resting within = absurd (false≢true within)
in-open e live (phase.Open to_end counts) within = refl
in-open e live phase.Over within = absurd (false≢true within)
in-open e live (phase.Lent to_end) within = absurd (false≢true within)
in-open e live (phase.Unsettled to_end) within = absurd (false≢true within)
in-open e live (phase.Redoing to_end empty) within = absurd (false≢true within)
in-open e live phase.Spent within = absurd (false≢true within)

-- ---- a leg is opened

module _ (e : HomeState) (live : LiveState) (to_end : Bool) (home : IsHome e live) (resting : e.phase ≡ phase.Resting) (more : ends_over false e.log.items ≡ false)
    (after : DataflowState) (after-is : after ≡ leg_begun to_end live.dataflow) (now : List Asked) (now-is : now ≡ (if to_end then map without_asked live.arms else live.arms))
    (same : live.dataflow.flow ≡ e.flow) where
  -- what it keeps then
  abbrev begun : DataflowState → LiveState
  begun d = record live { dataflow = d; arms = now }

  pub home-opened : IsHome (record e { flow = after.flow; phase = phase.Open to_end Unarmed; parts = open_parts (phase.Open to_end Unarmed) (begun after); alone = 0 }) (begun after)
  home-opened =
      subst (λ (d : DataflowState). IsHome (record e { flow = d.flow; phase = phase.Open to_end Unarmed; parts = leg_parts d; alone = 0 }) (begun d)) (sym after-is)
      (subst (λ (flow : List Operator). IsHome (record e { flow = flow; phase = phase.Open to_end Unarmed; parts = leg_parts (leg_begun to_end live.dataflow); alone = 0 }) (begun (leg_begun to_end live.dataflow)))
      (sym same)
      (let rest = at-rest e live home resting in
      record {
        few = home.few;
        headed = home.headed;
        legal = home.legal;
        stands = (
          opened e live rest home.legal to_end more now now-is (leg_parts (leg_begun to_end live.dataflow)),
          (opened-below live to_end rest.below now now-is, opened-units live to_end rest.units),
        );
      }))

  pub state-opened : record e { flow = after.flow; phase = phase.Open to_end Unarmed; parts = open_parts (phase.Open to_end Unarmed) (begun after); alone = 0 }
      ≡ record e { phase = phase.Open to_end Unarmed; parts = []; alone = 0 }
  state-opened =
      ap (λ (d : DataflowState). record e { flow = d.flow; phase = phase.Open to_end Unarmed; parts = leg_parts d; alone = 0 }) after-is
      ∙ (λ i. record e { flow = same i; phase = phase.Open to_end Unarmed; parts = begun-parts to_end live.dataflow i; alone = 0 })

  -- nobody has moved
  pub begins-opened : state_of (record e { flow = after.flow; phase = phase.Open to_end Unarmed; parts = open_parts (phase.Open to_end Unarmed) (begun after); alone = 0 })
      ≡ leg_start to_end (rest_state e)
  unfolding state_of
  begins-opened =
      ap state_of state-opened
      ∙ state-begun to_end (record e { phase = phase.Open to_end Unarmed; parts = []; alone = 0 }) (leg_begun to_end live.dataflow) now
      (opened e live (at-rest e live home resting) home.legal to_end more now now-is []) home.legal (begun-parts to_end live.dataflow)

-- ---- where the workers are there

module _ (e : HomeState) (live : LiveState) where
  pub home-there : (now : Phase) → IsHome (record e { phase = now }) live → has_crew now ≡ true → AreAllThere live.dataflow
  home-there phase.Over home there = absurd (false≢true there)
  home-there (phase.Lent to_end) home there = absurd (false≢true there)
  home-there (phase.Unsettled to_end) home there = absurd (false≢true there)
  home-there (phase.Redoing to_end empty) home there = absurd (false≢true there)
  home-there phase.Spent home there = absurd (false≢true there)
  home-there phase.Resting home there = stand-there _ _ live.dataflow _ home.stands.at
  home-there (phase.Open to_end counts) home there = stand-there _ _ live.dataflow _ home.stands.0.at

  pub long-open : (now : Phase) → IsHome (record e { phase = now }) live → is_open now ≡ true → length live.arms ≡ length e.flow
  long-open phase.Resting home within = absurd (false≢true within)
  long-open phase.Over home within = absurd (false≢true within)
  long-open (phase.Lent to_end) home within = absurd (false≢true within)
  long-open (phase.Unsettled to_end) home within = absurd (false≢true within)
  long-open (phase.Redoing to_end empty) home within = absurd (false≢true within)
  long-open phase.Spent home within = absurd (false≢true within)
  long-open (phase.Open to_end counts) home within = home.stands.0.in_force.all

-- ---- within a leg

-- what is known of it
pub record IsLeg (e : HomeState) (live : LiveState) (to_end : Bool) (counts : Counts) : Type 0 where
  pub few : e.most ≤ 2 ^ 40
  pub headed : AreHeaded e.flow e.files
  pub legal : IsLegal (query_of e) e.log
  pub leg : IsWithinLeg to_end e live.dataflow live.arms
  pub stand : CountsStand counts live.arms live.boards live.dataflow

-- the same of a home in another phase, with other parts and other steps of its own
within-as : (to_end : Bool) (e : HomeState) (d : DataflowState) (arms : List Asked) (now : Phase) (parts : List Part) (alone : ℕ) → IsWithinLeg to_end e d arms
    → IsWithinLeg to_end (record e { phase = now; parts = parts; alone = alone }) d arms
within-as to_end e d arms now parts alone leg = record { more = leg.more; positions = leg.positions; at = leg.at; in_force = leg.in_force; few = leg.few }

-- of a home in which one is open
pub leg-of : (e : HomeState) (live : LiveState) (now : Phase) → IsHome (record e { phase = now }) live → is_open now ≡ true → IsLeg e live (runs_to_end now) (counts_in now)
leg-of e live phase.Resting home within = absurd (false≢true within)
leg-of e live phase.Over home within = absurd (false≢true within)
leg-of e live (phase.Lent to_end) home within = absurd (false≢true within)
leg-of e live (phase.Unsettled to_end) home within = absurd (false≢true within)
leg-of e live (phase.Redoing to_end empty) home within = absurd (false≢true within)
leg-of e live phase.Spent home within = absurd (false≢true within)
leg-of e live (phase.Open to_end counts) home within =
    let leg = home.stands.0 in
    record {
      few = home.few;
      headed = home.headed;
      legal = home.legal;
      leg = record { more = leg.more; positions = leg.positions; at = leg.at; in_force = leg.in_force; few = leg.few };
      stand = home.stands.1;
    }

-- before counts are armed, and once they are
pub leg-unarmed : (e : HomeState) (live : LiveState) (now : Phase) → IsHome (record e { phase = now }) live → is_open now ≡ true → counts_in now ≡ Unarmed → IsLeg e live (runs_to_end now) Unarmed
leg-unarmed e live now home within unarmed = subst (IsLeg e live (runs_to_end now)) unarmed (leg-of e live now home within)

pub leg-armed : (e : HomeState) (live : LiveState) (now : Phase) → IsHome (record e { phase = now }) live → is_open now ≡ true → counts_in now ≡ Armed → IsLeg e live (runs_to_end now) Armed
leg-armed e live now home within armed = subst (IsLeg e live (runs_to_end now)) armed (leg-of e live now home within)

-- and a home of it, with so many steps of its own
pub home-with : (e : HomeState) (live : LiveState) (to_end : Bool) (counts : Counts) (flow : List Operator) (alone : ℕ) → flow ≡ e.flow → IsLeg e live to_end counts
    → IsHome (record e { flow = flow; phase = phase.Open to_end counts; parts = leg_parts live.dataflow; alone = alone }) live
home-with e live to_end counts flow alone same leg =
    subst (λ (f : List Operator). IsHome (record e { flow = f; phase = phase.Open to_end counts; parts = leg_parts live.dataflow; alone = alone }) live) (sym same)
    (record {
      few = leg.few;
      headed = leg.headed;
      legal = leg.legal;
      stands = (within-as to_end e live.dataflow live.arms (phase.Open to_end counts) (leg_parts live.dataflow) alone leg.leg, leg.stand);
    })

pub home-of : (e : HomeState) (live : LiveState) (to_end : Bool) (counts : Counts) (flow : List Operator) → flow ≡ e.flow → IsLeg e live to_end counts
    → IsHome (record e { flow = flow; phase = phase.Open to_end counts; parts = leg_parts live.dataflow }) live
home-of e live to_end counts flow same leg = home-with e live to_end counts flow e.alone same leg

-- the workers go on, and counts stand so
pub leg-on : (e : HomeState) (live : LiveState) (to_end : Bool) (counts later : Counts) → IsLeg e live to_end counts → (after : DataflowState) (boards : List (Option CounterState))
    → GoOn live.arms live.dataflow after → step_count after ≤ e.most → CountsStand later live.arms boards after
    → IsLeg e (record live { dataflow = after; boards = boards }) to_end later
leg-on e live to_end counts later leg after boards on few stand = record {
  few = leg.few;
  headed = leg.headed;
  legal = leg.legal;
  leg = within-on to_end e live.dataflow after live.arms leg.leg on few;
  stand = stand;
}

-- once boards are closed, or before they are made
pub disarmed : (live : LiveState) (counts : Counts) → (counts ≡ Armed → ⊥) → CountsStand counts live.arms live.boards live.dataflow → AreWithinTargets (counts_asked live.arms) live.dataflow × HaveNoUnits live.boards live.dataflow
disarmed live Unarmed not stand = ((λ op. by (target_at (counts_asked live.arms) op) (rows_emitted live.dataflow op) (stand.0 op)), stand.1)
  where
    by : (count : Option Target) (rows : ℕ) → IsBelow count rows → IsWithinTarget count rows
    by None rows below = tt
    by (Some count) rows below = (below.0, let less = below.1 in omega arith)
disarmed live Armed not stand = absurd (not refl)
disarmed live Disarmed not stand = stand
