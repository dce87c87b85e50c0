-- The workers of a home that do a leg again: they begin, and have done a part.
use Rattle.std.proofs.Common.{◌≡◌, ◌≢◌, refl, sym, ap, subst, ◌∙◌, ℕ, ◌+◌, ◌<◌, ◌≤◌, ◌^◌, ◌&&◌, ◌==◌, List, [], ◌∷◌, ◌++◌, length, Bool, true, false, Option, None, Some, is_some, inl, inr, arith, append-nil, zero-add}
use Rattle.std.specs.Prelude.{IfSome, option_and_then}
use Rattle.std.specs.List.{flat_map}
use Rattle.std.proofs.lemmas.Bool.{and_parts, cases_lt, eq-eqb, eqb-true, false≢true, lt-ltb}
use Rattle.std.proofs.lemmas.Bool.Decides.{eqb_tells}
use Rattle.std.proofs.Math.ListN.{get_or-eq_default}
use Rattle.amber_rows.specs.Topology.{crew_of, op_of}
use Rattle.amber_rows.specs.declared.flow.Operator.{Operator}
use Rattle.amber_lines.specs.Lines.{Progress, Within, judge, judge_all, when}
use Rattle.amber_lines.proofs.FromLines.{GoesOn, OpenAt, parts-open}
use Rattle.amber_lines.proofs.Parts.{AreParts-front, AreParts-last}
use Rattle.amber_log.specs.Grammar.{AreParts}
use Rattle.amber_log.specs.LogText.{part_lines}
use Rattle.amber_log.specs.ReadLines.{part_of}
use Rattle.amber_log.specs.declared.entry.Entry.{Entry}
use Rattle.amber_log.specs.declared.leg.Part.{Part}
use Rattle.amber_log.specs.declared.line.Line.{Line}
use Rattle.amber_log.specs.declared.line.Line.TheVariants as line
use Rattle.amber_meaning.specs.Legal.{IsLegal, IsOpen, IsWorked, Query, leg_start}
use Rattle.amber_meaning.specs.Position.{Position}
use Rattle.amber_meaning.specs.Replay.{after_leg}
use Rattle.amber_meaning.specs.State.{State, steps_in}
use Rattle.amber_meaning.proofs.OneState.{legal_logs_have_one_state, legs_have_one_state}
use Rattle.amber_meaning.proofs.Senders.{flows_send_forward}
use Rattle.amber_worker.specs.WorkerState.{WorkerState}
use Rattle.amber_dataflow.specs.AtWork.{no_worker_state, state_reached, steps_by, worker_state_at}
use Rattle.amber_dataflow.specs.Dataflow.{DataflowState, leg_parts, rows_emitted, seat_of, step_count}
use Rattle.amber_dataflow.specs.Parts.{parts_from}
use Rattle.amber_dataflow.specs.Redoing.{AreRedoneAt, ComesNext, MakesPart, PartLeadsTo, PartOf, Stance, StandBeforePart, WritesAlone, lines_behind, stand_later, state_in}
use Rattle.amber_dataflow.proofs.RedoneLegs.{alone-journal, none-behind, parts-grow, redone-from}
use Rattle.amber_dataflow.proofs.RedoneParts.{redone-steps}
use Rattle.amber_dataflow.proofs.Standing.{stand-there, stand-worked}
use Rattle.amber_boards.specs.Boards.{IsBelow, target_at}
use Rattle.amber_boards.specs.declared.target.Target.{Target}
use Rattle.amber_home.specs.Asked.{Asked}
use Rattle.amber_home.specs.HomeState.{HomeState, counts_in, is_open, leg_state, query_of, rest_state, runs_to_end, state_of}
use Rattle.amber_home.specs.Kept.{AreRedoing, IsHome, LiveState}
use Rattle.amber_home.specs.Leg.{count_at, counts_asked, is_count_asked}
use Rattle.amber_home.specs.Redoing.{entry_lines}
use Rattle.amber_home.specs.declared.phase.Counts.TheVariants.{Unarmed}
use Rattle.amber_home.specs.declared.phase.Phase.{Phase}
use Rattle.amber_home.specs.declared.phase.Phase.TheVariants as phase
use Rattle.amber_home.proofs.Homes.{IsLeg, leg-unarmed}
use Rattle.amber_home.proofs.Legs.{in-force-counted}
use Rattle.amber_home.proofs.Reached.{hand-at}

-- ---- they begin

few-target : (count : Option Target) (rows : ℕ) → IsBelow count rows → IfSome count (λ one. one.target ≤ 2 ^ 40)
few-target None rows below = tt
few-target (Some count) rows below = below.0.few

no-seat : (crew : List WorkerState) (k : ℕ) → length crew ≤ k → (worker_state_at crew k).seat ≡ None
no-seat crew k past = ap (λ (w : WorkerState). w.seat) (get_or-eq_default crew no_worker_state past)

module _ (e : HomeState) (live : LiveState) (to_end : Bool) (leg : IsLeg e live to_end Unarmed) (after : DataflowState) where
  abbrev start : State
  start = leg_start to_end (rest_state e)

  empty-begun : (worker : ℕ) → worker < crew_of e.flow → (leg.leg.positions worker).restraint.hand ≡ 0
  empty-begun worker inside =
      sym (hand-at (query_of e) start live.dataflow leg.leg.positions leg.leg.at worker inside)
      ∙ leg.stand.1.empty worker (subst (λ (f : List Operator). worker < crew_of f) (sym leg.leg.at.flow) inside)

  pub begins-redoing : AreRedoing to_end true e (record live { dataflow = after; back = live.dataflow.workers })
  unfolding leg_parts step_count seat_of
  begins-redoing = record {
    away = record { more = leg.leg.more; in_force = leg.leg.in_force };
    positions = leg.leg.positions;
    stand = redone-from (query_of e) start live.dataflow leg.leg.positions leg.leg.at;
    worked = stand-worked (query_of e) start live.dataflow leg.leg.positions leg.leg.at;
    few = leg.leg.few;
    seats = λ worker. elim (cases_lt worker (crew_of live.dataflow.flow)) [
      | inl inside ↦ leg.stand.1.unarmed worker inside
      | inr past ↦ no-seat live.dataflow.workers worker (let all = stand-there (query_of e) start live.dataflow leg.leg.positions leg.leg.at in omega arith)
    ];
    fresh = λ worker inside none. empty-begun worker inside;
    empty_handed = λ _. empty-begun;
    full_handed = λ is. absurd (false≢true (sym is));
    none = leg.stand.1.none;
    targets = λ op. few-target (target_at (counts_asked live.arms) op) (rows_emitted live.dataflow op) (leg.stand.0 op);
  }

-- ---- where they stand

module _ (e : HomeState) (live : LiveState) (to_end empty : Bool) (re : AreRedoing to_end empty e live) (legal : IsLegal (query_of e) e.log) where
  abbrev pub stance : Stance
  stance = record { query = query_of e; start = leg_start to_end (rest_state e); positions = re.positions }

  -- the state of the leg is that which they reach
  pub state-redone : leg_state e to_end (parts_from 0 live.back) ≡ state_in stance
  state-redone = legs_have_one_state (query_of e) (leg_start to_end (rest_state e)) (state_in stance) (parts_from 0 live.back) (flows_send_forward e.flow re.stand.flow) re.worked

  first : rest_state e ≡ legal.after
  first = legal_logs_have_one_state (query_of e) e.log (flows_send_forward e.flow re.stand.flow) legal

  module _ (worker : ℕ) (entries : List Entry) (inside : worker < crew_of e.flow) (text : AreParts 0 (parts_from 0 live.back ++ part_of worker entries ∷ [])) where
    abbrev pub part : PartOf
    part = record { worker = worker; entries = entries; counted = is_some (count_at live.arms (op_of e.flow worker)); most = e.most }

    pub within-back : worker < length live.back
    within-back = rw re.stand.all inside

    -- it has done nothing yet
    pub rests : (worker_state_at live.back worker).journal ≡ []
    rests = none-behind 0 0 live.back worker entries text worker (omega arith)

    pub stands-before : StandBeforePart stance part live.back
    stands-before = record {
      stand = re.stand;
      counted = in-force-counted e.flow (leg_start to_end (rest_state e)) live.arms re.away.in_force (op_of e.flow worker);
      empty = re.fresh worker inside rests;
      most = refl;
    }

    pub comes-next : ComesNext part live.back
    comes-next = (stance, stands-before)

    module _ (new : List WorkerState) (hand : ℕ) (done : MakesPart part live.back new hand) where
      abbrev got : (later : ℕ → Position) × AreRedoneAt (stand_later stance later) new × PartLeadsTo stance part later × ((later worker).restraint.hand ≡ hand)
      got = done.makes stance stands-before

      abbrev later : Stance
      later = stand_later stance got.0

      is-part : 0 < length entries
      is-part = (AreParts-last 0 (parts_from 0 live.back) (part_of worker entries) text).some

      -- its part stands behind the others
      pub parts-more : parts_from 0 new ≡ parts_from 0 live.back ++ part_of worker entries ∷ []
      parts-more =
          parts-grow 0 live.back new worker entries done.alone.long within-back is-part
          (λ k behind. none-behind 0 0 live.back worker entries text k (omega arith))
          (done.alone.writes ∙ ap (λ l. l ++ entries) rests) (alone-journal worker entries live.back new done.alone)
          ∙ ap (λ n. parts_from 0 live.back ++ part_of n entries ∷ []) (zero-add worker)

      is-open-now : IsOpen (query_of e) e.log to_end (parts_from 0 live.back)
      is-open-now = record {
        legal = legal;
        more = re.away.more;
        text = AreParts-front 0 (parts_from 0 live.back) (part_of worker entries ∷ []) text;
        now = state_in stance;
        worked = subst (λ (s : State). IsWorked (query_of e) (leg_start to_end s) (parts_from 0 live.back) (state_in stance)) first re.worked;
        few = let few = re.few in let same = redone-steps stance live.back re.stand in omega arith;
      }

      lines-judged : judge_all (query_of e) (Within to_end (state_in stance) worker) (flat_map part_lines (part_of worker entries ∷ []) ++ []) ≡ Some (Within to_end (state_in later) worker)
      unfolding judge_all
      lines-judged =
          ap (judge_all (query_of e) (Within to_end (state_in stance) worker))
          (append-nil (flat_map part_lines (part_of worker entries ∷ [])) ∙ append-nil (part_lines (part_of worker entries)))
          ∙ ap (λ b. option_and_then (λ next. judge_all (query_of e) next (lines_behind entries)) (when b (Within to_end (state_in stance) worker))) (lt-ltb worker (crew_of e.flow) inside)
          ∙ got.2.good to_end

      goes : GoesOn (query_of e) e.log to_end (parts_from 0 live.back ++ part_of worker entries ∷ []) [] (Within to_end (state_in later) worker)
      unfolding is-open-now
      goes = parts-open (query_of e) e.log to_end (parts_from 0 live.back) (part_of worker entries ∷ []) [] (Within to_end (state_in later) worker) (state_in stance) worker
          re.worked.known text (is-open-now, refl) lines-judged

      same-progress : (one other : State) (a b : ℕ) → Some (Within to_end one a) ≡ Some (Within to_end other b) → one ≡ other
      same-progress one other a b is = cc

      same-state : goes.underway.0.now ≡ state_in later
      unfolding judge_all
      same-state = goes.underway.1 ∙ same-progress goes.now (state_in later) goes.worker worker goes.rest

      worked-more : IsWorked (query_of e) (leg_start to_end (rest_state e)) (parts_from 0 new) (state_in later)
      worked-more =
          subst (λ parts. IsWorked (query_of e) (leg_start to_end (rest_state e)) parts (state_in later)) (sym parts-more)
          (subst (λ (s : State). IsWorked (query_of e) (leg_start to_end s) (parts_from 0 live.back ++ part_of worker entries ∷ []) (state_in later))
          (sym (legal_logs_have_one_state (query_of e) e.log (flows_send_forward e.flow re.stand.flow) goes.underway.0.legal))
          (subst (IsWorked (query_of e) (leg_start to_end goes.underway.0.legal.after) (parts_from 0 live.back ++ part_of worker entries ∷ [])) same-state goes.underway.0.worked))

      few-more : steps_by new ≤ e.most
      few-more =
          let few = goes.underway.0.few in
          let same = redone-steps later new got.1 in
          let now = ap steps_in same-state in
          omega arith

      pub redoes-more : AreRedoing to_end (empty && (hand == 0)) e (record live { back = new })
      redoes-more = record {
        away = re.away;
        positions = got.0;
        stand = got.1;
        worked = worked-more;
        few = few-more;
        seats = λ k. elim (eqb_tells k worker) [
          | inl same ↦ subst (λ n. (worker_state_at new n).seat ≡ None) (sym same.1) (done.alone.seat ∙ re.seats worker)
          | inr other ↦ ap (λ (w : WorkerState). w.seat) (done.alone.others k other.1) ∙ re.seats k
        ];
        fresh = λ k there none. elim (eqb_tells k worker) [
          | inl same ↦ absurd (written (ap (λ n. (worker_state_at new n).journal) (sym same.1) ∙ none))
          | inr other ↦ ap (λ (p : Position). p.restraint.hand) (got.2.others k other.1) ∙ re.fresh k there (sym (alone-journal worker entries live.back new done.alone k other.1) ∙ none)
        ];
        empty_handed = λ is k there.
            let both = and_parts empty (hand == 0) is in
            elim (eqb_tells k worker) [
              | inl same ↦ ap (λ n. (got.0 n).restraint.hand) same.1 ∙ got.3 ∙ eqb-true hand 0 both.1
              | inr other ↦ ap (λ (p : Position). p.restraint.hand) (got.2.others k other.1) ∙ re.empty_handed both.0 k there
            ];
        full_handed = full empty refl;
        none = re.none;
        targets = re.targets;
      }
        where
          written : (worker_state_at new worker).journal ≡ [] → ⊥
          written none =
              let long = ap length (sym (done.alone.writes ∙ ap (λ l. l ++ entries) rests) ∙ none) in
              let some = is-part in
              omega arith

          full : (b : Bool) → empty ≡ b → (b && (hand == 0)) ≡ false → (k : ℕ) × (k < crew_of e.flow) × ((got.0 k).restraint.hand ≢ 0)
          full true is not =
              (worker, inside, λ none. absurd (false≢true (sym not ∙ eq-eqb hand 0 (sym got.3 ∙ none))))
          full false is not =
              let was = re.full_handed is in
              let apart : was.0 ≢ worker = λ same. was.2 (re.fresh was.0 was.1 (ap (λ n. (worker_state_at live.back n).journal) same ∙ rests)) in
              (was.0, was.1, λ none. was.2 (sym (ap (λ (p : Position). p.restraint.hand) (got.2.others was.0 apart)) ∙ none))

      -- as the lines of the part say
      pub good-more : judge_all (query_of e) (Within to_end (leg_state e to_end (parts_from 0 live.back)) worker) (entry_lines entries)
          ≡ Some (Within to_end (leg_state e to_end (parts_from 0 new)) worker)
      good-more =
          ap (λ (s : State). judge_all (query_of e) (Within to_end s worker) (entry_lines entries)) state-redone
          ∙ got.2.good to_end
          ∙ ap (λ (s : State). Some (Within to_end s worker))
          (sym (legs_have_one_state (query_of e) (leg_start to_end (rest_state e)) (state_in later) (parts_from 0 new) (flows_send_forward e.flow re.stand.flow) worked-more))
