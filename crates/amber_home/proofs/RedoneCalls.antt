-- The call that does a part again, as the home's fields are seen.
use Rattle.std.proofs.Common.{◌≡◌, ◌≢◌, refl, sym, ap, subst, ◌∙◌, ℕ, ◌<◌, ◌≤◌, ◌^◌, ◌&&◌, ◌==◌, List, [], ◌∷◌, ◌++◌, length, Bool, true, false, None, Some, is_some, inl, inr, arith}
use Rattle.std.proofs.lemmas.Bool.Decides.{eqb_tells}
use Rattle.amber_rows.specs.Topology.{crew_of, op_of}
use Rattle.amber_rows.specs.declared.flow.Operator.{Operator}
use Rattle.amber_lines.specs.Lines.{Within, bad_line_from, judge_all, judge_close}
use Rattle.amber_log.specs.declared.leg.Close.{Close}
use Rattle.amber_lines.proofs.Parts.{AreParts-last}
use Rattle.amber_log.specs.Grammar.{AreEntries, AreParts}
use Rattle.amber_log.specs.ReadLines.{part_of}
use Rattle.amber_log.specs.declared.entry.Entry.{Entry}
use Rattle.amber_meaning.specs.State.{State}
use Rattle.amber_worker.specs.WorkerState.{WorkerState}
use Rattle.amber_dataflow.specs.AtWork.{steps_by, turned_by, worker_state_at}
use Rattle.amber_dataflow.specs.Parts.{parts_from}
use Rattle.amber_dataflow.specs.Redoing.{ComesNext, FailsPart, MakesPart, PartOf, WritesAlone, lines_behind}
use Rattle.amber_home.specs.HomeState.{HomeState, leg_state, query_of, runs_to_end, spent_at, state_of}
use Rattle.amber_home.specs.Kept.{AreRedoing, IsHome}
use Rattle.amber_home.specs.Leg.{count_at}
use Rattle.amber_home.specs.Parts.{open_turned}
use Rattle.amber_home.specs.Redoing.{FailsAt, HasRedonePart, entry_lines, may_redo}
use Rattle.amber_home.specs.declared.home.Home.TheInside.{Inside}
use Rattle.amber_home.specs.declared.phase.Phase.TheVariants as phase
use Rattle.amber_home.proofs.Driven.{turned-same}
use Rattle.amber_home.proofs.Inside.{kept, seen}
use Rattle.amber_home.proofs.Redone.{comes-next, good-more, parts-more, redoes-more, rests, stance, state-redone, stands-before, within-back}
use Rattle.amber_home.proofs.RedoneHomes.{home-redoing, parts-redoing, redoing-of, state-of-leg}

-- who wrote alone leaves the turns of all
turned-alone : (worker : ℕ) (entries : List Entry) (old new : List WorkerState) → WritesAlone worker entries old new → turned_by new ≡ turned_by old
turned-alone worker entries old new alone =
    turned-same old new alone.long
    (λ k. elim (eqb_tells k worker) [
      | inl same ↦ ap (λ n. (worker_state_at new n).turned) same.1 ∙ alone.undriven ∙ ap (λ n. (worker_state_at old n).turned) (sym same.1)
      | inr other ↦ ap (λ (w : WorkerState). w.turned) (alone.others k other.1)
    ])

module _ (i : Inside) (home : IsHome (seen i) (kept i)) (old : HomeState) (empty : Bool) (brought : seen i ≡ record old { phase = phase.Redoing (runs_to_end old.phase) empty })
    (may : may_redo old.phase ≡ true) where
  abbrev to_end : Bool
  to_end = runs_to_end old.phase

  is-phase : i.phase ≡ phase.Redoing to_end empty
  is-phase = ap (λ (h : HomeState). h.phase) brought

  pub re : AreRedoing to_end empty (seen i) (kept i)
  re = redoing-of (seen i) (kept i) to_end empty home is-phase

  pub parts-are : old.parts ≡ parts_from 0 i.back.items
  parts-are = sym (ap (λ (h : HomeState). h.parts) brought) ∙ parts-redoing i.phase (kept i) to_end empty is-phase

  pub turned-are : old.turned ≡ turned_by i.back.items
  turned-are = sym (ap (λ (h : HomeState). h.turned) brought) ∙ ap (λ now. open_turned now (kept i)) is-phase

  pub few-back : steps_by i.back.items ≤ i.most
  few-back = re.few

  pub few-most : i.most ≤ 2 ^ 40
  few-most = home.few

  pub unarmed-back : (worker : ℕ) → (worker_state_at i.back.items worker).seat ≡ None
  unarmed-back = re.seats

  state-before : state_of old ≡ leg_state old to_end (parts_from 0 i.back.items)
  state-before = state-of-leg old may ∙ ap (leg_state old to_end) parts-are

  pub spent-seen : spent_at (seen i) ≡ spent_at old
  spent-seen = ap spent_at brought

  pub to_end-seen : runs_to_end i.phase ≡ to_end
  to_end-seen = ap (λ (h : HomeState). runs_to_end h.phase) brought

  -- the line that closes the leg, as the fields are seen
  pub judge-before : (closed : Close) → judge_close (query_of old) to_end (state_of old) closed
      ≡ judge_close (query_of (seen i)) to_end (leg_state (seen i) to_end (parts_from 0 i.back.items)) closed
  judge-before closed =
      ap (λ (s : State). judge_close (query_of old) to_end s closed) state-before
      ∙ sym (ap (λ (h : HomeState). judge_close (query_of h) to_end (leg_state h to_end (parts_from 0 i.back.items)) closed) brought)

  module _ (worker : ℕ) (entries : List Entry) (there : worker < crew_of old.flow) (next : AreParts 0 (old.parts ++ part_of worker entries ∷ [])) where
    text : AreParts 0 (parts_from 0 i.back.items ++ part_of worker entries ∷ [])
    text = subst (λ parts. AreParts 0 (parts ++ part_of worker entries ∷ [])) parts-are next

    inside : worker < crew_of i.dataflow.flow
    inside = subst (λ (f : List Operator). worker < crew_of f) (sym (ap (λ (h : HomeState). h.flow) brought)) there

    pub is-text : AreEntries false entries
    is-text = (AreParts-last 0 old.parts (part_of worker entries) next).entries

    pub worker-back : worker < length i.back.items
    worker-back = within-back (seen i) (kept i) to_end empty re home.legal worker entries inside text

    pub rests-back : (worker_state_at i.back.items worker).journal ≡ []
    rests-back = rests (seen i) (kept i) to_end empty re home.legal worker entries inside text

    abbrev pub part_here : PartOf
    part_here = record { worker = worker; entries = entries; counted = is_some (count_at i.arms (op_of i.dataflow.flow worker)); most = i.most }

    pub next-back : ComesNext part_here i.back.items
    next-back = comes-next (seen i) (kept i) to_end empty re home.legal worker entries inside text

    -- ---- it fails

    pub fails-at : (place : ℕ) (new : HomeState) → new ≡ spent_at old → FailsPart part_here i.back.items place → FailsAt worker entries place old new
    unfolding FailsPart
    fails-at place new spent fails = record {
      spent = spent;
      bad =
          ap (λ (s : State). bad_line_from (query_of old) (Within to_end s worker) 0 (entry_lines entries)) state-before
          ∙ subst (λ (h : HomeState). bad_line_from (query_of h) (Within to_end (leg_state h to_end (parts_from 0 i.back.items)) worker) 0 (entry_lines entries) ≡ Some place) brought
          (ap (λ (s : State). bad_line_from (query_of (seen i)) (Within to_end s worker) 0 (entry_lines entries)) (state-redone (seen i) (kept i) to_end empty re home.legal)
          ∙ fails (stance (seen i) (kept i) to_end empty re home.legal) to_end (stands-before (seen i) (kept i) to_end empty re home.legal worker entries inside text));
    }

    -- ---- it was done

    module _ (new : List WorkerState) (hand : ℕ) (done : MakesPart part_here i.back.items new hand) where
      pub home-more : IsHome (record (seen i) { phase = phase.Redoing to_end (empty && (hand == 0)); parts = parts_from 0 new; turned = turned_by new }) (record (kept i) { back = new })
      home-more =
          home-redoing (seen i) (record (kept i) { back = new }) to_end (empty && (hand == 0)) i.dataflow.flow (turned_by new) refl home.few home.headed home.legal
          (redoes-more (seen i) (kept i) to_end empty re home.legal worker entries inside text new hand done)

      more-parts : parts_from 0 new ≡ old.parts ++ part_of worker entries ∷ []
      more-parts =
          parts-more (seen i) (kept i) to_end empty re home.legal worker entries inside text new hand done
          ∙ ap (λ parts. parts ++ part_of worker entries ∷ []) (sym parts-are)

      pub redone-part : (after : HomeState) → after ≡ record (seen i) { phase = phase.Redoing to_end (empty && (hand == 0)); parts = parts_from 0 new; turned = turned_by new }
          → HasRedonePart worker entries old after
      redone-part after is = subst (HasRedonePart worker entries old) (sym whole) (record { only = refl; may = refl; end = refl; good = good })
        where
          whole : after ≡ record old { phase = phase.Redoing to_end (empty && (hand == 0)); parts = old.parts ++ part_of worker entries ∷ [] }
          whole =
              is ∙ ap (λ (h : HomeState). record h { phase = phase.Redoing to_end (empty && (hand == 0)); parts = parts_from 0 new; turned = turned_by new }) brought
              ∙ (λ k. record old {
                phase = phase.Redoing to_end (empty && (hand == 0));
                parts = more-parts k;
                turned = (turned-alone worker entries i.back.items new done.alone ∙ sym turned-are) k;
              })

          state-after-it : state_of (record old { phase = phase.Redoing to_end (empty && (hand == 0)); parts = old.parts ++ part_of worker entries ∷ [] })
              ≡ leg_state old to_end (parts_from 0 new)
          state-after-it =
              state-of-leg (record old { phase = phase.Redoing to_end (empty && (hand == 0)); parts = old.parts ++ part_of worker entries ∷ [] }) refl
              ∙ ap (leg_state old to_end) (sym more-parts)

          good : judge_all (query_of old) (Within to_end (state_of old) worker) (entry_lines entries)
              ≡ Some (Within to_end (state_of (record old { phase = phase.Redoing to_end (empty && (hand == 0)); parts = old.parts ++ part_of worker entries ∷ [] })) worker)
          good =
              ap (λ (s : State). judge_all (query_of old) (Within to_end s worker) (entry_lines entries)) state-before
              ∙ subst (λ (h : HomeState). judge_all (query_of h) (Within to_end (leg_state h to_end (parts_from 0 i.back.items)) worker) (entry_lines entries)
              ≡ Some (Within to_end (leg_state h to_end (parts_from 0 new)) worker)) brought
              (good-more (seen i) (kept i) to_end empty re home.legal worker entries inside text new hand done)
              ∙ ap (λ (s : State). Some (Within to_end s worker)) (sym state-after-it)
