-- Closing a leg, as the line that closes it is judged.
use Rattle.std.proofs.Common.{◌≡◌, refl, sym, ap, subst, ◌∙◌, List, [], ◌∷◌, ◌++◌, Bool, true, false, Option, None, Some, append_assoc, append-nil}
use Rattle.std.specs.Prelude.{option_and_then}
use Rattle.std.specs.List.{flat_map}
use Rattle.std.proofs.lemmas.List.Concat.{flat_map-append}
use Rattle.amber_lines.specs.Lines.{Between, Fresh, Progress, Within, judge_all, judge_close, leg_line, open_lines}
use Rattle.amber_lines.proofs.FromLines.{log-legal}
use Rattle.amber_lines.proofs.ToLines.{log-judged, open-judged}
use Rattle.amber_log.specs.Grammar.{AreParts, IsItem, IsLog}
use Rattle.amber_log.specs.LogText.{item_lines, log_lines, part_lines}
use Rattle.amber_log.specs.declared.leg.Close.{Close}
use Rattle.amber_log.specs.declared.leg.Part.{Part}
use Rattle.amber_log.specs.declared.line.Line.{Line}
use Rattle.amber_log.specs.declared.line.Line.TheVariants as line
use Rattle.amber_log.specs.declared.log.Log.{Log}
use Rattle.amber_log.proofs.Pushes.{IsLog-push}
use Rattle.amber_meaning.specs.Laws.{SendersFirst}
use Rattle.amber_meaning.specs.Legal.{ClosesEnd, ClosesRun, IsLegal, IsOpen, IsWorked, Makes, Query, Reaches, leg_start}
use Rattle.amber_meaning.specs.State.{State, start_of}
use Rattle.amber_meaning.proofs.Fronts.{Reaches-parts}
use Rattle.amber_meaning.proofs.OneState.{legal_logs_have_one_state, legs_have_one_state}
use Rattle.amber_home.specs.HomeState.{ClosesIn, item_of_leg, with_item}

item-is : (to_end : Bool) (parts : List Part) (closed : Close) → AreParts 0 parts → IsItem (item_of_leg to_end parts closed)
item-is false parts closed h = h
item-is true parts closed h = h

item-lines : (to_end : Bool) (parts : List Part) (closed : Close) → item_lines (item_of_leg to_end parts closed) ≡ leg_line to_end ∷ (flat_map part_lines parts ++ line.Close closed ∷ [])
item-lines false parts closed = refl
item-lines true parts closed = refl

-- the lines of a leg that goes on, and its end
whole : (log : Log) (to_end : Bool) (parts : List Part) (closed : Close) → open_lines log to_end parts ++ line.Close closed ∷ [] ≡ log_lines (with_item log (item_of_leg to_end parts closed))
whole log to_end parts closed =
    append_assoc (log_lines log) (leg_line to_end ∷ flat_map part_lines parts) (line.Close closed ∷ [])
    ∙ ap (λ (l : List Line). log_lines log ++ l) (sym (item-lines to_end parts closed))
    ∙ ap (λ (l : List Line). line.Head log.batch ∷ (flat_map item_lines log.items ++ l)) (sym (append-nil (item_lines (item_of_leg to_end parts closed))))
    ∙ ap (λ (l : List Line). line.Head log.batch ∷ l) (sym (flat_map-append item_lines log.items (item_of_leg to_end parts closed ∷ [])))

alone : (query : Query) (found : Option Progress) → option_and_then (λ next. judge_all query next []) found ≡ found
unfolding judge_all
alone query None = refl
alone query (Some next) = refl

module _ (query : Query) (log : Log) (to_end : Bool) (parts : List Part) (closed : Close) (first : SendersFirst query.flow) (leg : IsOpen query log to_end parts) where
  -- what the whole log is judged is what its last line is
  last-line : judge_all query Fresh (log_lines (with_item log (item_of_leg to_end parts closed))) ≡ judge_close query to_end leg.now closed
  unfolding judge_all
  last-line =
      ap (judge_all query Fresh) (sym (whole log to_end parts closed)) ∙ (open-judged query log to_end parts (line.Close closed ∷ []) first leg).1
      ∙ alone query (judge_close query to_end leg.now closed)

  -- a leg with which the log is legal is closed well
  pub judged-well : (more : IsLegal query (with_item log (item_of_leg to_end parts closed))) → judge_close query to_end leg.now closed ≡ Some (Between more.after)
  unfolding judge_all
  judged-well more =
      sym last-line ∙ ap (judge_all query Fresh) (sym (append-nil (log_lines (with_item log (item_of_leg to_end parts closed)))))
      ∙ log-judged query (with_item log (item_of_leg to_end parts closed)) [] first more

  -- one that may not be closed so is not
  closes-made : (b : Bool) (m after : State) → m ≡ leg.legal.after → to_end ≡ b → Makes query m (item_of_leg b parts closed) after → ClosesIn b query leg.now closed
  closes-made false m after same is made =
      let worked = subst (λ (s : State). IsWorked query (leg_start false s) parts made.0) same made.1 in
      let now = legs_have_one_state query (leg_start false leg.legal.after) made.0 parts first worked in
      let here = legs_have_one_state query (leg_start false leg.legal.after) leg.now parts first (subst (λ b. IsWorked query (leg_start b leg.legal.after) parts leg.now) is leg.worked) in
      subst (λ (s : State). ClosesRun query s closed) (sym now ∙ here) made.2
  closes-made true m after same is made =
      let worked = subst (λ (s : State). IsWorked query (leg_start true s) parts made.0) same made.1 in
      let now = legs_have_one_state query (leg_start true leg.legal.after) made.0 parts first worked in
      let here = legs_have_one_state query (leg_start true leg.legal.after) leg.now parts first (subst (λ b. IsWorked query (leg_start b leg.legal.after) parts leg.now) is leg.worked) in
      subst (λ (s : State). ClosesEnd query s closed) (sym now ∙ here) made.2

  closes-legal : IsLegal query (with_item log (item_of_leg to_end parts closed)) → ClosesIn to_end query leg.now closed
  unfolding Reaches
  closes-legal more =
      let found = Reaches-parts query (start_of query.flow) more.after log.items (item_of_leg to_end parts closed ∷ []) more.reached in
      let front : IsLegal query log = record { text = leg.legal.text; batch = leg.legal.batch; after = found.0; reached = found.1 } in
      let same : found.0 ≡ leg.legal.after = sym (legal_logs_have_one_state query log first front) ∙ legal_logs_have_one_state query log first leg.legal in
      closes-made to_end found.0 found.2.0 same refl found.2.1

  pub judged-ill : (ClosesIn to_end query leg.now closed → ⊥) → judge_close query to_end leg.now closed ≡ None
  judged-ill not = by (judge_close query to_end leg.now closed) refl
    where
      by : (found : Option Progress) → judge_close query to_end leg.now closed ≡ found → found ≡ None
      by None is = refl
      by (Some next) is =
          let log_now = with_item log (item_of_leg to_end parts closed) in
          let text : IsLog log_now = IsLog-push log (item_of_leg to_end parts closed) leg.legal.text (item-is to_end parts closed leg.text) leg.more in
          absurd (not (closes-legal (log-legal query log_now [] next text
          (ap (judge_all query Fresh) (append-nil (log_lines log_now)) ∙ last-line ∙ is)).legal.0))
