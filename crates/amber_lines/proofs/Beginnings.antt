-- Legal beginnings: their fronts, whole logs, and legs that go on.
use Rattle.std.proofs.Common.{◌≡◌, ℕ, ◌<◌, List, [], ◌∷◌, ◌++◌, Some, Bool, true, false, refl, sym, ap, ◌∙◌, append_assoc, append-nil}
use Rattle.std.specs.List.{flat_map}
use Rattle.std.proofs.lemmas.List.Concat.{flat_map-append}
use Rattle.amber_rows.specs.Topology.{crew_of}
use Rattle.amber_log.specs.Grammar.{AreParts, IsItem, IsLog, ends_over}
use Rattle.amber_log.specs.LogText.{item_lines, log_lines, part_lines}
use Rattle.amber_log.specs.declared.entry.Entry.TheVariants as entry
use Rattle.amber_log.specs.declared.leg.Close.TheVariants as close
use Rattle.amber_log.specs.declared.leg.Part.{Part}
use Rattle.amber_log.specs.declared.line.Line.{Line}
use Rattle.amber_log.specs.declared.line.Line.TheVariants as line
use Rattle.amber_log.specs.declared.log.Item.{Item}
use Rattle.amber_log.specs.declared.log.Item.TheVariants as item
use Rattle.amber_log.specs.declared.log.Log.{Log}
use Rattle.amber_log.proofs.Pushes.{IsLog-push, with_item}
use Rattle.amber_meaning.specs.Laws.{SendersFirst}
use Rattle.amber_meaning.specs.Legal.{IsOpen, Query}
use Rattle.amber_lines.specs.LineLaws.{BeginningsHaveFronts, LegalLogsBegin, OpenLegsAreJudged, PartsAreBegun, WholeLogsAreJudged, first_part}
use Rattle.amber_lines.specs.Lines.{Between, Fresh, IsBeginning, Progress, Within, judge_all, leg_line, open_lines}
use Rattle.amber_lines.proofs.FromLines.{GoesOn, leg-open, log-legal, worker-line}
use Rattle.amber_lines.proofs.Judged.{judge_all-parts}
use Rattle.amber_lines.proofs.Parts.{AreParts-front}
use Rattle.amber_lines.proofs.ToLines.{log-judged, open-judged, opening-judged, worker-judged}

pub beginnings_have_fronts : BeginningsHaveFronts
beginnings_have_fronts query lines more h =
    let parts = judge_all-parts query Fresh h.progress lines more h.good in
    record {
      log = h.log;
      text = h.text;
      front = (more ++ h.front.0, sym (append_assoc lines more h.front.0) ∙ h.front.1);
      progress = parts.0;
      good = parts.1;
    }

-- ---- whole logs

nothing-more : (query : Query) (progress : Progress) → judge_all query progress [] ≡ Some progress
unfolding judge_all
nothing-more query progress = refl

pub legal_logs_begin : LegalLogsBegin
legal_logs_begin query log lines more first legal whole =
    let good : judge_all query Fresh (lines ++ more) ≡ Some (Between legal.after) =
    ap (judge_all query Fresh) (whole ∙ sym (append-nil (log_lines log))) ∙ log-judged query log [] first legal ∙ nothing-more query (Between legal.after) in
    let parts = judge_all-parts query Fresh (Between legal.after) lines more good in
    record { log = log; text = legal.text; front = (more, whole); progress = parts.0; good = parts.1 }

pub whole_logs_are_judged : WholeLogsAreJudged
whole_logs_are_judged query log first text = (
  λ legal. legal_logs_begin query log (log_lines log) [] first legal (append-nil (log_lines log)),
  λ h. (log-legal query log [] h.progress text (ap (judge_all query Fresh) (append-nil (log_lines log)) ∙ h.good)).legal.0,
)

-- ---- legs that go on

-- a leg, to the end or not, that was cut
abbrev cut_leg : Bool → List Part → Item
cut_leg false parts = item.Run (record { parts = parts; close = close.Cut })
cut_leg true parts = item.End (record { parts = parts; close = close.Cut })

cut-is : (to_end : Bool) (parts : List Part) → AreParts 0 parts → IsItem (cut_leg to_end parts)
cut-is false parts h = h
cut-is true parts h = h

cut-lines : (to_end : Bool) (parts : List Part) → item_lines (cut_leg to_end parts) ≡ leg_line to_end ∷ (flat_map part_lines parts ++ line.Close close.Cut ∷ [])
cut-lines false parts = refl
cut-lines true parts = refl

-- the lines of a leg that goes on, and its end
open-whole : (log : Log) (to_end : Bool) (parts : List Part) → open_lines log to_end parts ++ line.Close close.Cut ∷ [] ≡ log_lines (with_item log (cut_leg to_end parts))
open-whole log to_end parts =
    append_assoc (log_lines log) (leg_line to_end ∷ flat_map part_lines parts) (line.Close close.Cut ∷ [])
    ∙ ap (λ (l : List Line). log_lines log ++ l) (sym (cut-lines to_end parts))
    ∙ ap (λ (l : List Line). line.Head log.batch ∷ (flat_map item_lines log.items ++ l)) (sym (append-nil (item_lines (cut_leg to_end parts))))
    ∙ ap (λ (l : List Line). line.Head log.batch ∷ l) (sym (flat_map-append item_lines log.items (cut_leg to_end parts ∷ [])))

open-begins : (query : Query) (log : Log) (to_end : Bool) (parts : List Part) → SendersFirst query.flow → IsOpen query log to_end parts → IsBeginning query (open_lines log to_end parts)
open-begins query log to_end parts first leg =
    let good = open-judged query log to_end parts [] first leg in
    record {
      log = with_item log (cut_leg to_end parts);
      text = IsLog-push log (cut_leg to_end parts) leg.legal.text (cut-is to_end parts leg.text) leg.more;
      front = (line.Close close.Cut ∷ [], open-whole log to_end parts);
      progress = Within to_end leg.now good.0;
      good = ap (judge_all query Fresh) (sym (append-nil (open_lines log to_end parts))) ∙ good.1 ∙ nothing-more query (Within to_end leg.now good.0);
    }

-- what lines lead to that are those of a log, a leg's and others
open-from : (query : Query) (log : Log) (to_end : Bool) (parts : List Part) (more : List Line) (last : Progress) → IsLog log → ends_over false log.items ≡ false
    → AreParts 0 parts → judge_all query Fresh (open_lines log to_end parts ++ more) ≡ Some last → GoesOn query log to_end parts more last
open-from query log to_end parts more last text may is e =
    let behind = log-legal query log (leg_line to_end ∷ (flat_map part_lines parts ++ more)) last text
    (ap (judge_all query Fresh) (sym (append_assoc (log_lines log) (leg_line to_end ∷ flat_map part_lines parts) more)) ∙ e) in
    leg-open query log to_end parts more last behind.after behind.legal may is (sym (opening-judged query to_end behind.after (flat_map part_lines parts ++ more)) ∙ behind.rest)

pub open_legs_are_judged : OpenLegsAreJudged
open_legs_are_judged query log to_end parts first text may is = (
  λ leg. open-begins query log to_end parts first leg,
  λ h. (open-from query log to_end parts [] h.progress text may is (ap (judge_all query Fresh) (append-nil (open_lines log to_end parts)) ∙ h.good)).underway.0,
)

-- ---- the first line of a part

-- the lines up to a worker's number, and how they may go on
part-whole : (log : Log) (to_end : Bool) (parts : List Part) (worker : ℕ)
    → (open_lines log to_end parts ++ line.Worker worker ∷ []) ++ (line.Entry entry.Pause ∷ line.Close close.Cut ∷ [])
    ≡ log_lines (with_item log (cut_leg to_end (parts ++ first_part worker ∷ [])))
part-whole log to_end parts worker =
    append_assoc (open_lines log to_end parts) (line.Worker worker ∷ []) (line.Entry entry.Pause ∷ line.Close close.Cut ∷ [])
    ∙ append_assoc (log_lines log) (leg_line to_end ∷ flat_map part_lines parts) (line.Worker worker ∷ line.Entry entry.Pause ∷ line.Close close.Cut ∷ [])
    ∙ ap (λ (l : List Line). log_lines log ++ leg_line to_end ∷ l)
    (sym (append_assoc (flat_map part_lines parts) (line.Worker worker ∷ line.Entry entry.Pause ∷ []) (line.Close close.Cut ∷ []))
    ∙ ap (λ (l : List Line). l ++ line.Close close.Cut ∷ []) (sym (flat_map-append part_lines parts (first_part worker ∷ []))))
    ∙ sym (append_assoc (log_lines log) (leg_line to_end ∷ flat_map part_lines (parts ++ first_part worker ∷ [])) (line.Close close.Cut ∷ []))
    ∙ open-whole log to_end (parts ++ first_part worker ∷ [])

part-begins : (query : Query) (log : Log) (to_end : Bool) (parts : List Part) (worker : ℕ) → SendersFirst query.flow → AreParts 0 (parts ++ first_part worker ∷ [])
    → IsOpen query log to_end parts → worker < crew_of query.flow → IsBeginning query (open_lines log to_end parts ++ line.Worker worker ∷ [])
part-begins query log to_end parts worker first text leg inside =
    let good = open-judged query log to_end parts (line.Worker worker ∷ []) first leg in
    record {
      log = with_item log (cut_leg to_end (parts ++ first_part worker ∷ []));
      text = IsLog-push log (cut_leg to_end (parts ++ first_part worker ∷ [])) leg.legal.text (cut-is to_end (parts ++ first_part worker ∷ []) text) leg.more;
      front = (line.Entry entry.Pause ∷ line.Close close.Cut ∷ [], part-whole log to_end parts worker);
      progress = Within to_end leg.now worker;
      good = good.1 ∙ worker-judged query to_end leg.now good.0 worker [] inside ∙ nothing-more query (Within to_end leg.now worker);
    }

pub parts_are_begun : PartsAreBegun
parts_are_begun query log to_end parts worker first text may is = (
  λ h. part-begins query log to_end parts worker first is h.0 h.1,
  λ h.
      let found = open-from query log to_end parts (line.Worker worker ∷ []) h.progress text may (AreParts-front 0 parts (first_part worker ∷ []) is) h.good in
      (found.underway.0, (worker-line query to_end found.now found.worker worker [] h.progress found.rest).0),
)
