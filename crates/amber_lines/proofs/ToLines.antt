-- The lines of a legal log are judged well.
use Rattle.std.proofs.Common.{◌≡◌, ℕ, ◌+◌, ◌<◌, ◌≤◌, List, [], ◌∷◌, ◌++◌, length, map, Bool, true, false, ◌⊎◌, inl, inr, refl, sym, ap, ◌∙◌, subst, arith, append_assoc}
use Rattle.std.specs.Prelude.{option_and_then}
use Rattle.std.specs.List.{flat_map}
use Rattle.std.proofs.lemmas.Bool.{and_from, cases_eq, eq-eqb, le-leb, lt-ltb}
use Rattle.std.proofs.lemmas.List.{ext_get_or, length-map}
use Rattle.amber_rows.specs.Topology.{crew_of}
use Rattle.amber_rows.specs.declared.batch.Batch.{Batch}
use Rattle.amber_log.specs.Grammar.{AreItems, AreParts, IsItem, ends_over}
use Rattle.amber_log.specs.LogText.{item_lines, log_lines, part_lines}
use Rattle.amber_log.specs.declared.entry.Entry.{Entry}
use Rattle.amber_log.specs.declared.leg.Close.{Close}
use Rattle.amber_log.specs.declared.leg.Close.TheVariants as close
use Rattle.amber_log.specs.declared.leg.Part.{Part}
use Rattle.amber_log.specs.declared.line.Line.{Line}
use Rattle.amber_log.specs.declared.line.Line.TheVariants as line
use Rattle.amber_log.specs.declared.log.Item.{Item}
use Rattle.amber_log.specs.declared.log.Item.TheVariants as item
use Rattle.amber_log.specs.declared.log.Log.{Log}
use Rattle.amber_log.proofs.Pushes.{ends_over-push}
use Rattle.amber_meaning.specs.Laws.{SendersFirst}
use Rattle.amber_meaning.specs.Legal.{AreKnown, AreOffered, ClosesEnd, ClosesRun, IsLegal, IsOpen, IsWorked, Makes, Query, Reaches, after_close, assignment_in, entries_of, leg_start, role_in}
use Rattle.amber_meaning.specs.Plan.{role_of}
use Rattle.amber_meaning.specs.Position.{Position, origin, taken_from}
use Rattle.amber_meaning.specs.Rules.{Leads, Moves, Orders}
use Rattle.amber_meaning.specs.State.{State, begin_leg, begin_last_leg, after_command, position_at, start_of, steps_in}
use Rattle.amber_meaning.specs.Task.{Role}
use Rattle.amber_meaning.proofs.Fronts.{legal_logs_grow}
use Rattle.amber_judge.proofs.LegalTests.{may_close_end-is, may_close_run-is, offered-is}
use Rattle.amber_meaning.proofs.OneState.{Leads-keeps, TookFirst, moved-is, position-get_or, same-batches}
use Rattle.amber_meaning.proofs.Rest.{legal_logs_rest}
use Rattle.amber_lines.specs.Lines.{Between, Fresh, Progress, Within, judge, judge_all, may_enter, offers_in, open_lines, leg_line, position_behind, state_behind, when}
use Rattle.amber_lines.specs.Moving.{orders_in}
use Rattle.amber_lines.proofs.Entered.{may-enter, placed-else, placed-here, placed-length}
use Rattle.amber_lines.proofs.FromLines.{LegalAt}
use Rattle.amber_lines.proofs.Parts.{entries-below, entries-first, entries-none, entries-skip, known-first, known-later, part}
use Rattle.amber_lines.proofs.Stepping.{steps-grow}

-- ---- a leg whose parts are left to be read

-- the entries that are left lead each worker to where it stands at the end
record IsLeft (query : Query) (now after : State) (left : List Part) : Type 0 where
  arms : after.arms ≡ now.arms
  crew : length now.positions ≡ crew_of query.flow
  crew_after : length after.positions ≡ crew_of query.flow
  offered : AreOffered query after.positions
  few : steps_in after ≤ query.most
  led : (worker : ℕ) → worker < crew_of query.flow
      → Leads (assignment_in query now worker) (position_at now.positions worker) (entries_of left worker) (position_at after.positions worker)

left-steps : (query : Query) (now after : State) (left : List Part) → IsLeft query now after left → steps_in now ≤ query.most
left-steps query now after left h =
    let same : length now.positions ≡ length after.positions = h.crew ∙ sym h.crew_after in
    let size = h.crew in
    let grows = steps-grow now after same (λ worker less. (role_in query worker, (orders_in query now worker, (entries_of left worker, h.led worker (omega arith))))) in
    let few = h.few in
    omega arith

-- who has no entry left stands at the end
none-left : (query : Query) (now after : State) (left : List Part) (worker : ℕ) → IsLeft query now after left → worker < crew_of query.flow → entries_of left worker ≡ []
    → position_at now.positions worker ≡ position_at after.positions worker
unfolding Leads
none-left query now after left worker h less none = rw none at (h.led worker less)

-- what stands in front of a worker's next entry
record IsNext (query : Query) (now : State) (worker : ℕ) (made : Entry) (m : Position) : Type 0 where
  may : may_enter query now worker made ≡ true
  behind : position_behind query now worker made ≡ m

next-entry : (query : Query) (now after : State) (worker : ℕ) (made : Entry) (more : List Entry) (m : Position) → SendersFirst query.flow → worker < crew_of query.flow
    → AreOffered query after.positions → ((sender : ℕ) → sender < worker → position_at now.positions sender ≡ position_at after.positions sender)
    → Moves (assignment_in query now worker) (position_at now.positions worker) made m
    → Leads (assignment_in query now worker) m more (position_at after.positions worker) → IsNext query now worker made m
unfolding AreOffered role_of position_behind
next-entry query now after worker made more m first inside offered stand moves leads =
    record {
      may = may-enter query now worker made m moves (offered-is role orders (offers_in query now worker) (position_at now.positions worker) m made moves sooner);
      behind = moved-is role orders (offers_in query now worker) (position_at now.positions worker) m made moves sooner;
    }
  where
    role : Role
    role = role_in query worker

    orders : Orders
    orders = orders_in query now worker

    sooner : TookFirst role (offers_in query now worker) m
    sooner = λ sender known.
        let b = Leads-keeps role orders m (position_at after.positions worker) more sender leads in
        let all = offered worker inside sender known in
        rw (same-batches query now.positions after.positions sender worker (stand sender (first worker sender known)))
        (b.0 ++ all.0, sym (append_assoc (taken_from m.taken sender) b.0 all.0) ∙ ap (λ (l : List Batch). l ++ all.0) b.1 ∙ all.1)

-- one entry's line is judged well
entry-judged : (query : Query) (to_end : Bool) (now after : State) (worker : ℕ) (made : Entry) (entries : List Entry) (rest : List Part) (more : List Line)
    → SendersFirst query.flow → worker < crew_of query.flow → AreParts (worker + 1) rest → IsLeft query now after (part worker (made ∷ entries) ∷ rest)
    → IsLeft query (state_behind query now worker made) after (part worker entries ∷ rest)
    × (judge_all query (Within to_end now worker) (line.Entry made ∷ more) ≡ judge_all query (Within to_end (state_behind query now worker made) worker) more)
unfolding Leads judge_all
entry-judged query to_end now after worker made entries rest more first inside text h =
    let own : Leads (assignment_in query now worker) (position_at now.positions worker) (made ∷ (entries ++ entries_of rest worker)) (position_at after.positions worker) =
    rw (entries-first worker (made ∷ entries) rest) at (h.led worker inside) in
    by own.0 own.1 own.2
  where
    left : List Part
    left = part worker (made ∷ entries) ∷ rest

    behind : State
    behind = state_behind query now worker made

    stand : (sender : ℕ) → sender < worker → position_at now.positions sender ≡ position_at after.positions sender
    stand sender less =
        none-left query now after left sender h (omega arith)
        (entries-skip worker sender (made ∷ entries) rest (λ e. omega arith) ∙ entries-below (worker + 1) sender rest text (omega arith))

    by : (m : Position) → Moves (assignment_in query now worker) (position_at now.positions worker) made m
        → Leads (assignment_in query now worker) m (entries ++ entries_of rest worker) (position_at after.positions worker)
        → IsLeft query behind after (part worker entries ∷ rest)
        × (option_and_then (λ next. judge_all query next more) (judge query (Within to_end now worker) (line.Entry made)) ≡ judge_all query (Within to_end behind worker) more)
    by m moves leads =
        let next = next-entry query now after worker made (entries ++ entries_of rest worker) m first inside h.offered stand moves leads in
        let crew = h.crew in
        let here : position_at behind.positions worker ≡ m = placed-here worker (position_behind query now worker made) now (omega arith) ∙ next.behind in
        let then_left : IsLeft query behind after (part worker entries ∷ rest) =
        record {
          arms = h.arms;
          crew = placed-length worker (position_behind query now worker made) now ∙ h.crew;
          crew_after = h.crew_after;
          offered = h.offered;
          few = h.few;
          led = λ other less. led other less (cases_eq other worker) here leads;
        } in
        let few = le-leb (steps_in behind) query.most (left-steps query behind after (part worker entries ∷ rest) then_left) in (
          then_left,
          ap (λ (b : Bool). option_and_then (λ next. judge_all query next more) (when b (Within to_end behind worker))) (and_from _ _ next.may few),
        )
      where
        led : (other : ℕ) → other < crew_of query.flow → (other ≡ worker) ⊎ (other ≡ worker → ⊥) → position_at behind.positions worker ≡ m
            → Leads (assignment_in query now worker) m (entries ++ entries_of rest worker) (position_at after.positions worker)
            → Leads (assignment_in query now other) (position_at behind.positions other) (entries_of (part worker entries ∷ rest) other) (position_at after.positions other)
        led other less (inl same) here leads =
            subst (λ (w : ℕ). Leads (assignment_in query now w) (position_at behind.positions w) (entries_of (part worker entries ∷ rest) w) (position_at after.positions w))
            (sym same) (rw (here, entries-first worker entries rest) leads)
        led other less (inr apart) here leads =
            rw (placed-else worker other (position_behind query now worker made) now apart, entries-skip worker other entries rest apart, ← entries-skip worker other (made ∷ entries) rest apart)
            (h.led other less)

-- ---- the lines of a leg

entries-empty : (worker other : ℕ) (rest : List Part) → entries_of (part worker [] ∷ rest) other ≡ entries_of rest other
entries-empty worker other rest = by (cases_eq other worker)
  where
    by : (other ≡ worker) ⊎ (other ≡ worker → ⊥) → entries_of (part worker [] ∷ rest) other ≡ entries_of rest other
    by (inl same) = subst (λ (w : ℕ). entries_of (part worker [] ∷ rest) w ≡ entries_of rest w) (sym same) (entries-first worker [] rest)
    by (inr apart) = entries-skip worker other [] rest apart

-- where judging goes on after lines of a leg
record LeadsTo (query : Query) (to_end : Bool) (after : State) (left : List Part) (from : Progress) (lines more : List Line) : Type 0 where
  now : State
  worker : ℕ
  left_over : IsLeft query now after left
  same : judge_all query from (lines ++ more) ≡ judge_all query (Within to_end now worker) more

entries-judged : (query : Query) (to_end : Bool) (now after : State) (worker : ℕ) (entries : List Entry) (rest : List Part) (more : List Line)
    → SendersFirst query.flow → worker < crew_of query.flow → AreParts (worker + 1) rest → IsLeft query now after (part worker entries ∷ rest)
    → LeadsTo query to_end after rest (Within to_end now worker) (map (λ made. line.Entry made) entries) more
entries-judged query to_end now after worker [] rest more first inside text h =
    record {
      now = now;
      worker = worker;
      left_over = record {
        arms = h.arms;
        crew = h.crew;
        crew_after = h.crew_after;
        offered = h.offered;
        few = h.few;
        led = λ other less. rw (← entries-empty worker other rest) (h.led other less);
      };
      same = refl;
    }
entries-judged query to_end now after worker (made ∷ entries) rest more first inside text h =
    let one = entry-judged query to_end now after worker made entries rest (map (λ one. line.Entry one) entries ++ more) first inside text h in
    let later = entries-judged query to_end (state_behind query now worker made) after worker entries rest more first inside text one.0 in
    record { now = later.now; worker = later.worker; left_over = later.left_over; same = one.1 ∙ later.same }

pub worker-judged : (query : Query) (to_end : Bool) (now : State) (before worker : ℕ) (more : List Line) → worker < crew_of query.flow
    → judge_all query (Within to_end now before) (line.Worker worker ∷ more) ≡ judge_all query (Within to_end now worker) more
unfolding judge_all
worker-judged query to_end now before worker more less =
    ap (λ (b : Bool). option_and_then (λ next. judge_all query next more) (when b (Within to_end now worker))) (lt-ltb worker (crew_of query.flow) less)

-- where no entry is left, all stand at the end
nobody-left : (query : Query) (now after : State) → IsLeft query now after [] → now ≡ after
nobody-left query now after h =
    let crew = h.crew in
    let same : now.positions ≡ after.positions = ext_get_or origin now.positions after.positions (h.crew ∙ sym h.crew_after)
    (λ worker less. sym (position-get_or now.positions worker) ∙ none-left query now after [] worker h (omega arith) (entries-none worker) ∙ position-get_or after.positions worker) in
    let arms : now.arms ≡ after.arms = sym h.arms in
    λ i. record { arms = arms i; positions = same i }

parts-judged : (query : Query) (to_end : Bool) (now after : State) (least before : ℕ) (left : List Part) (more : List Line)
    → SendersFirst query.flow → AreParts least left → AreKnown query left → IsLeft query now after left
    → (worker : ℕ) × (judge_all query (Within to_end now before) (flat_map part_lines left ++ more) ≡ judge_all query (Within to_end after worker) more)
unfolding AreParts
parts-judged query to_end now after least before [] more first text known h =
    (before, ap (λ (s : State). judge_all query (Within to_end s before) more) (nobody-left query now after h))
parts-judged query to_end now after least before (one ∷ rest) more first text known h =
    let inside = known-first query one rest known in
    let entries = entries-judged query to_end now after one.worker one.entries rest (flat_map part_lines rest ++ more) first inside text.2 h in
    let later = parts-judged query to_end entries.now after (one.worker + 1) entries.worker rest more first text.2 (known-later query one rest known) entries.left_over in (
      later.0,
      worker-judged query to_end now before one.worker ((map (λ made. line.Entry made) one.entries ++ flat_map part_lines rest) ++ more) inside
          ∙ ap (judge_all query (Within to_end now one.worker)) (append_assoc (map (λ made. line.Entry made) one.entries) (flat_map part_lines rest) more)
          ∙ entries.same ∙ later.1,
    )

-- the lines of a leg that was worked
pub leg-judged : (query : Query) (to_end : Bool) (start after : State) (parts : List Part) (more : List Line)
    → SendersFirst query.flow → AreParts 0 parts → length start.positions ≡ crew_of query.flow → IsWorked query start parts after → steps_in after ≤ query.most
    → (worker : ℕ) × (judge_all query (Within to_end start 0) (flat_map part_lines parts ++ more) ≡ judge_all query (Within to_end after worker) more)
leg-judged query to_end start after parts more first text crew after_leg few =
    parts-judged query to_end start after 0 0 parts more first text after_leg.known
    (record { arms = after_leg.same_arms; crew = crew; crew_after = after_leg.crew; offered = after_leg.offered; few = few; led = after_leg.moved })

-- ---- items

leg_start-length : (to_end : Bool) (state : State) → length (leg_start to_end state).positions ≡ length state.positions
unfolding begin_leg begin_last_leg
leg_start-length true state = length-map state.positions _
leg_start-length false state = length-map state.positions _

pub leg_start-crew : (query : Query) (log : Log) (to_end : Bool) (state : State) → LegalAt query log state → length (leg_start to_end state).positions ≡ crew_of query.flow
leg_start-crew query log to_end state legal =
    let rests = legal_logs_rest query log legal.0 in
    leg_start-length to_end state ∙ ap (λ (s : State). length s.positions) (sym legal.1) ∙ rests.crew

few-run : (query : Query) (state : State) (closed : Close) → ClosesRun query state closed → steps_in state ≤ query.most
few-run query state close.Cut h = h.1
few-run query state close.Long h = let most = h.1 in omega arith

few-end : (query : Query) (state : State) (closed : Close) → ClosesEnd query state closed → steps_in state ≤ query.most
few-end query state close.Cut h = h.1
few-end query state close.Long h = let most = h.1 in omega arith

item-judged : (query : Query) (log : Log) (state after : State) (one : Item) (more : List Line) → SendersFirst query.flow → LegalAt query log state → IsItem one
    → Makes query state one after → judge_all query (Between state) (item_lines one ++ more) ≡ judge_all query (Between after) more
unfolding judge_all
item-judged query log state after (item.Do command) more first legal is h =
    ap (λ (b : Bool). option_and_then (λ next. judge_all query next more) (when b (Between (after_command query.flow command state)))) h.0
    ∙ ap (λ (s : State). judge_all query (Between s) more) (sym h.1)
item-judged query log state after (item.Run leg) more first legal is h =
    let lines = leg-judged query false (leg_start false state) h.0 leg.parts (line.Close leg.close ∷ more) first is (leg_start-crew query log false state legal) h.1 (few-run query h.0 leg.close h.2) in
    ap (judge_all query (Within false (leg_start false state) 0)) (append_assoc (flat_map part_lines leg.parts) (line.Close leg.close ∷ []) more)
    ∙ lines.1
    ∙ ap (λ (b : Bool). option_and_then (λ next. judge_all query next more) (when b (Between (after_close query h.0 leg.close)))) (may_close_run-is query h.0 leg.close h.2)
    ∙ ap (λ (s : State). judge_all query (Between s) more) (sym h.3)
item-judged query log state after (item.End leg) more first legal is h =
    let lines = leg-judged query true (leg_start true state) h.0 leg.parts (line.Close leg.close ∷ more) first is (leg_start-crew query log true state legal) h.1 (few-end query h.0 leg.close h.2) in
    ap (judge_all query (Within true (leg_start true state) 0)) (append_assoc (flat_map part_lines leg.parts) (line.Close leg.close ∷ []) more)
    ∙ lines.1
    ∙ ap (λ (b : Bool). option_and_then (λ next. judge_all query next more) (when b (Between h.0))) (may_close_end-is query h.0 leg.close h.2)
    ∙ ap (λ (s : State). judge_all query (Between s) more) (sym h.3)

abbrev log_of : ℕ → List Item → Log
log_of batch items = record { batch = batch; items = items }

items-judged : (query : Query) (batch : ℕ) (done rest : List Item) (state after : State) (more : List Line) → SendersFirst query.flow → LegalAt query (log_of batch done) state
    → AreItems (ends_over false done) rest → Reaches query state rest after
    → judge_all query (Between state) (flat_map item_lines rest ++ more) ≡ judge_all query (Between after) more
unfolding AreItems Reaches
items-judged query batch done [] state after more first legal is h = ap (λ (s : State). judge_all query (Between s) more) h
items-judged query batch done (one ∷ rest) state after more first legal is h =
    let makes : Makes query legal.0.after one h.0 = subst (λ (s : State). Makes query s one h.0) (sym legal.1) h.1 in
    let grown = legal_logs_grow query batch done one h.0 legal.0 is.0 is.1 makes in
    ap (judge_all query (Between state)) (append_assoc (item_lines one) (flat_map item_lines rest) more)
    ∙ item-judged query (log_of batch done) state h.0 one (flat_map item_lines rest ++ more) first legal is.1 h.1
    ∙ items-judged query batch (done ++ one ∷ []) rest h.0 after more first grown (subst (λ (b : Bool). AreItems b rest) (sym (ends_over-push false done one)) is.2) h.2

start-legal : (query : Query) (log : Log) → IsLegal query log → LegalAt query (log_of log.batch []) (start_of query.flow)
unfolding AreItems Reaches
start-legal query log legal = (record { text = record { batch = legal.text.batch; items = tt }; batch = legal.batch; after = start_of query.flow; reached = refl }, refl)

-- the lines of a legal log, and what stands after them
pub log-judged : (query : Query) (log : Log) (more : List Line) → SendersFirst query.flow → (legal : IsLegal query log)
    → judge_all query Fresh (log_lines log ++ more) ≡ judge_all query (Between legal.after) more
unfolding judge_all
log-judged query log more first legal =
    ap (λ (b : Bool). option_and_then (λ next. judge_all query next (flat_map item_lines log.items ++ more)) (when b (Between (start_of query.flow)))) (eq-eqb log.batch query.batch_size legal.batch)
    ∙ items-judged query log.batch [] log.items (start_of query.flow) legal.after more first (start-legal query log legal) legal.text.items legal.reached

pub opening-judged : (query : Query) (to_end : Bool) (state : State) (more : List Line)
    → judge_all query (Between state) (leg_line to_end ∷ more) ≡ judge_all query (Within to_end (leg_start to_end state) 0) more
unfolding judge_all
opening-judged query false state more = refl
opening-judged query true state more = refl

-- the lines of a log and of a leg after it that goes on
pub open-judged : (query : Query) (log : Log) (to_end : Bool) (parts : List Part) (more : List Line) → SendersFirst query.flow → (leg : IsOpen query log to_end parts)
    → (worker : ℕ) × (judge_all query Fresh (open_lines log to_end parts ++ more) ≡ judge_all query (Within to_end leg.now worker) more)
open-judged query log to_end parts more first leg =
    let state = leg.legal.after in
    let lines = leg-judged query to_end (leg_start to_end state) leg.now parts more first leg.text (leg_start-crew query log to_end state (leg.legal, refl)) leg.worked leg.few in (
      lines.0,
      ap (judge_all query Fresh) (append_assoc (log_lines log) (leg_line to_end ∷ flat_map part_lines parts) more)
          ∙ log-judged query log (leg_line to_end ∷ (flat_map part_lines parts ++ more)) first leg.legal
          ∙ opening-judged query to_end state (flat_map part_lines parts ++ more) ∙ lines.1,
    )
