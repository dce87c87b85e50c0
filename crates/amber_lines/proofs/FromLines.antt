-- Lines that are judged well are those of a legal log.
use Rattle.std.proofs.Common.{◌≡◌, ℕ, ◌<◌, ◌≤◌, ◌&&◌, eqb, leb, ltb, List, [], ◌∷◌, ◌++◌, length, map, Some, Bool, true, false, refl, sym, ap, ◌∙◌, subst, arith, append_assoc, append-nil}
use Rattle.std.specs.List.{flat_map}
use Rattle.std.proofs.lemmas.List.Folds.{list_any-append}
use Rattle.std.proofs.lemmas.Bool.{and_parts, eq-eqb, eqb-true, false≢true, leb-true, ltb-true, or_left, or_right}
use Rattle.amber_rows.specs.Topology.{crew_of}
use Rattle.amber_log.specs.Fits.{fits_of}
use Rattle.amber_log.specs.Grammar.{AreItems, AreParts, IsBatch, IsItem, IsLog, ends_over}
use Rattle.amber_log.specs.LogText.{item_lines, log_lines, part_lines}
use Rattle.amber_log.specs.declared.command.Command.{Command}
use Rattle.amber_log.specs.declared.entry.Entry.{Entry}
use Rattle.amber_log.specs.declared.leg.Close.{Close}
use Rattle.amber_log.specs.declared.leg.Leg.{Leg}
use Rattle.amber_log.specs.declared.leg.Part.{Part}
use Rattle.amber_log.specs.declared.line.Line.{Line}
use Rattle.amber_log.specs.declared.line.Line.TheVariants as line
use Rattle.amber_log.specs.declared.log.Item.{Item}
use Rattle.amber_log.specs.declared.log.Item.TheVariants as item
use Rattle.amber_log.specs.declared.log.Log.{Log}
use Rattle.amber_log.proofs.Pushes.{ends_over-push}
use Rattle.amber_meaning.specs.Legal.{AreKnown, IsLegal, IsOpen, Query, Reaches, after_close, entries_of, leg_start, role_in}
use Rattle.amber_judge.specs.LegalTests.{may_close_end, may_close_run}
use Rattle.amber_meaning.specs.State.{State, after_command, position_at, start_of, steps_in}
use Rattle.amber_meaning.proofs.Fronts.{legal_logs_grow}
use Rattle.amber_meaning.proofs.Led.{Leads-push}
use Rattle.amber_judge.proofs.LegalFrom.{close_end-from, close_run-from}
use Rattle.amber_meaning.proofs.Rest.{ends_close, legs_open, runs_close}
use Rattle.amber_lines.specs.LineLaws.{FirstEntriesEnter, NextEntriesEnter}
use Rattle.amber_lines.specs.Lines.{Between, Fresh, Progress, Within, judge, judge_all, may_enter, position_behind, state_behind}
use Rattle.amber_lines.specs.Moving.{orders_in}
use Rattle.amber_lines.proofs.Entered.{enters, placed-else, placed-here, placed-length}
use Rattle.amber_lines.proofs.Growing.{open_legs_grow}
use Rattle.amber_lines.proofs.Judged.{first-of, passes}
use Rattle.amber_lines.proofs.Parts.{AreParts-front, AreParts-last, AreParts-shorter, entries-else, entries-last, known-front, known-push, part}

-- a leg that goes on, in this state
abbrev pub OpenAt : Query → Log → Bool → List Part → State → Type 0
OpenAt query log to_end parts now = (leg : IsOpen query log to_end parts) × (leg.now ≡ now)

-- a legal log that leads to this state
abbrev pub LegalAt : Query → Log → State → Type 0
LegalAt query log after = (legal : IsLegal query log) × (legal.after ≡ after)

-- ---- an entry more

-- the parts with an entry more of a worker
record IsLonger (query : Query) (worker : ℕ) (made : Entry) (parts longer : List Part) : Type 0 where
  inside : worker < crew_of query.flow
  text : AreParts 0 longer
  known : AreKnown query longer
  own : entries_of longer worker ≡ entries_of parts worker ++ made ∷ []
  others : (other : ℕ) → (other ≡ worker → ⊥) → entries_of longer other ≡ entries_of parts other

enter-open : (query : Query) (log : Log) (to_end : Bool) (parts longer : List Part) (worker : ℕ) (made : Entry) → (leg : IsOpen query log to_end parts)
    → IsLonger query worker made parts longer → may_enter query leg.now worker made ≡ true → steps_in (state_behind query leg.now worker made) ≤ query.most
    → OpenAt query log to_end longer (state_behind query leg.now worker made)
enter-open query log to_end parts longer worker made leg h may few =
    let start : State = leg_start to_end leg.legal.after in
    let now = leg.now in
    let behind = position_behind query now worker made in
    let arms : now.arms ≡ start.arms = leg.worked.same_arms in
    let same : orders_in query now worker ≡ orders_in query start worker = ap (λ a. orders_in query (record now { arms = a }) worker) arms in
    let all = enters query now worker made may in
    let inside = h.inside in
    let crew = leg.worked.crew in
    let here : position_at (state_behind query now worker made).positions worker ≡ behind = placed-here worker behind now (omega arith) in
    open_legs_grow query log to_end parts longer worker made (state_behind query now worker made) leg
    (record {
      inside = h.inside;
      known = h.known;
      arms = refl;
      crew = placed-length worker behind now ∙ crew;
      others = λ other apart. (placed-else worker other behind now apart, h.others other apart);
      allowed = rw (here, ← same) all.0;
      offered = rw here all.1;
      leads = rw (here, h.own)
          (Leads-push (role_in query worker) (orders_in query start worker) (position_at start.positions worker) (entries_of parts worker) (position_at now.positions worker) made behind
          (leg.worked.moved worker h.inside) (rw (← same) all.0));
    })
    h.text few

enter-at : (query : Query) (log : Log) (to_end : Bool) (parts longer : List Part) (worker : ℕ) (made : Entry) (now : State) → OpenAt query log to_end parts now
    → IsLonger query worker made parts longer → may_enter query now worker made ≡ true → steps_in (state_behind query now worker made) ≤ query.most
    → OpenAt query log to_end longer (state_behind query now worker made)
enter-at query log to_end parts longer worker made now begun_leg h =
    subst (λ (s : State). may_enter query s worker made ≡ true → steps_in (state_behind query s worker made) ≤ query.most → OpenAt query log to_end longer (state_behind query s worker made))
    begun_leg.1 (enter-open query log to_end parts longer worker made begun_leg.0 h)

longer-first : (query : Query) (before : List Part) (worker : ℕ) (made : Entry) → worker < crew_of query.flow → AreKnown query before
    → AreParts 0 (before ++ part worker (made ∷ []) ∷ []) → IsLonger query worker made before (before ++ part worker (made ∷ []) ∷ [])
longer-first query before worker made inside known text = record {
  inside = inside;
  text = text;
  known = known-push query before worker (made ∷ []) known inside;
  own = entries-last before worker (made ∷ []);
  others = λ other apart. entries-else before worker other (made ∷ []) apart;
}

longer-next : (query : Query) (before : List Part) (worker : ℕ) (done : List Entry) (made : Entry) → worker < crew_of query.flow → AreKnown query before
    → AreParts 0 (before ++ part worker (done ++ made ∷ []) ∷ [])
    → IsLonger query worker made (before ++ part worker done ∷ []) (before ++ part worker (done ++ made ∷ []) ∷ [])
longer-next query before worker done made inside known text = record {
  inside = inside;
  text = text;
  known = known-push query before worker (done ++ made ∷ []) known inside;
  own = entries-last before worker (done ++ made ∷ []) ∙ sym (append_assoc (entries_of before worker) done (made ∷ []))
      ∙ ap (λ (l : List Entry). l ++ made ∷ []) (sym (entries-last before worker done));
  others = λ other apart. entries-else before worker other (done ++ made ∷ []) apart ∙ sym (entries-else before worker other done apart);
}

pub first_entries_enter : FirstEntriesEnter
first_entries_enter query log to_end parts worker made leg inside text may few =
    enter-open query log to_end parts (parts ++ part worker (made ∷ []) ∷ []) worker made leg (longer-first query parts worker made inside leg.worked.known text) may few

last-inside : (query : Query) (before : List Part) (worker : ℕ) (done : List Entry) → AreKnown query (before ++ part worker done ∷ []) → worker < crew_of query.flow
last-inside query before worker done known =
    known worker (list_any-append (λ (one : Part). eqb one.worker worker) before (part worker done ∷ []) ∙ or_right _ _ (or_left _ _ (eq-eqb worker worker refl)))

pub next_entries_enter : NextEntriesEnter
next_entries_enter query log to_end before worker done made leg text may few =
    let known = leg.worked.known in
    enter-open query log to_end (before ++ part worker done ∷ []) (before ++ part worker (done ++ made ∷ []) ∷ []) worker made leg
    (longer-next query before worker done made (last-inside query before worker done known) (known-front query before (part worker done ∷ []) known) text) may few

-- ---- the lines of a part

-- where judging goes on after a leg's parts
pub record GoesOn (query : Query) (log : Log) (to_end : Bool) (parts : List Part) (more : List Line) (last : Progress) : Type 0 where
  pub now : State
  pub worker : ℕ
  pub underway : OpenAt query log to_end parts now
  pub rest : judge_all query (Within to_end now worker) more ≡ Some last

-- one entry's line
entry-line : (query : Query) (to_end : Bool) (now : State) (worker : ℕ) (made : Entry) (more : List Line) (last : Progress)
    → judge_all query (Within to_end now worker) (line.Entry made ∷ more) ≡ Some last
    → (may_enter query now worker made ≡ true) × (steps_in (state_behind query now worker made) ≤ query.most)
    × (judge_all query (Within to_end (state_behind query now worker made) worker) more ≡ Some last)
unfolding judge_all
entry-line query to_end now worker made more last e =
    let found = first-of (judge query (Within to_end now worker) (line.Entry made)) (λ next. judge_all query next more) last e in
    let test = passes (may_enter query now worker made && leb (steps_in (state_behind query now worker made)) query.most)
    (Within to_end (state_behind query now worker made) worker) found.0 found.1 in
    let parts = and_parts (may_enter query now worker made) _ test.0 in
    (parts.0, leb-true _ _ parts.1, subst (λ (p : Progress). judge_all query p more ≡ Some last) (sym test.1) found.2)

entries-open : (query : Query) (log : Log) (to_end : Bool) (before : List Part) (worker : ℕ) (done rest : List Entry) (more : List Line) (last : Progress) (now : State)
    → worker < crew_of query.flow → AreKnown query before → AreParts 0 (before ++ part worker (done ++ rest) ∷ []) → OpenAt query log to_end (before ++ part worker done ∷ []) now
    → judge_all query (Within to_end now worker) (map (λ made. line.Entry made) rest ++ more) ≡ Some last
    → GoesOn query log to_end (before ++ part worker (done ++ rest) ∷ []) more last
entries-open query log to_end before worker done [] more last now inside known text begun_leg e =
    record { now = now; worker = worker; underway = subst (λ (l : List Entry). OpenAt query log to_end (before ++ part worker l ∷ []) now) (sym (append-nil done)) begun_leg; rest = e }
entries-open query log to_end before worker done (made ∷ rest) more last now inside known text begun_leg e =
    let whole : (done ++ made ∷ []) ++ rest ≡ done ++ made ∷ rest = append_assoc done (made ∷ []) rest in
    let text_next : AreParts 0 (before ++ part worker ((done ++ made ∷ []) ++ rest) ∷ []) = subst (λ (l : List Entry). AreParts 0 (before ++ part worker l ∷ [])) (sym whole) text in
    let here = entry-line query to_end now worker made (map (λ one. line.Entry one) rest ++ more) last e in
    let longer = longer-next query before worker done made inside known
    (AreParts-shorter 0 before worker (done ++ made ∷ []) rest (some done made) text_next) in
    let next = enter-at query log to_end (before ++ part worker done ∷ []) (before ++ part worker (done ++ made ∷ []) ∷ []) worker made now begun_leg longer here.0 here.1 in
    subst (λ (l : List Entry). GoesOn query log to_end (before ++ part worker l ∷ []) more last) whole
    (entries-open query log to_end before worker (done ++ made ∷ []) rest more last (state_behind query now worker made) inside known text_next next here.2)
  where
    some : (xs : List Entry) (x : Entry) → 0 < length (xs ++ x ∷ [])
    some [] x = omega arith
    some (y ∷ xs) x = omega arith

-- the line of a worker's number
pub worker-line : (query : Query) (to_end : Bool) (now : State) (before worker : ℕ) (more : List Line) (last : Progress)
    → judge_all query (Within to_end now before) (line.Worker worker ∷ more) ≡ Some last
    → (worker < crew_of query.flow) × (judge_all query (Within to_end now worker) more ≡ Some last)
unfolding judge_all
worker-line query to_end now before worker more last e =
    let found = first-of (judge query (Within to_end now before) (line.Worker worker)) (λ next. judge_all query next more) last e in
    let test = passes (ltb worker (crew_of query.flow)) (Within to_end now worker) found.0 found.1 in
    (ltb-true worker (crew_of query.flow) test.0, subst (λ (p : Progress). judge_all query p more ≡ Some last) (sym test.1) found.2)

part-open : (query : Query) (log : Log) (to_end : Bool) (before : List Part) (worker : ℕ) (entries : List Entry) (more : List Line) (last : Progress) (now : State) (other : ℕ)
    → AreKnown query before → AreParts 0 (before ++ part worker entries ∷ []) → OpenAt query log to_end before now
    → judge_all query (Within to_end now other) (line.Worker worker ∷ (map (λ made. line.Entry made) entries ++ more)) ≡ Some last
    → GoesOn query log to_end (before ++ part worker entries ∷ []) more last × (worker < crew_of query.flow)
part-open query log to_end before worker [] more last now other known text begun_leg e =
    let is = AreParts-last 0 before (part worker []) text in
    let some = is.some in
    absurd (omega arith)
part-open query log to_end before worker (made ∷ entries) more last now other known text begun_leg e =
    let own = worker-line query to_end now other worker (map (λ one. line.Entry one) (made ∷ entries) ++ more) last e in
    let here = entry-line query to_end now worker made (map (λ one. line.Entry one) entries ++ more) last own.1 in
    let longer = longer-first query before worker made own.0 known (AreParts-shorter 0 before worker (made ∷ []) entries (omega arith) text) in
    let next = enter-at query log to_end before (before ++ part worker (made ∷ []) ∷ []) worker made now begun_leg longer here.0 here.1 in
    (entries-open query log to_end before worker (made ∷ []) entries more last (state_behind query now worker made) own.0 known text next here.2, own.0)

-- the lines of parts
pub parts-open : (query : Query) (log : Log) (to_end : Bool) (before rest : List Part) (more : List Line) (last : Progress) (now : State) (other : ℕ)
    → AreKnown query before → AreParts 0 (before ++ rest) → OpenAt query log to_end before now
    → judge_all query (Within to_end now other) (flat_map part_lines rest ++ more) ≡ Some last → GoesOn query log to_end (before ++ rest) more last
parts-open query log to_end before [] more last now other known text begun_leg e =
    record { now = now; worker = other; underway = subst (λ (l : List Part). OpenAt query log to_end l now) (sym (append-nil before)) begun_leg; rest = e }
parts-open query log to_end before (one ∷ rest) more last now other known text begun_leg e =
    let whole : (before ++ one ∷ []) ++ rest ≡ before ++ one ∷ rest = append_assoc before (one ∷ []) rest in
    let text_next : AreParts 0 ((before ++ one ∷ []) ++ rest) = subst (AreParts 0) (sym whole) text in
    let lines : judge_all query (Within to_end now other) (line.Worker one.worker ∷ (map (λ made. line.Entry made) one.entries ++ (flat_map part_lines rest ++ more))) ≡ Some last =
    ap (λ (l : List Line). judge_all query (Within to_end now other) (line.Worker one.worker ∷ l))
    (sym (append_assoc (map (λ made. line.Entry made) one.entries) (flat_map part_lines rest) more)) ∙ e in
    let found = part-open query log to_end before one.worker one.entries (flat_map part_lines rest ++ more) last now other known
    (AreParts-front 0 (before ++ one ∷ []) rest text_next) begun_leg lines in
    subst (λ (l : List Part). GoesOn query log to_end l more last) whole
    (parts-open query log to_end (before ++ one ∷ []) rest more last found.0.now found.0.worker (known-push query before one.worker one.entries known found.1) text_next found.0.underway found.0.rest)

-- ---- items

-- the log with an item more
abbrev pub with_item : Log → Item → Log
with_item log one = record { batch = log.batch; items = log.items ++ one ∷ [] }

-- where judging goes on after a log
pub record GoesBehind (query : Query) (log : Log) (more : List Line) (last : Progress) : Type 0 where
  pub after : State
  pub legal : LegalAt query log after
  pub rest : judge_all query (Between after) more ≡ Some last

command-legal : (query : Query) (log : Log) (command : Command) (more : List Line) (last : Progress) (state : State) → LegalAt query log state
    → ends_over false log.items ≡ false → IsItem (item.Do command) → judge_all query (Between state) (line.Do command ∷ more) ≡ Some last
    → GoesBehind query (with_item log (item.Do command)) more last
unfolding judge_all
command-legal query log command more last state legal may is e =
    let found = first-of (judge query (Between state) (line.Do command)) (λ next. judge_all query next more) last e in
    let test = passes (fits_of query.flow command) (Between (after_command query.flow command state)) found.0 found.1 in
    record {
      after = after_command query.flow command state;
      legal = legal_logs_grow query log.batch log.items (item.Do command) (after_command query.flow command state) legal.0 may is
          (test.0, ap (after_command query.flow command) (sym legal.1));
      rest = subst (λ (p : Progress). judge_all query p more ≡ Some last) (sym test.1) found.2;
    }

closed-run : (query : Query) (log : Log) (parts : List Part) (closed : Close) (more : List Line) (last : Progress) (now : State) (worker : ℕ) → OpenAt query log false parts now
    → judge_all query (Within false now worker) (line.Close closed ∷ more) ≡ Some last
    → GoesBehind query (with_item log (item.Run (record { parts = parts; close = closed }))) more last
unfolding judge_all
closed-run query log parts closed more last now worker begun_leg e =
    let found = first-of (judge query (Within false now worker) (line.Close closed)) (λ next. judge_all query next more) last e in
    let test = passes (may_close_run query now closed) (Between (after_close query now closed)) found.0 found.1 in
    let grown = runs_close query log parts closed begun_leg.0 (close_run-from query begun_leg.0.now closed (ap (λ (s : State). may_close_run query s closed) begun_leg.1 ∙ test.0)) in
    record {
      after = after_close query now closed;
      legal = (grown.0, grown.1 ∙ ap (λ (s : State). after_close query s closed) begun_leg.1);
      rest = subst (λ (p : Progress). judge_all query p more ≡ Some last) (sym test.1) found.2;
    }

closed-end : (query : Query) (log : Log) (parts : List Part) (closed : Close) (more : List Line) (last : Progress) (now : State) (worker : ℕ) → OpenAt query log true parts now
    → judge_all query (Within true now worker) (line.Close closed ∷ more) ≡ Some last
    → GoesBehind query (with_item log (item.End (record { parts = parts; close = closed }))) more last
unfolding judge_all
closed-end query log parts closed more last now worker begun_leg e =
    let found = first-of (judge query (Within true now worker) (line.Close closed)) (λ next. judge_all query next more) last e in
    let test = passes (may_close_end query now closed) (Between now) found.0 found.1 in
    let grown = ends_close query log parts closed begun_leg.0 (close_end-from query begun_leg.0.now closed (ap (λ (s : State). may_close_end query s closed) begun_leg.1 ∙ test.0)) in
    record {
      after = now;
      legal = (grown.0, grown.1 ∙ begun_leg.1);
      rest = subst (λ (p : Progress). judge_all query p more ≡ Some last) (sym test.1) found.2;
    }

nobody-known : (query : Query) → AreKnown query []
nobody-known query worker none = absurd (false≢true none)

pub opens : (query : Query) (log : Log) (to_end : Bool) (state : State) → LegalAt query log state → ends_over false log.items ≡ false
    → OpenAt query log to_end [] (leg_start to_end state)
opens query log to_end state legal may =
    let leg = legs_open query log to_end legal.0 may in
    (leg.0, leg.1 ∙ ap (leg_start to_end) legal.1)

-- the lines of a leg's parts, from its opening
pub leg-open : (query : Query) (log : Log) (to_end : Bool) (parts : List Part) (more : List Line) (last : Progress) (state : State) → LegalAt query log state
    → ends_over false log.items ≡ false → AreParts 0 parts → judge_all query (Within to_end (leg_start to_end state) 0) (flat_map part_lines parts ++ more) ≡ Some last
    → GoesOn query log to_end parts more last
leg-open query log to_end parts more last state legal may text e =
    parts-open query log to_end [] parts more last (leg_start to_end state) 0 (nobody-known query) text (opens query log to_end state legal may) e

leg-lines : (query : Query) (log : Log) (to_end : Bool) (leg : Leg) (more : List Line) (last : Progress) (state : State) → LegalAt query log state
    → ends_over false log.items ≡ false → AreParts 0 leg.parts
    → judge_all query (Within to_end (leg_start to_end state) 0) ((flat_map part_lines leg.parts ++ line.Close leg.close ∷ []) ++ more) ≡ Some last
    → GoesOn query log to_end leg.parts (line.Close leg.close ∷ more) last
leg-lines query log to_end leg more last state legal may text e =
    leg-open query log to_end leg.parts (line.Close leg.close ∷ more) last state legal may text
    (ap (judge_all query (Within to_end (leg_start to_end state) 0)) (sym (append_assoc (flat_map part_lines leg.parts) (line.Close leg.close ∷ []) more)) ∙ e)

item-legal : (query : Query) (log : Log) (one : Item) (more : List Line) (last : Progress) (state : State) → LegalAt query log state
    → ends_over false log.items ≡ false → IsItem one → judge_all query (Between state) (item_lines one ++ more) ≡ Some last → GoesBehind query (with_item log one) more last
unfolding judge_all
item-legal query log (item.Do command) more last state legal may is e = command-legal query log command more last state legal may is e
item-legal query log (item.Run leg) more last state legal may is e =
    let begun_leg = leg-lines query log false leg more last state legal may is e in
    closed-run query log leg.parts leg.close more last begun_leg.now begun_leg.worker begun_leg.underway begun_leg.rest
item-legal query log (item.End leg) more last state legal may is e =
    let begun_leg = leg-lines query log true leg more last state legal may is e in
    closed-end query log leg.parts leg.close more last begun_leg.now begun_leg.worker begun_leg.underway begun_leg.rest

-- the items of a log
abbrev log_of : ℕ → List Item → Log
log_of batch items = record { batch = batch; items = items }

items-legal : (query : Query) (batch : ℕ) (done rest : List Item) (more : List Line) (last : Progress) (state : State) → LegalAt query (log_of batch done) state
    → AreItems (ends_over false done) rest → judge_all query (Between state) (flat_map item_lines rest ++ more) ≡ Some last
    → GoesBehind query (log_of batch (done ++ rest)) more last
unfolding AreItems
items-legal query batch done [] more last state legal is e =
    record { after = state; legal = subst (λ (l : List Item). LegalAt query (log_of batch l) state) (sym (append-nil done)) legal; rest = e }
items-legal query batch done (one ∷ rest) more last state legal is e =
    let next = item-legal query (log_of batch done) one (flat_map item_lines rest ++ more) last state legal is.0 is.1
    (ap (judge_all query (Between state)) (sym (append_assoc (item_lines one) (flat_map item_lines rest) more)) ∙ e) in
    subst (λ (l : List Item). GoesBehind query (log_of batch l) more last) (append_assoc done (one ∷ []) rest)
    (items-legal query batch (done ++ one ∷ []) rest more last next.after next.legal
    (subst (λ (b : Bool). AreItems b rest) (sym (ends_over-push false done one)) is.2) next.rest)

head-legal : (query : Query) (batch : ℕ) → IsBatch batch → batch ≡ query.batch_size → LegalAt query (log_of batch []) (start_of query.flow)
unfolding AreItems Reaches
head-legal query batch is same = (record { text = record { batch = is; items = tt }; batch = same; after = start_of query.flow; reached = refl }, refl)

-- a whole log's lines, and what follows them
pub log-legal : (query : Query) (log : Log) (more : List Line) (last : Progress) → IsLog log → judge_all query Fresh (log_lines log ++ more) ≡ Some last
    → GoesBehind query log more last
unfolding judge_all
log-legal query log more last is e =
    let found = first-of (judge query Fresh (line.Head log.batch)) (λ next. judge_all query next (flat_map item_lines log.items ++ more)) last e in
    let test = passes (eqb log.batch query.batch_size) (Between (start_of query.flow)) found.0 found.1 in
    items-legal query log.batch [] log.items more last (start_of query.flow) (head-legal query log.batch is.batch (eqb-true log.batch query.batch_size test.0)) is.items
    (subst (λ (p : Progress). judge_all query p (flat_map item_lines log.items ++ more) ≡ Some last) (sym test.1) found.2)
