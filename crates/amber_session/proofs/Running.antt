-- A session whose lines come from a source, step by step.
use Rattle.std.proofs.Common.{◌≡◌, ℕ, ◌+◌, ◌-◌, ◌<◌, ◌≤◌, cond, inl, inr, List, [], ◌∷◌, ◌++◌, length, map, Option, Bool, true, false, Ok, Err, refl, sym, ap, subst, ◌∙◌, append-nil, append_assoc, arith, length-append}
use Rattle.std.specs.Io.KnownBytes.{Consumes, IsAtEnd, Keeps}
use Rattle.std.specs.Str.Lines.{strip_carriage_return}
use Rattle.std.proofs.KnownBytes.{Consumes-all, Consumes-kept, Consumes-nil, Consumes-trans}
use Rattle.amber_rows.specs.FlowRules.{IsFlow}
use Rattle.amber_io.specs.World.{World}
use Rattle.amber_log.specs.declared.command.Command.TheVariants as command
use Rattle.amber_log.specs.declared.log.Log.{Log}
use Rattle.amber_meaning.specs.Legal.{IsLegal}
use Rattle.amber_debug.specs.Session.{Session, query_in}
use Rattle.amber_course.specs.declared.failure.Failure.{Failure}
use Rattle.amber_course.specs.declared.failure.Failure.TheVariants as failure
use Rattle.amber_course.specs.declared.input.InputFault.TheVariants as fault
use Rattle.amber_course.specs.declared.session.SessionJob.{SessionJob}
use Rattle.amber_recorder.specs.Recording.{Performs}
use Rattle.amber_recorder.specs.Writing.{FailedAs}
use Rattle.amber_script.specs.Lines.{ended_lines, open_line}
use Rattle.amber_script.specs.Script.{said_by}
use Rattle.amber_script.specs.declared.script_line.ScriptLine.{ScriptLine}
use Rattle.amber_script.specs.declared.script_line.ScriptLine.TheVariants as script_line
use Rattle.amber_script.proofs.OpenLines.{lines_are_ended_or_open, lines_go_on, none-ended, within-open}
use Rattle.amber_session.specs.Answers.{HasAnswered, IsUnread, StopsAtLine, Stretch, doing}
use Rattle.amber_session.specs.Beginning.{MakesLog}
use Rattle.amber_session.specs.Dialogue.{IsGoing, Span, most_input}
use Rattle.amber_session.specs.Feeding.{FeedsBytes, AnswersLast}
use Rattle.amber_session.specs.Running.{CutsOff, FeedsNext, HasCome, HasFed, IsAllOf, IsPieceless, IsSized, MayCutShort, Step, Surroundings, failure_of, origin_of, plan_of}
use Rattle.amber_session.specs.Spoken.{HasSpoken, IsCutShort, IsAllDone, NoneWaits, NothingCame, Origin, Plan}
use Rattle.amber_session.specs.declared.dialogue.Dialogue.{Dialogue}
use Rattle.amber_session.specs.declared.halt.Halt.{Halt}
use Rattle.amber_session.specs.declared.halt.Halt.TheVariants as halt
use Rattle.amber_session.proofs.Calls.{ended-span, span_of}
use Rattle.amber_session.proofs.Ending.{IsAtLine, cut-alone, cut-end, cut-line, cut-lines, done-spoken, on-lines}
use Rattle.amber_session.proofs.Speaking.{spoken-on, spoken-start}

-- ---- where a session stands

-- what a session does from where it has come
abbrev pub stretch_at : Dialogue → Session → World → World → Stretch
stretch_at d new before after = record {
  name = d.log_name;
  number = length (ended_lines d.input.bytes.items) + 1;
  old = d.debugger;
  new = new;
  before = before;
  after = after;
}

-- the line that comes next, and those behind it
at-come : (o : Origin) (job : SessionJob) (plan : Plan) (d : Dialogue) (new : Session) (before after : World) (rest : List (List ℕ)) → plan.job ≡ job → HasCome o job d before
    → ended_lines d.input.bytes.items ++ rest ≡ plan.lines → IsAtLine o plan (stretch_at d new before after) rest
at-come o job plan d new before after rest is h all = record {
  lines = ended_lines d.input.bytes.items;
  all = all;
  flow = rw is h.flow;
  files = rw is h.files;
  batch = rw is h.batch;
  name = rw is h.name;
  number = refl;
  spoken = rw is h.spoken;
}

flow-come : (o : Origin) (job : SessionJob) (d : Dialogue) (world : World) → HasCome o job d world → IsGoing d → IsFlow job.inputs.flow
flow-come o job d world h going = subst IsFlow h.flow going.flow

-- the lines of what was fed before are the first of all
lines-before : (fed piece : List ℕ) → ended_lines fed ++ ended_lines (open_line fed ++ piece) ≡ ended_lines (fed ++ piece)
lines-before fed piece = sym (lines_go_on fed piece).0

-- ---- a piece that was fed

come-fed : (o : Origin) (job : SessionJob) (old new : Dialogue) (before after : World) (piece : List ℕ) → HasCome o job old before
    → FeedsBytes (Ok tt) (stretch_at old new.debugger before after) (span_of old.input.bytes.items piece) → new.input.bytes.items ≡ old.input.bytes.items ++ piece → new.log_name ≡ old.log_name
    → IsGoing new → HasCome o job new after
come-fed o job old new before after piece h (lines, are, answers) bytes name going = record {
  name = name ∙ h.name;
  flow = answers.more.flow ∙ h.flow;
  files = answers.more.files ∙ h.files;
  batch = ap (λ (log : Log). log.batch) answers.more.log ∙ h.batch;
  spoken = subst (λ lines. HasSpoken o (record { name = job.log; run = new.debugger; lines = lines }) after)
      (sym (ap ended_lines bytes ∙ ended-span old.input.bytes.items piece lines are))
      (spoken-on o (record { name = job.log; run = old.debugger; lines = ended_lines old.input.bytes.items }) new.debugger before after lines h.spoken
      (subst (λ name. HasAnswered (record (stretch_at old new.debugger before after) { name = name }) lines) h.name answers) going.sound);
}

pub has-fed : (s : Step) (piece : List ℕ) → Consumes s.before.supply.left s.after.supply.left piece
    → FeedsBytes (Ok tt) (stretch_at s.old s.new.debugger s.before.world s.after.world) (span_of s.old.input.bytes.items piece)
    → s.new.input.bytes.items ≡ s.old.input.bytes.items ++ piece → s.new.log_name ≡ s.old.log_name → IsGoing s.new → HasFed s piece
has-fed s piece taken feeds bytes name going = record {
  fed = bytes;
  taken = taken;
  come = λ o job h. come-fed o job s.old s.new s.before.world s.after.world piece h feeds bytes name going;
}

pub is-empty : (xs : List ℕ) → length xs ≡ 0 → xs ≡ []
is-empty [] e = refl
is-empty (x ∷ xs) e = absurd (omega (arith, e))

-- nothing was left to be fed
pub none-fed : (s : Step) (piece : List ℕ) → Consumes s.before.supply.left s.after.supply.left piece → piece ≡ [] → s.new ≡ s.old → s.after.world ≡ s.before.world → HasFed s []
none-fed s piece taken none same still = record {
  fed = ap (λ (d : Dialogue). d.input.bytes.items) same ∙ sym (append-nil s.old.input.bytes.items);
  taken = rw none at taken;
  come = λ o job h. rw (same, still) h;
}

-- ---- a session that was cut short

-- it is cut short by what may fail at a line
stops-may : (f : Failure) (s : Stretch) (said : ScriptLine) → StopsAtLine f s said → MayCutShort (halt.Failure f)
stops-may failure.NoMemory s said h = tt
stops-may failure.LogFault s said h = tt
stops-may failure.OutFault s said h = tt
stops-may failure.Long s said h = tt
stops-may other s script_line.Skipped h = absurd h
stops-may other s (script_line.Bad why) h = absurd h
stops-may other s (script_line.Command c) h = absurd h

performs-may : (f : Failure) (s : Stretch) → Performs {A = Unit {0}} (Err f) (doing s command.End) → MayCutShort (halt.Failure f)
performs-may f s h = stops-may f s (script_line.Command command.End) h

feeds-may : (f : Failure) (s : Stretch) (span : Span) → FeedsBytes (Err f) s span → MayCutShort (halt.Failure f)
feeds-may f s span (inl (lines, are, stops)) =
    stops-may f (record s { number = s.number + length stops.front; old = stops.mid; before = stops.world }) (said_by stops.mid.flow stops.line) stops.stopped
feeds-may failure.NoMemory s span (inr unread) = tt
feeds-may other s span (inr unread) = absurd unread

-- a piece was not fed
unread-alone : (f : Failure) (s : Stretch) → IsUnread f s → NothingCame f s.before s.after
unread-alone failure.NoMemory s h = h.1
unread-alone other s h = absurd h

unread-waits : (f : Failure) (s : Stretch) (more : List (List ℕ)) → IsUnread f s → NoneWaits f more
unread-waits failure.NoMemory s more h = tt
unread-waits other s more h = absurd h

cut-fed : (f : Failure) (o : Origin) (job : SessionJob) (old : Dialogue) (new : Session) (before after : World) (piece : List ℕ) → IsGoing old → HasCome o job old before
    → FeedsBytes (Err f) (stretch_at old new before after) (span_of old.input.bytes.items piece) → IsLegal (query_in new) new.log
    → IsCutShort f o (plan_of job (old.input.bytes.items ++ piece) false) after
cut-fed f o job old new before after piece going h (inl (lines, are, stops)) legal =
    let fed = old.input.bytes.items in
    let plan = plan_of job (fed ++ piece) false in
    let all : ended_lines fed ++ (lines ++ []) ≡ plan.lines = ap (λ l. ended_lines fed ++ l) (append-nil lines) ∙ sym (ended-span fed piece lines are) in
    cut-lines f o plan (stretch_at old new before after) lines [] (flow-come o job old before h going) (at-come o job plan old new before after (lines ++ []) refl h all) stops legal
cut-fed f o job old new before after piece going h (inr unread) legal =
    let fed = old.input.bytes.items in
    let plan = plan_of job (fed ++ piece) false in
    let rest = ended_lines (open_line fed ++ piece) in
    cut-alone f o plan (stretch_at old new before after) rest (at-come o job plan old new before after rest refl h (lines-before fed piece)) (unread-alone f (stretch_at old new before after) unread)
    (unread-waits f (stretch_at old new before after) rest unread)

pub feed-cuts : (f : Failure) (s : Step) (piece : List ℕ) → Consumes s.before.supply.left s.after.supply.left piece → IsGoing s.old
    → length (s.old.input.bytes.items ++ piece) ≤ most_input
    → FeedsBytes (Err f) (stretch_at s.old s.new.debugger s.before.world s.after.world) (span_of s.old.input.bytes.items piece) → IsLegal (query_in s.new.debugger) s.new.debugger.log
    → CutsOff (halt.Failure f) s
feed-cuts f s piece taken going few feeds legal = record {
  may = feeds-may f (stretch_at s.old s.new.debugger s.before.world s.after.world) (span_of s.old.input.bytes.items piece) feeds;
  input = piece;
  taken = taken;
  sized = few;
  cut = λ o job h. cut-fed f o job s.old s.new.debugger s.before.world s.after.world piece going h feeds legal;
}

-- nothing more came of the input
cut-input : (f : Failure) (o : Origin) (job : SessionJob) (d : Dialogue) (world : World) (piece : List ℕ) → NothingCame f world world
    → NoneWaits f (ended_lines (open_line d.input.bytes.items ++ piece)) → HasCome o job d world → IsCutShort f o (plan_of job (d.input.bytes.items ++ piece) false) world
cut-input f o job d world piece alone waits h =
    let plan = plan_of job (d.input.bytes.items ++ piece) false in
    let rest = ended_lines (open_line d.input.bytes.items ++ piece) in
    cut-alone f o plan (stretch_at d d.debugger world world) rest (at-come o job plan d d.debugger world world rest refl h (lines-before d.input.bytes.items piece)) alone waits

input-cuts : (h : Halt) (s : Step) (piece : List ℕ) → MayCutShort h → Consumes s.before.supply.left s.after.supply.left piece → IsSized h (s.old.input.bytes.items ++ piece)
    → s.after.world ≡ s.before.world → ((world : World) → NothingCame (failure_of h) world world)
    → NoneWaits (failure_of h) (ended_lines (open_line s.old.input.bytes.items ++ piece)) → CutsOff h s
input-cuts h s piece may taken sized still alone waits = record {
  may = may;
  input = piece;
  taken = taken;
  sized = sized;
  cut = λ o job c. subst (λ world. IsCutShort (failure_of h) o (plan_of job (s.old.input.bytes.items ++ piece) false) world) (sym still)
      (cut-input (failure_of h) o job s.old s.before.world piece (alone s.before.world) waits c);
}

-- nothing more was fed
nothing-more : (s : Step) → IsGoing s.old → length (s.old.input.bytes.items ++ []) ≤ most_input
nothing-more s going = subst (λ bytes. length bytes ≤ most_input) (sym (append-nil s.old.input.bytes.items)) going.few

-- what is open ends no line
no-line : (fed : List ℕ) → ended_lines (open_line fed ++ []) ≡ []
no-line fed = ap ended_lines (append-nil (open_line fed)) ∙ ap (map strip_carriage_return) (none-ended (open_line fed) (within-open fed))

-- no piece was read
pub piece-cuts : (h : Halt) (s : Step) → IsGoing s.old → IsPieceless h → Keeps s.before.supply.left s.after.supply.left → s.after.world ≡ s.before.world → CutsOff h s
piece-cuts (halt.Failure failure.NoMemory) s going is keeps still =
    input-cuts (halt.Failure failure.NoMemory) s [] tt (Consumes-kept s.before.supply.left s.before.supply.left s.after.supply.left [] (Consumes-nil s.before.supply.left) keeps) (nothing-more s going) still
    (λ world. (refl, refl)) tt
piece-cuts (halt.Failure other) s going is keeps still = absurd is
piece-cuts (halt.Input fault.Unread) s going is keeps still =
    input-cuts (halt.Input fault.Unread) s [] tt (Consumes-kept s.before.supply.left s.before.supply.left s.after.supply.left [] (Consumes-nil s.before.supply.left) keeps) (nothing-more s going) still
    (λ world. (refl, refl)) (no-line s.old.input.bytes.items)
piece-cuts (halt.Input fault.Large) s going is keeps still = absurd is

-- a piece was read that is too large
pub large-cuts : (s : Step) (piece : List ℕ) → Consumes s.before.supply.left s.after.supply.left piece → IsSized (halt.Input fault.Large) (s.old.input.bytes.items ++ piece)
    → s.after.world ≡ s.before.world → CutsOff (halt.Input fault.Large) s
large-cuts s piece taken sized still = input-cuts (halt.Input fault.Large) s piece tt taken sized still (λ world. (refl, refl)) tt

-- ---- one step after the other

-- two steps
abbrev pub joined : Step → Dialogue → Surroundings → Step
joined s new after = record s { new = new; after = after }

pub fed-on : (s : Step) (new : Dialogue) (after : Surroundings) (xs ys : List ℕ) → HasFed s xs → HasFed (record { old = s.new; new = new; before = s.after; after = after }) ys
    → HasFed (joined s new after) (xs ++ ys)
fed-on s new after xs ys a b = record {
  fed = b.fed ∙ ap (λ l. l ++ ys) a.fed ∙ append_assoc s.old.input.bytes.items xs ys;
  taken = Consumes-trans s.before.supply.left s.after.supply.left after.supply.left xs ys a.taken b.taken;
  come = λ o job h. b.come o job (a.come o job h);
}

pub cuts-on : (h : Halt) (s : Step) (new : Dialogue) (after : Surroundings) (xs : List ℕ) → HasFed s xs → CutsOff h (record { old = s.new; new = new; before = s.after; after = after })
    → CutsOff h (joined s new after)
cuts-on h s new after xs a b =
    let whole : s.new.input.bytes.items ++ b.input ≡ s.old.input.bytes.items ++ (xs ++ b.input) = ap (λ l. l ++ b.input) a.fed ∙ append_assoc s.old.input.bytes.items xs b.input in
    record {
      may = b.may;
      input = xs ++ b.input;
      taken = Consumes-trans s.before.supply.left s.after.supply.left after.supply.left xs b.input a.taken b.taken;
      sized = subst (IsSized h) whole b.sized;
      cut = λ o job c. subst (λ bytes. IsCutShort (failure_of h) o (plan_of job bytes false) after.world) whole (b.cut o job (a.come o job c));
    }

-- before anything was fed
pub fed-none : (d : Dialogue) (at : Surroundings) → HasFed (record { old = d; new = d; before = at; after = at }) []
fed-none d at = record {
  fed = sym (append-nil d.input.bytes.items);
  taken = Consumes-nil at.supply.left;
  come = λ o job h. h;
}

-- all of the source was fed, where nothing is left of it
pub all-taken : (before after : Option (List ℕ)) (input : List ℕ) → Consumes before after input → IsAtEnd after → IsAllOf input before
all-taken before after input taken ends = Consumes-all before after input [] input taken ends refl

-- ---- from the beginning to the end

-- a session that was begun
pub come-begun : (job : SessionJob) (d : Dialogue) (before after : World) → MakesLog (Ok d) job before after → IsGoing d → HasCome (origin_of before) job d after
come-begun job d before after (begun, made, same) going = record {
  name = begun.name;
  flow = begun.flow;
  files = begun.files;
  batch = ap (λ (log : Log). log.batch) begun.log;
  spoken = subst (λ lines. HasSpoken (origin_of before) (record { name = job.log; run = d.debugger; lines = lines }) after) (sym (ap ended_lines begun.fed ∙ none))
      (spoken-start (origin_of before) d.debugger job.log job.batch_size after going.sound begun.log made same);
}
  where
    none : ended_lines [] ≡ []
    none = ap (λ lines. map strip_carriage_return lines) (none-ended [] refl)

-- the last line
at-last : (o : Origin) (job : SessionJob) (d : Dialogue) (new : Session) (before after : World) → HasCome o job d before
    → IsAtLine o (plan_of job d.input.bytes.items true) (stretch_at d new before after) (strip_carriage_return (open_line d.input.bytes.items) ∷ [])
at-last o job d new before after h =
    at-come o job (plan_of job d.input.bytes.items true) d new before after (strip_carriage_return (open_line d.input.bytes.items) ∷ []) refl h (sym (lines_are_ended_or_open d.input.bytes.items))

-- the last line was not answered, or the end did not come
pub finish-cuts : (f : Failure) (o : Origin) (job : SessionJob) (d : Dialogue) (new : Session) (before after : World) → IsGoing d → HasCome o job d before
    → AnswersLast (Err f) (stretch_at d new before after) (strip_carriage_return (open_line d.input.bytes.items)) → IsLegal (query_in new) new.log
    → IsCutShort f o (plan_of job d.input.bytes.items true) after
finish-cuts f o job d new before after going h (inl stops) legal =
    cut-line f o (plan_of job d.input.bytes.items true) (stretch_at d new before after) (strip_carriage_return (open_line d.input.bytes.items)) [] (flow-come o job d before h going)
    (at-last o job d new before after h) stops legal
finish-cuts f o job d new before after going h (inr ends) legal =
    let plan = plan_of job d.input.bytes.items true in
    let line = strip_carriage_return (open_line d.input.bytes.items) in
    let s = stretch_at d new before after in
    let here = on-lines o plan s ends.mid ends.world (line ∷ []) [] (at-last o job d new before after h) ends.answered ends.sound in
    cut-end (Unit {0}) f o plan (record s { number = s.number + length (line ∷ []); old = ends.mid; before = ends.world }) (flow-come o job d before h going) refl here ends.ended legal

pub finish-may : (f : Failure) (s : Stretch) (line : List ℕ) → AnswersLast (Err f) s line → MayCutShort (halt.Failure f)
finish-may f s line (inl stops) = stops-may f s (said_by s.old.flow line) stops
finish-may f s line (inr ends) = performs-may f (record s { old = ends.mid; before = ends.world }) ends.ended

-- all was answered, and the end came
pub finish-done : (o : Origin) (job : SessionJob) (d : Dialogue) (new : Session) (before after : World) → IsGoing d → HasCome o job d before
    → AnswersLast (Ok tt) (stretch_at d new before after) (strip_carriage_return (open_line d.input.bytes.items)) → IsLegal (query_in new) new.log → IsAllDone o job d.input.bytes.items after
finish-done o job d new before after going h ends legal =
    let plan = plan_of job d.input.bytes.items true in
    let line = strip_carriage_return (open_line d.input.bytes.items) in
    let here = on-lines o plan (stretch_at d new before after) ends.mid ends.world (line ∷ []) [] (at-last o job d new before after h) ends.answered ends.sound in
    done-spoken (tt {0}) o job ends.mid new d.input.bytes.items here.lines ends.world after (flow-come o job d before h going) here.flow here.files here.batch here.spoken
    (sym (append-nil here.lines) ∙ here.all) (subst (λ name. Performs {A = Unit {0}} (Ok tt) (record { name = name; command = command.End; old = ends.mid; new = new; before = ends.world; after = after })) h.name ends.ended) legal

-- no load has failed
pub loads-same : (f : Failure) (before after : World) → FailedAs f before after → after.loads ≡ before.loads
loads-same failure.LogFault before after h = h.0
loads-same failure.OutFault before after h = h.0
loads-same other before after h = h.0

-- ---- piece after piece

-- what was fed so far, with the next piece
abbrev FedSo : Bool → Step → Type 0
FedSo more s = (input : List ℕ) × HasFed s input × (more ≡ false → IsAllOf input s.before.supply.left)

pub next-on : (more : Bool) (s : Step) (new : Dialogue) (after : Surroundings) (xs : List ℕ) → HasFed s xs → FeedsNext (Ok more) (record { old = s.new; new = new; before = s.after; after = after })
    → FedSo more (joined s new after)
next-on true s new after xs a (ys, b, some) = (xs ++ ys, fed-on s new after xs ys a b, λ e. let never : true ≡ false = e in cc)
next-on false s new after xs a (b, ends) =
    (xs ++ [], fed-on s new after xs [] a b, λ e. subst (λ input. IsAllOf input s.before.supply.left) (sym (append-nil xs)) (all-taken s.before.supply.left s.after.supply.left xs a.taken ends))

some-longer : (ys : List ℕ) → (ys ≡ [] → ⊥) → 0 < length ys
some-longer [] some = absurd (some refl)
some-longer (y ∷ ys) some = omega arith

-- less is left to be fed
pub less-left : (more : Bool) (s : Step) → FeedsNext (Ok more) s → IsGoing s.new
    → cond more (most_input - length s.new.input.bytes.items + 1) 0 < most_input - length s.old.input.bytes.items + 1
less-left true s (ys, fed, some) going =
    let longer : 0 < length ys = some-longer ys some in
    let size : length s.new.input.bytes.items ≡ length s.old.input.bytes.items + length ys = ap length fed.fed ∙ length-append s.old.input.bytes.items ys in
    let few : length s.new.input.bytes.items ≤ most_input = going.few in
    omega (arith, longer, size, few)
less-left false s h going = omega arith
