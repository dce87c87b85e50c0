-- How a session ends.
use Rattle.std.proofs.Common.{◌≡◌, ℕ, ◌+◌, ◌<◌, ◌≤◌, inl, inr, not, List, [], ◌∷◌, ◌++◌, length, map, Option, Ok, Err, Bool, true, false, refl, sym, ap, subst, ◌∙◌, append_assoc, arith, length-append}
use Rattle.std.proofs.lemmas.List.{append-nil}
use Rattle.std.proofs.lemmas.List.Folds.{list_all-append}
use Rattle.std.specs.Io.KnownBytes.{Appends}
use Rattle.amber_rows.specs.FlowRules.{IsFlow}
use Rattle.amber_io.specs.Folder.{Named, with_file}
use Rattle.amber_io.specs.World.{World}
use Rattle.amber_log.specs.Grammar.{ends_over, is_last}
use Rattle.amber_log.specs.LogText.{log_text}
use Rattle.amber_log.specs.declared.command.Command.{Command}
use Rattle.amber_log.specs.declared.command.Command.TheVariants as command
use Rattle.amber_log.specs.declared.log.Item.{Item}
use Rattle.amber_log.specs.declared.log.Item.TheVariants as item
use Rattle.amber_log.specs.declared.log.Log.{Log}
use Rattle.amber_meaning.specs.InTime.{AreInTime}
use Rattle.amber_meaning.specs.Legal.{IsLegal, IsUnaltered, Query, alters}
use Rattle.amber_meaning.specs.Plain.{answer_of}
use Rattle.amber_meaning.specs.Replay.{state_after}
use Rattle.amber_meaning.specs.State.{start_of}
use Rattle.amber_meaning.specs.Texts.{answer_text}
use Rattle.amber_meaning.specs.Total.{step_total}
use Rattle.amber_meaning.specs.Transcript.{reply_of, transcript_of}
use Rattle.amber_meaning.proofs.Fronts.{transcripts_grow}
use Rattle.amber_leg.specs.Leg.{most_late}
use Rattle.amber_debug.specs.Session.{Session, command_of, is_long_item, one_more, query_in}
use Rattle.amber_course.specs.declared.failure.Failure.{Failure}
use Rattle.amber_course.specs.declared.failure.Failure.TheVariants as failure
use Rattle.amber_course.specs.declared.session.SessionJob.{SessionJob}
use Rattle.amber_course.proofs.Lines.{appends-on}
use Rattle.amber_recorder.specs.Left.{AlterNothing, IsHalted, IsWritten, ends_long, log_with}
use Rattle.amber_recorder.specs.Recording.{Doing, Performs, reply_to}
use Rattle.amber_recorder.proofs.Halting.{ends_long-push, item-place, items-in-time, next-item, performs-halts}
use Rattle.amber_recorder.proofs.Last.{end-answers, total-of, unaltered-items}
use Rattle.amber_laws.proofs.CountReplies.{stop-for-counts}
use Rattle.amber_script.specs.Script.{said_by, script_lines, script_of}
use Rattle.amber_script.specs.declared.script_line.ScriptLine.{ScriptLine}
use Rattle.amber_script.specs.declared.script_line.ScriptLine.TheVariants as script_line
use Rattle.amber_session.specs.Answers.{HasAnswered, IsSound, StopsAtLine, StopsIn, Stretch, doing, most_session_steps}
use Rattle.amber_session.specs.Spoken.{HasSpoken, IsCutShort, IsAllDone, NothingCame, LosesLine, LosesNext, NoneWaits, Origin, Plan, query_for}
use Rattle.amber_session.specs.Talk.{accepted, talk_of}
use Rattle.amber_session.proofs.Speaking.{said-script, spoken-on}

-- what a session runs
query-job : (job : SessionJob) (run : Session) → run.flow ≡ job.inputs.flow → run.files ≡ job.inputs.files → IsSound run → run.log.batch ≡ job.batch_size → query_in run ≡ query_for job
query-job job run flow files sound batch = rw (flow, files, sound.most, batch) refl

-- ---- a session that was finished

-- the reply to the end is the answer
done-answer : (job : SessionJob) (done : List Item) (last : Item) → IsFlow job.inputs.flow → IsLegal (query_for job) (record { batch = job.batch_size; items = done ++ last ∷ [] })
    → command_of last ≡ command.End → is_long_item last ≡ false → IsUnaltered (done ++ last ∷ [])
    → reply_of (query_for job) (state_after (query_for job) done) last ≡ answer_text job.inputs.flow (answer_of job.inputs.flow job.inputs.files)
done-answer job done last flow legal ends short unaltered = end-answers job.inputs.flow job.inputs.files job.batch_size most_session_steps done last flow legal ends short unaltered

-- the input was a script
done-script : (o : Origin) (job : SessionJob) (input : List ℕ) (after : World) (done : List Item) (last : Item) → map command_of done ≡ accepted job.inputs.flow (script_lines input)
    → Appends o.got after.got (talk_of (query_for job) (script_lines input) done ++ reply_of (query_for job) (state_after (query_for job) done) last)
    → (commands : List Command) → script_of input job.inputs.flow ≡ Ok commands
    → (map command_of done ≡ commands) × Appends o.got after.got (transcript_of (query_for job) (done ++ last ∷ []))
unfolding script_of
done-script o job input after done last are sent commands e =
    let said = said-script (query_for job) (script_lines input) commands done e (λ same. are ∙ same) in
    (are ∙ said.0, rw ((transcripts_grow (query_for job) done last).0, ← said.1) sent)

-- all lines were answered, and then came the end
pub done-spoken : {A : Type 0} (x : A) (o : Origin) (job : SessionJob) (run new : Session) (input : List ℕ) (lines : List (List ℕ)) (before after : World)
    → IsFlow job.inputs.flow → run.flow ≡ job.inputs.flow → run.files ≡ job.inputs.files → run.log.batch ≡ job.batch_size
    → HasSpoken o (record { name = job.log; run = run; lines = lines }) before → lines ≡ script_lines input
    → Performs (Ok x) (record { name = job.log; command = command.End; old = run; new = new; before = before; after = after }) → IsLegal (query_in new) new.log → IsAllDone o job input after
done-spoken x o job run new input lines before after is flow files batch h all (one, (grew, file), short, put) lawful =
    let query = query-job job run flow files h.sound batch in
    let done = run.log.items in
    let next = next-item run new command.End one grew lawful in
    let legal : IsLegal (query_for job) (record { batch = job.batch_size; items = done ++ one ∷ [] }) =
    subst (λ b. IsLegal (query_for job) (record { batch = b; items = done ++ one ∷ [] })) batch (subst (λ query. IsLegal query (one_more run.log one)) query next.legal) in
    let in_time : AreInTime (query_for job) most_late (start_of job.inputs.flow) (done ++ one ∷ []) =
    subst (λ (query : Query). AreInTime query most_late (start_of query.flow) (done ++ one ∷ [])) query (items-in-time run command.End one h.sound.in_time next) in
    let commands : map command_of done ≡ accepted job.inputs.flow (script_lines input) =
    h.commands ∙ ap (λ flow. accepted flow lines) flow ∙ ap (λ lines. accepted job.inputs.flow lines) all in
    let sent : Appends o.got after.got (talk_of (query_for job) (script_lines input) done ++ reply_of (query_for job) (state_after (query_for job) done) one) =
    subst (λ lines. Appends o.got after.got (talk_of (query_for job) lines done ++ reply_of (query_for job) (state_after (query_for job) done) one)) all
    (subst (λ (query : Query). Appends o.got after.got (talk_of query lines done ++ reply_of query (state_after query done) one)) query
    (appends-on o.got before.got after.got (talk_of (query_in run) lines done) (reply_to run one) h.sent put)) in
    record {
      done = done;
      last = one;
      legal = legal;
      in_time = in_time;
      commands = commands;
      ends = next.command;
      place = item-place o.told job.log run.log one before.files after.files h.place file
          ∙ ap (λ b. with_file o.told job.log (log_text (record { batch = b; items = done ++ one ∷ [] }))) batch;
      sent = sent;
      answer = done-answer job done one is legal next.command short;
      counts = stop-for-counts (query_for job) (record { batch = job.batch_size; items = done ++ one ∷ [] }) is legal;
      scripted = done-script o job input after done one commands sent;
    }

-- ---- a session that was cut short

open-short : (over long : Bool) (items : List Item) → (over ≡ false → long ≡ false) → ends_over over items ≡ false → ends_long long items ≡ false
open-short over long [] h e = h e
open-short over long (one ∷ more) h e = open-short (is_last one) (is_long_item one) more (last-long one) e
  where
    last-long : (one : Item) → is_last one ≡ false → is_long_item one ≡ false
    last-long (item.Do c) e = refl
    last-long (item.Run leg) e = e
    last-long (item.End leg) e = cc

written : (o : Origin) (d : Doing) (lines : List (List ℕ)) → HasSpoken o (record { name = d.name; run = d.old; lines = lines }) d.before → IsWritten o.told d
written o d lines h = record {
  legal = h.sound.legal;
  short = open-short false false d.old.log.items (λ e. e) h.sound.more;
  place = h.place;
}

-- ---- a leg that was too long

-- a leg that is too long is no command that sets or drops
unaltered-push : (items : List Item) (one : Item) → IsUnaltered items → alters one ≡ false → IsUnaltered (items ++ one ∷ [])
unaltered-push items one h e = list_all-append (λ one. not (alters one)) items (one ∷ []) ∙ rw (h, e) refl

long-unaltered : (one : Item) → is_long_item one ≡ true → alters one ≡ false
long-unaltered (item.Do c) e = cc
long-unaltered (item.Run leg) e = refl
long-unaltered (item.End leg) e = refl

unaltered-done : (items : List Item) → AlterNothing (map command_of items) → IsUnaltered items
unaltered-done items h = unaltered-items items [] (subst AlterNothing (sym (append-nil (map command_of items))) h)

-- then the query has too many steps, if nothing was altered
long-halted : (told : Option Named) (d : Doing) → IsSound d.old → IsFlow d.old.flow → IsHalted failure.Long told d → AlterNothing (map command_of d.old.log.items)
    → most_session_steps < step_total (query_in d.old)
long-halted told d sound is h nothing = by-last h.last h.few h.legal h.closed
  where
    items : List Item
    items = d.old.log.items

    by-last : (last : List Item) → length last ≤ 1 → IsLegal (query_in d.old) (log_with d last) → ends_long false (items ++ last) ≡ true → most_session_steps < step_total (query_in d.old)
    by-last [] few legal long =
        let short : ends_long false items ≡ false = open-short false false items (λ e. e) sound.more in
        absurd (let never : true ≡ false = sym long ∙ ap (ends_long false) (append-nil items) ∙ short in cc)
    by-last (one ∷ []) few legal long =
        let is-long : is_long_item one ≡ true = sym (ends_long-push false items one) ∙ long in
        let unaltered = unaltered-push items one (unaltered-done items nothing) (long-unaltered one is-long) in
        subst (λ most. most < step_total (query_in d.old)) sound.most (total-of (query_in d.old) (log_with d (one ∷ [])) is legal unaltered long)
    by-last (one ∷ two ∷ more) few legal long = absurd (omega (arith, few))

long-said : (o : Origin) (s : Stretch) (said : ScriptLine) → IsSound s.old → IsFlow s.old.flow → LosesLine failure.Long o s said → AlterNothing (map command_of s.old.log.items)
    → most_session_steps < step_total (query_in s.old)
long-said o s script_line.Skipped sound is h nothing = absurd h.1
long-said o s (script_line.Bad why) sound is h nothing = absurd h
long-said o s (script_line.Command c) sound is h nothing = long-halted o.told (doing s c) sound is h nothing

long-next : (o : Origin) (s : Stretch) (more : List (List ℕ)) (over : Bool) → IsSound s.old → IsFlow s.old.flow → LosesNext failure.Long o s (more, over)
    → AlterNothing (map command_of s.old.log.items) → most_session_steps < step_total (query_in s.old)
long-next o s [] true sound is h nothing = long-halted o.told (doing s command.End) sound is h nothing
long-next o s [] false sound is h nothing = absurd h
long-next o s (line ∷ later) over sound is h nothing = long-said o s (said_by s.old.flow line) sound is h nothing

-- ---- what came next

-- what came of a line that was not answered
stop-line : (f : Failure) (o : Origin) (s : Stretch) (lines : List (List ℕ)) (said : ScriptLine) → HasSpoken o (record { name = s.name; run = s.old; lines = lines }) s.before
    → StopsAtLine f s said → IsLegal (query_in s.new) s.new.log → LosesLine f o s said
stop-line failure.NoMemory o s lines script_line.Skipped h stops legal = (refl, stops.1)
stop-line other o s lines script_line.Skipped h stops legal = absurd stops
stop-line f o s lines (script_line.Bad why) h stops legal = stops
stop-line f o s lines (script_line.Command c) h stops legal = performs-halts (Unit {0}) f o.told (doing s c) (written o (doing s c) lines h) stops legal

-- a session that has come to a line, and what is left of its plan
pub record IsAtLine (o : Origin) (plan : Plan) (s : Stretch) (rest : List (List ℕ)) : Type 0 where
  pub lines : List (List ℕ)
  pub all : lines ++ rest ≡ plan.lines
  pub flow : s.old.flow ≡ plan.job.inputs.flow
  pub files : s.old.files ≡ plan.job.inputs.files
  pub batch : s.old.log.batch ≡ plan.job.batch_size
  pub name : s.name ≡ plan.job.log
  pub number : s.number ≡ length lines + 1
  pub spoken : HasSpoken o (record { name = plan.job.log; run = s.old; lines = lines }) s.before

-- the stretch that is told of it
same-stretch : (o : Origin) (plan : Plan) (s : Stretch) (rest : List (List ℕ)) → (at : IsAtLine o plan s rest)
    → s ≡ record { name = plan.job.log; number = length at.lines + 1; old = s.old; new = s.new; before = s.before; after = s.after }
same-stretch o plan s rest at = rw (← at.name, ← at.number) refl

-- nothing came of it
pub cut-alone : (f : Failure) (o : Origin) (plan : Plan) (s : Stretch) (rest : List (List ℕ)) → IsAtLine o plan s rest → NothingCame f s.before s.after → NoneWaits f rest
    → IsCutShort f o plan s.after
cut-alone f o plan s rest at alone waits = record {
  lines = at.lines;
  more = rest;
  all = at.all;
  old = s.old;
  new = s.new;
  before = s.before;
  flow = at.flow;
  files = at.files;
  batch = at.batch;
  spoken = at.spoken;
  stop = inl (alone, waits);
  long = λ e. absurd (subst (λ f. NothingCame f s.before s.after) e alone);
}

-- it was lost
cut-next : (f : Failure) (o : Origin) (plan : Plan) (s : Stretch) (rest : List (List ℕ)) → IsFlow plan.job.inputs.flow → IsAtLine o plan s rest → LosesNext f o s (rest, plan.over)
    → IsCutShort f o plan s.after
cut-next f o plan s rest is at lost = record {
  lines = at.lines;
  more = rest;
  all = at.all;
  old = s.old;
  new = s.new;
  before = s.before;
  flow = at.flow;
  files = at.files;
  batch = at.batch;
  spoken = at.spoken;
  stop = inr (subst (λ s. LosesNext f o s (rest, plan.over)) (same-stretch o plan s rest at) lost);
  long = λ e nothing.
      subst (λ query. most_session_steps < step_total query) (query-job plan.job s.old at.flow at.files at.spoken.sound at.batch)
      (long-next o s rest plan.over at.spoken.sound (subst IsFlow (sym at.flow) is) (subst (λ f. LosesNext f o s (rest, plan.over)) e lost)
      (subst AlterNothing (sym (at.spoken.commands ∙ ap (λ flow. accepted flow at.lines) at.flow)) nothing));
}

-- a line was not answered
pub cut-line : (f : Failure) (o : Origin) (plan : Plan) (s : Stretch) (line : List ℕ) (later : List (List ℕ)) → IsFlow plan.job.inputs.flow → IsAtLine o plan s (line ∷ later)
    → StopsAtLine f s (said_by s.old.flow line) → IsLegal (query_in s.new) s.new.log → IsCutShort f o plan s.after
cut-line f o plan s line later is at stops legal =
    let spoken : HasSpoken o (record { name = s.name; run = s.old; lines = at.lines }) s.before = rw (← at.name) at at.spoken in
    cut-next f o plan s (line ∷ later) is at (stop-line f o s at.lines (said_by s.old.flow line) spoken stops legal)

-- the command to run to the end was not done
pub cut-end : (A : Type 0) (f : Failure) (o : Origin) (plan : Plan) (s : Stretch) → IsFlow plan.job.inputs.flow → plan.over ≡ true → IsAtLine o plan s []
    → Performs {A = A} (Err f) (doing s command.End) → IsLegal (query_in s.new) s.new.log → IsCutShort f o plan s.after
cut-end A f o plan s is over at performs legal =
    let spoken : HasSpoken o (record { name = s.name; run = s.old; lines = at.lines }) s.before = rw (← at.name) at at.spoken in
    cut-next f o plan s [] is at (subst (λ over. LosesNext f o s ([], over)) (sym over)
    (performs-halts A f o.told (doing s command.End) (written o (doing s command.End) at.lines spoken) performs legal))

-- lines that were answered bring a session to the next one
pub on-lines : (o : Origin) (plan : Plan) (s : Stretch) (mid : Session) (world : World) (front rest : List (List ℕ)) → IsAtLine o plan s (front ++ rest)
    → HasAnswered (record s { new = mid; after = world }) front → IsSound mid
    → IsAtLine o plan (record s { number = s.number + length front; old = mid; before = world }) rest
on-lines o plan s mid world front rest at answers sound = record {
  lines = at.lines ++ front;
  all = append_assoc at.lines front rest ∙ at.all;
  flow = answers.more.flow ∙ at.flow;
  files = answers.more.files ∙ at.files;
  batch = ap (λ (log : Log). log.batch) answers.more.log ∙ at.batch;
  name = at.name;
  number = let n = at.number in omega (arith, n, length-append at.lines front);
  spoken = spoken-on o (record { name = plan.job.log; run = s.old; lines = at.lines }) mid s.before world front at.spoken
      (subst (λ (s : Stretch). HasAnswered s front) (same-stretch o plan (record s { new = mid; after = world }) (front ++ rest) (record {
        lines = at.lines;
        all = at.all;
        flow = at.flow;
        files = at.files;
        batch = at.batch;
        name = at.name;
        number = at.number;
        spoken = at.spoken;
      })) answers) sound;
}

-- one of some lines was not answered
pub cut-lines : (f : Failure) (o : Origin) (plan : Plan) (s : Stretch) (lines rest : List (List ℕ)) → IsFlow plan.job.inputs.flow → IsAtLine o plan s (lines ++ rest)
    → StopsIn f s lines → IsLegal (query_in s.new) s.new.log → IsCutShort f o plan s.after
cut-lines f o plan s lines rest is at stops legal =
    let whole : lines ++ rest ≡ stops.front ++ (stops.line ∷ (stops.later ++ rest)) = ap (λ l. l ++ rest) stops.split ∙ append_assoc stops.front (stops.line ∷ stops.later) rest in
    let here = on-lines o plan s stops.mid stops.world stops.front (stops.line ∷ (stops.later ++ rest)) (subst (λ l. IsAtLine o plan s l) whole at) stops.answered stops.sound in
    cut-line f o plan (record s { number = s.number + length stops.front; old = stops.mid; before = stops.world }) stops.line (stops.later ++ rest) is here stops.stopped legal
