-- What a session's caller sees of its calls.
use Rattle.std.proofs.Common.{◌≡◌, ℕ, ◌≤◌, inl, inr, List, ◌++◌, length, take, Option, None, false, Result, Ok, Err, IfOk, refl, sym, ap, subst, ◌∙◌, arith}
use Rattle.std.proofs.lemmas.List.{take-append-le, take_all}
use Rattle.std.specs.Result.{result_err}
use Rattle.std.specs.Str.Lines.{strip_carriage_return}
use Rattle.amber_io.specs.Folder.{IsThere, Told, with_file}
use Rattle.amber_io.specs.World.{World}
use Rattle.amber_log.specs.LogText.{head_text, log_text}
use Rattle.amber_log.proofs.Pushes.{log_text-head}
use Rattle.amber_meaning.specs.Legal.{IsLegal}
use Rattle.amber_debug.specs.Session.{Session, query_in}
use Rattle.amber_course.specs.Failure.{status_of}
use Rattle.amber_course.specs.Steps.{Names}
use Rattle.amber_course.specs.declared.failure.Failure.{Failure}
use Rattle.amber_course.specs.declared.status.Status.{Status}
use Rattle.amber_recorder.specs.Writing.{Counted, FailedAs, NoneFailed}
use Rattle.amber_script.specs.Lines.{ended_lines, open_line}
use Rattle.amber_script.proofs.OpenLines.{lines_go_on}
use Rattle.amber_session.specs.Beginning.{IsSessionLoad, IsStarted, MissesSessionWords}
use Rattle.amber_session.specs.Dialogue.{AreEndedIn, IsGoing, Span, most_input}
use Rattle.amber_session.specs.Feeding as feeding
use Rattle.amber_session.specs.Sessions.{Call, FeedsPiece, FeedsOn, FinishesAs, FinishesOn, IsPieceFed, IsNewSession, IsStopped, StartsSession, Talking, stretch_of}
use Rattle.amber_session.specs.Told.{IsToldBy, told_as}
use Rattle.amber_session.specs.declared.dialogue.Dialogue.{Dialogue}
use Rattle.amber_session.specs.declared.start_err.StartErr.{StartErr}

-- the part of what was fed that a piece is
abbrev pub span_of : List ℕ → List ℕ → Span
span_of fed piece = record { text = fed ++ piece; from = length fed; to = length (fed ++ piece) }

-- the lines that a piece ends
pub ended-span : (fed piece : List ℕ) (lines : List (List ℕ)) → AreEndedIn (span_of fed piece) lines → ended_lines (fed ++ piece) ≡ ended_lines fed ++ lines
ended-span fed piece lines h =
    let whole : take (length (fed ++ piece)) (fed ++ piece) ≡ fed ++ piece = take_all (length (fed ++ piece)) (fed ++ piece) (omega arith) in
    let front : take (length fed) (fed ++ piece) ≡ fed = take-append-le (length fed) fed piece (omega arith) ∙ take_all (length fed) fed (omega arith) in
    rw (whole, front) at h

-- a piece was fed
pub fed-call : (c : Call) (d : Dialogue) (piece : List ℕ) → IsGoing d → c.new.run ≡ d.debugger → c.new.fed ≡ d.input.bytes.items → d.input.bytes.items ≡ c.old.fed ++ piece
    → c.new.refused ≡ None → feeding.FeedsBytes (Ok tt) (stretch_of c) (span_of c.old.fed piece) → NoneFailed c.before c.after → IsPieceFed c piece
fed-call c d piece h run fed bytes refused (lines, are, answers) counted = record {
  fed = fed ∙ bytes;
  talk = record {
    few = rw fed h.few;
    sound = rw run h.sound;
    commands = rw (run, fed) h.commands;
  };
  refused = refused;
  lines = lines;
  ended = ap ended_lines (fed ∙ bytes) ∙ ended-span c.old.fed piece lines are;
  answered = answers;
  counted = counted;
}

-- a piece was not fed
pub stopped-call : (c : Call) (f : Failure) (piece : List ℕ) → length (c.old.fed ++ piece) ≤ most_input → feeding.FeedsBytes (Err f) (stretch_of c) (span_of c.old.fed piece)
    → IsLegal (query_in c.new.run) c.new.run.log → FailedAs f c.before c.after → IsStopped c piece (status_of f)
stopped-call c f piece few (inl (lines, are, stops)) legal counted = record {
  cause = f;
  status = refl;
  few = few;
  lines = lines;
  ended = ended-span c.old.fed piece lines are;
  stopped = inl stops;
  legal = legal;
  counted = counted;
}
stopped-call c f piece few (inr unread) legal counted = record {
  cause = f;
  status = refl;
  few = few;
  lines = ended_lines (open_line c.old.fed ++ piece);
  ended = (lines_go_on c.old.fed piece).0;
  stopped = inr unread;
  legal = legal;
  counted = counted;
}

-- a session was begun
pub new-call : (words : List (List ℕ)) (d : Dialogue) (t : Talking) (before after : World) → IsStarted (Ok d) words before after → IsGoing d → IsThere after.files d.log_name
    → Counted (Ok d) (record before { loads = after.loads }) after
    → t.run ≡ d.debugger → t.name ≡ d.log_name → t.fed ≡ d.input.bytes.items → t.refused ≡ None → t.finished ≡ false → IsNewSession words t before after
new-call words d t before after (job, asked, loads, (begun, made, still)) h there counted run name fed refused still-open = record {
  job = job;
  asked = asked;
  flow = ap (λ (r : Session). r.flow) run ∙ begun.flow;
  files = ap (λ (r : Session). r.files) run ∙ begun.files;
  log = ap (λ (r : Session). r.log) run ∙ begun.log;
  name = name ∙ begun.name;
  fed = fed ∙ begun.fed;
  refused = refused;
  unfinished = still-open;
  talk = record {
    few = rw fed h.few;
    sound = rw run h.sound;
    commands = rw (run, fed) h.commands;
  };
  place = made ∙ ap (λ name. with_file before.files name (head_text job.batch_size)) (sym (name ∙ begun.name))
      ∙ ap (λ text. with_file before.files t.name text) (sym (log_text-head job.batch_size) ∙ ap log_text (sym (ap (λ (r : Session). r.log) run ∙ begun.log)));
  there = rw name there;
  counted = (loads, counted.1, counted.2);
}

-- a session was not begun
pub refused-call : (words : List (List ℕ)) (cause : Failure) (told : StartErr) (before after : World) → IsStarted (Err cause) words before after → MissesSessionWords cause words
    → Told before.files (λ files. Names cause (IsSessionLoad words files)) → FailedAs cause (record before { loads = after.loads }) after → IsToldBy cause told → StartsSession (Err told) words before after
refused-call words cause told before after left worded named counted tells = (cause, record { left = left; worded = worded; named = named; counted = counted }, tells)

-- where the same stands before and afterwards
pub carried-start : (r : Result Talking StartErr) (words : List (List ℕ)) (from before now after : World) → from ≡ before → after ≡ now → StartsSession r words from now → StartsSession r words before after
carried-start r words from before now after e j h = subst (λ w. StartsSession r words w after) e (subst (λ w. StartsSession r words from w) (sym j) h)

-- ---- what the calls answer

-- what the dialogue made of a piece
pub fed-or-stopped : (r : Result (Unit {0}) Failure) (c : Call) (d : Dialogue) (piece : List ℕ) → IfOk r (λ done. IsGoing d) → c.new.run ≡ d.debugger → c.new.fed ≡ d.input.bytes.items
    → IfOk r (λ done. d.input.bytes.items ≡ c.old.fed ++ piece) → c.new.refused ≡ result_err (told_as r) → length (c.old.fed ++ piece) ≤ most_input
    → feeding.FeedsBytes r (stretch_of c) (span_of c.old.fed piece) → IsLegal (query_in c.new.run) c.new.run.log → Counted r c.before c.after → FeedsOn (told_as r) c piece
fed-or-stopped (Ok x) c d piece going run fed bytes refused few feeds legal counted = fed-call c d piece going run fed bytes refused feeds counted
fed-or-stopped (Err f) c d piece going run fed bytes refused few feeds legal counted = (refused, inr (stopped-call c f piece few feeds legal counted))

-- what the dialogue made of the end
pub finished-or-not : (r : Result (Unit {0}) Failure) (c : Call) → c.new.refused ≡ result_err (told_as r)
    → feeding.AnswersLast r (stretch_of c) (strip_carriage_return (open_line c.old.fed)) → IsLegal (query_in c.new.run) c.new.run.log → Counted r c.before c.after
    → FinishesOn (told_as r) c
finished-or-not (Ok x) c refused finishes legal counted = (refused, finishes, legal, counted)
finished-or-not (Err f) c refused finishes legal counted = (refused, (f, refl, finishes, legal, counted))

-- a call of a session that no earlier one was refused of, as its caller sees it
pub feeds-told : (c : Call) (piece : List ℕ) (result : Result (Unit {0}) Status) (r : Result (Unit {0}) Failure) (old : Talking) (before after : World) → old ≡ c.old → old.refused ≡ None
    → before ≡ c.before → after ≡ c.after → result ≡ told_as r → FeedsOn (told_as r) (record c { old = old; before = before }) piece → FeedsPiece c.old.refused result (record c { after = after }) piece
feeds-told c piece result r old before after same none start end tells h =
    let a = subst (λ w. FeedsOn (told_as r) (record c { old = old; before = w }) piece) start h in
    let b = subst (λ t. FeedsOn (told_as r) (record c { old = t }) piece) same a in
    let d = subst (λ w. FeedsOn (told_as r) (record c { after = w }) piece) (sym end) b in
    by-none c.old.refused (ap (λ (t : Talking). t.refused) (sym same) ∙ none) (subst (λ x. FeedsOn x (record c { after = after }) piece) (sym tells) d)
  where
    by-none : (refused : Option Status) → refused ≡ None → FeedsOn result (record c { after = after }) piece → FeedsPiece refused result (record c { after = after }) piece
    by-none refused is fed = rw is fed

pub finishes-told : (c : Call) (result : Result (Unit {0}) Status) (r : Result (Unit {0}) Failure) (old : Talking) (before after : World) → old ≡ c.old → old.refused ≡ None
    → before ≡ c.before → after ≡ c.after → result ≡ told_as r → FinishesOn (told_as r) (record c { old = old; before = before }) → FinishesAs c.old.refused result (record c { after = after })
finishes-told c result r old before after same none start end tells h =
    let a = subst (λ w. FinishesOn (told_as r) (record c { old = old; before = w })) start h in
    let b = subst (λ t. FinishesOn (told_as r) (record c { old = t })) same a in
    let d = subst (λ w. FinishesOn (told_as r) (record c { after = w })) (sym end) b in
    by-none c.old.refused (ap (λ (t : Talking). t.refused) (sym same) ∙ none) (subst (λ x. FinishesOn x (record c { after = after })) (sym tells) d)
  where
    by-none : (refused : Option Status) → refused ≡ None → FinishesOn result (record c { after = after }) → FinishesAs refused result (record c { after = after })
    by-none refused is done = rw is done
