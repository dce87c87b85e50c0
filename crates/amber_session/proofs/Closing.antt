-- The last line of a session, and the end behind it.
use Rattle.std.proofs.Common.{◌≡◌, ℕ, ◌+◌, ◌-◌, inl, inr, List, [], ◌∷◌, length, take, drop, Result, Ok, Err, sym, ap, subst, ◌∙◌, arith}
use Rattle.std.proofs.lemmas.List.{length-drop, take_all}
use Rattle.std.specs.Str.Lines.{strip_carriage_return}
use Rattle.amber_io.specs.World.{World}
use Rattle.amber_log.specs.declared.command.Command.TheVariants as command
use Rattle.amber_debug.specs.Session.{Session}
use Rattle.amber_course.specs.declared.failure.Failure.{Failure}
use Rattle.amber_recorder.specs.Recording.{Performs}
use Rattle.amber_script.specs.Lines.{ended_lines, open_line}
use Rattle.amber_script.specs.Script.{said_by}
use Rattle.amber_session.specs.Answers.{HasAnswered, AnswersLine, IsSound, StopsAtLine, Stretch}
use Rattle.amber_session.specs.Dialogue.{IsGoing}
use Rattle.amber_session.specs.Feeding.{ComesToEnd, AnswersLast}
use Rattle.amber_session.specs.declared.dialogue.Dialogue.{Dialogue}
use Rattle.amber_session.proofs.Answered.{performs-any}

-- the line that no line feed has ended
last-line : (d : Dialogue) → IsGoing d → take (length d.input.bytes.items - d.input.begun) (drop d.input.begun d.input.bytes.items) ≡ open_line d.input.bytes.items
last-line d h =
    let bytes = d.input.bytes.items in
    let whole : take (length bytes) bytes ≡ bytes = take_all (length bytes) bytes (omega arith) in
    take_all (length bytes - d.input.begun) (drop d.input.begun bytes) (omega (arith, length-drop d.input.begun bytes)) ∙ (rw whole at h.read.line)

-- how many lines were ended
last-number : (d : Dialogue) → IsGoing d → d.input.lines ≡ length (ended_lines d.input.bytes.items)
last-number d h =
    let bytes = d.input.bytes.items in
    let whole : take (length bytes) bytes ≡ bytes = take_all (length bytes) bytes (omega arith) in
    rw whole at h.read.count

-- the line that was answered is that line, by its number
pub last-answered : (r : Result (Unit {0}) Failure) (d : Dialogue) (s : Stretch) (name line : List ℕ) (before : World) → IsGoing d → name ≡ s.name → before ≡ s.before
    → s.number ≡ length (ended_lines d.input.bytes.items) + 1 → line ≡ take (length d.input.bytes.items - d.input.begun) (drop d.input.begun d.input.bytes.items)
    → AnswersLine r (record s { name = name; number = d.input.lines + 1; before = before }) (strip_carriage_return line) → AnswersLine r s (strip_carriage_return (open_line d.input.bytes.items))
last-answered r d s name line before h called start place is a =
    let number : d.input.lines + 1 ≡ s.number = ap (λ n. n + 1) (last-number d h) ∙ sym place in
    let b = subst (λ l. AnswersLine r (record s { name = name; number = d.input.lines + 1; before = before }) (strip_carriage_return l)) (is ∙ last-line d h) a in
    let last = strip_carriage_return (open_line d.input.bytes.items) in
    let e = subst (λ n. AnswersLine r (record s { name = n; number = d.input.lines + 1; before = before }) last) called b in
    let f = subst (λ n. AnswersLine r (record s { number = n; before = before }) last) number e in
    subst (λ w. AnswersLine r (record s { before = w }) last) start f

-- that line was not answered
pub stopped-last : (r : Result (Unit {0}) Failure) (f : Failure) (s : Stretch) (line : List ℕ) (after : World) → r ≡ Err f → after ≡ s.after → AnswersLine (Err f) s line
    → AnswersLast r (record s { after = after }) line
stopped-last r f s line after e stood h = rw e (inl (subst (λ w. StopsAtLine f (record s { after = w }) (said_by s.old.flow line)) (sym stood) h))

-- it was answered, and then this came of the end
ends-as : (r : Result (Unit {0}) Failure) (s : Stretch) (line name : List ℕ) (mid : Session) (world after : World) → HasAnswered (record s { new = mid; after = world }) (line ∷ []) → IsSound mid
    → name ≡ s.name → after ≡ s.after → Performs r (record { name = name; command = command.End; old = mid; new = s.new; before = world; after = s.after })
    → ComesToEnd r (record s { after = after }) line
ends-as r s line name mid world after answered sound called stood ended = record {
  mid = mid;
  world = world;
  answered = answered;
  sound = sound;
  ended =
      let a = subst (λ n. Performs r (record { name = n; command = command.End; old = mid; new = s.new; before = world; after = s.after })) called ended in
      subst (λ w. Performs r (record { name = s.name; command = command.End; old = mid; new = s.new; before = world; after = w })) (sym stood) a;
}

-- the run went to its end
pub ends-done : {A : Type 0} (x : A) (s : Stretch) (line name : List ℕ) (mid : Session) (world after : World) → HasAnswered (record s { new = mid; after = world }) (line ∷ []) → IsSound mid
    → name ≡ s.name → after ≡ s.after → Performs (Ok x) (record { name = name; command = command.End; old = mid; new = s.new; before = world; after = s.after })
    → ComesToEnd (Ok tt) (record s { after = after }) line
ends-done x s line name mid world after answered sound called stood ended = ends-as (Ok tt) s line name mid world after answered sound called stood ended

-- the run did not come to its end
pub ends-failed : {A : Type 0} (made : Result A Failure) (r : Result (Unit {0}) Failure) (f : Failure) (s : Stretch) (line name : List ℕ) (mid : Session) (world after : World) → r ≡ Err f
    → HasAnswered (record s { new = mid; after = world }) (line ∷ []) → IsSound mid → name ≡ s.name → after ≡ s.after
    → Performs {A = A} (Err f) (record { name = name; command = command.End; old = mid; new = s.new; before = world; after = s.after }) → AnswersLast r (record s { after = after }) line
ends-failed {A} made r f s line name mid world after e answered sound called stood ended =
    rw e (inr (ends-as (Err f) s line name mid world after answered sound called stood
    (performs-any A f (record { name = name; command = command.End; old = mid; new = s.new; before = world; after = s.after }) ended)))
