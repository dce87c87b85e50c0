-- Bytes that are read, one after the other, and the lines that they end.
use Rattle.std.proofs.Common.{◌≡◌, ◌≢◌, ℕ, suc, ◌+◌, ◌-◌, ◌<◌, ◌≤◌, List, [], ◌∷◌, ◌++◌, length, map, take, drop, get_or, true, Result, Ok, Err, refl, sym, ap, subst, ◌∙◌, arith, append_assoc, length-append}
use Rattle.std.proofs.lemmas.Bool.{ne_eqb}
use Rattle.std.proofs.lemmas.Grind.{get_or_default_zero}
use Rattle.std.proofs.lemmas.List.{append-nil, drop-append-le, drop-take, drop_all, length-take-le, take-append-drop, take_all}
use Rattle.std.proofs.Math.Seq.{take-suc}
use Rattle.std.specs.Str.Lines.{strip_carriage_return}
use Rattle.amber_debug.specs.Session.{Session}
use Rattle.amber_io.specs.World.{World}
use Rattle.amber_course.specs.declared.failure.Failure.{Failure}
use Rattle.amber_script.specs.Lines.{ended_lines, is_within_line, open_line}
use Rattle.amber_script.specs.Script.{said_by}
use Rattle.amber_script.proofs.OpenLines.{all-open, line-ended, line-grown, lines_go_on, none-ended, within-open}
use Rattle.amber_session.specs.Answers.{HasAnswered, AnswersLine, IsSound, StopsAtLine, StopsIn, Stretch}
use Rattle.amber_session.specs.Dialogue.{AreEndedIn, IsReadTo, ReadsLines, Span}
use Rattle.amber_session.specs.declared.input.Input.{Input}
use Rattle.amber_session.proofs.Answered.{answers-none, answers-on}

-- ---- one byte more

next-take : (bytes : List ℕ) (place : ℕ) → place < length bytes → take (place + 1) bytes ≡ take place bytes ++ get_or bytes place 0 ∷ []
next-take bytes place h =
    let one : place + 1 ≡ suc place = omega arith in
    ap (λ n. take n bytes) one ∙ take-suc bytes place 0 h

length-front : (bytes : List ℕ) (place : ℕ) → place ≤ length bytes → length (take place bytes) ≡ place
length-front bytes place h = length-take-le place bytes h

-- the byte that was read
pub is-feed : (bytes : List ℕ) (place byte : ℕ) → place < length bytes → byte ≡ get_or bytes place byte → byte ≡ 10 → get_or bytes place 0 ≡ 10
is-feed bytes place byte h read is = sym (get_or_default_zero bytes place byte h) ∙ sym read ∙ is

pub not-feed : (bytes : List ℕ) (place byte : ℕ) → place < length bytes → byte ≡ get_or bytes place byte → byte ≢ 10 → get_or bytes place 0 ≢ 10
not-feed bytes place byte h read other is = other (read ∙ get_or_default_zero bytes place byte h ∙ is)

-- a byte that ends no line
pub lines-other : (bytes : List ℕ) (place : ℕ) → place < length bytes → get_or bytes place 0 ≢ 10
    → (ended_lines (take (place + 1) bytes) ≡ ended_lines (take place bytes) ++ [])
    × (open_line (take (place + 1) bytes) ≡ open_line (take place bytes) ++ get_or bytes place 0 ∷ [])
lines-other bytes place h other =
    let front = take place bytes in
    let x = get_or bytes place 0 in
    let within : is_within_line (x ∷ []) ≡ true = rw (ne_eqb x 10 other) refl in
    let grown = line-grown (open_line front) (x ∷ []) (within-open front) within in
    let on = lines_go_on front (x ∷ []) in (
      ap ended_lines (next-take bytes place h) ∙ on.0 ∙ ap (λ lines. ended_lines front ++ lines) grown.0,
      ap open_line (next-take bytes place h) ∙ on.1 ∙ grown.1,
    )

-- a byte that ends one
pub lines-feed : (bytes : List ℕ) (place : ℕ) → place < length bytes → get_or bytes place 0 ≡ 10
    → (ended_lines (take (place + 1) bytes) ≡ ended_lines (take place bytes) ++ strip_carriage_return (open_line (take place bytes)) ∷ [])
    × (open_line (take (place + 1) bytes) ≡ [])
lines-feed bytes place h is =
    let front = take place bytes in
    let on = lines_go_on front (10 ∷ []) in
    let ends = line-ended (open_line front) [] [] (within-open front) refl in
    let next : take (place + 1) bytes ≡ front ++ 10 ∷ [] = next-take bytes place h ∙ ap (λ x. front ++ x ∷ []) is in
    let none : ended_lines [] ≡ [] = ap (map strip_carriage_return) (none-ended [] refl) in
    let line : strip_carriage_return (open_line front ++ []) ∷ ended_lines [] ≡ strip_carriage_return (open_line front) ∷ [] =
    ap (λ last. strip_carriage_return last ∷ ended_lines []) (append-nil (open_line front)) ∙ ap (λ lines. strip_carriage_return (open_line front) ∷ lines) none in (
      ap ended_lines next ∙ on.0 ∙ ap (λ lines. ended_lines front ++ lines) (ends.0 ∙ line),
      ap open_line next ∙ on.1 ∙ ends.1 ∙ all-open [] refl,
    )

-- it is read that none was ended
pub read-other : (input : Input) (place : ℕ) → place < length input.bytes.items → get_or input.bytes.items place 0 ≢ 10 → IsReadTo input place → IsReadTo input (place + 1)
read-other input place h other read =
    let bytes = input.bytes.items in
    let lines = lines-other bytes place h other in
    let front : input.begun ≤ length (take place bytes) = rw (length-front bytes place read.within) read.begun in
    record {
      within = omega (arith, h);
      begun = omega (arith, read.begun);
      few = omega (arith, read.few);
      line = ap (drop input.begun) (next-take bytes place h) ∙ drop-append-le input.begun (take place bytes) (get_or bytes place 0 ∷ []) front
          ∙ ap (λ line. line ++ get_or bytes place 0 ∷ []) read.line ∙ sym lines.1;
      count = read.count ∙ ap length (sym (lines.0 ∙ append-nil (ended_lines (take place bytes))));
    }

-- it is read that one was
pub read-feed : (old new : Input) (place : ℕ) → place < length old.bytes.items → get_or old.bytes.items place 0 ≡ 10 → IsReadTo old place
    → new.bytes ≡ old.bytes → new.begun ≡ place + 1 → new.lines ≡ old.lines + 1 → IsReadTo new (place + 1)
read-feed old new place h is read same begun count =
    let bytes = old.bytes.items in
    let lines = lines-feed bytes place h is in
    let whole : place + 1 ≤ length bytes = omega (arith, h) in
    rw (same, begun, count) (record {
      within = whole;
      begun = omega arith;
      few = omega (arith, read.few);
      line = drop_all (place + 1) (take (place + 1) bytes) (omega (arith, length-front bytes (place + 1) whole)) ∙ sym lines.1;
      count = ap (λ n. n + 1) read.count ∙ sym (ap length lines.0 ∙ length-append (ended_lines (take place bytes)) _);
    })

-- the line that is ended there
pub line-here : (input : Input) (place : ℕ) → IsReadTo input place → take (place - input.begun) (drop input.begun input.bytes.items) ≡ open_line (take place input.bytes.items)
line-here input place read =
    let bytes = input.bytes.items in
    let whole : input.begun + (place - input.begun) ≡ place = omega (arith, read.begun) in
    sym (drop-take input.begun (place - input.begun) bytes) ∙ ap (λ n. drop input.begun (take n bytes)) whole ∙ read.line

-- ---- the lines between two places

-- a line that was not answered
pub stops-one : (f : Failure) (s : Stretch) (line : List ℕ) → IsSound s.old → StopsAtLine f s (said_by s.old.flow line) → StopsIn f s (line ∷ [])
stops-one f s line sound stops =
    let same : s.number ≡ s.number + 0 = omega arith in
    record {
      front = [];
      line = line;
      later = [];
      split = refl;
      mid = s.old;
      world = s.before;
      answered = answers-none (record s { new = s.old; after = s.before }) refl refl;
      sound = sound;
      stopped = subst (λ n. StopsAtLine f (record s { number = n }) (said_by s.old.flow line)) same stops;
    }

-- lines were answered before it
pub stops-on : (f : Failure) (s : Stretch) (mid : Session) (world : World) (xs ys : List (List ℕ)) → HasAnswered (record s { new = mid; after = world }) xs
    → StopsIn f (record s { number = s.number + length xs; old = mid; before = world }) ys → StopsIn f s (xs ++ ys)
stops-on f s mid world xs ys a b =
    let same : (s.number + length xs) + length b.front ≡ s.number + length (xs ++ b.front) = omega (arith, length-append xs b.front) in
    record {
      front = xs ++ b.front;
      line = b.line;
      later = b.later;
      split = ap (λ lines. xs ++ lines) b.split ∙ sym (append_assoc xs b.front (b.line ∷ b.later));
      mid = b.mid;
      world = b.world;
      answered = answers-on (record s { new = b.mid; after = b.world }) mid world xs b.front a b.answered;
      sound = b.sound;
      stopped = subst (λ n. StopsAtLine f (record s { number = n; old = b.mid; before = b.world }) (said_by b.mid.flow b.line)) same b.stopped;
    }

-- there are lines behind it
pub stops-more : (f : Failure) (s : Stretch) (xs ys : List (List ℕ)) → StopsIn f s xs → StopsIn f s (xs ++ ys)
stops-more f s xs ys h = record {
  front = h.front;
  line = h.line;
  later = h.later ++ ys;
  mid = h.mid;
  world = h.world;
  answered = h.answered;
  sound = h.sound;
  stopped = h.stopped;
  split = ap (λ lines. lines ++ ys) h.split ∙ append_assoc h.front (h.line ∷ h.later) ys;
}

-- the lines between three places
pub spans-on : (text : List ℕ) (from mid to : ℕ) (xs ys : List (List ℕ)) → AreEndedIn (record { text = text; from = from; to = mid }) xs → AreEndedIn (record { text = text; from = mid; to = to }) ys
    → AreEndedIn (record { text = text; from = from; to = to }) (xs ++ ys)
spans-on text from mid to xs ys a b = b ∙ ap (λ lines. lines ++ ys) a ∙ append_assoc (ended_lines (take from text)) xs ys

pub spans-none : (text : List ℕ) (place : ℕ) → AreEndedIn (record { text = text; from = place; to = place }) []
spans-none text place = sym (append-nil (ended_lines (take place text)))

-- all lines from a place to the end
pub spans-all : (text : List ℕ) (place : ℕ) → (lines : List (List ℕ)) × AreEndedIn (record { text = text; from = place; to = length text }) lines
spans-all text place = (
  ended_lines (open_line (take place text) ++ drop place text),
  ap ended_lines (take_all (length text) text (omega arith) ∙ sym (take-append-drop place text)) ∙ (lines_go_on (take place text) (drop place text)).0,
)

-- how many lines there were
pub count-on : (old new : Input) (from place : ℕ) (lines : List (List ℕ)) → old.bytes ≡ new.bytes → IsReadTo old from → IsReadTo new place
    → AreEndedIn (record { text = new.bytes.items; from = from; to = place }) lines → new.lines ≡ old.lines + length lines
count-on old new from place lines same a b h =
    b.count ∙ ap length h ∙ length-append (ended_lines (take from new.bytes.items)) lines
    ∙ ap (λ n. n + length lines) (ap (λ bytes. length (ended_lines (take from bytes))) (ap (λ v. v.items) (sym same)) ∙ sym a.count)

-- one line was answered, or it was not
pub reads-one : (r : Result (Unit {0}) Failure) (s : Stretch) (span : Span) (line : List ℕ) → AreEndedIn span (line ∷ []) → IsSound s.old → AnswersLine r s line → ReadsLines r s span
reads-one (Ok x) s span line h sound a = (line ∷ [], h, a)
reads-one (Err f) s span line h sound a = (line ∷ [], h, stops-one f s line sound a)

-- ---- from one byte to the next

-- a stretch from one place of a text to another, whose first line has the number that is read there
abbrev pub stretch_from : Stretch → Session → World → ℕ → Stretch
stretch_from s mid world number = record s { number = number; old = mid; before = world }

-- the lines so far were answered, and so were those of the next byte
pub reads-on : (s : Stretch) (mid : Session) (world : World) (text : List ℕ) (from place : ℕ) (number : ℕ) (xs : List (List ℕ)) → number ≡ s.number + length xs
    → AreEndedIn (record { text = text; from = from; to = place }) xs → HasAnswered (record s { new = mid; after = world }) xs
    → ReadsLines (Ok tt) (stretch_from s mid world number) (record { text = text; from = place; to = place + 1 })
    → (lines : List (List ℕ)) × AreEndedIn (record { text = text; from = from; to = place + 1 }) lines × HasAnswered s lines
reads-on s mid world text from place number xs is h a next = (
  xs ++ next.0,
  spans-on text from place (place + 1) xs next.0 h next.1,
  answers-on s mid world xs next.0 a (subst (λ n. HasAnswered (stretch_from s mid world n) next.0) is next.2),
)

-- a line of the next byte was not answered
pub reads-end : (f : Failure) (s : Stretch) (mid : Session) (world : World) (text : List ℕ) (from place : ℕ) (number : ℕ) (xs : List (List ℕ)) → number ≡ s.number + length xs
    → AreEndedIn (record { text = text; from = from; to = place }) xs → HasAnswered (record s { new = mid; after = world }) xs
    → ReadsLines (Err f) (stretch_from s mid world number) (record { text = text; from = place; to = place + 1 })
    → ReadsLines (Err f) s (record { text = text; from = from; to = length text })
reads-end f s mid world text from place number xs is h a next =
    let rest = spans-all text (place + 1) in
    let stops = stops-on f s mid world xs next.0 a (subst (λ n. StopsIn f (stretch_from s mid world n) next.0) is next.2) in (
      (xs ++ next.0) ++ rest.0,
      spans-on text from (place + 1) (length text) (xs ++ next.0) rest.0 (spans-on text from place (place + 1) xs next.0 h next.1) rest.1,
      stops-more f s (xs ++ next.0) rest.0 stops,
    )

-- the number of the next line
pub next-number : (old new : Input) (from place number : ℕ) (lines : List (List ℕ)) → new.bytes ≡ old.bytes → IsReadTo old from → IsReadTo new place
    → AreEndedIn (record { text = old.bytes.items; from = from; to = place }) lines → number ≡ old.lines + 1 → new.lines + 1 ≡ number + length lines
next-number old new from place number lines same a b h is =
    let count = count-on old new from place lines (sym same) a b (rw (← same) at h) in
    omega (arith, count, is)

-- no byte
pub read-none : (input : Input) → input.begun ≡ 0 → input.lines ≡ 0 → IsReadTo input 0
read-none input begun lines = rw (begun, lines) (record {
  within = omega arith;
  begun = omega arith;
  few = omega arith;
  line = sym (all-open [] refl);
  count = ap length (sym (ap (map strip_carriage_return) (none-ended [] refl)));
})
