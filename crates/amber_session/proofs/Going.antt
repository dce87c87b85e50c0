-- A session that goes on.
use Rattle.std.proofs.Common.{◌≡◌, ℕ, ◌≤◌, List, [], ◌++◌, length, map, take, Result, Ok, Err, IfOk, refl, sym, ap, ◌∙◌, arith, length-append}
use Rattle.std.proofs.lemmas.List.{map-append, take-append-le, take_all}
use Rattle.amber_rows.specs.FlowRules.{IsFlow}
use Rattle.amber_log.specs.Grammar.{AreItems, IsBatch}
use Rattle.amber_log.specs.declared.log.Log.{Log}
use Rattle.amber_meaning.specs.InTime.{AreInTime}
use Rattle.amber_meaning.specs.Legal.{Reaches}
use Rattle.amber_meaning.specs.State.{start_of}
use Rattle.amber_debug.specs.Session.{Session, command_of}
use Rattle.amber_course.specs.declared.failure.Failure.{Failure}
use Rattle.amber_script.specs.Lines.{ended_lines}
use Rattle.amber_script.proofs.OpenLines.{none-ended}
use Rattle.std.specs.Str.Lines.{strip_carriage_return}
use Rattle.amber_session.specs.Answers.{HasAnswered, IsSound, Stretch, most_session_steps}
use Rattle.amber_session.specs.Dialogue.{IsGoing, IsReadTo, ReadsLines, most_input}
use Rattle.amber_session.specs.Talk.{accepted}
use Rattle.amber_session.specs.declared.dialogue.Dialogue.{Dialogue}
use Rattle.amber_session.specs.declared.input.Input.{Input}
use Rattle.amber_session.proofs.Talking.{accepted-append}

-- a debugger that has done nothing
sound-begun : (d : Session) (batch : ℕ) → IsBatch batch → d.most ≡ most_session_steps → d.log ≡ record { batch = batch; items = [] } → IsSound d
unfolding AreItems Reaches AreInTime
sound-begun d batch h most log = rw log (record {
  legal = record { text = record { batch = h; items = tt }; batch = refl; after = start_of d.flow; reached = refl };
  in_time = tt;
  more = refl;
  most = most;
})

-- nothing was fed
pub going-begun : (d : Dialogue) (batch : ℕ) → IsBatch batch → IsFlow d.debugger.flow → d.debugger.most ≡ most_session_steps → d.debugger.log ≡ record { batch = batch; items = [] }
    → d.input.bytes.items ≡ [] → IsReadTo d.input 0 → IsGoing d
unfolding accepted
going-begun d batch h flow most log none read =
    let nothing : length d.input.bytes.items ≡ 0 = ap length none in
    record {
      few = omega (arith, nothing);
      read = rw nothing read;
      flow = flow;
      sound = sound-begun d.debugger batch h most log;
      commands = ap (λ (log : Log). map command_of log.items) log ∙ sym (ap (λ bytes. accepted d.debugger.flow (ended_lines bytes)) none ∙ ap (λ lines. accepted d.debugger.flow (map strip_carriage_return lines)) (none-ended [] refl));
    }

-- more bytes at the end: those before them stay
pub read-more : (old new : Input) (piece : List ℕ) → new.bytes.items ≡ old.bytes.items ++ piece → new.begun ≡ old.begun → new.lines ≡ old.lines
    → IsReadTo old (length old.bytes.items) → IsReadTo new (length old.bytes.items)
read-more old new piece bytes begun lines read =
    let size = length old.bytes.items in
    let front : take size new.bytes.items ≡ take size old.bytes.items = ap (take size) bytes ∙ take-append-le size old.bytes.items piece (omega arith) in
    rw (begun, lines) (record {
      within = omega (arith, ap length bytes, length-append old.bytes.items piece);
      begun = read.begun;
      few = read.few;
      line = rw front read.line;
      count = rw front read.count;
    })

-- the lines of what was fed are answered
pub going-on : (old new : Dialogue) (s : Stretch) (piece : List ℕ) → IsGoing old → new.input.bytes.items ≡ old.input.bytes.items ++ piece → s.old ≡ old.debugger → s.new ≡ new.debugger
    → length new.input.bytes.items ≤ most_input → IsReadTo new.input (length new.input.bytes.items) → IsSound new.debugger
    → ReadsLines (Ok tt) s (record { text = new.input.bytes.items; from = length old.input.bytes.items; to = length new.input.bytes.items }) → IsGoing new
going-on old new s piece h bytes before after few read sound (lines, are, answers) =
    let size = length old.input.bytes.items in
    let whole : take (length new.input.bytes.items) new.input.bytes.items ≡ new.input.bytes.items = take_all (length new.input.bytes.items) new.input.bytes.items (omega arith) in
    let front : take size new.input.bytes.items ≡ old.input.bytes.items =
    ap (take size) bytes ∙ take-append-le size old.input.bytes.items piece (omega arith) ∙ take_all size old.input.bytes.items (omega arith) in
    let ended : ended_lines new.input.bytes.items ≡ ended_lines old.input.bytes.items ++ lines = rw (whole, front) at are in
    let a : HasAnswered (record s { old = old.debugger; new = new.debugger }) lines = rw (before, after) at answers in
    record {
      few = few;
      read = read;
      flow = rw a.more.flow h.flow;
      sound = sound;
      commands = ap (λ (log : Log). map command_of log.items) a.more.log ∙ map-append command_of old.debugger.log.items a.items
          ∙ ap (λ c. c ++ map command_of a.items) h.commands ∙ ap (λ c. accepted old.debugger.flow (ended_lines old.input.bytes.items) ++ c) a.commands
          ∙ sym (accepted-append old.debugger.flow (ended_lines old.input.bytes.items) lines)
          ∙ ap (λ flow. accepted flow (ended_lines old.input.bytes.items ++ lines)) (sym a.more.flow) ∙ ap (λ lines. accepted new.debugger.flow lines) (sym ended);
    }

-- whatever came of them
pub going-fed : (r : Result (Unit {0}) Failure) (old new : Dialogue) (s : Stretch) (piece : List ℕ) → IsGoing old → new.input.bytes.items ≡ old.input.bytes.items ++ piece
    → s.old ≡ old.debugger → s.new ≡ new.debugger → length new.input.bytes.items ≤ most_input → IfOk r (λ done. IsReadTo new.input (length new.input.bytes.items))
    → IfOk r (λ done. IsSound new.debugger)
    → ReadsLines r s (record { text = new.input.bytes.items; from = length old.input.bytes.items; to = length new.input.bytes.items }) → IfOk r (λ done. IsGoing new)
going-fed (Ok x) old new s piece h bytes before after few read sound reads = going-on old new s piece h bytes before after few read sound reads
going-fed (Err f) old new s piece h bytes before after few read sound reads = tt
