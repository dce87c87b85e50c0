-- What a session has left outside, line by line, to its end.
use Rattle.std.proofs.Common.{◌≡◌, ℕ, ◌+◌, List, [], ◌∷◌, ◌++◌, length, map, Result, Ok, Err, refl, sym, ap, subst, ◌∙◌, arith, append_assoc}
use Rattle.std.proofs.lemmas.Grind.{flat_map-append}
use Rattle.std.proofs.lemmas.List.{length-map}
use Rattle.std.specs.List.{flat_map}
use Rattle.std.specs.Io.KnownBytes.{Appends}
use Rattle.amber_rows.specs.declared.flow.Operator.{Operator}
use Rattle.amber_io.specs.Folder.{with_file, with_more}
use Rattle.amber_io.specs.World.{World}
use Rattle.amber_io.proofs.Told.{with_more-with_file}
use Rattle.amber_log.specs.LogText.{head_text, item_text, log_text}
use Rattle.amber_log.specs.declared.command.Command.{Command}
use Rattle.amber_log.specs.declared.log.Item.{Item}
use Rattle.amber_log.specs.declared.log.Log.{Log}
use Rattle.amber_log.proofs.Pushes.{log_text-head}
use Rattle.amber_meaning.specs.Legal.{Query}
use Rattle.amber_meaning.specs.Replay.{after_item, after_items, state_after}
use Rattle.amber_meaning.specs.State.{State, start_of}
use Rattle.amber_meaning.specs.Transcript.{replies, reply_of, transcript_of}
use Rattle.amber_debug.specs.Session.{Session, command_of, query_in}
use Rattle.amber_course.proofs.Lines.{appends-on}
use Rattle.amber_recorder.proofs.Halting.{appends-none}
use Rattle.amber_script.specs.Script.{BadLine, before, commands_from, said_by}
use Rattle.amber_script.specs.declared.script_line.ScriptLine.{ScriptLine}
use Rattle.amber_script.specs.declared.script_line.ScriptLine.TheVariants as script_line
use Rattle.amber_session.specs.Answers.{HasAnswered, HasMore, IsSound, next_replies}
use Rattle.amber_session.specs.Spoken.{HasSpoken, Origin, Spoken}
use Rattle.amber_session.specs.Talk.{accepted, replies_to, said_to, talk_from, talk_of}
use Rattle.amber_session.proofs.Answered.{query-more}
use Rattle.amber_session.proofs.Talking.{accepted-append, length-replies_to, replies_to-append, talk-append}
use Rattle.std.proofs.lemmas.List.{map-append}

-- ---- more lines

log-more : (old : Log) (items : List Item) → log_text (record old { items = old.items ++ items }) ≡ log_text old ++ flat_map item_text items
unfolding log_text
log-more old items =
    ap (λ text. head_text old.batch ++ text) (flat_map-append item_text old.items items)
    ∙ sym (append_assoc (head_text old.batch) (flat_map item_text old.items) (flat_map item_text items))

talk-more : (old new : Session) (items : List Item) (xs ys : List (List ℕ)) → HasMore old new items → map command_of old.log.items ≡ accepted old.flow xs
    → talk_of (query_in new) (xs ++ ys) new.log.items ≡ talk_of (query_in old) xs old.log.items ++ talk_from old.flow (length xs + 1) ys (next_replies old items)
unfolding state_after
talk-more old new items xs ys more commands =
    let query = query_in old in
    let start = start_of old.flow in
    let first = replies_to query start old.log.items in
    let next = replies_to query (after_items query start old.log.items) items in
    let place : 1 + length xs ≡ length xs + 1 = omega arith in
    let enough : length first ≡ length (accepted old.flow xs) = length-replies_to query start old.log.items ∙ sym (length-map old.log.items command_of) ∙ ap length commands in
    ap (λ (query : Query). talk_from query.flow 1 (xs ++ ys) (replies_to query (start_of query.flow) new.log.items)) (query-more old new items more)
    ∙ ap (λ (log : Log). talk_from old.flow 1 (xs ++ ys) (replies_to query start log.items)) more.log
    ∙ ap (λ texts. talk_from old.flow 1 (xs ++ ys) texts) (replies_to-append query start old.log.items items)
    ∙ talk-append old.flow 1 xs ys first next enough
    ∙ ap (λ n. talk_from old.flow 1 xs first ++ talk_from old.flow n ys next) place

pub spoken-on : (o : Origin) (k : Spoken) (new : Session) (before after : World) (lines : List (List ℕ)) → HasSpoken o k before
    → HasAnswered (record { name = k.name; number = length k.lines + 1; old = k.run; new = new; before = before; after = after }) lines → IsSound new
    → HasSpoken o (record { name = k.name; run = new; lines = k.lines ++ lines }) after
spoken-on o k new before after lines h a sound = record {
  sound = sound;
  commands = ap (λ (log : Log). map command_of log.items) a.more.log ∙ map-append command_of k.run.log.items a.items ∙ ap (λ c. c ++ map command_of a.items) h.commands
      ∙ ap (λ c. accepted k.run.flow k.lines ++ c) a.commands ∙ sym (accepted-append k.run.flow k.lines lines) ∙ ap (λ flow. accepted flow (k.lines ++ lines)) (sym a.more.flow);
  place = a.file ∙ ap (λ files. with_more files k.name (flat_map item_text a.items)) h.place ∙ with_more-with_file o.told k.name (log_text k.run.log) (flat_map item_text a.items)
      ∙ ap (λ text. with_file o.told k.name text) (sym (log-more k.run.log a.items) ∙ ap log_text (sym a.more.log));
  sent = subst (λ text. Appends o.got after.got text) (sym (talk-more k.run new a.items k.lines lines a.more h.commands))
      (appends-on o.got before.got after.got (talk_of (query_in k.run) k.lines k.run.log.items) (talk_from k.run.flow (length k.lines + 1) lines (next_replies k.run a.items)) h.sent a.put);
}

-- nothing was said yet
pub spoken-start : (o : Origin) (run : Session) (name : List ℕ) (batch : ℕ) (after : World) → IsSound run → run.log ≡ record { batch = batch; items = [] }
    → after.files ≡ with_file o.told name (head_text batch) → after.got ≡ o.got → HasSpoken o (record { name = name; run = run; lines = [] }) after
unfolding accepted talk_from
spoken-start o run name batch after sound log place same = record {
  sound = sound;
  commands = ap (λ (log : Log). map command_of log.items) log;
  place = place ∙ ap (λ text. with_file o.told name text) (sym (log_text-head batch) ∙ ap log_text (sym log));
  sent = appends-none o.got after.got same;
}

-- ---- a script

unfoldable flat : List (List ℕ) → List ℕ
flat [] = []
flat (text ∷ texts) = text ++ flat texts

flat-replies : (query : Query) (state : State) (items : List Item) → flat (replies_to query state items) ≡ replies query state items
unfolding replies replies_to flat
flat-replies query state [] = refl
flat-replies query state (one ∷ more) = ap (λ text. reply_of query state one ++ text) (flat-replies query (after_item query state one) more)

-- where no line is refused
record IsScripted (flow : List Operator) (number : ℕ) (lines : List (List ℕ)) (commands : List Command) : Type 0 where
  same : accepted flow lines ≡ commands
  said : (texts : List (List ℕ)) → length texts ≡ length commands → talk_from flow number lines texts ≡ flat texts

none-said : (texts : List (List ℕ)) → length texts ≡ 0 → [] ≡ flat texts
unfolding flat
none-said [] e = refl
none-said (text ∷ texts) e = absurd (omega (arith, e))

scripted-lines : (flow : List Operator) (number : ℕ) (lines : List (List ℕ)) (commands : List Command) → commands_from number flow lines ≡ Ok commands
    → IsScripted flow number lines commands
unfolding commands_from accepted talk_from flat
scripted-lines flow number [] commands e = by-none commands e
  where
    by-none : (commands : List Command) → commands_from number flow [] ≡ Ok commands → IsScripted flow number [] commands
    by-none [] e = record { same = refl; said = none-said }
    by-none (c ∷ commands) e = absurd (no-command c commands e)
      where
        no-command : (c : Command) (commands : List Command) → commands_from number flow [] ≡ Ok (c ∷ commands) → ⊥
        no-command c commands e = cc
scripted-lines flow number (line ∷ lines) commands e =
    by-said (λ more is. scripted-lines flow (number + 1) lines more is) (said_by flow line) refl (commands_from (number + 1) flow lines) refl e
  where
    by-said : ((more : List Command) → commands_from (number + 1) flow lines ≡ Ok more → IsScripted flow (number + 1) lines more)
        → (said : ScriptLine) → said_by flow line ≡ said → (others : Result (List Command) BadLine) → commands_from (number + 1) flow lines ≡ others
        → before number said others ≡ Ok commands → IsScripted flow number (line ∷ lines) commands
    by-said later script_line.Skipped says others is e =
        let rest = later commands (is ∙ e) in
        record { same = rw says rest.same; said = rw says rest.said }
    by-said later (script_line.Bad why) says others is e = absurd (let never : Err (record { line = number; why = why }) ≡ Ok commands = e in cc)
    by-said later (script_line.Command c) says (Err bad) is e = absurd (let never : Err bad ≡ Ok commands = e in cc)
    by-said later (script_line.Command c) says (Ok more) is e =
        let whole : c ∷ more ≡ commands = cc in
        let rest = later more is in
        rw (← whole) (record { same = rw says (ap (λ cs. c ∷ cs) rest.same); said = rw says (λ texts few. by-texts rest texts few) })
      where
        by-texts : IsScripted flow (number + 1) lines more → (texts : List (List ℕ)) → length texts ≡ length (c ∷ more)
            → said_to number (script_line.Command c) texts (talk_from flow (number + 1) lines) ≡ flat texts
        by-texts rest [] few = absurd (omega (arith, few))
        by-texts rest (text ∷ texts) few =
            let one : length texts ≡ length more = omega (arith, few) in
            ap (λ others. text ++ others) (rest.said texts one)

-- what is said to a script is the replies to its commands
pub said-script : (query : Query) (lines : List (List ℕ)) (commands : List Command) (items : List Item) → commands_from 1 query.flow lines ≡ Ok commands
    → (accepted query.flow lines ≡ commands → map command_of items ≡ commands)
    → (accepted query.flow lines ≡ commands) × (talk_of query lines items ≡ transcript_of query items)
unfolding transcript_of
said-script query lines commands items e are =
    let script = scripted-lines query.flow 1 lines commands e in
    let texts = replies_to query (start_of query.flow) items in
    let few : length texts ≡ length commands = length-replies_to query (start_of query.flow) items ∙ sym (length-map items command_of) ∙ ap length (are script.same) in
    (script.same, script.said texts few ∙ flat-replies query (start_of query.flow) items)
