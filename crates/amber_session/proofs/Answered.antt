-- Lines that are answered, one after the other.
use Rattle.std.proofs.Common.{◌≡◌, ◌≢◌, ℕ, ◌+◌, inl, true, false, List, [], ◌∷◌, ◌++◌, length, map, Result, Ok, Err, refl, sym, ap, subst, ◌∙◌, append_assoc}
use Rattle.std.proofs.lemmas.Grind.{flat_map-append}
use Rattle.std.proofs.lemmas.List.{append-nil, length-map, map-append}
use Rattle.std.specs.List.{flat_map}
use Rattle.std.specs.Io.KnownBytes.{Appends}
use Rattle.amber_io.specs.Folder.{with_more}
use Rattle.amber_io.specs.World.{PutsOnly, World}
use Rattle.amber_log.specs.LogText.{item_text}
use Rattle.amber_log.specs.declared.command.Command.{Command}
use Rattle.amber_log.specs.declared.command.Command.TheVariants as command
use Rattle.amber_log.specs.declared.log.Item.{Item}
use Rattle.amber_meaning.specs.Legal.{IsLegal}
use Rattle.amber_meaning.specs.Replay.{after_items, state_after}
use Rattle.amber_meaning.specs.State.{start_of}
use Rattle.amber_debug.specs.Session.{Grew, Session, command_of, query_in}
use Rattle.amber_course.specs.Steps.{Sent}
use Rattle.amber_course.specs.declared.failure.Failure.{Failure}
use Rattle.amber_course.specs.declared.failure.Failure.TheVariants as failure
use Rattle.amber_course.proofs.Lines.{appends-on}
use Rattle.amber_recorder.specs.Recording.{Doing, MayFollow, Performs}
use Rattle.amber_recorder.proofs.Halting.{appends-none, items-in-time, keeps-same, next-item}
use Rattle.amber_script.specs.Commands.{is_scripted}
use Rattle.amber_script.specs.Script.{said_by}
use Rattle.amber_script.specs.declared.error.ScriptWhy.{ScriptWhy}
use Rattle.amber_script.specs.declared.script_line.ScriptLine.{ScriptLine}
use Rattle.amber_script.specs.declared.script_line.ScriptLine.TheVariants as script_line
use Rattle.amber_session.specs.Answers.{HasAnswered, AnswersLine, HasMore, IsSound, StopsAtLine, Stretch, doing, next_replies}
use Rattle.amber_session.specs.Talk.{accepted, refused_text, replies_to, talk_from}
use Rattle.amber_session.proofs.Growing.{more-more, more-nil}
use Rattle.amber_session.proofs.Talking.{accepted-append, after_items-append, length-replies_to, replies_to-append, talk-append}

-- ---- the items

none-more : (old new : Session) → new ≡ old → HasMore old new []
none-more old new e = rw e (record {
  flow = refl;
  files = refl;
  most = refl;
  log = ap (λ items. record { batch = old.log.batch; items = items }) (sym (append-nil old.log.items));
})

more-on : (old mid new : Session) (xs ys : List Item) → HasMore old mid xs → HasMore mid new ys → HasMore old new (xs ++ ys)
more-on old mid new xs ys a b = record {
  flow = b.flow ∙ a.flow;
  files = b.files ∙ a.files;
  most = b.most ∙ a.most;
  log = (rw a.log at b.log) ∙ ap (λ items. record { batch = old.log.batch; items = items }) (append_assoc old.log.items xs ys);
}

one-more : (old new : Session) (command : Command) (one : Item) → Grew old new command one → HasMore old new (one ∷ [])
one-more old new command one grew = record { flow = grew.flow; files = grew.files; most = grew.most; log = grew.log }

-- what is run stays
pub query-more : (old new : Session) (items : List Item) → HasMore old new items → query_in new ≡ query_in old
query-more old new items h = rw (h.flow, h.files, h.most, h.log) refl

state-more : (old new : Session) (items : List Item) → HasMore old new items
    → state_after (query_in new) new.log.items ≡ after_items (query_in old) (state_after (query_in old) old.log.items) items
unfolding state_after
state-more old new items h =
    ap (λ query. after_items query (start_of query.flow) new.log.items) (query-more old new items h)
    ∙ ap (λ list. after_items (query_in old) (start_of old.flow) list) (ap (λ log. log.items) h.log)
    ∙ after_items-append (query_in old) (start_of old.flow) old.log.items items

replies-more : (old mid : Session) (xs ys : List Item) → HasMore old mid xs → next_replies old (xs ++ ys) ≡ next_replies old xs ++ next_replies mid ys
replies-more old mid xs ys h =
    replies_to-append (query_in old) (state_after (query_in old) old.log.items) xs ys
    ∙ ap (λ state. next_replies old xs ++ replies_to (query_in old) state ys) (sym (state-more old mid xs h))
    ∙ ap (λ query. next_replies old xs ++ replies_to query (state_after (query_in mid) mid.log.items) ys) (sym (query-more old mid xs h))

-- ---- lines

pub answers-none : (s : Stretch) → s.new ≡ s.old → s.after ≡ s.before → HasAnswered s []
unfolding accepted talk_from
answers-none s same still = record {
  items = [];
  more = none-more s.old s.new same;
  commands = refl;
  file = ap (λ (w : World). w.files) still ∙ sym (more-nil s.before.files s.name);
  put = appends-none s.before.got s.after.got (ap (λ (w : World). w.got) still);
}

-- as many replies as commands
enough : (d : Session) (items : List Item) (commands : List Command) → map command_of items ≡ commands → length (next_replies d items) ≡ length commands
enough d items commands e = length-replies_to (query_in d) (state_after (query_in d) d.log.items) items ∙ sym (length-map items command_of) ∙ ap length e

pub answers-on : (s : Stretch) (mid : Session) (world : World) (xs ys : List (List ℕ)) → HasAnswered (record s { new = mid; after = world }) xs
    → HasAnswered (record s { number = s.number + length xs; old = mid; before = world }) ys → HasAnswered s (xs ++ ys)
answers-on s mid world xs ys a b = record {
  items = a.items ++ b.items;
  more = more-on s.old mid s.new a.items b.items a.more b.more;
  commands = map-append command_of a.items b.items ∙ ap (λ c. c ++ map command_of b.items) a.commands
      ∙ ap (λ c. accepted s.old.flow xs ++ c) (b.commands ∙ ap (λ flow. accepted flow ys) a.more.flow) ∙ sym (accepted-append s.old.flow xs ys);
  file = b.file ∙ ap (λ files. with_more files s.name (flat_map item_text b.items)) a.file
      ∙ more-more s.before.files s.name (flat_map item_text a.items) (flat_map item_text b.items)
      ∙ ap (λ text. with_more s.before.files s.name text) (sym (flat_map-append item_text a.items b.items));
  put = subst (λ text. Appends s.before.got s.after.got text) (sym said)
      (appends-on s.before.got world.got s.after.got (talk_from s.old.flow s.number xs (next_replies s.old a.items))
      (talk_from mid.flow (s.number + length xs) ys (next_replies mid b.items)) a.put b.put);
}
  where
    said : talk_from s.old.flow s.number (xs ++ ys) (next_replies s.old (a.items ++ b.items))
        ≡ talk_from s.old.flow s.number xs (next_replies s.old a.items) ++ talk_from mid.flow (s.number + length xs) ys (next_replies mid b.items)
    said =
        ap (λ replies. talk_from s.old.flow s.number (xs ++ ys) replies) (replies-more s.old mid a.items b.items a.more)
        ∙ talk-append s.old.flow s.number xs ys (next_replies s.old a.items) (next_replies mid b.items) (enough s.old a.items (accepted s.old.flow xs) a.commands)
        ∙ ap (λ flow. talk_from s.old.flow s.number xs (next_replies s.old a.items) ++ talk_from flow (s.number + length xs) ys (next_replies mid b.items)) (sym a.more.flow)

-- ---- one line

-- a line that is skipped
pub answers-skipped : (s : Stretch) (line : List ℕ) → said_by s.old.flow line ≡ script_line.Skipped → s.new ≡ s.old → s.after ≡ s.before → HasAnswered s (line ∷ [])
unfolding accepted talk_from
answers-skipped s line says same still = record {
  items = [];
  more = none-more s.old s.new same;
  commands = rw says refl;
  file = ap (λ (w : World). w.files) still ∙ sym (more-nil s.before.files s.name);
  put = rw says (appends-none s.before.got s.after.got (ap (λ (w : World). w.got) still));
}

-- a line that is refused
pub answers-bad : (s : Stretch) (line : List ℕ) (why : ScriptWhy) → said_by s.old.flow line ≡ script_line.Bad why → s.new ≡ s.old → s.after.files ≡ s.before.files
    → Appends s.before.got s.after.got (refused_text s.number why) → HasAnswered s (line ∷ [])
unfolding accepted talk_from
answers-bad s line why says same still put = record {
  items = [];
  more = none-more s.old s.new same;
  commands = rw says refl;
  file = still ∙ sym (more-nil s.before.files s.name);
  put = rw (says, append-nil (refused_text s.number why)) put;
}

-- a line whose command was done
pub answers-command : {A : Type 0} (x : A) (s : Stretch) (line : List ℕ) (command : Command) → said_by s.old.flow line ≡ script_line.Command command
    → Performs (Ok x) (doing s command) → HasAnswered s (line ∷ [])
unfolding accepted talk_from replies_to
answers-command x s line command says (one, (grew, file), short, put) = record {
  items = one ∷ [];
  more = one-more s.old s.new command one grew;
  commands = rw says (ap (λ c. c ∷ []) grew.command);
  file = file ∙ ap (λ text. with_more s.before.files s.name text) (sym (append-nil (item_text one)));
  put = rw (says, append-nil) put;
}

-- a line that is refused was told so, or it was not
pub line-bad : (r : Result (Unit {0}) Failure) (s : Stretch) (line text : List ℕ) (why : ScriptWhy) → said_by s.old.flow line ≡ script_line.Bad why → s.new ≡ s.old
    → text ≡ refused_text s.number why → Sent r text s.before s.after → PutsOnly s.before s.after → AnswersLine r s line
line-bad (Ok x) s line text why says same is sent only = answers-bad s line why says same (ap (λ (w : World). w.files) only) (rw is at sent.1)
line-bad (Err failure.OutFault) s line text why says same is sent only = rw says (same, ap (λ (w : World). w.files) only, rw is at sent.2)
line-bad (Err failure.NoMemory) s line text why says same is sent only = rw says (same, ap (λ (w : World). w.files) only, sent.1)
line-bad (Err other) s line text why says same is sent only = absurd sent

-- there was no memory for a line
pub line-unread : (s : Stretch) (line : List ℕ) → s.new ≡ s.old → s.after ≡ s.before → AnswersLine (Err failure.NoMemory) s line
line-unread s line same still = by-said (said_by s.old.flow line)
  where
    by-said : (said : ScriptLine) → StopsAtLine failure.NoMemory s said
    by-said script_line.Skipped = (same, (ap (λ (w : World). w.files) still, ap (λ (w : World). w.got) still))
    by-said (script_line.Bad why) = (same, ap (λ (w : World). w.files) still, keeps-same s.before.got s.after.got (ap (λ (w : World). w.got) still))
    by-said (script_line.Command command) = inl (ap (λ (w : World). w.files) still, ap (λ (w : World). w.got) still)

-- whatever a command gives back where it is done
pub performs-any : (A : Type 0) (f : Failure) (d : Doing) → Performs {A = A} (Err f) d → Performs {A = Unit {0}} (Err f) d
performs-any A failure.LogFault d p = p
performs-any A failure.OutFault d p = p
performs-any A failure.Long d p = p
performs-any A failure.NoMemory d p = p
performs-any A other d p = p

-- a command was not done
pub line-stopped : (A : Type 0) (f : Failure) (s : Stretch) (line : List ℕ) (command : Command) → said_by s.old.flow line ≡ script_line.Command command
    → Performs {A = A} (Err f) (doing s command) → AnswersLine (Err f) s line
line-stopped A f s line command says performs = rw says (performs-any A f (doing s command) performs)

-- ---- what stands after it

pub scripted-end : (done : Command) → is_scripted done ≡ true → done ≢ command.End
scripted-end done h e = let never : false ≡ true = rw e at h in cc

-- the debugger goes on
pub sound-next : {A : Type 0} (x : A) (d : Doing) → IsSound d.old → Performs (Ok x) d → IsLegal (query_in d.new) d.new.log → MayFollow d.new.log → IsSound d.new
sound-next x d h (one, (grew, file), short, put) legal more = record {
  legal = legal;
  in_time = rw (grew.flow, grew.files, grew.most, grew.log) (items-in-time d.old d.command one h.in_time (next-item d.old d.new d.command one grew legal));
  more = more;
  most = grew.most ∙ h.most;
}
