-- What stands after each step of a run.
use Rattle.std.proofs.Common.{◌≡◌, ℕ, ◌⊎◌, inl, inr, List, [], ◌∷◌, ◌++◌, length, map, Result, Ok, Err, false, refl, sym, ap, subst, ◌∙◌, arith, append_assoc}
use Rattle.std.specs.Result.{MatchResult}
use Rattle.std.proofs.lemmas.List.{append-nil, map-append}
use Rattle.std.specs.Io.KnownBytes.{Appends}
use Rattle.amber_io.specs.Folder.{with_file, with_more}
use Rattle.amber_io.specs.World.{World}
use Rattle.amber_log.specs.Grammar.{AreItems, IsBatch}
use Rattle.amber_log.specs.LogText.{head_text, item_text, log_text}
use Rattle.amber_log.specs.ReadAs.{IsReadAs}
use Rattle.amber_log.specs.declared.command.Command.{Command}
use Rattle.amber_log.specs.declared.log.Item.{Item}
use Rattle.amber_log.proofs.Pushes.{log_text-head}
use Rattle.amber_log.proofs.Torn.{reads-torn_head, reads-whole}
use Rattle.amber_meaning.specs.InTime.{AreInTime, IsInTime}
use Rattle.amber_meaning.specs.Legal.{IsLegal, Query, Reaches}
use Rattle.amber_meaning.specs.Replay.{state_after}
use Rattle.amber_meaning.specs.State.{start_of}
use Rattle.amber_meaning.specs.Transcript.{replies, reply_of, transcript_of}
use Rattle.amber_meaning.proofs.Fronts.{transcripts_grow}
use Rattle.amber_debug.specs.Session.{Grew, Session, command_of, is_long_item, one_more, query_in}
use Rattle.amber_leg.specs.Leg.{most_late}
use Rattle.amber_recorder.specs.Left.{ClosesAs, HasTorn, IsHalted, IsNextItem, IsWritten, log_with}
use Rattle.amber_recorder.specs.Recording.{Doing, MakesFile, Performs, reply_to}
use Rattle.amber_recorder.proofs.Halting.{appends-none, ends_long-push, item-place, keeps-same, next-item, not-whole, performs-halts, take-front}
use Rattle.amber_run.specs.UnderWay.{Halts, HasText, HasTornHead, HasTornItem, IsAt, IsItemFor, IsLeft, IsUnderWay, Opens, log_of_items}
use Rattle.amber_run.specs.RunTask.{IsSession, RunTask, query_at}
use Rattle.amber_run.proofs.Adding.{added-in-time, item-in-time}
use Rattle.amber_course.specs.declared.failure.Failure.{Failure}
use Rattle.amber_course.specs.declared.failure.Failure.TheVariants as failure
use Rattle.amber_course.proofs.Lines.{appends-on}

-- ---- the log's head

legal-start : (t : RunTask) (batch : ℕ) → IsBatch batch → IsLegal (query_at t batch) (log_of_items batch [])
unfolding AreItems Reaches
legal-start t batch h = record { text = record { batch = h; items = tt }; batch = refl; after = start_of t.flow; reached = refl }

pub stands-start : (t : RunTask) (batch : ℕ) (now : World) → IsBatch batch → t.batch_size ≡ batch → now.files ≡ with_file t.before.files t.name (head_text batch)
    → now.got ≡ t.before.got → t.begun ≡ [] → IsUnderWay t t.commands (log_of_items batch []) now
unfolding log_text transcript_of replies AreInTime
stands-start t batch now h is place same fresh = record {
  batch = sym is;
  added = [];
  items = ap (λ begun. begun ++ []) (sym fresh);
  legal = legal-start t batch h;
  in_time = tt;
  commands = refl;
  place = place ∙ ap (λ text. with_file t.before.files t.name text) (sym (append-nil (head_text batch)));
  sent = appends-none t.before.got now.got same;
  short = refl;
}

-- the head was written, or is torn if the log could not be written
pub HasHead : RunTask → Failure → ℕ → List ℕ → Type 0
HasHead t s batch bytes = HasText t (log_of_items batch []) bytes ⊎ ((s ≡ failure.LogFault) × HasTornHead t (log_of_items batch []) bytes)

-- a log of no item
pub left-head : (t : RunTask) (s : Failure) (bytes : List ℕ) (batch : ℕ) (now : World) → IsBatch batch → IsReadAs bytes (log_of_items batch []) → HasHead t s batch bytes
    → now.files ≡ with_file t.before.files t.name bytes → now.got ≡ t.before.got → ClosesAs s false → IsLeft t s now
unfolding transcript_of replies AreInTime HasHead
left-head t s bytes batch now h read stands place same closed = record {
  batch = batch;
  done = [];
  last = [];
  added = [];
  left = t.commands;
  bytes = bytes;
  part = [];
  rest = [];
  place = place;
  kept = inr (t.begun, refl, refl, refl);
  read = read;
  stands = elim stands [ inl text ↦ inl text | inr torn ↦ inr (inl (torn.0, refl, inr torn.1)) ];
  legal = legal-start t batch h;
  in_time = tt;
  commands = refl;
  split = refl;
  whole = λ n. refl;
  sent = appends-none t.before.got now.got same;
  closed = inl closed;
}

-- it was written whole
pub has-head : (t : RunTask) (s : Failure) → HasHead t s t.batch_size (head_text t.batch_size)
unfolding HasHead
has-head t s = inl (record { batch = refl; text = sym (log_text-head t.batch_size) })

no-items : AreItems false []
unfolding AreItems
no-items = tt

pub head-read : (batch : ℕ) → IsBatch batch → IsReadAs (head_text batch) (log_of_items batch [])
head-read batch h =
    subst (λ text. IsReadAs text (log_of_items batch [])) (log_text-head batch) (reads-whole (log_of_items batch []) (record { batch = h; items = no-items }))

empty-batch : IsBatch 400
empty-batch = (omega arith, omega arith)

-- a head that is torn is read as the log of no item
torn-read : (batch : ℕ) (part : List ℕ) (x : ℕ) (xs : List ℕ) → IsBatch batch → part ++ x ∷ xs ≡ head_text batch → IsReadAs part (log_of_items 400 [])
torn-read batch part x xs h whole =
    elim (rw (take-front part (x ∷ xs) (head_text batch) whole) at (reads-torn_head batch (length part) h)) [
      | inl read ↦ read
      | inr all ↦ absurd (not-whole part x xs (head_text batch) whole all)
    ]

-- whatever became of it
pub opens-made : (r : Result (Unit {0}) Failure) (t : RunTask) (batch : ℕ) (now : World) → IsBatch batch → t.batch_size ≡ batch
    → MakesFile r (record { name = t.name; bytes = head_text batch }) t.before now → now.got ≡ t.before.got → Opens r t now
unfolding HasHead
opens-made (Ok x) t batch now h is made same = (made ∙ ap (λ n. with_file t.before.files t.name (head_text n)) (sym is), same)
opens-made (Err failure.LogFault) t batch now h is (inl unmade) same = inl (unmade, keeps-same t.before.got now.got same)
opens-made (Err failure.LogFault) t batch now h is (inr (part, rest, split, new)) same =
    inr (by-rest rest split)
  where
    by-rest : (rest : List ℕ) → part ++ rest ≡ head_text batch → IsLeft t failure.LogFault now
    by-rest [] whole =
        let all : part ≡ head_text batch = sym (append-nil part) ∙ whole in
        left-head t failure.LogFault part batch now h (rw all (head-read batch h)) (inl (record { batch = sym is; text = all ∙ sym (log_text-head batch) })) new same tt
    by-rest (x ∷ xs) whole =
        left-head t failure.LogFault part 400 now empty-batch (torn-read batch part x xs h whole) (inr (refl, record { none = refl; front = (x ∷ xs, whole ∙ ap head_text (sym is), λ e. cc) })) new same tt
opens-made (Err failure.NoMemory) t batch now h is (inl stays) same = (inl stays, keeps-same t.before.got now.got same)
opens-made (Err failure.NoMemory) t batch now h is (inr made) same = (inr (inr made), keeps-same t.before.got now.got same)
opens-made (Err other) t batch now h is made same = absurd made

-- ---- a command

-- what the session runs
session-query : (t : RunTask) (d : Session) → IsSession t d → query_in d ≡ query_at t d.log.batch
session-query t d h = rw (h.flow, h.inputs, h.most) refl

query-back : (t : RunTask) (d : Session) → IsSession t d → query_at t d.log.batch ≡ query_in d
query-back t d h = sym (session-query t d h)

-- the log of a run is written
written-at : (t : RunTask) (left : List Command) (d : Doing) → d.name ≡ t.name → IsAt t left d.old d.before → IsWritten t.before.files d
written-at t left d is h = record {
  legal = subst (λ query. IsLegal query d.old.log) (query-back t d.old h.session) h.way.legal;
  short = h.way.short;
  place = h.way.place ∙ ap (λ name. with_file t.before.files name (log_text d.old.log)) (sym is);
}

-- an item that comes next
item-for : (t : RunTask) (d : Session) (done : Command) (one : Item) → IsSession t d → IsNextItem d done one → IsItemFor t d.log done one
item-for t d done one h item = record {
  command = item.command;
  legal = subst (λ query. IsLegal query (one_more d.log one)) (session-query t d h) item.legal;
  in_time = subst (λ query. IsInTime query most_late (state_after query d.log.items) one) (session-query t d h) item.in_time;
}

-- the item is torn
torn-for : (t : RunTask) (left : List Command) (d : Doing) (bytes : List ℕ) (last : List Item) (none : List Command) → IsAt t (d.command ∷ left) d.old d.before
    → last ≡ [] → map command_of last ++ none ≡ d.command ∷ [] → HasTorn d bytes → HasTornItem t (none ++ left) (log_of_items d.old.log.batch (d.old.log.items ++ last)) bytes
torn-for t left d bytes [] none h is commands torn = rw (append-nil d.old.log.items) (record {
  batch = h.way.batch;
  next = d.command;
  later = left;
  commands = ap (λ c. c ++ left) commands;
  one = torn.one;
  item = item-for t d.old d.command torn.one h.session torn.item;
  torn = torn.torn;
  front = torn.front;
  text = torn.text;
})
torn-for t left d bytes (x ∷ last) none h is commands torn = absurd (cons-not x last is)
  where
    cons-not : (x : Item) (xs : List Item) → x ∷ xs ≡ [] → ⊥
    cons-not x xs e = cc

-- a command failed
left-halted : (t : RunTask) (left : List Command) (f : Failure) (d : Doing) → d.name ≡ t.name → IsAt t (d.command ∷ left) d.old d.before → IsHalted f t.before.files d
    → IsLeft t f d.after
left-halted t left f d is h halted =
    let done = d.old.log.items in
    let query = session-query t d.old h.session in
    record {
      batch = d.old.log.batch;
      done = done;
      last = halted.last;
      added = h.way.added ++ halted.last;
      left = halted.left ++ left;
      bytes = halted.bytes;
      part = halted.part;
      rest = halted.rest;
      place = halted.place ∙ ap (λ name. with_file t.before.files name halted.bytes) is;
      kept = inl (h.way.added, h.way.items, refl, halted.few);
      read = halted.read;
      stands = elim halted.stands [
        | inl text ↦ inl (record { batch = h.way.batch; text = text })
        | inr torn ↦ inr (inl (torn.0, torn.1, inl (torn-for t left d halted.bytes halted.last halted.left h torn.1 halted.commands torn.2)))
      ];
      legal = subst (λ query. IsLegal query (log_with d halted.last)) query halted.legal;
      in_time = added-in-time (query_at t d.old.log.batch) most_late t.begun h.way.added done halted.last h.way.items h.way.in_time
          (subst (λ query. AreInTime query most_late (state_after query done) halted.last) query halted.in_time);
      commands = ap (λ c. c ++ (halted.left ++ left)) (map-append command_of done halted.last) ∙ append_assoc (map command_of done) (map command_of halted.last) (halted.left ++ left)
          ∙ ap (λ c. map command_of done ++ c) (sym (append_assoc (map command_of halted.last) halted.left left) ∙ ap (λ c. c ++ left) halted.commands) ∙ h.way.commands;
      split = subst (λ query. halted.part ++ halted.rest ≡ replies query (state_after query done) halted.last) query halted.split;
      whole = halted.whole;
      sent = appends-on t.before.got d.before.got d.after.got (transcript_of (query_at t d.old.log.batch) done) halted.part h.way.sent halted.sent;
      closed = inl halted.closed;
    }

session-next : (t : RunTask) (old new : Session) (done : Command) (one : Item) → IsSession t old → Grew old new done one → IsSession t new
session-next t old new done one h grew = record { flow = grew.flow ∙ h.flow; inputs = grew.files ∙ h.inputs; most = grew.most ∙ h.most }

-- a command was done
stands-next : (t : RunTask) (left : List Command) (d : Doing) (one : Item) → d.name ≡ t.name → IsAt t (d.command ∷ left) d.old d.before → IsNextItem d.old d.command one
    → d.after.files ≡ with_more d.before.files d.name (item_text one) → is_long_item one ≡ false → Appends d.before.got d.after.got (reply_to d.old one)
    → IsUnderWay t left (one_more d.old.log one) d.after
stands-next t left d one is h item file short put =
    let log = d.old.log in
    let query = query_at t log.batch in
    let for = item-for t d.old d.command one h.session item in
    let answer : reply_to d.old one ≡ reply_of query (state_after query log.items) one =
    ap (λ query. reply_of query (state_after query log.items) one) (session-query t d.old h.session) in
    record {
      batch = h.way.batch;
      added = h.way.added ++ one ∷ [];
      items = ap (λ items. items ++ one ∷ []) h.way.items ∙ append_assoc t.begun h.way.added (one ∷ []);
      legal = for.legal;
      in_time = item-in-time query most_late t.begun h.way.added log.items one h.way.items h.way.in_time for.in_time;
      commands = ap (λ c. c ++ left) (map-append command_of log.items (one ∷ []) ∙ ap (λ c. map command_of log.items ++ c ∷ []) for.command)
          ∙ append_assoc (map command_of log.items) (d.command ∷ []) left ∙ h.way.commands;
      place = item-place t.before.files t.name log one d.before.files d.after.files h.way.place (file ∙ ap (λ name. with_more d.before.files name (item_text one)) is);
      sent = rw (transcripts_grow query log.items one).0
          (appends-on t.before.got d.before.got d.after.got (transcript_of query log.items) (reply_of query (state_after query log.items) one) h.way.sent (rw answer at put));
      short = ends_long-push false log.items one ∙ short;
    }

-- a command failed
pub halts-performed : (A : Type 0) (f : Failure) (t : RunTask) (left : List Command) (d : Doing) → d.name ≡ t.name → IsAt t (d.command ∷ left) d.old d.before
    → Performs {A = A} (Err f) d → IsLegal (query_in d.new) d.new.log → Halts t d.after f
halts-performed A failure.LogFault t left d is h p legal =
    left-halted t left failure.LogFault d is h (performs-halts A failure.LogFault t.before.files d (written-at t (d.command ∷ left) d is h) p legal)
halts-performed A failure.OutFault t left d is h p legal =
    left-halted t left failure.OutFault d is h (performs-halts A failure.OutFault t.before.files d (written-at t (d.command ∷ left) d is h) p legal)
halts-performed A failure.Long t left d is h p legal =
    left-halted t left failure.Long d is h (performs-halts A failure.Long t.before.files d (written-at t (d.command ∷ left) d is h) p legal)
halts-performed A failure.NoMemory t left d is h p legal =
    left-halted t left failure.NoMemory d is h (performs-halts A failure.NoMemory t.before.files d (written-at t (d.command ∷ left) d is h) p legal)
halts-performed A other t left d is h p legal = absurd p

-- a command was done, or it failed
pub at-performed : {A : Type 0} (r : Result A Failure) (t : RunTask) (left : List Command) (d : Doing) → d.name ≡ t.name → IsAt t (d.command ∷ left) d.old d.before
    → Performs r d → IsLegal (query_in d.new) d.new.log → MatchResult r (λ x. IsAt t left d.new d.after) (Halts t d.after)
at-performed (Ok x) t left d is h (one, (grew, file), short, put) legal = record {
  session = session-next t d.old d.new d.command one h.session grew;
  way = rw grew.log (stands-next t left d one is h (next-item d.old d.new d.command one grew legal) file short put);
}
at-performed {A = A} (Err f) t left d is h performs legal = halts-performed A f t left d is h performs legal
