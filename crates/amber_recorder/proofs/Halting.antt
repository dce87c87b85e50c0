-- What stands after a command that failed.
use Rattle.std.proofs.Common.{◌≡◌, ◌≢◌, ℕ, suc, ◌+◌, ◌≤◌, ◌⊎◌, inl, inr, length-append, List, [], ◌∷◌, ◌++◌, length, map, take, Option, None, Some, Result, Ok, Err, Bool, true, false, refl, sym, ap, subst, ◌∙◌, arith}
use Rattle.std.proofs.lemmas.List.{append-nil}
use Rattle.std.proofs.Math.Seq.{take-append_seam}
use Rattle.std.specs.Io.KnownBytes.{Appends, Keeps}
use Rattle.amber_io.specs.Folder.{Named, with_file, with_more}
use Rattle.amber_io.specs.World.{World}
use Rattle.amber_io.proofs.Told.{with_more-with_file}
use Rattle.amber_log.specs.Grammar.{AreItems, IsItem, IsLog, is_last}
use Rattle.amber_log.specs.LogText.{item_text, log_text}
use Rattle.amber_log.specs.ReadAs.{IsReadAs}
use Rattle.amber_log.specs.declared.command.Command.{Command}
use Rattle.amber_log.specs.declared.log.Item.{Item}
use Rattle.amber_log.specs.declared.log.Log.{Log}
use Rattle.amber_log.proofs.Pushes.{log_text-push}
use Rattle.amber_log.proofs.Torn.{reads-torn, reads-whole}
use Rattle.amber_meaning.specs.InTime.{AreInTime}
use Rattle.amber_meaning.specs.Legal.{IsLegal}
use Rattle.amber_meaning.specs.Replay.{state_after}
use Rattle.amber_meaning.specs.State.{start_of}
use Rattle.amber_meaning.specs.Transcript.{replies, reply_of}
use Rattle.amber_meaning.proofs.InTime.{AreInTime-push}
use Rattle.amber_leg.specs.Leg.{most_late}
use Rattle.amber_debug.specs.Session.{Grew, Session, command_of, is_long_item, one_more, query_in}
use Rattle.amber_course.specs.declared.failure.Failure.{Failure}
use Rattle.amber_course.specs.declared.failure.Failure.TheVariants as failure
use Rattle.amber_course.proofs.Lines.{appends-same, keeps-nil}
use Rattle.amber_recorder.specs.Left.{ClosesAs, HasTorn, IsHalted, IsNextItem, IsWritten, ends_long, log_with}
use Rattle.amber_recorder.specs.Recording.{Doing, Performs, reply_to}

-- ---- lists

pub take-front : (part rest whole : List ℕ) → part ++ rest ≡ whole → take (length part) whole ≡ part
take-front part rest whole e = subst (λ w. take (length part) w ≡ part) e (take-append_seam part rest)

-- a front part is not the whole where some is left
pub not-whole : (part : List ℕ) (x : ℕ) (xs whole : List ℕ) → part ++ x ∷ xs ≡ whole → part ≡ whole → ⊥
not-whole part x xs whole e all =
    let longer : length part + suc (length xs) ≡ length whole = sym (length-append part (x ∷ xs)) ∙ ap length e in
    let same : length part ≡ length whole = ap length all in
    omega arith

pub last-is : (over : Bool) (items : List Item) (one : Item) → AreItems over (items ++ one ∷ []) → IsItem one
unfolding AreItems
last-is over [] one h = h.1
last-is over (x ∷ items) one h = last-is (is_last x) items one h.2

pub ends_long-push : (long : Bool) (items : List Item) (one : Item) → ends_long long (items ++ one ∷ []) ≡ is_long_item one
ends_long-push long [] one = refl
ends_long-push long (x ∷ items) one = ends_long-push (is_long_item x) items one

one-few : (one : Item) → length (one ∷ []) ≤ 1
one-few one = omega arith

-- ---- what a sink that was left alone has got

keeps-self : (a : Option (List ℕ)) → Keeps a a
keeps-self None = tt
keeps-self (Some x) = refl

pub keeps-same : (a b : Option (List ℕ)) → b ≡ a → Keeps a b
keeps-same a b e = subst (λ got. Keeps a got) (sym e) (keeps-self a)

pub appends-none : (a b : Option (List ℕ)) → b ≡ a → Appends a b []
appends-none a b e = subst (λ got. Appends a got []) (sym e) (appends-same a)

-- ---- items

-- a debugger grew by an item for its command
pub next-item : (old new : Session) (done : Command) (one : Item) → Grew old new done one → IsLegal (query_in new) new.log → IsNextItem old done one
next-item old new done one grew legal = record {
  command = grew.command;
  legal = rw (grew.flow, grew.files, grew.most, grew.log) at legal;
  in_time = grew.in_time;
}

pub items-in-time : (d : Session) (done : Command) (one : Item) → AreInTime (query_in d) most_late (start_of d.flow) d.log.items → IsNextItem d done one
    → AreInTime (query_in d) most_late (start_of d.flow) (d.log.items ++ one ∷ [])
unfolding state_after
items-in-time d done one h item = AreInTime-push (query_in d) most_late (start_of d.flow) d.log.items one h item.in_time

-- where an item more was written
pub item-place : (told : Option Named) (name : List ℕ) (log : Log) (one : Item) (mid files : Option Named) → mid ≡ with_file told name (log_text log)
    → files ≡ with_more mid name (item_text one) → files ≡ with_file told name (log_text (one_more log one))
item-place told name log one mid files place new =
    new ∙ ap (λ m. with_more m name (item_text one)) place ∙ with_more-with_file told name (log_text log) (item_text one)
    ∙ ap (λ b. with_file told name b) (sym (log_text-push log one))

-- after a log an item that is torn changes nothing
pub torn-item : (log : Log) (one : Item) (part : List ℕ) (x : ℕ) (xs : List ℕ) → IsLog log → IsItem one → part ++ x ∷ xs ≡ item_text one → IsReadAs (log_text log ++ part) log
torn-item log one part x xs h i whole =
    elim (rw (take-front part (x ∷ xs) (item_text one) whole) at (reads-torn log one (length part) h i)) [
      | inl read ↦ read
      | inr all ↦ absurd (not-whole part x xs (item_text one) whole all)
    ]

-- ---- a command that failed

-- the log is as it was, and perhaps a torn item after it
halted-log : (f : Failure) (told : Option Named) (d : Doing) (bytes : List ℕ) → IsWritten told d → d.after.files ≡ with_file told d.name bytes → d.after.got ≡ d.before.got
    → IsReadAs bytes d.old.log → (bytes ≡ log_text d.old.log) ⊎ ((f ≡ failure.LogFault) × HasTorn d bytes) → ClosesAs f false → IsHalted f told d
unfolding replies AreInTime
halted-log f told d bytes h place same read stands closed = record {
  last = [];
  left = d.command ∷ [];
  bytes = bytes;
  part = [];
  rest = [];
  place = place;
  few = omega arith;
  read = rw (append-nil d.old.log.items) read;
  stands = rw (append-nil d.old.log.items) (elim stands [ inl text ↦ inl text | inr torn ↦ inr (torn.0, refl, torn.1) ]);
  legal = rw (append-nil d.old.log.items) h.legal;
  in_time = tt;
  commands = refl;
  split = refl;
  whole = λ n. refl;
  sent = appends-none d.before.got d.after.got same;
  closed = rw (append-nil d.old.log.items, h.short) closed;
}

-- the log has an item more, and a part of its reply was put
halted-item : (f : Failure) (told : Option Named) (d : Doing) (one : Item) (part rest : List ℕ) → IsWritten told d → IsNextItem d.old d.command one
    → d.after.files ≡ with_file told d.name (log_text (one_more d.old.log one)) → part ++ rest ≡ reply_to d.old one
    → (f ≢ failure.OutFault → part ≡ []) → Appends d.before.got d.after.got part → ClosesAs f (is_long_item one) → IsHalted f told d
unfolding replies AreInTime
halted-item f told d one part rest h item place split whole put closed = record {
  last = one ∷ [];
  left = [];
  bytes = log_text (one_more d.old.log one);
  part = part;
  rest = rest;
  place = place;
  few = one-few one;
  read = reads-whole (one_more d.old.log one) item.legal.text;
  stands = inl refl;
  legal = item.legal;
  in_time = (item.in_time, tt);
  commands = ap (λ c. c ∷ []) item.command;
  split = split ∙ sym (append-nil (reply_to d.old one));
  whole = whole;
  sent = put;
  closed = rw (ends_long-push false d.old.log.items one) closed;
}

-- whatever failed
pub performs-halts : (A : Type 0) (f : Failure) (told : Option Named) (d : Doing) → IsWritten told d → Performs {A = A} (Err f) d → IsLegal (query_in d.new) d.new.log
    → IsHalted f told d
performs-halts A failure.LogFault told d h (one, (grew, (part, rest, whole, new), same)) legal =
    by-rest rest whole
  where
    item : IsNextItem d.old d.command one
    item = next-item d.old d.new d.command one grew legal

    place : d.after.files ≡ with_file told d.name (log_text d.old.log ++ part)
    place = new ∙ ap (λ m. with_more m d.name part) h.place ∙ with_more-with_file told d.name (log_text d.old.log) part

    by-rest : (rest : List ℕ) → part ++ rest ≡ item_text one → IsHalted failure.LogFault told d
    by-rest [] whole =
        let all : part ≡ item_text one = sym (append-nil part) ∙ whole in
        halted-item failure.LogFault told d one [] (reply_to d.old one) h item
        (item-place told d.name d.old.log one d.before.files d.after.files h.place (new ∙ ap (λ b. with_more d.before.files d.name b) all)) refl (λ n. refl)
        (appends-none d.before.got d.after.got same) tt
    by-rest (x ∷ xs) whole =
        let torn : HasTorn d (log_text d.old.log ++ part) = record { one = one; item = item; torn = part; front = (x ∷ xs, whole, λ e. cc); text = refl } in
        halted-log failure.LogFault told d (log_text d.old.log ++ part) h place same
        (torn-item d.old.log one part x xs h.legal.text (last-is false d.old.log.items one item.legal.text.items) whole) (inr (refl, torn)) tt
performs-halts A failure.OutFault told d h (one, (grew, file), short, begins) legal =
    halted-item failure.OutFault told d one begins.0 begins.1 h (next-item d.old d.new d.command one grew legal)
    (item-place told d.name d.old.log one d.before.files d.after.files h.place file) begins.2 (λ n. absurd (n refl)) begins.3 short
performs-halts A failure.Long told d h (one, (grew, file), long, same) legal =
    halted-item failure.Long told d one [] (reply_to d.old one) h (next-item d.old d.new d.command one grew legal)
    (item-place told d.name d.old.log one d.before.files d.after.files h.place file) refl (λ n. refl) (appends-none d.before.got d.after.got same) long
performs-halts A failure.NoMemory told d h (inl undone) legal =
    halted-log failure.NoMemory told d (log_text d.old.log) h (undone.0 ∙ h.place) undone.1 (reads-whole d.old.log h.legal.text) (inl refl) tt
performs-halts A failure.NoMemory told d h (inr (one, (grew, file), short, kept)) legal =
    halted-item failure.NoMemory told d one [] (reply_to d.old one) h (next-item d.old d.new d.command one grew legal)
    (item-place told d.name d.old.log one d.before.files d.after.files h.place file) refl (λ n. refl) (keeps-nil d.before.got d.after.got kept) tt
performs-halts A other told d h never legal = absurd never
