-- What the pieces of a log and of a reply leave, one after the other.
use Rattle.std.proofs.Common.{◌≡◌, ◌≢◌, ℕ, ◌⊎◌, inl, inr, List, [], ◌∷◌, ◌++◌, Option, Result, Ok, Err, IfOk, Bool, true, false, refl, sym, ap, subst, ◌∙◌}
use Rattle.std.specs.Io.KnownBytes.{Appends, Keeps}
use Rattle.amber_io.specs.Folder.{IsThere, Named, with_file, with_more}
use Rattle.amber_io.specs.World.{PutsOnly, World, WritesOnly}
use Rattle.amber_io.proofs.Told.{more_there, with_more-with_file}
use Rattle.amber_log.specs.Grammar.{ends_over, is_last}
use Rattle.amber_log.specs.declared.command.Command.{Command}
use Rattle.amber_log.specs.declared.command.Command.TheVariants as command
use Rattle.amber_log.specs.declared.log.Item.{Item}
use Rattle.amber_log.specs.declared.log.Item.TheVariants as item
use Rattle.amber_course.specs.Steps.{Sent}
use Rattle.amber_course.specs.declared.failure.Failure.{Failure}
use Rattle.amber_course.specs.declared.failure.Failure.TheVariants as failure
use Rattle.amber_debug.specs.Session.{Does, Session, command_of, is_long_item}
use Rattle.amber_debug.specs.declared.done.DebugErr.TheVariants as debug_err
use Rattle.amber_debug.specs.declared.done.Done.{Done}
use Rattle.amber_recorder.specs.Recording.{Doing, MakesFile, Performs, ReportsItem}
use Rattle.amber_recorder.specs.Writing.{Made, Wrote}

-- ---- the log's file

pub writes-on : (before mid after : World) → WritesOnly before mid → WritesOnly mid after → WritesOnly before after
writes-on before mid after p q = rw p at q

-- it was not made
pub makes-none : (s : Failure) (name bytes : List ℕ) (before after : World) → Made {A = Unit {0}} (Err s) name before after
    → MakesFile {A = Unit {0}} (Err s) (record { name = name; bytes = bytes }) before after
makes-none failure.LogFault name bytes before after h = inl h
makes-none failure.NoMemory name bytes before after h = inl h
makes-none other name bytes before after h = absurd h

-- whatever became of the piece that was to be written into it
pub makes-piece : (r : Result (Unit {0}) Failure) (name bytes : List ℕ) (before mid after : World) → mid.files ≡ with_file before.files name []
    → Wrote r (record { name = name; bytes = bytes }) mid after → MakesFile r (record { name = name; bytes = bytes }) before after
makes-piece (Ok x) name bytes before mid after made new = new ∙ ap (λ m. with_more m name bytes) made ∙ with_more-with_file before.files name [] bytes
makes-piece (Err failure.LogFault) name bytes before mid after made (part, rest, split, new) =
    inr (part, rest, split, new ∙ ap (λ m. with_more m name part) made ∙ with_more-with_file before.files name [] part)
makes-piece (Err failure.NoMemory) name bytes before mid after made new = inr (new ∙ made)
makes-piece (Err other) name bytes before mid after made new = absurd new

pub there-written : (r : Result (Unit {0}) Failure) (name bytes : List ℕ) (mid now : World) → IsThere mid.files name → Wrote r (record { name = name; bytes = bytes }) mid now
    → IfOk r (λ done. IsThere now.files name)
there-written (Ok done) name bytes mid now there new = subst (λ files. IsThere files name) (sym new) (more_there mid.files name bytes there)
there-written (Err s) name bytes mid now there new = tt

-- ---- an item and its reply

-- the item was not written
pub reports-none : (s : Failure) (name : List ℕ) (done : Done) (before after : World) → Wrote {A = Unit {0}} (Err s) (record { name = name; bytes = done.item }) before after
    → after.got ≡ before.got → ReportsItem {A = Unit {0}} (Err s) (record { name = name; done = done }) before after
reports-none failure.LogFault name done before after wrote same = (wrote, same)
reports-none failure.NoMemory name done before after wrote same = inl (wrote, same)
reports-none other name done before after wrote same = absurd wrote

-- it was, whatever became of the reply
pub reports-reply : (r : Result (Unit {0}) Failure) (name : List ℕ) (done : Done) (before mid after : World) → mid.files ≡ with_more before.files name done.item → mid.got ≡ before.got
    → Sent r done.reply mid after → after.files ≡ mid.files → ReportsItem r (record { name = name; done = done }) before after
reports-reply (Ok x) name done before mid after new same sent kept = (kept ∙ new, rw same at sent.1)
reports-reply (Err failure.OutFault) name done before mid after new same sent kept = (kept ∙ new, rw same at sent.2)
reports-reply (Err failure.NoMemory) name done before mid after new same sent kept = inr (kept ∙ new, rw same at sent.1)
reports-reply (Err other) name done before mid after new same sent kept = absurd sent

-- ---- a command

-- it was done, and all of it was reported
pub reported-all : {A B : Type 0} (a : A) (x : B) (d : Doing) (told : Done) → Does (Ok told) d.old d.new d.command
    → ReportsItem {A = A} (Ok a) (record { name = d.name; done = told }) d.before d.after → Performs {A = B} (Ok x) d
reported-all a x d told does h = (does.0, (does.1, rw does.3 at h.0), does.2, rw does.4 at h.1)

-- it was done, and that was not reported
pub reported-none : (A B : Type 0) (f : Failure) (d : Doing) (told : Done) → Does (Ok told) d.old d.new d.command
    → ReportsItem {A = A} (Err f) (record { name = d.name; done = told }) d.before d.after → Performs {A = B} (Err f) d
reported-none A B failure.LogFault d told does h = (does.0, (does.1, rw does.3 at h.0, h.1))
reported-none A B failure.OutFault d told does h = (does.0, (does.1, rw does.3 at h.0), does.2, rw does.4 at h.1)
reported-none A B failure.NoMemory d told does (inl h) = inl h
reported-none A B failure.NoMemory d told does (inr h) = inr (does.0, (does.1, rw does.3 at h.0), does.2, h.1)
reported-none A B other d told does h = absurd h

-- there was no memory for it
pub performs-none : (A : Type 0) (d : Doing) → d.after ≡ d.before → Performs {A = A} (Err failure.NoMemory) d
performs-none A d e = inl (ap (λ (w : World). w.files) e, ap (λ (w : World). w.got) e)

-- its leg was too long, and was not written
pub performs-unlogged : (A : Type 0) (s : Failure) (d : Doing) (text : List ℕ) → Does (Err (debug_err.Long text)) d.old d.new d.command
    → Wrote {A = Unit {0}} (Err s) (record { name = d.name; bytes = text }) d.before d.after → d.after.got ≡ d.before.got → Performs {A = A} (Err s) d
performs-unlogged A failure.LogFault d text does wrote same = (does.0, (does.1, rw does.3 at wrote, same))
performs-unlogged A failure.NoMemory d text does wrote same = inl (wrote, same)
performs-unlogged A other d text does wrote same = absurd wrote

-- its leg was too long, and stands in the log
pub performs-long : (A : Type 0) (d : Doing) (text : List ℕ) → Does (Err (debug_err.Long text)) d.old d.new d.command
    → d.after.files ≡ with_more d.before.files d.name text → d.after.got ≡ d.before.got → Performs {A = A} (Err failure.Long) d
performs-long A d text does wrote same = (does.0, (does.1, rw does.3 at wrote), does.2, same)

-- ---- what may follow

ends_over-push : (over : Bool) (items : List Item) (one : Item) → ends_over over (items ++ one ∷ []) ≡ is_last one
ends_over-push over [] one = refl
ends_over-push over (x ∷ items) one = ends_over-push (is_last x) items one

not-last : (one : Item) (done : Command) → command_of one ≡ done → is_long_item one ≡ false → done ≢ command.End → is_last one ≡ false
not-last (item.Do c) done is short other = refl
not-last (item.Run leg) done is short other = short
not-last (item.End leg) done is short other = absurd (other (sym is))

-- more may follow
pub open-next : (old new : Session) (done : Command) (told : Done) → Does (Ok told) old new done → done ≢ command.End → ends_over false new.log.items ≡ false
open-next old new done told does other =
    ap (λ items. ends_over false items) (ap (λ log. log.items) does.1.log) ∙ ends_over-push false old.log.items does.0 ∙ not-last does.0 done does.1.command does.2 other
