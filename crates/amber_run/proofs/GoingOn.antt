-- A run behind the items from which it goes on: the commands that are left, and where the last leg was too long.
use Rattle.std.proofs.Common.{◌≡◌, ◌≢◌, ℕ, zero, suc, ◌+◌, ◌-◌, ◌<◌, ◌≤◌, inl, List, [], ◌∷◌, ◌++◌, length, map, take, drop, get_or, Option, None, Some, Bool, true, false, refl, sym, ap, subst, ◌∙◌, arith}
use Rattle.std.specs.List.{list_all}
use Rattle.std.proofs.lemmas.Bool.{and_parts}
use Rattle.std.specs.List.{slice_get}
use Rattle.std.proofs.lemmas.List.{append-nil, length-drop, take_all}
use Rattle.std.proofs.lemmas.Option.{slice_get-get_or}
use Rattle.std.specs.Io.KnownBytes.{Appends}
use Rattle.amber_io.specs.World.{World}
use Rattle.amber_rows.specs.FlowRules.{IsFlow}
use Rattle.amber_log.specs.Grammar.{ends_over, is_last}
use Rattle.amber_log.specs.Items.{command_of}
use Rattle.amber_log.specs.LogText.{log_text}
use Rattle.amber_log.specs.declared.command.Command.{Command}
use Rattle.amber_log.specs.declared.command.Command.TheVariants as command
use Rattle.amber_log.specs.declared.log.Item.{Item}
use Rattle.amber_log.specs.declared.log.Item.TheVariants as item
use Rattle.amber_log.specs.declared.log.Log.{Log}
use Rattle.amber_log.proofs.Torn.{reads-whole}
use Rattle.amber_meaning.specs.InTime.{AreInTime}
use Rattle.amber_meaning.specs.Legal.{IsLegal}
use Rattle.amber_meaning.specs.Transcript.{replies, transcript_of}
use Rattle.amber_debug.specs.Session.{Session, is_long_item}
use Rattle.amber_script.specs.Commands.{is_scripted}
use Rattle.amber_course.specs.declared.failure.Failure.TheVariants as failure
use Rattle.amber_recorder.specs.Left.{ends_long}
use Rattle.amber_run.specs.RunTask.{RunTask, end_alone, query_at}
use Rattle.amber_run.specs.UnderWay.{HasTaken, IsAt, IsLeft, IsUnderWay, Leaves, log_of_items}
use Rattle.amber_run.proofs.Finishing.{too-long}
use Rattle.amber_run.proofs.Scripted.{scripted-end}

-- ---- the commands that are left

-- behind the commands of a script that were done
pub left-behind : (items : List Item) (script left : List Command) → map command_of items ++ left ≡ script ++ end_alone → length items ≤ length script
    → left ≡ drop (length items) script ++ end_alone
left-behind [] script left e few = e
left-behind (one ∷ items) [] left e few = absurd (omega (arith, few))
left-behind (one ∷ items) (next ∷ script) left e few =
    let rest : map command_of items ++ left ≡ script ++ end_alone = cc in
    left-behind items script left rest (omega (arith, few))

-- behind all of them and the one to the end
pub none-behind : (items : List Item) (script left : List Command) → map command_of items ++ left ≡ script ++ end_alone → length script < length items → left ≡ []
none-behind [] script left e few = absurd (omega (arith, few))
none-behind (one ∷ items) (next ∷ script) left e few =
    let rest : map command_of items ++ left ≡ script ++ end_alone = cc in
    none-behind items script left rest (omega (arith, few))
none-behind (one ∷ items) [] left e few = all-none items left (let rest : map command_of items ++ left ≡ [] = cc in rest)
  where
    all-none : (items : List Item) (left : List Command) → map command_of items ++ left ≡ [] → left ≡ []
    all-none [] left e = e
    all-none (one ∷ items) left e = cc

-- an item for a command of a script is the last only where it was too long
more-behind : (one : Item) → command_of one ≢ command.End → is_long_item one ≡ false → is_last one ≡ false
more-behind (item.Do done) n short = refl
more-behind (item.Run leg) n short = short
more-behind (item.End leg) n short = absurd (n refl)

open-behind : (over long : Bool) (items : List Item) (script left : List Command) → map command_of items ++ left ≡ script ++ end_alone → length items ≤ length script
    → list_all is_scripted script ≡ true → (long ≡ false → over ≡ false) → ends_long long items ≡ false → ends_over over items ≡ false
open-behind over long [] script left e few all more short = more short
open-behind over long (one ∷ items) [] left e few all more short = absurd (omega (arith, few))
open-behind over long (one ∷ items) (next ∷ script) left e few all more short =
    let rest : map command_of items ++ left ≡ script ++ end_alone = cc in
    let same : command_of one ≡ next = cc in
    let parts = and_parts (is_scripted next) (list_all is_scripted script) all in
    open-behind (is_last one) (is_long_item one) items script left rest (omega (arith, few)) parts.1
    (λ short. more-behind one (λ end. scripted-end next parts.0 (sym same ∙ end)) short) short

-- more may follow
pub may-go-on : (items : List Item) (script left : List Command) → map command_of items ++ left ≡ script ++ end_alone → length items ≤ length script
    → list_all is_scripted script ≡ true → ends_long false items ≡ false → ends_over false items ≡ false
may-go-on items script left e few all short = open-behind false false items script left e few all (λ same. same) short

drop-all : {X : Type 0} (test : X → Bool) (xs : List X) (n : ℕ) → list_all test xs ≡ true → list_all test (drop n xs) ≡ true
drop-all test [] zero all = all
drop-all test [] (suc n) all = all
drop-all test (x ∷ xs) zero all = all
drop-all test (x ∷ xs) (suc n) all = drop-all test xs n (and_parts (test x) (list_all test xs) all).1

-- what holds of all commands holds of those that are left
pub left-all : (test : Command → Bool) (script : List Command) (n : ℕ) → list_all test script ≡ true → list_all test (drop n script) ≡ true
left-all test script n all = drop-all test script n all

-- the slice of them
pub slice-behind : {X : Type 0} (xs : List X) (n : ℕ) → take (length xs - n) (drop n xs) ≡ drop n xs
slice-behind xs n = take_all (length xs - n) (drop n xs) (omega (arith, length-drop n xs))

-- ---- the last item

none-some : {X : Type 0} (x : X) → ◌≡◌ {A = Option X} None (Some x) → ⊥
none-some x e = cc

same-some : {X : Type 0} (x y : X) → ◌≡◌ {A = Option X} (Some x) (Some y) → x ≡ y
same-some x y e = cc

last-at : (long : Bool) (items : List Item) (one : Item) → slice_get items (length items - 1) ≡ Some one → ends_long long items ≡ is_long_item one
last-at long [] one e = absurd (none-some one e)
last-at long (x ∷ []) one e = ap is_long_item (same-some x one e)
last-at long (x ∷ y ∷ items) one e =
    let next : length (x ∷ y ∷ items) - 1 ≡ suc (length (y ∷ items) - 1) = omega arith in
    last-at (is_long_item x) (y ∷ items) one (subst (λ n. slice_get (x ∷ y ∷ items) n ≡ Some one) next e)

pub ends-long-last : (items : List Item) (one : Item) → Some one ≡ slice_get items (length items - 1) → ends_long false items ≡ is_long_item one
ends-long-last items one e = last-at false items one (sym e)

pub ends-long-none : (items : List Item) → None ≡ slice_get items (length items - 1) → ends_long false items ≡ false
ends-long-none [] e = refl
ends-long-none (x ∷ items) e =
    absurd (none-some (get_or (x ∷ items) (length (x ∷ items) - 1) x) (e ∙ slice_get-get_or (x ∷ items) (length (x ∷ items) - 1) x (omega arith)))

-- ---- the run

-- a run that goes on is at the commands that are left
pub taken-at : (t : RunTask) (d : Session) (now : World) (left : List Command) → (h : HasTaken t d now) → h.left ≡ left → ends_long false t.begun ≡ false → IsAt t left d now
unfolding AreInTime
taken-at t d now left h is short = record {
  session = h.session;
  way = subst (λ log. IsUnderWay t left log now) (sym h.log) (record {
    batch = refl;
    added = [];
    items = sym (append-nil t.begun);
    legal = subst (λ log. IsLegal (query_at t t.batch_size) log) h.log h.legal;
    in_time = tt;
    commands = subst (λ left. map command_of t.begun ++ left ≡ t.commands) is h.commands;
    place = h.outside.0;
    sent = h.outside.1;
    short = short;
  });
}

-- the last leg was too long
pub taken-long : (t : RunTask) (d : Session) (now : World) → IsFlow t.flow → HasTaken t d now → ends_long false t.begun ≡ true → Leaves t failure.Long now
unfolding AreInTime replies
taken-long t d now flow h long =
    (left, λ nothing. too-long t now flow left nothing)
  where
    legal : IsLegal (query_at t t.batch_size) (log_of_items t.batch_size t.begun)
    legal = subst (λ log. IsLegal (query_at t t.batch_size) log) h.log h.legal

    left : IsLeft t failure.Long now
    left = record {
      batch = t.batch_size;
      done = t.begun;
      last = [];
      added = [];
      left = h.left;
      bytes = log_text (log_of_items t.batch_size t.begun);
      part = [];
      rest = [];
      place = h.outside.0;
      kept = inl ([], sym (append-nil t.begun), refl, omega arith);
      read = rw (append-nil t.begun) (reads-whole (log_of_items t.batch_size t.begun) legal.text);
      stands = rw (append-nil t.begun) (inl (record { batch = refl; text = refl }));
      legal = rw (append-nil t.begun) legal;
      in_time = tt;
      commands = rw (append-nil t.begun) h.commands;
      split = refl;
      whole = λ n. refl;
      sent = subst (λ text. Appends t.before.got now.got text) (sym (append-nil (transcript_of (query_at t t.batch_size) t.begun))) h.outside.1;
      closed = rw (append-nil t.begun) (inl long);
    }

-- the log's items, as the task has them
pub taken-items : (t : RunTask) (d : Session) (now : World) → HasTaken t d now → d.log.items ≡ t.begun
taken-items t d now h = ap (λ (log : Log). log.items) h.log
