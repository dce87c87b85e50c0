-- What a run leaves, as it is shown, with a line after it.
use Rattle.std.proofs.Common.{◌≡◌, ◌⊎◌, ℕ, inl, inr, List, [], ◌++◌, Option, None, Some, refl, sym, ap, subst, ◌∙◌, append_assoc}
use Rattle.std.specs.Prelude.{◌<◌}
use Rattle.std.specs.Io.KnownBytes.{Appends, Keeps, append_known}
use Rattle.std.proofs.KnownBytes.{Appends-trans, Keeps-refl}
use Rattle.amber_io.specs.World.{PutsOnly, World}
use Rattle.amber_log.specs.declared.command.Command.{Command}
use Rattle.amber_log.specs.declared.log.Item.{Item}
use Rattle.amber_log.specs.declared.log.Log.{Log}
use Rattle.amber_meaning.specs.Total.{step_total}
use Rattle.amber_meaning.specs.Transcript.{transcript_of}
use Rattle.amber_course.specs.declared.failure.Failure.{Failure}
use Rattle.amber_course.specs.declared.failure.Failure.TheVariants as failure
use Rattle.amber_run.specs.AnsweredByChange.{EndsTornShown, HasTextShown, HasTornBegunShown, IsBareShown, IsDoneShown, IsItemShown, IsLeftShown, IsUnderWayShown, LeavesShown, TaskShown, ThenPuts, shown_in, showing}
use Rattle.amber_recorder.specs.Left.{AlterNothing}
use Rattle.amber_run.specs.RunTask.{RunTask, most_steps, query_at}
use Rattle.amber_run.specs.UnderWay.{EndsTorn, HasText, HasTornBegun, IsBare, IsDone, IsItemFor, IsLeft, IsUnderWay, Leaves}

-- ---- known bytes

pub keeps-then : (a b c : Option (List ℕ)) (line : List ℕ) → Keeps a b → Appends b c line → Appends a c line
keeps-then None b c line k p = tt
keeps-then (Some x) None c line k p = absurd k
keeps-then (Some x) (Some y) None line k p = absurd p
keeps-then (Some x) (Some y) (Some z) line k p = p ∙ ap (λ l. l ++ line) k

pub appends-known : (a : Option (List ℕ)) (text : List ℕ) → Appends a (append_known a text) text
appends-known None text = tt
appends-known (Some x) text = refl

-- what was appended in two parts
pub appends-later : (a c : Option (List ℕ)) (text line : List ℕ) → Appends a c (text ++ line) → Appends (append_known a text) c line
appends-later None c text line p = tt
appends-later (Some x) None text line p = absurd p
appends-later (Some x) (Some z) text line p = p ∙ sym (append_assoc x text line)

-- ---- a world that has put less

pub puts-only : (after : World) (got : Option (List ℕ)) → PutsOnly (record after { got = got }) after
puts-only after got = refl

-- ---- the task

abbrev pub task_shown : RunTask → TaskShown
task_shown t = record {
  told = t.before.files;
  before = t.before.got;
  name = t.name;
  flow = t.flow;
  inputs = t.inputs;
  batch = t.batch_size;
  begun = t.begun;
  commands = t.commands;
}

way-to : (t : RunTask) (left : List Command) (log : Log) (world : World) → IsUnderWayShown (task_shown t) left log (shown_in world) → IsUnderWay t left log world
way-to t left log world h = record {
  batch = h.batch;
  added = h.added;
  items = h.items;
  legal = h.legal;
  in_time = h.in_time;
  commands = h.commands;
  place = h.place;
  sent = h.sent;
  short = h.short;
}

way-from : (t : RunTask) (left : List Command) (log : Log) (world : World) → IsUnderWay t left log world → IsUnderWayShown (task_shown t) left log (shown_in world)
way-from t left log world h = record {
  batch = h.batch;
  added = h.added;
  items = h.items;
  legal = h.legal;
  in_time = h.in_time;
  commands = h.commands;
  place = h.place;
  sent = h.sent;
  short = h.short;
}

pub done-to : (t : RunTask) (world : World) → IsDoneShown (task_shown t) (shown_in world) → IsDone t world
done-to t world h = record { log = h.log; way = way-to t [] h.log world h.way; answer = h.answer; counts = h.counts }

pub done-from : (t : RunTask) (world : World) → IsDone t world → IsDoneShown (task_shown t) (shown_in world)
done-from t world h = record { log = h.log; way = way-from t [] h.log world h.way; answer = h.answer; counts = h.counts }

-- ---- what a failed write leaves

item-to : (t : RunTask) (log : Log) (done : Command) (one : Item) → IsItemShown (task_shown t) log done one → IsItemFor t log done one
item-to t log done one h = record { command = h.command; legal = h.legal; in_time = h.in_time }

item-from : (t : RunTask) (log : Log) (done : Command) (one : Item) → IsItemFor t log done one → IsItemShown (task_shown t) log done one
item-from t log done one h = record { command = h.command; legal = h.legal; in_time = h.in_time }

torn-to : (t : RunTask) (left : List Command) (log : Log) (bytes : List ℕ) → EndsTornShown (task_shown t) left log bytes → EndsTorn t left log bytes
torn-to t left log bytes (inl h) = inl (record {
  batch = h.batch;
  next = h.next;
  later = h.later;
  commands = h.commands;
  one = h.one;
  item = item-to t log h.next h.one h.item;
  torn = h.torn;
  front = h.front;
  text = h.text;
})
torn-to t left log bytes (inr h) = inr (record { none = h.none; front = h.front })

torn-from : (t : RunTask) (left : List Command) (log : Log) (bytes : List ℕ) → EndsTorn t left log bytes → EndsTornShown (task_shown t) left log bytes
torn-from t left log bytes (inl h) = inl (record {
  batch = h.batch;
  next = h.next;
  later = h.later;
  commands = h.commands;
  one = h.one;
  item = item-from t log h.next h.one h.item;
  torn = h.torn;
  front = h.front;
  text = h.text;
})
torn-from t left log bytes (inr h) = inr (record { none = h.none; front = h.front })

stands-to : (t : RunTask) (s : Failure) (done last : List Item) (left : List Command) (log : Log) (bytes : List ℕ)
    → HasTextShown (task_shown t) log bytes ⊎ ((s ≡ failure.LogFault) × (last ≡ []) × EndsTornShown (task_shown t) left log bytes)
    ⊎ ((s ≡ failure.LogFault) × (done ≡ []) × HasTornBegunShown (task_shown t) log bytes)
    → HasText t log bytes ⊎ ((s ≡ failure.LogFault) × (last ≡ []) × EndsTorn t left log bytes) ⊎ ((s ≡ failure.LogFault) × (done ≡ []) × HasTornBegun t log bytes)
stands-to t s done last left log bytes (inl h) = inl (record { batch = h.batch; text = h.text })
stands-to t s done last left log bytes (inr (inl h)) = inr (inl (h.0, h.1, torn-to t left log bytes h.2))
stands-to t s done last left log bytes (inr (inr h)) = inr (inr (h.0, h.1, record { batch = h.2.batch; torn = h.2.torn; front = h.2.front; text = h.2.text }))

stands-from : (t : RunTask) (s : Failure) (done last : List Item) (left : List Command) (log : Log) (bytes : List ℕ)
    → HasText t log bytes ⊎ ((s ≡ failure.LogFault) × (last ≡ []) × EndsTorn t left log bytes) ⊎ ((s ≡ failure.LogFault) × (done ≡ []) × HasTornBegun t log bytes)
    → HasTextShown (task_shown t) log bytes ⊎ ((s ≡ failure.LogFault) × (last ≡ []) × EndsTornShown (task_shown t) left log bytes)
    ⊎ ((s ≡ failure.LogFault) × (done ≡ []) × HasTornBegunShown (task_shown t) log bytes)
stands-from t s done last left log bytes (inl h) = inl (record { batch = h.batch; text = h.text })
stands-from t s done last left log bytes (inr (inl h)) = inr (inl (h.0, h.1, torn-from t left log bytes h.2))
stands-from t s done last left log bytes (inr (inr h)) = inr (inr (h.0, h.1, record { batch = h.2.batch; torn = h.2.torn; front = h.2.front; text = h.2.text }))

-- ---- a run that ended early

left-to : (t : RunTask) (s : Failure) (line : List ℕ) (after : World) → IsLeftShown (task_shown t) s line (shown_in after) → ThenPuts (IsLeft t s) line after
left-to t s line after h =
    let sent : List ℕ = transcript_of (query_at t h.batch) h.done ++ h.part in
    let got = append_known t.before.got sent in
    let all : Appends t.before.got after.got (sent ++ line) = subst (λ text. Appends t.before.got after.got text) (sym (append_assoc (transcript_of (query_at t h.batch) h.done) h.part line)) h.sent in
    let left : IsLeft t s (record after { got = got }) = record {
      batch = h.batch;
      done = h.done;
      last = h.last;
      added = h.added;
      left = h.left;
      bytes = h.bytes;
      part = h.part;
      rest = h.rest;
      place = h.place;
      kept = h.kept;
      read = h.read;
      stands = stands-to t s h.done h.last h.left _ h.bytes h.stands;
      legal = h.legal;
      in_time = h.in_time;
      commands = h.commands;
      split = h.split;
      whole = h.whole;
      sent = appends-known t.before.got sent;
      closed = h.closed;
    } in
    (record after { got = got }, left, appends-later t.before.got after.got sent line all, puts-only after got)

left-from : (t : RunTask) (s : Failure) (line : List ℕ) (world : World) (got : Option (List ℕ)) → IsLeft t s world → Appends world.got got line
    → IsLeftShown (task_shown t) s line (showing world.files got)
left-from t s line world got h p =
    let sent : List ℕ = transcript_of (query_at t h.batch) h.done ++ h.part in
    let all : Appends t.before.got got (sent ++ line) = Appends-trans t.before.got world.got got sent line h.sent p in
    record {
      batch = h.batch;
      done = h.done;
      last = h.last;
      added = h.added;
      left = h.left;
      bytes = h.bytes;
      part = h.part;
      rest = h.rest;
      place = h.place;
      kept = h.kept;
      read = h.read;
      stands = stands-from t s h.done h.last h.left _ h.bytes h.stands;
      legal = h.legal;
      in_time = h.in_time;
      commands = h.commands;
      split = h.split;
      whole = h.whole;
      sent = subst (λ text. Appends t.before.got got text) (append_assoc (transcript_of (query_at t h.batch) h.done) h.part line) all;
      closed = h.closed;
    }

bare-to : (t : RunTask) (line : List ℕ) (after : World) → IsBareShown (task_shown t) line (shown_in after) → ThenPuts (IsBare t) line after
bare-to t line after h = (record after { got = t.before.got }, (h.0, Keeps-refl t.before.got), h.1, puts-only after t.before.got)

bare-from : (t : RunTask) (line : List ℕ) (world : World) (got : Option (List ℕ)) → IsBare t world → Appends world.got got line → IsBareShown (task_shown t) line (showing world.files got)
bare-from t line world got h p = (h.0, keeps-then t.before.got world.got got line h.1 p)

-- what follows from what is left, where the same is put
pub then-map : (P Q : World → Type 0) (line : List ℕ) (after : World) → ((world : World) → PutsOnly world after → P world → Q world) → ThenPuts P line after → ThenPuts Q line after
then-map P Q line after f h = (h.0, f h.0 h.3 h.1, h.2, h.3)

either-to : (t : RunTask) (s : Failure) (line : List ℕ) (after : World) → IsBareShown (task_shown t) line (shown_in after) ⊎ IsLeftShown (task_shown t) s line (shown_in after)
    → ThenPuts (λ world. IsBare t world ⊎ IsLeft t s world) line after
either-to t s line after (inl h) = then-map (IsBare t) (λ world. IsBare t world ⊎ IsLeft t s world) line after (λ world only b. inl b) (bare-to t line after h)
either-to t s line after (inr h) = then-map (IsLeft t s) (λ world. IsBare t world ⊎ IsLeft t s world) line after (λ world only b. inr b) (left-to t s line after h)

either-from : (t : RunTask) (s : Failure) (line : List ℕ) (world : World) (got : Option (List ℕ)) → IsBare t world ⊎ IsLeft t s world → Appends world.got got line
    → IsBareShown (task_shown t) line (showing world.files got) ⊎ IsLeftShown (task_shown t) s line (showing world.files got)
either-from t s line world got (inl h) p = inl (bare-from t line world got h p)
either-from t s line world got (inr h) p = inr (left-from t s line world got h p)

pub leaves-to : (t : RunTask) (s : Failure) (line : List ℕ) (after : World) → LeavesShown (task_shown t) s line (shown_in after) → ThenPuts (Leaves t s) line after
leaves-to t failure.LogFault line after h = either-to t failure.LogFault line after h
leaves-to t failure.OutFault line after h = left-to t failure.OutFault line after h
leaves-to t failure.Long line after h =
    then-map (IsLeft t failure.Long) (λ world. IsLeft t failure.Long world × (AlterNothing t.commands → most_steps < step_total (query_at t t.batch_size))) line after (λ world only l. (l, h.1)) (left-to t failure.Long line after h.0)
leaves-to t failure.NoMemory line after h = either-to t failure.NoMemory line after h
leaves-to t other line after h = absurd h

pub leaves-from : (t : RunTask) (s : Failure) (line : List ℕ) (world : World) (got : Option (List ℕ)) → Leaves t s world → Appends world.got got line
    → LeavesShown (task_shown t) s line (showing world.files got)
leaves-from t failure.LogFault line world got h p = either-from t failure.LogFault line world got h p
leaves-from t failure.OutFault line world got h p = left-from t failure.OutFault line world got h p
leaves-from t failure.Long line world got h p = (left-from t failure.Long line world got h.0 p, h.1)
leaves-from t failure.NoMemory line world got h p = either-from t failure.NoMemory line world got h p
leaves-from t other line world got h p = absurd h
