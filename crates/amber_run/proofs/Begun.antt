-- The items from which a run goes on, as they are written and their replies are put.
use Rattle.std.proofs.Common.{◌≡◌, ◌≢◌, ℕ, ◌≤◌, ◌⊎◌, inl, inr, List, [], ◌∷◌, ◌++◌, map, Option, Result, Ok, Err, Bool, false, length, refl, sym, ap, subst, ◌∙◌, arith, append_assoc}
use Rattle.std.specs.List.{flat_map}
use Rattle.std.proofs.lemmas.List.{append-nil, map-append}
use Rattle.std.proofs.lemmas.List.Concat.{flat_map-append}
use Rattle.std.specs.Io.KnownBytes.{Appends}
use Rattle.amber_io.specs.Folder.{with_file, with_more}
use Rattle.amber_io.specs.World.{World}
use Rattle.amber_io.proofs.Told.{with_more-with_file}
use Rattle.amber_log.specs.Grammar.{AreItems, IsBatch, IsItem, is_last}
use Rattle.amber_log.specs.Items.{command_of}
use Rattle.amber_log.specs.LogText.{head_text, item_text, log_text}
use Rattle.amber_log.specs.ReadAs.{IsReadAs}
use Rattle.amber_log.specs.declared.command.Command.{Command}
use Rattle.amber_log.specs.declared.log.Item.{Item}
use Rattle.amber_log.specs.declared.log.Log.{Log}
use Rattle.amber_log.proofs.Torn.{reads-whole}
use Rattle.amber_meaning.specs.InTime.{AreInTime}
use Rattle.amber_meaning.specs.Legal.{IsLegal}
use Rattle.amber_meaning.specs.Replay.{after_items, state_after}
use Rattle.amber_meaning.specs.Transcript.{replies, transcript_of}
use Rattle.amber_meaning.proofs.Fronts.{fronts_are_legal}
use Rattle.amber_course.specs.declared.failure.Failure.{Failure}
use Rattle.amber_course.specs.declared.failure.Failure.TheVariants as failure
use Rattle.amber_debug.specs.declared.done.Done.{Done}
use Rattle.amber_course.proofs.Lines.{keeps-nil}
use Rattle.amber_recorder.specs.Left.{ClosesAs, ends_long}
use Rattle.amber_recorder.specs.Recording.{MakesFile, ReportsItem}
use Rattle.amber_recorder.proofs.Halting.{appends-none, torn-item}
use Rattle.amber_run.specs.RunTask.{GoesOnFrom, RunTask, query_at}
use Rattle.amber_run.proofs.Working.{has-head, head-read, left-head, opens-made}
use Rattle.amber_run.specs.UnderWay.{WritesBegun, FailsAtBegun, HasWrittenBegun, HasText, HasTornBegun, IsLeft, Opens, log_of_items}

-- ---- a text that was cut off within items

-- two ways to part a text: the first part of one is a front of that of the other
parted : (a b c d : List ℕ) → a ++ b ≡ c ++ d
    → ((y : ℕ) × (ys : List ℕ) × (a ++ y ∷ ys ≡ c)) ⊎ ((more : List ℕ) × (a ≡ c ++ more) × (more ++ b ≡ d))
parted a b [] d e = inr (a, refl, e)
parted [] b (y ∷ c) d e = inl (y, c, refl)
parted (x ∷ a) b (y ∷ c) d e =
    let first : x ≡ y = cc in
    let rest : a ++ b ≡ c ++ d = cc in
    elim (parted a b c d rest) [
      | inl part ↦ inl (part.0, part.1, ap (λ zs. x ∷ zs) part.2 ∙ ap (λ z. z ∷ c) first)
      | inr whole ↦ inr (whole.0, ap (λ zs. x ∷ zs) whole.1 ∙ ap (λ z. z ∷ (c ++ whole.0)) first, whole.2)
    ]

-- a front of the text of items: whole items, and then a front of the next
pub record IsCut (items : List Item) (part : List ℕ) : Type 0 where
  pub front : List Item
  pub next : Item
  pub later : List Item
  pub split : front ++ next ∷ later ≡ items
  pub torn : List ℕ
  pub byte : ℕ
  pub bytes : List ℕ
  pub text : part ≡ flat_map item_text front ++ torn
  pub rest : torn ++ byte ∷ bytes ≡ item_text next

cut-within : (items : List Item) (part : List ℕ) (x : ℕ) (xs : List ℕ) → part ++ x ∷ xs ≡ flat_map item_text items → IsCut items part
cut-within [] part x xs e = absurd (no-more part x xs e)
  where
    no-more : (part : List ℕ) (x : ℕ) (xs : List ℕ) → part ++ x ∷ xs ≡ [] → ⊥
    no-more [] x xs e = cc
    no-more (y ∷ part) x xs e = cc
cut-within (one ∷ items) part x xs e =
    elim (parted part (x ∷ xs) (item_text one) (flat_map item_text items) e) [
      | inl here ↦ record { front = []; next = one; later = items; split = refl; torn = part; byte = here.0; bytes = here.1; text = refl; rest = here.2 }
      | inr past ↦ let later = cut-within items past.0 x xs past.2 in
          record {
            front = one ∷ later.front;
            next = later.next;
            later = later.later;
            split = ap (λ zs. one ∷ zs) later.split;
            torn = later.torn;
            byte = later.byte;
            bytes = later.bytes;
            text = past.1 ∙ ap (λ zs. item_text one ++ zs) later.text ∙ sym (append_assoc (item_text one) (flat_map item_text later.front) later.torn);
            rest = later.rest;
          }
    ]

-- the item behind others has a text
item-behind : (over : Bool) (front : List Item) (next : Item) (later : List Item) → AreItems over (front ++ next ∷ later) → IsItem next
unfolding AreItems
item-behind over [] next later h = h.1
item-behind over (one ∷ front) next later h = item-behind (is_last one) front next later h.2

-- ---- what is left

-- none of the replies to the items from which the run goes on was put, or a front part of these
pub record AtBegun (t : RunTask) (s : Failure) (front : List Item) (bytes : List ℕ) (now : World) : Type 0 where
  pub more : List Item
  pub split : front ++ more ≡ t.begun
  pub read : IsReadAs bytes (log_of_items t.batch_size front)
  pub stands : HasText t (log_of_items t.batch_size front) bytes ⊎ ((s ≡ failure.LogFault) × HasTornBegun t (log_of_items t.batch_size front) bytes)
  pub legal : IsLegal (query_at t t.batch_size) (log_of_items t.batch_size t.begun)
  pub left : List Command
  pub commands : map command_of t.begun ++ left ≡ t.commands
  pub place : now.files ≡ with_file t.before.files t.name bytes
  pub part : List ℕ
  pub rest : List ℕ
  pub replied : part ++ rest ≡ transcript_of (query_at t t.batch_size) front
  pub whole : s ≢ failure.OutFault → part ≡ []
  pub sent : Appends t.before.got now.got part
  pub closed : ClosesAs s (ends_long false front) ⊎ FailsAtBegun s t.begun [] front

left-begun : (t : RunTask) (s : Failure) (front : List Item) (bytes : List ℕ) (now : World) → AtBegun t s front bytes now → IsLeft t s now
unfolding transcript_of replies AreInTime state_after after_items
left-begun t s front bytes now h = record {
  batch = t.batch_size;
  done = [];
  last = front;
  added = [];
  left = map command_of h.more ++ h.left;
  bytes = bytes;
  part = h.part;
  rest = h.rest;
  place = h.place;
  kept = inr (h.more, refl, h.split, refl);
  read = h.read;
  stands = elim h.stands [ inl text ↦ inl text | inr torn ↦ inr (inr (torn.0, refl, torn.1)) ];
  legal = fronts_are_legal (query_at t t.batch_size) t.batch_size front h.more (subst (λ items. IsLegal (query_at t t.batch_size) (log_of_items t.batch_size items)) (sym h.split) h.legal);
  in_time = tt;
  commands = sym (append_assoc (map command_of front) (map command_of h.more) h.left)
      ∙ ap (λ c. c ++ h.left) (sym (map-append command_of front h.more) ∙ ap (λ items. map command_of items) h.split) ∙ h.commands;
  split = h.replied;
  whole = h.whole;
  sent = h.sent;
  closed = h.closed;
}

-- ---- the steps

-- what is known of the items from which a run goes on
pub record IsBase (t : RunTask) : Type 0 where
  pub legal : IsLegal (query_at t t.batch_size) (log_of_items t.batch_size t.begun)
  pub left : List Command
  pub commands : map command_of t.begun ++ left ≡ t.commands

pub begins-unopened : (f : Failure) (t : RunTask) (now : World) → Opens {A = Unit {0}} (Err f) t now → WritesBegun {A = Unit {0}} (Err f) t now
begins-unopened failure.LogFault t now h = h
begins-unopened failure.NoMemory t now h = inl h
begins-unopened other t now h = absurd h

-- there are none
pub begins-none : (t : RunTask) (now : World) → Opens {A = Unit {0}} (Ok tt) t now → t.begun ≡ [] → HasWrittenBegun t now
unfolding log_text transcript_of replies
begins-none t now h none =
    subst (λ items. (now.files ≡ with_file t.before.files t.name (log_text (log_of_items t.batch_size items))) × Appends t.before.got now.got (transcript_of (query_at t t.batch_size) items))
    (sym none) (h.0 ∙ ap (λ text. with_file t.before.files t.name text) (sym (append-nil (head_text t.batch_size))), appends-none t.before.got now.got h.1)

-- the file behind the head
grown-file : (t : RunTask) (mid now : World) (part : List ℕ) → Opens {A = Unit {0}} (Ok tt) t mid → now.files ≡ with_more mid.files t.name part
    → now.files ≡ with_file t.before.files t.name (head_text t.batch_size ++ part)
grown-file t mid now part h new =
    new ∙ ap (λ files. with_more files t.name part) h.0 ∙ with_more-with_file t.before.files t.name (head_text t.batch_size) part

begun-text : (t : RunTask) → head_text t.batch_size ++ flat_map item_text t.begun ≡ log_text (log_of_items t.batch_size t.begun)
unfolding log_text
begun-text t = refl

-- they were cut off
begun-torn : (t : RunTask) (part : List ℕ) (x : ℕ) (xs : List ℕ) (now : World) → IsBase t → part ++ x ∷ xs ≡ flat_map item_text t.begun
    → now.files ≡ with_file t.before.files t.name (head_text t.batch_size ++ part) → now.got ≡ t.before.got → IsLeft t failure.LogFault now
unfolding log_text
begun-torn t part x xs now base whole place same =
    let cut = cut-within t.begun part x xs whole in
    let log : Log = log_of_items t.batch_size cut.front in
    let legal : IsLegal (query_at t t.batch_size) log =
    fronts_are_legal (query_at t t.batch_size) t.batch_size cut.front (cut.next ∷ cut.later) (subst (λ items. IsLegal (query_at t t.batch_size) (log_of_items t.batch_size items)) (sym cut.split) base.legal) in
    let text : head_text t.batch_size ++ part ≡ log_text log ++ cut.torn =
    ap (λ zs. head_text t.batch_size ++ zs) cut.text ∙ sym (append_assoc (head_text t.batch_size) (flat_map item_text cut.front) cut.torn) in
    let is : IsItem cut.next = item-behind false cut.front cut.next cut.later (subst (λ items. AreItems false items) (sym cut.split) base.legal.text.items) in
    left-begun t failure.LogFault cut.front (head_text t.batch_size ++ part) now (record {
      more = cut.next ∷ cut.later;
      split = cut.split;
      read = subst (λ bytes. IsReadAs bytes log) (sym text) (torn-item log cut.next cut.torn cut.byte cut.bytes legal.text is cut.rest);
      stands = inr (refl, record { batch = refl; torn = part; front = (x ∷ xs, whole, λ e. cc); text = refl });
      legal = base.legal;
      left = base.left;
      commands = base.commands;
      place = place;
      part = [];
      rest = transcript_of (query_at t t.batch_size) cut.front;
      replied = refl;
      whole = λ n. refl;
      sent = appends-none t.before.got now.got same;
      closed = inl tt;
    })

-- the file and the sink behind the head
grown-got : (t : RunTask) (mid now : World) (text : List ℕ) → Opens {A = Unit {0}} (Ok tt) t mid → Appends mid.got now.got text → Appends t.before.got now.got text
grown-got t mid now text h put = subst (λ got. Appends got now.got text) h.1 put

whole-file : (t : RunTask) (mid now : World) (item : List ℕ) → Opens {A = Unit {0}} (Ok tt) t mid → item ≡ flat_map item_text t.begun → now.files ≡ with_more mid.files t.name item
    → now.files ≡ with_file t.before.files t.name (log_text (log_of_items t.batch_size t.begun))
whole-file t mid now item h is new =
    grown-file t mid now item h new ∙ ap (λ zs. with_file t.before.files t.name (head_text t.batch_size ++ zs)) is ∙ ap (λ text. with_file t.before.files t.name text) (begun-text t)

-- they were written, and of their replies a part was put
begun-part : (t : RunTask) (s : Failure) (now : World) (part rest : List ℕ) → IsBase t → now.files ≡ with_file t.before.files t.name (log_text (log_of_items t.batch_size t.begun))
    → part ++ rest ≡ transcript_of (query_at t t.batch_size) t.begun → (s ≢ failure.OutFault → part ≡ []) → Appends t.before.got now.got part
    → ClosesAs s (ends_long false t.begun) ⊎ FailsAtBegun s t.begun [] t.begun → IsLeft t s now
begun-part t s now part rest base place replied whole sent closed = left-begun t s t.begun (log_text (log_of_items t.batch_size t.begun)) now (record {
  more = [];
  split = append-nil t.begun;
  read = reads-whole (log_of_items t.batch_size t.begun) base.legal.text;
  stands = inl (record { batch = refl; text = refl });
  legal = base.legal;
  left = base.left;
  commands = base.commands;
  place = place;
  part = part;
  rest = rest;
  replied = replied;
  whole = whole;
  sent = sent;
  closed = closed;
})

-- a front part of their text was written
begun-front : (t : RunTask) (mid now : World) (part rest item : List ℕ) → IsBase t → Opens {A = Unit {0}} (Ok tt) t mid → item ≡ flat_map item_text t.begun → part ++ rest ≡ item
    → now.files ≡ with_more mid.files t.name part → now.got ≡ mid.got → IsLeft t failure.LogFault now
begun-front t mid now part [] item base h is whole new same =
    begun-part t failure.LogFault now [] (transcript_of (query_at t t.batch_size) t.begun) base (whole-file t mid now part h (sym (append-nil part) ∙ whole ∙ is) new) refl (λ n. refl)
    (appends-none t.before.got now.got (same ∙ h.1)) (inl tt)
begun-front t mid now part (x ∷ xs) item base h is whole new same = begun-torn t part x xs now base (whole ∙ is) (grown-file t mid now part h new) (same ∙ h.1)

-- they were written and their replies put, or that failed
pub begins-reported : (r : Result (Unit {0}) Failure) (t : RunTask) (done : Done) (mid now : World) → IsBase t → t.begun ≢ [] → Opens {A = Unit {0}} (Ok tt) t mid
    → done.item ≡ flat_map item_text t.begun → done.reply ≡ transcript_of (query_at t t.batch_size) t.begun
    → ReportsItem r (record { name = t.name; done = done }) mid now → WritesBegun r t now
begins-reported (Ok x) t done mid now base some h is told (new, put) = (
  whole-file t mid now done.item h is new,
  grown-got t mid now (transcript_of (query_at t t.batch_size) t.begun) h (subst (λ text. Appends mid.got now.got text) told put),
)
begins-reported (Err failure.LogFault) t done mid now base some h is told ((part, rest, whole, new), same) =
    inr (begun-front t mid now part rest done.item base h is whole new same)
begins-reported (Err failure.OutFault) t done mid now base some h is told (new, begins) =
    begun-part t failure.OutFault now begins.0 begins.1 base (whole-file t mid now done.item h is new) (begins.2 ∙ told) (λ n. absurd (n refl)) (grown-got t mid now begins.0 h begins.3)
    (inr (refl, refl, refl, some))
begins-reported (Err failure.NoMemory) t done mid now base some h is told (inl (stays, same)) =
    inr (left-head t failure.NoMemory (head_text t.batch_size) t.batch_size now base.legal.text.batch (head-read t.batch_size base.legal.text.batch)
    (has-head t failure.NoMemory) (stays ∙ h.0) (same ∙ h.1) tt)
begins-reported (Err failure.NoMemory) t done mid now base some h is told (inr (new, keeps)) =
    inr (begun-part t failure.NoMemory now [] (transcript_of (query_at t t.batch_size) t.begun) base (whole-file t mid now done.item h is new) refl (λ n. refl)
    (grown-got t mid now [] h (keeps-nil mid.got now.got keeps)) (inl tt))
begins-reported (Err other) t done mid now base some h is told never = absurd never

-- ---- from an old log

opened : (r : Result (Unit {0}) Failure) (t : RunTask) (old : Log) (log_name : List ℕ) (world now : World) → GoesOnFrom t old log_name world → IsBatch old.batch
    → MakesFile r (record { name = log_name; bytes = head_text old.batch }) world now → now.got ≡ world.got → Opens r t now
opened r t old log_name world now h is made same =
    opens-made r t old.batch now is h.batch
    (subst (λ name. MakesFile r (record { name = name; bytes = head_text old.batch }) t.before now) (sym h.name)
    (subst (λ w. MakesFile r (record { name = log_name; bytes = head_text old.batch }) w now) (sym h.before) made)) (same ∙ ap (λ (w : World). w.got) (sym h.before))

base-of : (t : RunTask) (old : Log) (log_name : List ℕ) (world : World) → GoesOnFrom t old log_name world → IsBase t
base-of t old log_name world h = record {
  legal = subst (λ log. IsLegal (query_at t t.batch_size) log) (sym (ap (λ batch. log_of_items batch t.begun) h.batch ∙ ap (λ items. log_of_items old.batch items) h.begun)) h.legal;
  left = h.left;
  commands = h.commands;
}

-- the log was not made
pub go-unopened : (f : Failure) (t : RunTask) (old : Log) (log_name : List ℕ) (world now : World) → GoesOnFrom t old log_name world → IsBatch old.batch
    → MakesFile {A = Unit {0}} (Err f) (record { name = log_name; bytes = head_text old.batch }) world now → now.got ≡ world.got → WritesBegun {A = Unit {0}} (Err f) t now
go-unopened f t old log_name world now h is made same = begins-unopened f t now (opened (Err f) t old log_name world now h is made same)

-- the old log has no item
pub go-none : (t : RunTask) (old : Log) (log_name : List ℕ) (world now : World) → GoesOnFrom t old log_name world → IsBatch old.batch
    → MakesFile {A = Unit {0}} (Ok tt) (record { name = log_name; bytes = head_text old.batch }) world now → now.got ≡ world.got → old.items ≡ [] → HasWrittenBegun t now
go-none t old log_name world now h is made same none = begins-none t now (opened (Ok tt) t old log_name world now h is made same) (h.begun ∙ none)

-- its items were to be written, and their replies put
pub go-reported : (r : Result (Unit {0}) Failure) (t : RunTask) (old : Log) (log_name : List ℕ) (done : Done) (world mid now : World) → GoesOnFrom t old log_name world → IsBatch old.batch
    → MakesFile {A = Unit {0}} (Ok tt) (record { name = log_name; bytes = head_text old.batch }) world mid → mid.got ≡ world.got → old.items ≢ []
    → done.item ≡ flat_map item_text old.items → done.reply ≡ transcript_of (query_at t t.batch_size) t.begun → ReportsItem r (record { name = log_name; done = done }) mid now → WritesBegun r t now
go-reported r t old log_name done world mid now h is made same some item told reports =
    begins-reported r t done mid now (base-of t old log_name world h) (λ none. some (sym h.begun ∙ none)) (opened (Ok tt) t old log_name world mid h is made same)
    (item ∙ ap (λ items. flat_map item_text items) (sym h.begun)) told (subst (λ name. ReportsItem r (record { name = name; done = done }) mid now) (sym h.name) reports)

-- whether there are items
pub no-items : (items : List Item) → length items ≡ 0 → items ≡ []
no-items [] e = refl
no-items (x ∷ items) e = absurd (omega (arith, e))

pub some-items : (items : List Item) → length items ≢ 0 → items ≢ []
some-items items some none = some (ap (λ (xs : List Item). length xs) none)
