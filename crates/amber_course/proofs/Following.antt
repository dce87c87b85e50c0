-- Steps that follow the course, one after the other.
use Rattle.std.proofs.Common.{◌≡◌, ℕ, ◌+◌, ◌<◌, ◌≤◌, ◌⊎◌, inl, inr, nat_le, true, false, List, length, take, Option, None, Some, Result, Ok, Err, refl, ap, subst, ◌∙◌, arith}
use Rattle.std.proofs.lemmas.Bool.Decides.{nat_tests}
use Rattle.std.proofs.lemmas.List.{length-take, take_all}
use Rattle.std.specs.Result.{IfErr, IfOk}
use Rattle.amber_io.specs.Counts.{Rose}
use Rattle.amber_io.specs.Folder.{Gives, Lacks, Named, Told}
use Rattle.amber_io.specs.World.{World}
use Rattle.amber_rows.specs.declared.flow.Operator.{Operator}
use Rattle.amber_course.specs.Course.{IsScanFile, IsScanned, load_of, require_size, then_on, workflow_in}
use Rattle.amber_course.specs.Steps.{Follows, IsBounded, IsMissing, Judges, Names, Stopped, Tells}
use Rattle.amber_course.specs.declared.failure.Failure.{Failure}
use Rattle.amber_course.specs.declared.failure.Failure.TheVariants as failure

-- ---- facts over told files

pub told-all : (told : Option Named) (P : Named → Type 0) → ((files : Named) → P files) → Told told P
told-all None P h = tt
told-all (Some files) P h = h files

pub told-map : (told : Option Named) (P Q : Named → Type 0) → ((files : Named) → P files → Q files) → Told told P → Told told Q
told-map None P Q h p = tt
told-map (Some files) P Q h p = h files p

pub told-both : (told : Option Named) (P Q R : Named → Type 0) → ((files : Named) → P files → Q files → R files) → Told told P → Told told Q → Told told R
told-both None P Q R h p q = tt
told-both (Some files) P Q R h p q = h files p q

pub told-three : (told : Option Named) (P Q R S : Named → Type 0) → ((files : Named) → P files → Q files → R files → S files)
    → Told told P → Told told Q → Told told R → Told told S
told-three None P Q R S h p q r = tt
told-three (Some files) P Q R S h p q r = h files p q r

pub tells-map : (told : Option Named) (P Q : Named → Type 0) → ((files : Named) → P files → Q files) → Tells told P → Tells told Q
tells-map None P Q h p = p
tells-map (Some files) P Q h p = h files p

pub tells-both : (told : Option Named) (P Q R : Named → Type 0) → ((files : Named) → P files → Q files → R files) → Told told P → Tells told Q → Tells told R
tells-both None P Q R h p q = q
tells-both (Some files) P Q R h p q = h files p q

-- ---- stops

pub stopped-map : (s : Failure) (P Q : Named → Type 0) (before after : World) → ((files : Named) → P files → Q files) → Stopped s P before after → Stopped s Q before after
stopped-map failure.Usage P Q before after f h = h
stopped-map failure.LogFault P Q before after f h = h
stopped-map failure.OutFault P Q before after f h = h
stopped-map (failure.ReadFault name) P Q before after f h = elim h [ inl p ↦ inl (p.0, tells-map before.files P Q f p.1) | inr rose ↦ inr rose ]
stopped-map failure.NoMemory P Q before after f h = tt
stopped-map other P Q before after f h = (h.0, told-map before.files P Q f h.1)

pub stopped-both : (s : Failure) (P Q R : Named → Type 0) (before after : World) → ((files : Named) → P files → Q files → R files) → Told before.files P
    → Stopped s Q before after → Stopped s R before after
stopped-both failure.Usage P Q R before after f p h = h
stopped-both failure.LogFault P Q R before after f p h = h
stopped-both failure.OutFault P Q R before after f p h = h
stopped-both (failure.ReadFault name) P Q R before after f p h = elim h [ inl q ↦ inl (q.0, tells-both before.files P Q R f p q.1) | inr rose ↦ inr rose ]
stopped-both failure.NoMemory P Q R before after f p h = tt
stopped-both other P Q R before after f p h = (h.0, told-both before.files P Q R f p h.1)

-- ---- steps

pub then-err : {A B : Type 0} (r : Result A Failure) (s : Failure) (next : A → Result B Failure) → r ≡ Err s → then_on r next ≡ Err s
then-err r s next e = rw e

pub then-ok : {A B : Type 0} (r : Result A Failure) (x : A) (next : A → Result B Failure) (y : Result B Failure) → r ≡ Ok x → next x ≡ y → then_on r next ≡ y
then-ok r x next y e h = rw e h

-- a step stopped, so the whole did
pub follows-failure : {A B : Type 0} (s : Failure) (f : Named → Result A Failure) (g : Named → A → Result B Failure) (before after : World)
    → Follows {A = A} (Err s) f before after → Follows {A = B} (Err s) (λ files. then_on (f files) (g files)) before after
follows-failure s f g before after h =
    stopped-map s (λ files. f files ≡ Err s) (λ files. then_on (f files) (g files) ≡ Err s) before after (λ files e. then-err (f files) s (g files) e) h

-- a step went on
follows-then : {A B : Type 0} (r : Result B Failure) (x : A) (f : Named → Result A Failure) (g : Named → A → Result B Failure) (before after : World)
    → Told before.files (λ files. f files ≡ Ok x) → Follows r (λ files. g files x) before after → Follows r (λ files. then_on (f files) (g files)) before after
follows-then (Ok y) x f g before after p q = (
  q.0,
  told-both before.files (λ files. f files ≡ Ok x) (λ files. g files x ≡ Ok y) (λ files. then_on (f files) (g files) ≡ Ok y)
      (λ files e h. then-ok (f files) x (g files) (Ok y) e h) p q.1,
)
follows-then (Err s) x f g before after p q =
    stopped-both s (λ files. f files ≡ Ok x) (λ files. g files x ≡ Err s) (λ files. then_on (f files) (g files) ≡ Err s) before after
    (λ files e h. then-ok (f files) x (g files) (Err s) e h) p q

pub follows-on : {A B : Type 0} (r : Result B Failure) (x : A) (f : Named → Result A Failure) (g : Named → A → Result B Failure) (before mid after : World)
    → Follows (Ok x) f before mid → Follows r (λ files. g files x) mid after → Follows r (λ files. then_on (f files) (g files)) before after
follows-on r x f g before mid after p q = follows-then r x f g before after p.1 (subst (λ w. Follows r (λ files. g files x) w after) p.0 q)

-- a step that reads nothing
pub follows-judged : {A : Type 0} (r meant : Result A Failure) (world : World) → Judges r meant → Follows r (λ files. meant) world world
follows-judged (Ok x) meant world h = (refl, told-all world.files (λ files. meant ≡ Ok x) (λ files. h))
follows-judged (Err failure.Usage) meant world h = h
follows-judged (Err (failure.ReadFault name)) meant world h = absurd h
follows-judged (Err failure.LogFault) meant world h = h
follows-judged (Err failure.OutFault) meant world h = h
follows-judged (Err failure.NoMemory) meant world h = tt
follows-judged (Err other) meant world h = (refl, told-all world.files (λ files. meant ≡ Err other) (λ files. h))

-- a step that was the last, and went well
pub follows-last : {A B : Type 0} (x : A) (f : Named → Result A Failure) (g : A → B) (before after : World) → Follows (Ok x) f before after
    → Follows (Ok (g x)) (λ files. then_on (f files) (λ y. Ok (g y))) before after
follows-last x f g before after p =
    follows-on (Ok (g x)) x f (λ files y. Ok (g y)) before after after p (follows-judged (Ok (g x)) (Ok (g x)) after refl)

-- ---- loads

-- fewer bytes than were asked for are the whole file
whole-file : (most : ℕ) (whole bytes : List ℕ) → bytes ≡ take (most + 1) whole → length bytes ≤ most → (length whole ≤ most) × (bytes ≡ whole)
whole-file most whole bytes e short =
    let size = ap length e ∙ length-take (most + 1) whole in
    let fits : length whole ≤ most + 1 = omega (arith, size, short) in
    (omega (arith, size, short), e ∙ take_all (most + 1) whole fits)

is-within : (m most : ℕ) → m ≤ most → nat_le m most ≡ true
is-within m most h = grind (arith, nat_tests)

is-past : (m most : ℕ) → most < m → nat_le m most ≡ false
is-past m most h = grind (arith, nat_tests)

require_size-ok : (most : ℕ) (name bytes whole : List ℕ) → bytes ≡ take (most + 1) whole → length bytes ≤ most → require_size most name (Some whole) ≡ Ok bytes
require_size-ok most name bytes whole e short =
    let all = whole-file most whole bytes e short in
    rw (is-within (length whole) most all.0, all.1) refl

require_size-large : (most : ℕ) (name bytes whole : List ℕ) → bytes ≡ take (most + 1) whole → most < length bytes → require_size most name (Some whole) ≡ Err (failure.TooLarge name)
require_size-large most name bytes whole e large =
    let size = ap length e ∙ length-take (most + 1) whole in
    let past : most < length whole = omega (arith, size, large) in
    rw (is-past (length whole) most past) refl

load-ok : (told : Option Named) (most : ℕ) (name bytes : List ℕ) → Gives told name (most + 1) bytes → length bytes ≤ most
    → Told told (λ files. load_of most name files ≡ Ok bytes)
unfolding load_of
load-ok None most name bytes h short = tt
load-ok (Some files) most name bytes h short = rw h.1 (require_size-ok most name bytes h.0 h.2 short)

load-large : (told : Option Named) (most : ℕ) (name bytes file : List ℕ) → file ≡ name → Gives told name (most + 1) bytes → most < length bytes
    → Told told (λ files. load_of most name files ≡ Err (failure.TooLarge file))
unfolding load_of
load-large None most name bytes file e h large = tt
load-large (Some files) most name bytes file e h large = rw (h.1, e) (require_size-large most name bytes h.0 h.2 large)

-- the first bytes of a file came
pub load-bounded : (r : Result (List ℕ) Failure) (most : ℕ) (name bytes : List ℕ) (before after : World) → after ≡ before → Gives before.files name (most + 1) bytes
    → IsBounded r name most bytes → Follows r (load_of most name) before after
load-bounded (Ok whole) most name bytes before after same h r =
    (same, load-ok before.files most name whole (rw (← r.0) at h) (rw (← r.0) at r.1))
load-bounded (Err (failure.TooLarge file)) most name bytes before after same h r =
    (ap (λ (w : World). w.loads) same, load-large before.files most name bytes file r.0 h r.1)
load-bounded (Err failure.NoMemory) most name bytes before after same h r = tt
load-bounded (Err other) most name bytes before after same h r = absurd r.0

pub bounded-few : (r : Result (List ℕ) Failure) (name : List ℕ) (most : ℕ) (bytes : List ℕ) → IsBounded r name most bytes → IfOk r (λ whole. length whole ≤ most)
bounded-few (Ok whole) name most bytes r = rw (← r.0) at r.1
bounded-few (Err s) name most bytes r = tt

pub bounded-named : (r : Result (List ℕ) Failure) (name : List ℕ) (most : ℕ) (bytes : List ℕ) → IsBounded r name most bytes → IfErr r (λ s. Names s (λ file. file ≡ name))
bounded-named (Ok whole) name most bytes r = tt
bounded-named (Err (failure.ReadFault file)) name most bytes r = absurd r.0
bounded-named (Err other) name most bytes r = tt

lacks-tells : (told : Option Named) (most : ℕ) (name : List ℕ) → Lacks told name → Tells told (λ files. load_of most name files ≡ Err (failure.ReadFault name))
unfolding load_of
lacks-tells None most name h = h
lacks-tells (Some files) most name h = rw h refl

-- a load failed
pub load-err : (s : Failure) (most : ℕ) (name : List ℕ) (before after : World) → IsMissing s name → Lacks before.files name ⊎ Rose before.loads after.loads
    → (Lacks before.files name → after.loads ≡ before.loads) → Follows {A = List ℕ} (Err s) (load_of most name) before after
load-err (failure.ReadFault file) most name before after m h same =
    elim h [
      | inl lacks ↦ inl (same lacks, rw m (lacks-tells before.files most name lacks))
      | inr rose ↦ inr rose
    ]
load-err failure.NoMemory most name before after m h same = tt
load-err other most name before after m h same = absurd m

-- ---- names

pub missing-named : (s : Failure) (name : List ℕ) → IsMissing s name → Names s (λ file. file ≡ name)
missing-named (failure.ReadFault file) name h = h
missing-named other name h = tt

-- a step that reads nothing names nothing
pub judged-named : {A : Type 0} (r meant : Result A Failure) (P : List ℕ → Type 0) → Judges r meant → IfErr r (λ s. Names s P)
judged-named (Ok x) meant P h = tt
judged-named (Err (failure.ReadFault file)) meant P h = absurd h
judged-named (Err other) meant P h = tt

pub names-map : (s : Failure) (P Q : List ℕ → Type 0) → ((file : List ℕ) → P file → Q file) → Names s P → Names s Q
names-map (failure.ReadFault file) P Q f h = f file h
names-map other P Q f h = tt

-- the workflow was read, so one of its scans is named
pub scan-named : (s : Failure) (told : Option Named) (name : List ℕ) (flow : List Operator) → Told told (λ files. workflow_in name files ≡ Ok flow)
    → Told told (λ files. Names s (IsScanFile flow files)) → Told told (λ files. Names s (IsScanned name files))
scan-named s told name flow is_scan_of h =
    told-both told (λ files. workflow_in name files ≡ Ok flow) (λ files. Names s (IsScanFile flow files)) (λ files. Names s (IsScanned name files))
    (λ files e one. names-map s (IsScanFile flow files) (IsScanned name files) (λ file is. (flow, e, is)) one) is_scan_of h
