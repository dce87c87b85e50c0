-- What holds of a worker's position all along, where no command alters what comes out.
use Rattle.std.proofs.Common.{◌≡◌, ℕ, ◌+◌, ◌≤◌, eqb, List, [], ◌∷◌, ◌++◌, length, replicate, Bool, true, false, not, if◌then◌else◌, ◌⊎◌, inl, inr, refl, sym, ap, ◌∙◌, arith, length-append}
use Rattle.std.specs.List.{list_all, list_any}
use Rattle.std.proofs.lemmas.Bool.{and_from, and_parts, false≢true, false_from_ne_true}
use Rattle.std.proofs.lemmas.List.{length-replicate, replicate-append-replicate}
use Rattle.std.proofs.lemmas.List.Folds.{list_all-append}
use Rattle.amber_rows.specs.declared.batch.Batch.{Batch}
use Rattle.amber_log.specs.declared.entry.Entry.{Entry}
use Rattle.amber_log.specs.declared.entry.Entry.TheVariants as entry
use Rattle.amber_meaning.specs.Task.{Role, Task, is_builder}
use Rattle.amber_meaning.specs.Position.{Position, Restraint, Taken, all_arrivals, has_last, have_ended, origin, pending_rows, produced_rows, rest_of, taken_from}
use Rattle.amber_meaning.specs.Rules.{Leads, MayFinish, MayGo, MayTake, Moves, Orders, assigned, with_batch, with_rows}
use Rattle.amber_meaning.specs.State.{first_constants}
use Rattle.amber_meaning.proofs.Lists.{list_all-member}
use Rattle.amber_meaning.proofs.OneState.{Leads-keeps}
use Rattle.amber_meaning.proofs.Orderly.{IsOrderly, fed-more, have_ended-more, marked-front, not-ended, product-grows}

-- ---- the build side first

abbrev is_other : Task → Taken → Bool
is_other task t = not (is_builder task t.from)

-- no batch of a join's build side stands after one of its probe side
abbrev pub IsBuildFirst : Task → List Taken → Type 0
IsBuildFirst task [] = Unit {0}
IsBuildFirst task (t ∷ more) = (is_builder task t.from ≡ false → list_all (λ other. not (is_builder task other.from)) more ≡ true) × IsBuildFirst task more

build_first-other : (task : Task) (xs : List Taken) (t : Taken) → is_builder task t.from ≡ false → IsBuildFirst task xs → IsBuildFirst task (xs ++ t ∷ [])
build_first-other task [] t e h = (λ f. refl, tt)
build_first-other task (x ∷ xs) t e h = (
  λ f. list_all-append (is_other task) xs (t ∷ []) ∙ and_from _ _ (h.0 f) (and_from _ _ (ap not e) refl),
  build_first-other task xs t e h.1,
)

build_first-builder : (task : Task) (xs : List Taken) (t : Taken) → list_all (λ (one : Taken). is_builder task one.from) xs ≡ true → IsBuildFirst task (xs ++ t ∷ [])
build_first-builder task [] t e = (λ f. refl, tt)
build_first-builder task (x ∷ xs) t e =
    let parts = and_parts (is_builder task x.from) _ e in
    (λ f. absurd (false≢true (sym f ∙ parts.0)), build_first-builder task xs t parts.1)

-- ---- a position all along

pub record IsSound (role : Role) (p : Position) : Type 0 where
  pub within : length p.constants ≤ length (all_arrivals role p.taken)
  pub produced : length p.outcomes ≤ length (produced_rows role p)
  pub steady : p.constants ≡ replicate (length p.constants) (first_constants role.task.kind)
  pub all_kept : p.outcomes ≡ replicate (length p.outcomes) true
  pub known : list_all (λ (t : Taken). list_any (λ one. eqb one t.from) role.senders) p.taken ≡ true
  pub build_first : IsBuildFirst role.task p.taken
  pub sides : (list_all (λ (t : Taken). is_builder role.task t.from) p.taken ≡ true) ⊎ (have_ended role.task.builders p.taken ≡ true)
  pub no_rest : p.finished ≡ true → rest_of role p ≡ []
  pub no_pending : p.finished ≡ true → pending_rows role p ≡ []
  pub ended : p.finished ≡ true → have_ended role.senders p.taken ≡ true

-- it has worked on all that its senders gave
abbrev HasEnded : Role → Position → Type 0
HasEnded role p = (rest_of role p ≡ []) × (pending_rows role p ≡ []) × (have_ended role.senders p.taken ≡ true)

pub origin-sound : (role : Role) → IsSound role origin
origin-sound role = record {
  within = omega arith;
  produced = omega arith;
  steady = refl;
  all_kept = refl;
  known = refl;
  build_first = tt;
  sides = inl refl;
  no_rest = λ e. absurd (false≢true e);
  no_pending = λ e. absurd (false≢true e);
  ended = λ e. absurd (false≢true e);
}

-- a position under another restraint, and what it says where it has finished
marked-sound : (role : Role) (p : Position) (r : Restraint) (finished : Bool) → IsSound role p → (finished ≡ true → HasEnded role p)
    → IsSound role (record p { restraint = r; finished = finished })
marked-sound role p r finished s h = record {
  within = s.within;
  produced = s.produced;
  steady = s.steady;
  all_kept = s.all_kept;
  known = s.known;
  build_first = s.build_first;
  sides = s.sides;
  no_rest = λ e. (h e).0;
  no_pending = λ e. (h e).1;
  ended = λ e. (h e).2;
}

pub restrained-sound : (role : Role) (p : Position) (r : Restraint) → IsSound role p → IsSound role (record p { restraint = r })
restrained-sound role p r s = marked-sound role p r p.finished s (λ e. (s.no_rest e, s.no_pending e, s.ended e))

more-steady : {A : Type 0} (xs : List A) (x : A) (n : ℕ) → xs ≡ replicate (length xs) x → xs ++ replicate n x ≡ replicate (length (xs ++ replicate n x)) x
more-steady xs x n e =
    let size : length (xs ++ replicate n x) ≡ length xs + n = length-append xs (replicate n x) ∙ ap (λ m. length xs + m) (length-replicate n x) in
    rw size (ap (λ l. l ++ replicate n x) e ∙ replicate-append-replicate (length xs) n x)

not_finished : (p : Position) (A : Type 0) → p.finished ≡ false → p.finished ≡ true → A
not_finished p A e f = absurd (false≢true (sym e ∙ f))

with_batch-sides : (role : Role) (p : Position) (from number : ℕ) (batch : Batch) → IsOrderly role (with_batch from batch p).taken → IsSound role p → MayTake role p from number
    → IsBuildFirst role.task (with_batch from batch p).taken
    × ((list_all (λ (t : Taken). is_builder role.task t.from) (with_batch from batch p).taken ≡ true) ⊎ (have_ended role.task.builders (with_batch from batch p).taken ≡ true))
unfolding have_ended
with_batch-sides role p from number batch orderly s may = by (is_builder role.task from) refl s.sides may.side
  where
    by : (b : Bool) → is_builder role.task from ≡ b
        → (list_all (λ (t : Taken). is_builder role.task t.from) p.taken ≡ true) ⊎ (have_ended role.task.builders p.taken ≡ true)
        → (if b then true else have_ended role.task.builders p.taken) ≡ true
        → IsBuildFirst role.task (with_batch from batch p).taken
        × ((list_all (λ (t : Taken). is_builder role.task t.from) (with_batch from batch p).taken ≡ true) ⊎ (have_ended role.task.builders (with_batch from batch p).taken ≡ true))
    by true e (inl all) side = (
      build_first-builder role.task p.taken (record { from = from; batch = batch }) all,
      inl (list_all-append (λ (t : Taken). is_builder role.task t.from) p.taken (record { from = from; batch = batch } ∷ []) ∙ and_from _ _ all (and_from _ _ e refl)),
    )
    by true e (inr done) side = absurd (not-ended role p.taken from batch orderly may.sender (builders-ended done e))
      where
        builders-ended : have_ended role.task.builders p.taken ≡ true → is_builder role.task from ≡ true → has_last p.taken from ≡ true
        builders-ended done e = list_all-member (has_last p.taken) role.task.builders from done e
    by false e sides side = (
      build_first-other role.task p.taken (record { from = from; batch = batch }) e s.build_first,
      inr (have_ended-more role.task.builders p.taken (record { from = from; batch = batch } ∷ []) side),
    )

with_batch-sound : (role : Role) (p : Position) (from number : ℕ) (batch : Batch) → IsOrderly role (with_batch from batch p).taken → IsSound role p → MayTake role p from number
    → IsSound role (with_batch from batch p)
unfolding have_ended
with_batch-sound role p from number batch orderly s may =
    let more = fed-more role p.taken (record { from = from; batch = batch } ∷ []) in
    let sides = with_batch-sides role p from number batch orderly s may in
    let early : have_ended role.senders p.taken ≡ false =
    false_from_ne_true _ (λ e. not-ended role p.taken from batch orderly may.sender (list_all-member (has_last p.taken) role.senders from e may.sender)) in
    let longer = product-grows role p.taken (record { from = from; batch = batch }) p.constants s.within early in
    let before = s.produced in
    record {
      within = rw (more.1, length-append (all_arrivals role p.taken) more.0) (omega (arith, s.within));
      produced = omega arith;
      steady = s.steady;
      all_kept = s.all_kept;
      known = list_all-append (λ (t : Taken). list_any (λ one. eqb one t.from) role.senders) p.taken (record { from = from; batch = batch } ∷ [])
          ∙ and_from _ _ s.known (and_from _ _ may.sender refl);
      build_first = sides.0;
      sides = sides.1;
      no_rest = not_finished p _ may.free.unfinished;
      no_pending = not_finished p _ may.free.unfinished;
      ended = not_finished p _ may.free.unfinished;
    }

with_rows-sound : (role : Role) (orders : Orders) (p : Position) (rows outs : ℕ) → orders.constants ≡ first_constants role.task.kind → IsSound role p
    → MayGo (assigned role orders) p rows outs → IsSound role (with_rows orders rows outs p)
with_rows-sound role orders p rows outs e s may =
    let taken : length (p.constants ++ replicate rows orders.constants) ≡ length p.constants + rows =
    length-append p.constants _ ∙ ap (λ n. length p.constants + n) (length-replicate rows orders.constants) in
    let gone : length (p.outcomes ++ replicate outs true) ≡ length p.outcomes + outs =
    length-append p.outcomes _ ∙ ap (λ n. length p.outcomes + n) (length-replicate outs true) in
    record {
      within = rw taken may.within;
      produced = rw gone may.produced;
      steady = rw e (more-steady p.constants (first_constants role.task.kind) rows s.steady);
      all_kept = more-steady p.outcomes true outs s.all_kept;
      known = s.known;
      build_first = s.build_first;
      sides = s.sides;
      no_rest = not_finished p _ may.free.unfinished;
      no_pending = not_finished p _ may.free.unfinished;
      ended = not_finished p _ may.free.unfinished;
    }

finish-sound : (role : Role) (p : Position) → IsSound role p → MayFinish role p → IsSound role (record p { finished = true })
finish-sound role p s may = marked-sound role p p.restraint true s (λ e. (may.no_rest, may.no_pending, may.ended))

moved-sound : (role : Role) (orders : Orders) (p q : Position) (one : Entry) → orders.constants ≡ first_constants role.task.kind → IsOrderly role q.taken
    → IsSound role p → Moves (assigned role orders) p one q → IsSound role q
moved-sound role orders p q (entry.Take from number) e orderly s h = rw h.2 (with_batch-sound role p from number h.0 (rw h.2 at orderly) s h.1)
moved-sound role orders p q (entry.Go rows outs) e orderly s h = rw h.2 (with_rows-sound role orders p rows outs e s h.1)
moved-sound role orders p q (entry.Grant n) e orderly s h = rw h.2 (restrained-sound role p _ s)
moved-sound role orders p q (entry.Back n) e orderly s h = rw h.2 (restrained-sound role p _ s)
moved-sound role orders p q entry.Pause e orderly s h = rw h.2 (restrained-sound role p _ s)
moved-sound role orders p q entry.Resume e orderly s h = rw h.2 (restrained-sound role p _ s)
moved-sound role orders p q entry.Hold e orderly s h = rw h.2 (restrained-sound role p _ s)
moved-sound role orders p q entry.Finish e orderly s h = rw h.2 (finish-sound role p s h.1)

pub led-sound : (role : Role) (orders : Orders) (p q : Position) (entries : List Entry) → orders.constants ≡ first_constants role.task.kind → IsOrderly role q.taken
    → IsSound role p → Leads (assigned role orders) p entries q → IsSound role q
unfolding Leads
led-sound role orders p q [] e orderly s h = rw (← h) s
led-sound role orders p q (one ∷ more) e orderly s h =
    let sooner : IsOrderly role h.0.taken = λ sender known.
    let b = Leads-keeps role orders h.0 q more sender h.2 in
    marked-front (taken_from h.0.taken sender) b.0 (rw b.1 (orderly sender known)) in
    led-sound role orders h.0 q more e orderly (moved-sound role orders p h.0 one e sooner s h.1) h.2
