-- What holds of a worker's position in every log, also where constants were set and rows dropped.
use Rattle.std.proofs.Common.{◌≡◌, ℕ, ◌+◌, ◌<◌, ◌≤◌, eqb, List, [], ◌∷◌, ◌++◌, length, replicate, Option, Bool, true, false, if◌then◌else◌, refl, sym, ap, ◌∙◌, arith, length-append}
use Rattle.std.specs.List.{list_any}
use Rattle.std.proofs.lemmas.Bool.{false≢true, false_from_ne_true}
use Rattle.std.proofs.lemmas.List.{length-drop, length-replicate}
use Rattle.amber_rows.specs.declared.value.Value.{Value}
use Rattle.amber_rows.specs.declared.batch.Batch.{Batch}
use Rattle.amber_rows.specs.declared.cond.Cond.{Cond}
use Rattle.amber_log.specs.declared.entry.Entry.{Entry}
use Rattle.amber_log.specs.declared.entry.Entry.TheVariants as entry
use Rattle.amber_rows.specs.Lists.{IsPrefix}
use Rattle.amber_meaning.specs.Position.{Position, Restraint, Taken, all_arrivals, has_last, have_ended, is_complete, origin, pending_rows, produced_rows, product}
use Rattle.amber_meaning.specs.Rules.{Leads, MayGo, MayHold, MayTake, Moves, Orders, assigned, first_is_watched, with_batch, with_rows}
use Rattle.amber_meaning.specs.State.{let_go, without_held}
use Rattle.amber_meaning.specs.Task.{Arrival, Role}
use Rattle.amber_meaning.specs.Produce.{closing, produce}
use Rattle.amber_meaning.proofs.Lists.{list_all-member}
use Rattle.amber_meaning.proofs.OneState.{Leads-keeps}
use Rattle.amber_meaning.proofs.Orderly.{IsOrderly, fed-more, marked-front, not-ended, produce-more, product-before}

pub record IsBounded (role : Role) (p : Position) : Type 0 where
  pub within : length p.constants ≤ length (all_arrivals role p.taken)
  pub produced : length p.outcomes ≤ length (produced_rows role p)
  pub held : p.restraint.held ≡ true → length p.outcomes < length (produced_rows role p)

-- ---- what was produced only grows

-- as batches are taken
pub product-taken : (role : Role) (taken : List Taken) (from : ℕ) (batch : Batch) (ks : List (List Value)) → length ks ≤ length (all_arrivals role taken)
    → IsOrderly role (taken ++ record { from = from; batch = batch } ∷ []) → list_any (λ one. eqb one from) role.senders ≡ true
    → IsPrefix (product role taken ks) (product role (taken ++ record { from = from; batch = batch } ∷ []) ks)
unfolding product have_ended
product-taken role taken from batch ks within orderly known =
    let early : have_ended role.senders taken ≡ false =
    false_from_ne_true _ (λ e. not-ended role taken from batch orderly known (list_all-member (has_last taken) role.senders from e known)) in
    let all = taken ++ record { from = from; batch = batch } ∷ [] in
    let more = fed-more role taken (record { from = from; batch = batch } ∷ []) in
    let same : produce role.task [] (all_arrivals role all) ks ≡ produce role.task [] (all_arrivals role taken) ks =
    ap (λ (hs : List Arrival). produce role.task [] hs ks) more.1 ∙ produce-more role.task [] (all_arrivals role taken) more.0 ks within in (
      if is_complete role all (length ks) then closing role.task (all_arrivals role all) else [],
      ap (λ (rows : List (List Value)). rows ++ (if is_complete role all (length ks) then closing role.task (all_arrivals role all) else []))
          (product-before role taken ks early ∙ sym same),
    )

begins-length : {A : Type 0} (xs ys : List A) → IsPrefix xs ys → length xs ≤ length ys
begins-length xs ys b =
    let size = ap length (b.1) in
    let parts = length-append xs b.0 in
    omega arith

-- ---- each entry keeps it

pub origin-bounded : (role : Role) → IsBounded role origin
origin-bounded role = record { within = omega arith; produced = omega arith; held = λ e. absurd (false≢true e) }

pub let_go-bounded : (role : Role) (p : Position) → IsBounded role p → IsBounded role (let_go p)
let_go-bounded role p h = record { within = h.within; produced = h.produced; held = λ e. absurd (false≢true e) }

pub without_held-bounded : (role : Role) (p : Position) → IsBounded role p → IsBounded role (without_held p)
without_held-bounded role p h = by p.restraint.held refl
  where
    by : (b : Bool) → p.restraint.held ≡ b → IsBounded role (if b then record p { outcomes = p.outcomes ++ false ∷ []; restraint = record p.restraint { held = false } } else p)
    by true e =
        let less = h.held e in
        let size : length (p.outcomes ++ false ∷ []) ≡ length p.outcomes + 1 = length-append p.outcomes (false ∷ []) in
        record { within = h.within; produced = omega arith; held = λ f. absurd (false≢true f) }
    by false e = h

not_held : (p : Position) (A : Type 0) → p.restraint.held ≡ false → p.restraint.held ≡ true → A
not_held p A e f = absurd (false≢true (sym e ∙ f))

with_batch-bounded : (role : Role) (p : Position) (from number : ℕ) (batch : Batch) → IsOrderly role (with_batch from batch p).taken → MayTake role p from number
    → IsBounded role p → IsBounded role (with_batch from batch p)
with_batch-bounded role p from number batch orderly may h =
    let more = fed-more role p.taken (record { from = from; batch = batch } ∷ []) in
    let size : length (all_arrivals role (with_batch from batch p).taken) ≡ length (all_arrivals role p.taken) + length more.0 = ap length more.1 ∙ length-append (all_arrivals role p.taken) more.0 in
    let within = h.within in
    let before = h.produced in
    let longer = begins-length (product role p.taken p.constants) (product role (with_batch from batch p).taken p.constants)
    (product-taken role p.taken from batch p.constants h.within orderly may.sender) in
    record { within = omega arith; produced = omega arith; held = not_held p _ may.free.loose }

with_rows-bounded : (role : Role) (orders : Orders) (p : Position) (rows outs : ℕ) → MayGo (assigned role orders) p rows outs → IsBounded role (with_rows orders rows outs p)
with_rows-bounded role orders p rows outs may =
    let taken : length (p.constants ++ replicate rows orders.constants) ≡ length p.constants + rows =
    length-append p.constants (replicate rows orders.constants) ∙ ap (λ (n : ℕ). length p.constants + n) (length-replicate rows orders.constants) in
    let gone : length (p.outcomes ++ replicate outs true) ≡ length p.outcomes + outs =
    length-append p.outcomes (replicate outs true) ∙ ap (λ (n : ℕ). length p.outcomes + n) (length-replicate outs true) in
    let within = may.within in
    let produced = may.produced in
    record { within = omega arith; produced = omega arith; held = not_held p _ may.free.loose }

watched-some : (when : Option Cond) (rows : List (List Value)) → first_is_watched when rows ≡ true → 0 < length rows
watched-some when [] e = absurd (false≢true e)
watched-some when (row ∷ rows) e = omega arith

held-bounded : (role : Role) (orders : Orders) (p : Position) → MayHold (assigned role orders) p → IsBounded role p → IsBounded role (record p { restraint = record p.restraint { held = true } })
held-bounded role orders p may h =
    let some = watched-some orders.when (pending_rows role p) may.watched in
    let size = length-drop (length p.outcomes) (produced_rows role p) in
    record { within = h.within; produced = h.produced; held = λ e. omega arith }

-- under another restraint that holds it or not as before, finished or not
restrained-bounded : (role : Role) (p : Position) (r : Restraint) (finished : Bool) → r.held ≡ p.restraint.held → IsBounded role p
    → IsBounded role (record p { restraint = r; finished = finished })
restrained-bounded role p r finished same h = record { within = h.within; produced = h.produced; held = λ e. h.held (sym same ∙ e) }

pub moved-bounded : (role : Role) (orders : Orders) (p q : Position) (one : Entry) → IsOrderly role q.taken → Moves (assigned role orders) p one q → IsBounded role p → IsBounded role q
moved-bounded role orders p q (entry.Take from number) orderly h bounded = rw h.2 (with_batch-bounded role p from number h.0 (rw h.2 at orderly) h.1 bounded)
moved-bounded role orders p q (entry.Go rows outs) orderly h bounded = rw h.2 (with_rows-bounded role orders p rows outs h.1)
moved-bounded role orders p q (entry.Grant n) orderly h bounded = rw h.2 (restrained-bounded role p _ _ refl bounded)
moved-bounded role orders p q (entry.Back n) orderly h bounded = rw h.2 (restrained-bounded role p _ _ refl bounded)
moved-bounded role orders p q entry.Pause orderly h bounded = rw h.2 (restrained-bounded role p _ _ refl bounded)
moved-bounded role orders p q entry.Resume orderly h bounded = rw h.2 (restrained-bounded role p _ _ refl bounded)
moved-bounded role orders p q entry.Hold orderly h bounded = rw h.2 (held-bounded role orders p h.1 bounded)
moved-bounded role orders p q entry.Finish orderly h bounded = rw h.2 (restrained-bounded role p _ _ refl bounded)

pub sooner-orderly : (role : Role) (orders : Orders) (p q : Position) (entries : List Entry) → Leads (assigned role orders) p entries q → IsOrderly role q.taken → IsOrderly role p.taken
sooner-orderly role orders p q entries h orderly sender known =
    let b = Leads-keeps role orders p q entries sender h in
    marked-front _ b.0 (rw b.1 (orderly sender known))

pub led-bounded : (role : Role) (orders : Orders) (p q : Position) (entries : List Entry) → IsOrderly role q.taken → Leads (assigned role orders) p entries q → IsBounded role p
    → IsBounded role q
unfolding Leads
led-bounded role orders p q [] orderly h bounded = rw (← h) bounded
led-bounded role orders p q (one ∷ more) orderly h bounded =
    led-bounded role orders h.0 q more orderly h.2
    (moved-bounded role orders p h.0 one (sooner-orderly role orders h.0 q more h.2 orderly) h.1 bounded)
