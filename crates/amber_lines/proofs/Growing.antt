-- A leg that goes on goes on with an entry more: what a sender has for a receiver only grows.
use Rattle.std.proofs.Common.{◌≡◌, ℕ, zero, suc, ◌+◌, ◌*◌, ◌/◌, ◌<◌, ◌≤◌, eqb, List, [], ◌∷◌, ◌++◌, length, map, replicate, Some, Bool, true, false, ◌⊎◌, inl, inr, refl, sym, ap, ◌∙◌, subst, arith, append_assoc, length-append}
use Rattle.std.specs.Prelude.{filter}
use Rattle.std.specs.List.{slice_get}
use Rattle.std.proofs.Math.Nat.{div-mul-le_self}
use Rattle.std.proofs.lemmas.Bool.{cases_eq, cases_lt, false≢true}
use Rattle.std.proofs.lemmas.List.{append-nil, map-append}
use Rattle.std.proofs.lemmas.List.Elements.{filter-append}
use Rattle.std.proofs.lemmas.Nat.{le-div}
use Rattle.std.proofs.lemmas.Option.{slice_get_within}
use Rattle.amber_rows.specs.Chunks.{chunks_of}
use Rattle.amber_rows.specs.Lists.{numbers_below, nth, IsPrefix}
use Rattle.amber_rows.specs.Topology.{crew_of, receiver_of}
use Rattle.amber_rows.specs.declared.value.Value.{Value}
use Rattle.amber_rows.specs.declared.batch.Batch.{Batch}
use Rattle.amber_log.specs.Grammar.{IsBatch}
use Rattle.amber_log.specs.declared.entry.Entry.{Entry}
use Rattle.amber_log.specs.declared.entry.Entry.TheVariants as entry
use Rattle.amber_log.specs.declared.log.Log.{Log}
use Rattle.amber_meaning.specs.Legal.{AreOffered, IsLegal, Query, assignment_in, batches_for, entries_of, leg_start, role_in, stream_of}
use Rattle.amber_meaning.specs.Plan.{role_of}
use Rattle.amber_meaning.specs.Position.{Position, Restraint, emitted_rows, kept, produced_rows, taken_from}
use Rattle.amber_meaning.specs.Rules.{Leads, MayGo, MayTake, Moves, Orders, assigned, with_batch, with_rows}
use Rattle.amber_meaning.specs.State.{position_at}
use Rattle.amber_meaning.specs.Task.{Role}
use Rattle.amber_meaning.proofs.Chunks.{chunks-marked, full_batch, fulls-longer}
use Rattle.amber_meaning.proofs.Lists.{IsPrefix-refl, IsPrefix-trans, nth-next, slice_get-seam}
use Rattle.amber_meaning.proofs.OneState.{same-batches, taken_from-other, taken_from-push}
use Rattle.amber_meaning.proofs.Orderly.{IsOrderly, marked-front, product-later}
use Rattle.amber_lines.specs.Moving.{HaveMoved, IsNextEntry, NextEntry, TakesOffered, orders_in}
use Rattle.amber_lines.specs.MovingLaws.{OpenLegsGrow}
use Rattle.amber_lines.proofs.Bounded.{IsBounded, product-taken}
use Rattle.amber_lines.proofs.BoundedLogs.{open-bounded}
use Rattle.amber_lines.proofs.Splitting.{moved-of, after_leg-of}

-- ---- fates over lists of rows

kept-front : {A : Type 0} (xs more : List A) (outcomes : List Bool) → length outcomes ≤ length xs → kept (xs ++ more) outcomes ≡ kept xs outcomes
unfolding kept
kept-front [] [] [] h = refl
kept-front [] (m ∷ more) [] h = refl
kept-front [] more (outcome ∷ outcomes) h = absurd (omega arith)
kept-front (x ∷ xs) more [] h = refl
kept-front (x ∷ xs) more (true ∷ outcomes) h = ap (λ l. x ∷ l) (kept-front xs more outcomes (omega arith))
kept-front (x ∷ xs) more (false ∷ outcomes) h = kept-front xs more outcomes (omega arith)

kept-later : {A : Type 0} (xs : List A) (outcomes others : List Bool) → IsPrefix (kept xs outcomes) (kept xs (outcomes ++ others))
unfolding kept
kept-later [] outcomes others = ([], refl)
kept-later (x ∷ xs) [] others = (kept (x ∷ xs) others, refl)
kept-later (x ∷ xs) (true ∷ outcomes) others = let rest = kept-later xs outcomes others in (rest.0, ap (λ l. x ∷ l) rest.1)
kept-later (x ∷ xs) (false ∷ outcomes) others = kept-later xs outcomes others

-- ---- one entry

-- what was emitted stays, and with a finished worker nothing comes
pub record IsGrown (role : Role) (p q : Position) : Type 0 where
  pub emitted : IsPrefix (emitted_rows role p) (emitted_rows role q)
  pub over : p.finished ≡ true → (emitted_rows role q ≡ emitted_rows role p) × (q.finished ≡ true)

still : (p : Position) (A : Type 0) → p.finished ≡ false → p.finished ≡ true → A
still p A e f = absurd (false≢true (sym e ∙ f))

with_batch-grown : (role : Role) (p : Position) (from number : ℕ) (batch : Batch) → IsOrderly role (with_batch from batch p).taken → MayTake role p from number
    → IsBounded role p → IsGrown role p (with_batch from batch p)
with_batch-grown role p from number batch orderly may h =
    let longer = product-taken role p.taken from batch p.constants h.within orderly may.sender in
    let same : emitted_rows role (with_batch from batch p) ≡ emitted_rows role p =
    ap (λ (rows : List (List Value)). kept rows p.outcomes) (sym longer.1) ∙ kept-front (produced_rows role p) longer.0 p.outcomes h.produced in
    record { emitted = rw same (IsPrefix-refl (emitted_rows role p)); over = still p _ may.free.unfinished }

with_rows-grown : (role : Role) (orders : Orders) (p : Position) (rows outs : ℕ) → MayGo (assigned role orders) p rows outs → IsBounded role p
    → IsGrown role p (with_rows orders rows outs p)
with_rows-grown role orders p rows outs may h =
    let longer = product-later role p.taken p.constants rows orders.constants may.within in
    let all : List (List Value) = produced_rows role p ++ longer.0 in
    let first : IsPrefix (kept all p.outcomes) (kept all (p.outcomes ++ replicate outs true)) = kept-later all p.outcomes (replicate outs true) in
    record {
      emitted = rw (longer.1, ← kept-front (produced_rows role p) longer.0 p.outcomes h.produced) first;
      over = still p _ may.free.unfinished;
    }

-- under another restraint
restrained-grown : (role : Role) (p : Position) (r : Restraint) → IsGrown role p (record p { restraint = r })
restrained-grown role p r = record { emitted = IsPrefix-refl (emitted_rows role p); over = λ e. (refl, e) }

pub moved-grown : (role : Role) (orders : Orders) (p q : Position) (one : Entry) → IsOrderly role q.taken → Moves (assigned role orders) p one q → IsBounded role p → IsGrown role p q
moved-grown role orders p q (entry.Take from number) orderly h bounded = rw h.2 (with_batch-grown role p from number h.0 (rw h.2 at orderly) h.1 bounded)
moved-grown role orders p q (entry.Go rows outs) orderly h bounded = rw h.2 (with_rows-grown role orders p rows outs h.1 bounded)
moved-grown role orders p q (entry.Grant n) orderly h bounded = rw h.2 (restrained-grown role p _)
moved-grown role orders p q (entry.Back n) orderly h bounded = rw h.2 (restrained-grown role p _)
moved-grown role orders p q entry.Pause orderly h bounded = rw h.2 (restrained-grown role p _)
moved-grown role orders p q entry.Resume orderly h bounded = rw h.2 (restrained-grown role p _)
moved-grown role orders p q entry.Hold orderly h bounded = rw h.2 (restrained-grown role p _)
moved-grown role orders p q entry.Finish orderly h bounded = rw h.2 (record { emitted = IsPrefix-refl (emitted_rows role p); over = λ e. (refl, refl) })

-- ---- batches of a stream that grows

numbers-begin : (fewer more : ℕ) → fewer ≤ more → IsPrefix (numbers_below fewer) (numbers_below more)
unfolding numbers_below
numbers-begin fewer zero h = let none : fewer ≡ 0 = omega arith in rw none (IsPrefix-refl [])
numbers-begin fewer (suc more) h = by (cases_lt fewer (suc more)) (λ less. numbers-begin fewer more less)
  where
    by : (fewer < suc more) ⊎ (suc more ≤ fewer) → (fewer ≤ more → IsPrefix (numbers_below fewer) (numbers_below more)) → IsPrefix (numbers_below fewer) (numbers_below more ++ more ∷ [])
    by (inl less) rest =
        let front = rest (omega arith) in
        (front.0 ++ more ∷ [], sym (append_assoc (numbers_below fewer) front.0 (more ∷ [])) ∙ ap (λ (l : List ℕ). l ++ more ∷ []) front.1)
    by (inr all) rest = let same : fewer ≡ suc more = omega arith in rw same (IsPrefix-refl (numbers_below more ++ more ∷ []))

fulls-begin : (batch_size : ℕ) (stream more : List (List Value)) → 0 < batch_size
    → IsPrefix (map (full_batch batch_size stream) (numbers_below (length stream / batch_size))) (map (full_batch batch_size (stream ++ more)) (numbers_below (length (stream ++ more) / batch_size)))
fulls-begin batch_size stream more some =
    let fewer = length stream / batch_size in
    let within : fewer * batch_size ≤ length stream = div-mul-le_self (length stream) batch_size in
    let longer = length-append stream more in
    let above : fewer ≤ length (stream ++ more) / batch_size = le-div fewer (length (stream ++ more)) batch_size some (omega arith) in
    let numbers = numbers-begin fewer (length (stream ++ more) / batch_size) above in (
      map (full_batch batch_size (stream ++ more)) numbers.0,
      ap (λ (l : List Batch). l ++ map (full_batch batch_size (stream ++ more)) numbers.0) (sym (fulls-longer batch_size fewer stream more within))
          ∙ sym (map-append (full_batch batch_size (stream ++ more)) (numbers_below fewer) numbers.0)
          ∙ ap (map (full_batch batch_size (stream ++ more))) numbers.1,
    )

chunks-grow : (batch_size : ℕ) (stream more : List (List Value)) (ended : Bool) → 0 < batch_size → IsPrefix (chunks_of batch_size stream false) (chunks_of batch_size (stream ++ more) ended)
unfolding chunks_of
chunks-grow batch_size stream more ended some =
    let fulls = fulls-begin batch_size stream more some in
    let front : IsPrefix (map (full_batch batch_size stream) (numbers_below (length stream / batch_size)) ++ []) (map (full_batch batch_size stream) (numbers_below (length stream / batch_size))) =
    ([], append-nil _ ∙ append-nil _) in
    IsPrefix-trans _ _ _ front (IsPrefix-trans _ _ _ fulls (_, refl))

-- ---- what a sender has for a receiver

same-stream : (query : Query) (sender receiver : ℕ) (rows more all : List (List Value)) → rows ++ more ≡ all
    → filter (λ row. eqb (receiver_of query.flow sender row) receiver) all
    ≡ filter (λ row. eqb (receiver_of query.flow sender row) receiver) rows ++ filter (λ row. eqb (receiver_of query.flow sender row) receiver) more
same-stream query sender receiver rows more all e =
    ap (filter (λ row. eqb (receiver_of query.flow sender row) receiver)) (sym e) ∙ filter-append (λ row. eqb (receiver_of query.flow sender row) receiver) rows more

pub batches-grow : (query : Query) (before after : List Position) (sender receiver : ℕ) → 0 < query.batch_size
    → IsGrown (role_in query sender) (position_at before sender) (position_at after sender)
    → IsPrefix (batches_for query before sender receiver) (batches_for query after sender receiver)
unfolding batches_for stream_of role_of
batches-grow query before after sender receiver some grown = by (position_at before sender).finished refl
  where
    role : Role
    role = role_in query sender

    goes : List Value → Bool
    goes = λ row. eqb (receiver_of query.flow sender row) receiver

    by : (over : Bool) → (position_at before sender).finished ≡ over
        → IsPrefix (chunks_of query.batch_size (filter goes (emitted_rows role (position_at before sender))) over)
        (chunks_of query.batch_size (filter goes (emitted_rows role (position_at after sender))) (position_at after sender).finished)
    by true e =
        let same = grown.over e in
        rw (same.0, same.1) (IsPrefix-refl (chunks_of query.batch_size (filter goes (emitted_rows role (position_at before sender))) true))
    by false e =
        rw (same-stream query sender receiver (emitted_rows role (position_at before sender)) grown.emitted.0 (emitted_rows role (position_at after sender)) grown.emitted.1)
        (chunks-grow query.batch_size (filter goes (emitted_rows role (position_at before sender))) (filter goes grown.emitted.0) (position_at after sender).finished some)

-- ---- one entry more

next-of : {A : Type 0} (xs ys : List A) (y : A) → IsPrefix xs ys → slice_get ys (length xs) ≡ Some y → IsPrefix (xs ++ y ∷ []) ys
next-of xs ys y ([], e) at =
    let inside = slice_get_within ys (length xs) y at in
    let size = ap length e in
    let parts = length-append xs [] in
    absurd (omega arith)
next-of xs ys y (z ∷ more, e) at =
    let found : Some z ≡ Some y = sym (slice_get-seam xs z more) ∙ ap (λ l. slice_get l (length xs)) e ∙ at in
    let same : z ≡ y = cc in
    (more, append_assoc xs (y ∷ []) more ∙ ap (λ w. xs ++ w ∷ more) (sym same) ∙ e)

-- the next batch of a sender
taken-next : (offer : ℕ → List Batch) (p : Position) (from number : ℕ) (batch : Batch) → number ≡ length (taken_from p.taken from)
    → nth (offer from) (number + 1) ≡ Some batch → IsPrefix (taken_from p.taken from) (offer from) → IsPrefix (taken_from (with_batch from batch p).taken from) (offer from)
taken-next offer p from number batch next there begins =
    rw (taken_from-push p.taken from batch)
    (next-of (taken_from p.taken from) (offer from) batch begins
    (sym (nth-next (offer from) (length (taken_from p.taken from))) ∙ ap (λ (n : ℕ). nth (offer from) (n + 1)) (sym next) ∙ there))

-- what was taken, with the batch that an entry takes, are the first batches of its sender
pub taken-offered : (role : Role) (orders : Orders) (offer : ℕ → List Batch) (p q : Position) (one : Entry) (sender : ℕ) → Moves (assigned role orders) p one q → TakesOffered offer p one q
    → IsPrefix (taken_from p.taken sender) (offer sender) → IsPrefix (taken_from q.taken sender) (offer sender)
taken-offered role orders offer p q (entry.Take from number) sender h there begins = rw there.2 (by (cases_eq from sender))
  where
    by : (from ≡ sender) ⊎ (from ≡ sender → ⊥) → IsPrefix (taken_from (with_batch from there.0 p).taken sender) (offer sender)
    by (inl same) =
        subst (λ (s : ℕ). IsPrefix (taken_from (with_batch from there.0 p).taken s) (offer s)) same
        (taken-next offer p from number there.0 h.1.next there.1 (subst (λ (s : ℕ). IsPrefix (taken_from p.taken s) (offer s)) (sym same) begins))
    by (inr other) = rw (taken_from-other p.taken from sender there.0 other) begins
taken-offered role orders offer p q (entry.Go rows outs) sender h there begins = rw h.2 begins
taken-offered role orders offer p q (entry.Grant n) sender h there begins = rw h.2 begins
taken-offered role orders offer p q (entry.Back n) sender h there begins = rw h.2 begins
taken-offered role orders offer p q entry.Pause sender h there begins = rw h.2 begins
taken-offered role orders offer p q entry.Resume sender h there begins = rw h.2 begins
taken-offered role orders offer p q entry.Hold sender h there begins = rw h.2 begins
taken-offered role orders offer p q entry.Finish sender h there begins = rw h.2 begins

-- after an entry more everything that was taken is offered
grown-offered : (query : Query) (next : NextEntry) → 0 < query.batch_size → AreOffered query next.now.positions
    → IsBounded (role_in query next.worker) (position_at next.now.positions next.worker) → IsNextEntry query next → AreOffered query next.after.positions
unfolding AreOffered batches_for role_of
grown-offered query next some offered bounded h receiver less sender known =
    IsPrefix-trans _ _ _ (taken (cases_eq receiver next.worker) (offered receiver less sender known)) (grows (cases_eq sender next.worker))
  where
    now : List Position
    now = next.now.positions

    after : List Position
    after = next.after.positions

    role : Role
    role = role_in query next.worker

    offer : ℕ → List Batch
    offer = λ sender. batches_for query now sender next.worker

    orderly : IsOrderly role (position_at after next.worker).taken
    orderly = λ one is.
        let begins = taken-offered role (orders_in query next.start next.worker) offer (position_at now next.worker) (position_at after next.worker) next.made one h.allowed h.offered
        (offered next.worker h.inside one is) in
        marked-front _ begins.0 (rw begins.1 (chunks-marked query.batch_size _ _))

    grows : (sender ≡ next.worker) ⊎ (sender ≡ next.worker → ⊥) → IsPrefix (batches_for query now sender receiver) (batches_for query after sender receiver)
    grows (inl same) =
        let grown = moved-grown role (orders_in query next.start next.worker) (position_at now next.worker) (position_at after next.worker) next.made orderly h.allowed bounded in
        batches-grow query now after sender receiver some
        (subst (λ (s : ℕ). IsGrown (role_in query s) (position_at now s) (position_at after s)) (sym same) grown)
    grows (inr other) = rw (same-batches query after now sender receiver (h.others sender other).0) (IsPrefix-refl (batches_for query now sender receiver))

    taken : (receiver ≡ next.worker) ⊎ (receiver ≡ next.worker → ⊥)
        → IsPrefix (taken_from (position_at now receiver).taken sender) (batches_for query now sender receiver)
        → IsPrefix (taken_from (position_at after receiver).taken sender) (batches_for query now sender receiver)
    taken (inl same) begins =
        subst (λ (r : ℕ). IsPrefix (taken_from (position_at after r).taken sender) (batches_for query now sender r)) (sym same)
        (taken-offered role (orders_in query next.start next.worker) offer (position_at now next.worker) (position_at after next.worker) next.made sender h.allowed h.offered
        (subst (λ (r : ℕ). IsPrefix (taken_from (position_at now r).taken sender) (batches_for query now sender r)) same begins))
    taken (inr other) begins = rw ((h.others receiver other).0) begins

grown-moved : (query : Query) (next : NextEntry) → HaveMoved query next.start next.parts next.now → IsNextEntry query next → HaveMoved query next.start next.longer next.after
grown-moved query next moved h = record {
  same_arms = h.arms ∙ moved.same_arms;
  crew = h.crew;
  known = h.known;
  moved = λ worker less. by worker less (cases_eq worker next.worker);
}
  where
    by : (worker : ℕ) → worker < crew_of query.flow → (worker ≡ next.worker) ⊎ (worker ≡ next.worker → ⊥)
        → Leads (assignment_in query next.start worker) (position_at next.start.positions worker) (entries_of next.longer worker) (position_at next.after.positions worker)
    by worker less (inl same) =
        subst (λ (w : ℕ). Leads (assignment_in query next.start w) (position_at next.start.positions w) (entries_of next.longer w) (position_at next.after.positions w))
        (sym same) h.leads
    by worker less (inr other) = rw ((h.others worker other).0, (h.others worker other).1) (moved.moved worker less)

some-size : (query : Query) (log : Log) → IsLegal query log → 0 < query.batch_size
some-size query log legal = let same = legal.batch in let batch : IsBatch log.batch = legal.text.batch in omega arith

pub open_legs_grow : OpenLegsGrow
open_legs_grow query log to_end parts longer worker made after leg h text few =
    let next : NextEntry = record { start = leg_start to_end leg.legal.after; now = leg.now; after = after; parts = parts; longer = longer; worker = worker; made = made } in
    let offered = grown-offered query next (some-size query log leg.legal) leg.worked.offered (open-bounded query log to_end parts leg worker h.inside) h in
    let moved = grown-moved query next (moved-of query next.start next.now parts leg.worked) h in (
      record { legal = leg.legal; more = leg.more; text = text; now = after; worked = after_leg-of query next.start after longer moved offered; few = few },
      refl,
    )
