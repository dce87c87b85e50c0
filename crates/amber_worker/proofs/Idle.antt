-- When a worker has something to do.
use Rattle.std.proofs.Common.{◌≡◌, ℕ, suc, arith, ap, All, ◌/◌, eqb, ◌||◌, List, [], ◌∷◌, ◌++◌, length, get_or, ◌<◌, map, not, ◌⊎◌, inl, inr, subst, ◌&&◌, Bool, true, false, refl, sym, ◌∙◌}
use Rattle.std.specs.List.{list_any}
use Rattle.std.proofs.lemmas.Bool.{and_from, eq-eqb, eqb-true, false≢true, or_cases, or_left, or_right}
use Rattle.std.proofs.lemmas.List.{append-nil}
use Rattle.amber_rows.specs.Chunks.{chunks_of, piece_of}
use Rattle.amber_rows.specs.Lists.{numbers_below}
use Rattle.amber_rows.specs.declared.value.Value.{Value}
use Rattle.amber_rows.specs.declared.batch.Batch.{Batch}
use Rattle.amber_meaning.specs.Position.{Position, Taken, has_last, taken_from}
use Rattle.amber_meaning.specs.Task.{Task, is_builder}
use Rattle.amber_link.specs.Sides.{have_all_ended, have_builders_ended, may_come}
use Rattle.amber_link.specs.declared.upstreams.Upstream.{Upstream}
use Rattle.amber_link.specs.Links.{has_some, waiting}
use Rattle.amber_link.specs.Links.{HasGiven}
use Rattle.amber_worker.specs.AtPosition.{Context, ReceiveAll, Shows}
use Rattle.amber_worker.specs.WorkerState.{WorkerState, next_turn, has_ready, is_starved, must_hold}
use Rattle.amber_worker.specs.declared.turn.Turn.TheVariants as turn
use Rattle.amber_worker.proofs.TurnCases.{turn_by}

-- one of these batches is a last one
abbrev pub has_marked : List Batch → Bool
has_marked batches = list_any (λ batch. batch.last) batches

marked_behind : (batches : List Batch) (last : Batch) → last.last ≡ true → has_marked (batches ++ last ∷ []) ≡ true
marked_behind [] last h = or_left _ _ h
marked_behind (one ∷ more) last h = or_right _ _ (marked_behind more last h)

-- the batches that an ended stream was cut into have a last one
pub has_marked-chunks_of : (batch_size : ℕ) (stream : List (List Value)) → has_marked (chunks_of batch_size stream true) ≡ true
unfolding chunks_of
has_marked-chunks_of batch_size stream =
    marked_behind (map (λ number. record { seq = number; rows = piece_of batch_size stream number; last = false }) (numbers_below (length stream / batch_size)))
    (record { seq = length stream / batch_size; rows = piece_of batch_size stream (length stream / batch_size); last = true }) refl

not_ready : (ended some : Bool) → (not ended && some) ≡ false → ended ≡ false → some ≡ false
not_ready true some h e = absurd (false≢true (sym e))
not_ready false some h e = h

-- it is one of these, and has this number
abbrev pub IsAmong : ℕ → Upstream → List Upstream → Type 0
IsAmong sender one ins = (k : ℕ) × (k < length ins) × ((d : Upstream) → get_or ins k d ≡ one) × (one.from ≡ sender)

none : {A : Type 0} (xs : List A) → has_some xs ≡ false → xs ≡ []
none [] h = refl
none (x ∷ xs) h = absurd (false≢true (sym h))

parts_false : (a b : Bool) → list_any (λ c. c) (a ∷ b ∷ []) ≡ false → (a ≡ false) × (b ≡ false)
parts_false true b h = absurd (false≢true (sym h))
parts_false false true h = absurd (false≢true (sym h))
parts_false false false h = (refl, refl)

neither : (ready : Upstream → Bool) (one : Upstream) (more : List Upstream) → list_any ready (one ∷ more) ≡ false → (ready one ≡ false) × (list_any ready more ≡ false)
neither ready one more h = by (ready one) (list_any ready more) refl refl
  where
    by : (a b : Bool) → ready one ≡ a → list_any ready more ≡ b → (ready one ≡ false) × (list_any ready more ≡ false)
    by true b e f = absurd (false≢true (sym h ∙ or_left _ _ e))
    by false true e f = absurd (false≢true (sym h ∙ or_right _ _ f))
    by false false e f = (e, f)

unready : (ended side waits : Bool) → ((not ended && side) && waits) ≡ false → ended ≡ false → side ≡ true → waits ≡ false
unready true side waits h e so = absurd (false≢true (sym e))
unready false false waits h e so = absurd (false≢true so)
unready false true waits h e so = h

-- where no batch may be taken, of a sender that has not ended and whose side may be taken all that has come was taken
none_waits : (had : ℕ → List Batch) (task : Task) (built : Bool) (taken : List Taken) (senders : List ℕ) (ins : List Upstream) (sender : ℕ) → ReceiveAll senders had taken ins
    → All (λ one. one.builds ≡ is_builder task one.from) ins → (is_builder task sender || built) ≡ true → list_any (may_come built) ins ≡ false
    → list_any (λ one. eqb one sender) senders ≡ true → has_last taken sender ≡ false
    → (one : Upstream) × HasGiven one.link (had sender) (taken_from taken sender) × (waiting one.link ≡ []) × IsAmong sender one ins
unfolding ReceiveAll
none_waits had task built taken [] ins sender h sides side ready member last = absurd (false≢true member)
none_waits had task built taken (first ∷ more) [] sender h sides side ready member last = absurd h
none_waits had task built taken (first ∷ more) (one ∷ ins) sender h sides side ready member last =
    by (or_cases (eqb first sender) (list_any (λ other. eqb other sender) more) member)
    (λ later. none_waits had task built taken more ins sender h.2 (λ k d less. sides (suc k) d (omega arith)) side (neither (may_come built) one ins ready).1 later last)
  where
    own : one.builds ≡ is_builder task one.from
    own = sides 0 one (omega arith)

    by : (eqb first sender ≡ true) ⊎ (list_any (λ other. eqb other sender) more ≡ true)
        → (list_any (λ other. eqb other sender) more ≡ true
        → (found : Upstream) × HasGiven found.link (had sender) (taken_from taken sender) × (waiting found.link ≡ []) × IsAmong sender found ins)
        → (found : Upstream) × HasGiven found.link (had sender) (taken_from taken sender) × (waiting found.link ≡ []) × IsAmong sender found (one ∷ ins)
    by (inl e) rest =
        let same : first ≡ sender = eqb-true first sender e in
        let here : one.from ≡ sender = h.0.from ∙ same in
        let unended : one.ended ≡ false = h.0.ended ∙ rw same last in
        let may : (one.builds || built) ≡ true = ap (λ b. b || built) (own ∙ ap (is_builder task) here) ∙ side in (
          one,
          subst (λ n. HasGiven one.link (had n) (taken_from taken n)) same h.0.come,
          none (waiting one.link) (unready one.ended (one.builds || built) (has_some (waiting one.link)) (neither (may_come built) one ins ready).0 unended may),
          (0, omega arith, λ d. refl, here),
        )
    by (inr later) rest =
        let found = rest later in
        let place = found.3 in
        (found.0, found.1, found.2, (suc place.0, let less = place.1 in omega arith, place.2, place.3))

-- where those of the build side have ended, the build side has
built_so : (had : ℕ → List Batch) (task : Task) (taken : List Taken) (senders : List ℕ) (ins : List Upstream) → ReceiveAll senders had taken ins → All (λ one. one.builds ≡ is_builder task one.from) ins
    → ((sender : ℕ) → list_any (λ one. eqb one sender) senders ≡ true → is_builder task sender ≡ true → has_last taken sender ≡ true) → have_builders_ended ins ≡ true
unfolding ReceiveAll
built_so had task taken [] [] h sides last = refl
built_so had task taken [] (one ∷ ins) h sides last = absurd h
built_so had task taken (first ∷ more) [] h sides last = absurd h
built_so had task taken (first ∷ more) (one ∷ ins) h sides last =
    and_from _ _ (by one.builds (sides 0 one (omega arith)))
    (built_so had task taken more ins h.2 (λ k d less. sides (suc k) d (omega arith)) (λ sender member. last sender (or_right _ _ member)))
  where
    by : (b : Bool) → b ≡ is_builder task one.from → (not b || one.ended) ≡ true
    by true own = h.0.ended ∙ last first (or_left _ _ (eq-eqb first first refl)) (ap (is_builder task) (sym h.0.from) ∙ sym own)
    by false own = refl

-- where no batch may be taken and of each sender the last one was taken or waits, all have ended
all_ended : (had : ℕ → List Batch) (taken : List Taken) (senders : List ℕ) (ins : List Upstream) → ReceiveAll senders had taken ins
    → ((sender : ℕ) → list_any (λ one. eqb one sender) senders ≡ true → has_last taken sender ≡ true) → have_all_ended ins ≡ true
unfolding ReceiveAll
all_ended had taken [] [] h last = refl
all_ended had taken [] (one ∷ ins) h last = absurd h
all_ended had taken (first ∷ more) [] h last = absurd h
all_ended had taken (first ∷ more) (one ∷ ins) h last =
    and_from _ _ (h.0.ended ∙ last first (or_left _ _ (eq-eqb first first refl))) (all_ended had taken more ins h.2 (λ sender member. last sender (or_right _ _ member)))

idle_parts : (a b c d e f g h i : Bool) → turn_by a b c d e f g h i ≡ turn.Idle → (h ≡ false) × (i ≡ false)
idle_parts true b c d e f g h i is = cc
idle_parts false true c d e f g h i is = cc
idle_parts false false true d e f g h i is = cc
idle_parts false false false true true f g h i is = cc
idle_parts false false false true false true g h i is = cc
idle_parts false false false true false false g h i is = cc
idle_parts false false false false true f true h i is = cc
idle_parts false false false false false f true h i is = cc
idle_parts false false false false e f false true i is = cc
idle_parts false false false false e f false false true is = cc
idle_parts false false false false e f false false false is = (refl, refl)

-- a worker of whose senders each last batch was taken or waits is never idle
pub never_idle : (context : Context) (w : WorkerState) (p : Position) → Shows context w p
    → ((sender k : ℕ) → k < length w.ins → ((d : Upstream) → (get_or w.ins k d).from ≡ sender) → (d : Upstream) → has_marked (taken_from p.taken sender ++ waiting (get_or w.ins k d).link) ≡ true)
    → next_turn w ≡ turn.Idle → ⊥
never_idle context w p shows marked idle =
    let parts = idle_parts w.finished w.restraint.paused w.restraint.held (has_some w.pending) (is_starved w) (must_hold w) (has_some w.rest) (has_ready w.ins) (have_all_ended w.ins) idle in
    let built = built_so context.base.had context.placement.role.task p.taken context.placement.role.senders w.ins shows.ins shows.sides
    (λ sender member builds. last (have_builders_ended w.ins) parts.0 sender member (or_left _ _ builds) (has_last p.taken sender) refl) in
    let ended = all_ended context.base.had p.taken context.placement.role.senders w.ins shows.ins
    (λ sender member. last (have_builders_ended w.ins) parts.0 sender member (or_right _ _ built) (has_last p.taken sender) refl) in
    false≢true (sym parts.1 ∙ ended)
  where
    last : (built : Bool) → list_any (may_come built) w.ins ≡ false → (sender : ℕ) → list_any (λ one. eqb one sender) context.placement.role.senders ≡ true
        → (is_builder context.placement.role.task sender || built) ≡ true → (b : Bool) → has_last p.taken sender ≡ b → b ≡ true
    last built ready sender member side true e = refl
    last built ready sender member side false e =
        let waits = none_waits context.base.had context.placement.role.task built p.taken context.placement.role.senders w.ins sender shows.ins shows.sides side ready member e in
        let place = waits.3 in
        let empty : waiting (get_or w.ins place.0 waits.0).link ≡ [] = ap (λ (s : Upstream). waiting s.link) (place.2 waits.0) ∙ waits.2 in
        absurd (false≢true (sym e ∙ rw (empty, append-nil) at (marked sender place.0 place.1 (λ d. ap (λ (s : Upstream). s.from) (place.2 d) ∙ place.3) waits.0)))
