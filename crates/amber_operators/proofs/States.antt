-- What a worker keeps of the rows that it took, a row more and a batch more.
use Rattle.std.proofs.Common.{◌≡◌, ℕ, ◌+◌, ◌^◌, ◌<◌, ◌≤◌, ◌&&◌, ◌||◌, not, List, [], ◌∷◌, ◌++◌, filter, Option, Some, None, option_to_list, Bool, true, false, if◌then◌else◌, refl, sym, ap, ◌∙◌, arith, subst}
use Rattle.std.specs.List.{filter_map}
use Rattle.std.proofs.lemmas.Bool.{and_from, and_parts, false≢true}
use Rattle.std.proofs.lemmas.List.{append-nil}
use Rattle.std.proofs.lemmas.List.Elements.{filter-append, filter_map-append}
use Rattle.std.proofs.lemmas.List.Folds.{list_all-append}
use Rattle.amber_rows.specs.declared.value.Value.{Value}
use Rattle.amber_rows.specs.declared.batch.Batch.{Batch}
use Rattle.amber_rows.specs.declared.flow.What.{What}
use Rattle.amber_rows.specs.declared.flow.What.TheVariants as what
use Rattle.amber_group.specs.Group.{Group, IsFedWith}
use Rattle.amber_join.specs.Join.{Join}
use Rattle.amber_meaning.specs.Task.{Arrival, Role, Task, built_of, is_builder, suiting, rows_in}
use Rattle.amber_meaning.specs.Kinds.{closing_rows}
use Rattle.amber_link.specs.Sides.{IsTaken, have_builders_ended}
use Rattle.amber_link.specs.declared.upstreams.Upstream.{Upstream}
use Rattle.amber_operators.specs.Kept.{Closes, is_group, IsInOrder, KeepsRows, MayTakeRow}
use Rattle.amber_operators.specs.States.{DoesKind, Becomes, turned_to}
use Rattle.amber_operators.specs.Keeping.{GivesGroups, built_with}
use Rattle.amber_operators.specs.declared.operator_state.OperatorState.{OperatorState}
use Rattle.amber_operators.specs.declared.operator_state.OperatorState.TheVariants as operator_state

-- ---- a row more

-- the columns of a join stay
built-keys : (builds : Bool) (found : Option (List Value)) (state : Join)
    → ((built_with builds found state).build_keys ≡ state.build_keys) × ((built_with builds found state).probe_keys ≡ state.probe_keys) × ((built_with builds found state).sealed ≡ state.sealed)
built-keys builds None state = (refl, refl, refl)
built-keys true (Some row) state = (refl, refl, refl)
built-keys false (Some row) state = (refl, refl, refl)

join-does : (old new : Join) (kind : What) (constants : List Value) (role : Role) → new.build_keys ≡ old.build_keys → new.probe_keys ≡ old.probe_keys
    → DoesKind (operator_state.Join old) kind constants role → DoesKind (operator_state.Join new) kind constants role
join-does old new (what.Scan file) constants role build probe does = does
join-does old new (what.Filter input cond) constants role build probe does = does
join-does old new (what.Project input columns) constants role build probe does = does
join-does old new (what.Join b p build_keys probe_keys) constants role build probe does = (build ∙ does.0, probe ∙ does.1)
join-does old new (what.Group input keys aggs) constants role build probe does = does
join-does old new (what.Sink input) constants role build probe does = does

group-does : (old new : Group) (kind : What) (constants : List Value) (role : Role) → new.keys ≡ old.keys → new.aggs ≡ old.aggs
    → DoesKind (operator_state.Group old) kind constants role → DoesKind (operator_state.Group new) kind constants role
group-does old new (what.Scan file) constants role keys aggs does = does
group-does old new (what.Filter input cond) constants role keys aggs does = does
group-does old new (what.Project input columns) constants role keys aggs does = does
group-does old new (what.Join b p build_keys probe_keys) constants role keys aggs does = does
group-does old new (what.Group input own others) constants role keys aggs does = (keys ∙ does.0, aggs ∙ does.1)
group-does old new (what.Sink input) constants role keys aggs does = does

-- a worker does what it did
pub does-more : (d now : OperatorState) (builds : Bool) (found : Option (List Value)) (kind : What) (constants : List Value) (role : Role)
    → Becomes d builds found now → DoesKind d kind constants role → DoesKind now kind constants role
does-more operator_state.Scan now builds found kind constants role becomes does = subst (λ d. DoesKind d kind constants role) (sym becomes) does
does-more (operator_state.Filter cond) now builds found kind constants role becomes does = subst (λ d. DoesKind d kind constants role) (sym becomes) does
does-more (operator_state.Project from) now builds found kind constants role becomes does = subst (λ d. DoesKind d kind constants role) (sym becomes) does
does-more (operator_state.Join state) now builds found kind constants role becomes does =
    let same = built-keys builds found state in
    subst (λ d. DoesKind d kind constants role) (sym becomes) (join-does state (built_with builds found state) kind constants role same.0 same.1 does)
does-more (operator_state.Group state) now builds found kind constants role becomes does =
    subst (λ d. DoesKind d kind constants role) (sym becomes.1) (group-does state becomes.0 kind constants role becomes.2.keys becomes.2.aggs does)
does-more operator_state.Sink now builds found kind constants role becomes does = subst (λ d. DoesKind d kind constants role) (sym becomes) does

one-found : (task : Task) (one : Arrival) → filter_map (suiting task) (one ∷ []) ≡ option_to_list (suiting task one)
one-found task one = by (suiting task one) refl
  where
    by : (o : Option (List Value)) → suiting task one ≡ o → filter_map (suiting task) (one ∷ []) ≡ option_to_list o
    by None e = rw e refl
    by (Some row) e = rw e refl

-- the rows that suit, with one more
pub rows-more : (task : Task) (arrivals : List Arrival) (one : Arrival) → rows_in task (arrivals ++ one ∷ []) ≡ rows_in task arrivals ++ option_to_list (suiting task one)
rows-more task arrivals one = filter_map-append (suiting task) arrivals (one ∷ []) ∙ ap (λ l. rows_in task arrivals ++ l) (one-found task one)

-- the build side, with one more
built-more : (task : Task) (arrivals : List Arrival) (one : Arrival) (state : Join) → state.rows ≡ built_of task arrivals
    → (built_with (is_builder task one.from) (suiting task one) state).rows ≡ built_of task (arrivals ++ one ∷ [])
unfolding built_of
built-more task arrivals one state is =
    by (is_builder task one.from) (suiting task one) (one-found task one)
    ∙ sym (ap (λ l. filter_map (suiting task) l) (filter-append (λ other. is_builder task other.from) arrivals (one ∷ []))
    ∙ filter_map-append (suiting task) (filter (λ other. is_builder task other.from) arrivals) (if is_builder task one.from then one ∷ [] else []))
  where
    all : List (List Value)
    all = filter_map (suiting task) (filter (λ other. is_builder task other.from) arrivals)

    by : (b : Bool) (o : Option (List Value)) → filter_map (suiting task) (one ∷ []) ≡ option_to_list o
        → (built_with b o state).rows ≡ filter_map (suiting task) (filter (λ other. is_builder task other.from) arrivals) ++ filter_map (suiting task) (if b then one ∷ [] else [])
    by true None e = rw e (is ∙ sym (append-nil _))
    by true (Some row) e = rw e (ap (λ l. l ++ row ∷ []) is)
    by false None e = is ∙ sym (append-nil _)
    by false (Some row) e = is ∙ sym (append-nil _)

-- what a worker keeps is of the rows that it took, with one more
pub has-more : (d now : OperatorState) (task : Task) (arrivals : List Arrival) (one : Arrival) → Becomes d (is_builder task one.from) (suiting task one) now
    → KeepsRows d task arrivals → KeepsRows now task (arrivals ++ one ∷ [])
has-more operator_state.Scan now task arrivals one becomes has = subst (λ d. KeepsRows d task (arrivals ++ one ∷ [])) (sym becomes) tt
has-more (operator_state.Filter cond) now task arrivals one becomes has = subst (λ d. KeepsRows d task (arrivals ++ one ∷ [])) (sym becomes) tt
has-more (operator_state.Project from) now task arrivals one becomes has = subst (λ d. KeepsRows d task (arrivals ++ one ∷ [])) (sym becomes) tt
has-more (operator_state.Join state) now task arrivals one becomes has = subst (λ d. KeepsRows d task (arrivals ++ one ∷ [])) (sym becomes) (built-more task arrivals one state has)
has-more (operator_state.Group state) now task arrivals one becomes has =
    let P : List (List Value) → Type 0 = λ rows. IsFedWith becomes.0 rows in
    subst (λ d. KeepsRows d task (arrivals ++ one ∷ [])) (sym becomes.1) (subst P (sym (rows-more task arrivals one)) (becomes.2.stands (rows_in task arrivals) has))
has-more operator_state.Sink now task arrivals one becomes has = subst (λ d. KeepsRows d task (arrivals ++ one ∷ [])) (sym becomes) tt

-- ---- a batch more

-- a worker does what it did, and keeps what it kept
pub does-turned : (d : OperatorState) (builds : Bool) (kind : What) (constants : List Value) (role : Role) → DoesKind d kind constants role
    → DoesKind (turned_to builds d) kind constants role
does-turned operator_state.Scan builds kind constants role does = does
does-turned (operator_state.Filter cond) builds kind constants role does = does
does-turned (operator_state.Project from) builds kind constants role does = does
does-turned (operator_state.Join state) true kind constants role does = does
does-turned (operator_state.Join state) false kind constants role does = join-does state (record state { sealed = true }) kind constants role refl refl does
does-turned (operator_state.Group state) builds kind constants role does = does
does-turned operator_state.Sink builds kind constants role does = does

pub has-turned : (d : OperatorState) (builds : Bool) (task : Task) (arrivals : List Arrival) → KeepsRows d task arrivals → KeepsRows (turned_to builds d) task arrivals
has-turned operator_state.Scan builds task arrivals has = has
has-turned (operator_state.Filter cond) builds task arrivals has = has
has-turned (operator_state.Project from) builds task arrivals has = has
has-turned (operator_state.Join state) true task arrivals has = has
has-turned (operator_state.Join state) false task arrivals has = has
has-turned (operator_state.Group state) builds task arrivals has = has
has-turned operator_state.Sink builds task arrivals has = has

-- ---- the end

group-closes : (state : Group) (input : ℕ) (keys : List ℕ) (aggs : List _) (task : Task) (arrivals : List Arrival) (over : Bool) (last : List (List Value))
    → state.keys ≡ keys → state.aggs ≡ aggs → IsFedWith state (rows_in task arrivals) → GivesGroups state over last
    → last ≡ (if over then closing_rows (what.Group input keys aggs) (filter_map (suiting task) arrivals) else [])
group-closes state input keys aggs task arrivals true last is_keys is_aggs has closes = closes (rows_in task arrivals) has ∙ rw (is_keys, is_aggs) refl
group-closes state input keys aggs task arrivals false last is_keys is_aggs has closes = closes

nothing-closes : (over : Bool) (last rows : List (List Value)) → last ≡ [] → rows ≡ [] → last ≡ (if over then rows else [])
nothing-closes true last rows e none = e ∙ sym none
nothing-closes false last rows e none = e

-- the rows given at the end are those of the groups, once nothing more can come
pub closing-is : (d : OperatorState) (kind : What) (constants : List Value) (role : Role) (task : Task) (arrivals : List Arrival) (over : Bool) (last : List (List Value))
    → DoesKind d kind constants role → KeepsRows d task arrivals → Closes d over last
    → last ≡ (if over then closing_rows kind (filter_map (suiting task) arrivals) else [])
closing-is operator_state.Scan (what.Scan file) constants role task arrivals over last does has closes = nothing-closes over last [] closes refl
closing-is (operator_state.Filter cond) (what.Filter input own) constants role task arrivals over last does has closes = nothing-closes over last [] closes refl
closing-is (operator_state.Project from) (what.Project input columns) constants role task arrivals over last does has closes = nothing-closes over last [] closes refl
closing-is (operator_state.Join state) (what.Join b p build_keys probe_keys) constants role task arrivals over last does has closes = nothing-closes over last [] closes refl
closing-is (operator_state.Group state) (what.Group input keys aggs) constants role task arrivals over last does has closes =
    group-closes state input keys aggs task arrivals over last does.0 does.1 has closes
closing-is operator_state.Sink (what.Sink input) constants role task arrivals over last does has closes = nothing-closes over last [] closes refl
closing-is d kind constants role task arrivals over last does has closes = absurd does

nothing-more : (d now : OperatorState) (over : Bool) (last : List (List Value)) → now ≡ d → is_group d ≡ false → Closes now false last → Closes now over last
nothing-more d now over last is other closes = subst (λ n. Closes n over last) (sym is) (by d other (subst (λ n. Closes n false last) is closes))
  where
    by : (d : OperatorState) → is_group d ≡ false → Closes d false last → Closes d over last
    by operator_state.Scan other closes = closes
    by (operator_state.Filter cond) other closes = closes
    by (operator_state.Project from) other closes = closes
    by (operator_state.Join state) other closes = closes
    by (operator_state.Group state) other closes = absurd (false≢true (sym other))
    by operator_state.Sink other closes = closes

-- where nothing but a group has rows to give at the end, it is enough to know of a group whether more can come
pub closes-group : (d now : OperatorState) (builds : Bool) (found : Option (List Value)) (over : Bool) (last : List (List Value)) → Becomes d builds found now
    → Closes now (is_group d && over) last → Closes now over last
closes-group operator_state.Scan now builds found over last becomes closes = nothing-more operator_state.Scan now over last becomes refl closes
closes-group (operator_state.Filter cond) now builds found over last becomes closes = nothing-more (operator_state.Filter cond) now over last becomes refl closes
closes-group (operator_state.Project from) now builds found over last becomes closes = nothing-more (operator_state.Project from) now over last becomes refl closes
closes-group (operator_state.Join state) now builds found over last becomes closes = nothing-more (operator_state.Join (built_with builds found state)) now over last becomes refl closes
closes-group (operator_state.Group state) now builds found over last becomes closes = closes
closes-group operator_state.Sink now builds found over last becomes closes = nothing-more operator_state.Sink now over last becomes refl closes

-- an empty batch closes where all have ended
closes-batch : (d : OperatorState) (empty over : Bool) (last : List (List Value)) → Closes d empty last → Closes d (empty && over) (if over then last else [])
closes-batch operator_state.Scan empty true last closes = closes
closes-batch operator_state.Scan empty false last closes = refl
closes-batch (operator_state.Filter cond) empty true last closes = closes
closes-batch (operator_state.Filter cond) empty false last closes = refl
closes-batch (operator_state.Project from) empty true last closes = closes
closes-batch (operator_state.Project from) empty false last closes = refl
closes-batch (operator_state.Join state) empty true last closes = closes
closes-batch (operator_state.Join state) empty false last closes = refl
closes-batch (operator_state.Group state) true true last closes = closes
closes-batch (operator_state.Group state) false true last closes = closes
closes-batch (operator_state.Group state) true false last closes = refl
closes-batch (operator_state.Group state) false false last closes = refl
closes-batch operator_state.Sink empty true last closes = closes
closes-batch operator_state.Sink empty false last closes = refl

closes-none : (d : OperatorState) (empty : Bool) → Closes d (empty && false) []
closes-none operator_state.Scan empty = refl
closes-none (operator_state.Filter cond) empty = refl
closes-none (operator_state.Project from) empty = refl
closes-none (operator_state.Join state) empty = refl
closes-none (operator_state.Group state) true = refl
closes-none (operator_state.Group state) false = refl
closes-none operator_state.Sink empty = refl

-- the same, where it is asked for the rows at the end only if all have ended
pub closes-asked : (d : OperatorState) (empty asked over : Bool) (last : List (List Value)) → (over ≡ true → asked ≡ empty) → Closes d asked last
    → Closes d (empty && over) (if over then last else [])
closes-asked d empty asked true last same closes = closes-batch d empty true last (subst (λ b. Closes d b last) (same refl) closes)
closes-asked d empty asked false last same closes = closes-none d empty

-- ---- in order

pub may-take_row : (d : OperatorState) (building : Bool) (taken : ℕ) (ins : List Upstream) → IsInOrder d building taken ins → taken < 2 ^ 40 → MayTakeRow d building
may-take_row operator_state.Scan building taken ins order few = tt
may-take_row (operator_state.Filter cond) building taken ins order few = tt
may-take_row (operator_state.Project from) building taken ins order few = tt
may-take_row (operator_state.Join state) building taken ins order few = order.0
may-take_row (operator_state.Group state) building taken ins order few = omega arith
may-take_row operator_state.Sink building taken ins order few = tt

pub in_order-row : (d now : OperatorState) (building : Bool) (found : Option (List Value)) (taken : ℕ) (ins : List Upstream) → Becomes d building found now
    → IsInOrder d building taken ins → IsInOrder now building (taken + 1) ins
in_order-row operator_state.Scan now building found taken ins becomes order = subst (λ d. IsInOrder d building (taken + 1) ins) (sym becomes) tt
in_order-row (operator_state.Filter cond) now building found taken ins becomes order = subst (λ d. IsInOrder d building (taken + 1) ins) (sym becomes) tt
in_order-row (operator_state.Project from) now building found taken ins becomes order = subst (λ d. IsInOrder d building (taken + 1) ins) (sym becomes) tt
in_order-row (operator_state.Join state) now building found taken ins becomes order =
    subst (λ d. IsInOrder d building (taken + 1) ins) (sym becomes) ((built-keys building found state).2 ∙ order.0, order.1)
in_order-row (operator_state.Group state) now building found taken ins becomes order =
    let fed = becomes.2.fed in
    let after : becomes.0.fed ≤ taken + 1 = omega arith in
    subst (λ d. IsInOrder d building (taken + 1) ins) (sym becomes.1) after
in_order-row operator_state.Sink now building found taken ins becomes order = subst (λ d. IsInOrder d building (taken + 1) ins) (sym becomes) tt

-- a sender of the build side that has not ended
unbuilt : (front back : List Upstream) (one : Upstream) → one.builds ≡ true → one.ended ≡ false → have_builders_ended (front ++ one ∷ back) ≡ true → ⊥
unbuilt front back one builds unended built =
    let parts = and_parts (have_builders_ended front) _ (sym (list_all-append (λ (other : Upstream). not other.builds || other.ended) front (one ∷ back)) ∙ built) in
    let here = and_parts (not one.builds || one.ended) _ parts.1 in
    false≢true (rw (builds, unended) at here.0)

still-built : (front back : List Upstream) (one now : Upstream) → one.builds ≡ false → now.builds ≡ one.builds → have_builders_ended (front ++ one ∷ back) ≡ true
    → have_builders_ended (front ++ now ∷ back) ≡ true
still-built front back one now probes same built =
    let parts = and_parts (have_builders_ended front) _ (sym (list_all-append (λ (other : Upstream). not other.builds || other.ended) front (one ∷ back)) ∙ built) in
    let later = and_parts (not one.builds || one.ended) _ parts.1 in
    list_all-append (λ (other : Upstream). not other.builds || other.ended) front (now ∷ back)
    ∙ and_from _ _ parts.0 (and_from _ _ (rw (same, probes) refl) later.1)

pub in_order-batch : (d : OperatorState) (building : Bool) (taken : ℕ) (ins after : List Upstream) (one : Upstream) (batch : Batch) → IsTaken ins one batch after
    → IsInOrder d building taken ins → IsInOrder (turned_to one.builds d) one.builds taken after
in_order-batch operator_state.Scan building taken ins after one batch so order = tt
in_order-batch (operator_state.Filter cond) building taken ins after one batch so order = tt
in_order-batch (operator_state.Project from) building taken ins after one batch so order = tt
in_order-batch (operator_state.Join state) building taken ins after one batch so order = by building one.builds refl order
  where
    by : (was b : Bool) → one.builds ≡ b → (state.sealed ≡ not was) × (was ≡ false → have_builders_ended ins ≡ true)
        → IsInOrder (operator_state.Join (if b then state else record state { sealed = true })) b taken after
    by true true e order = (order.0, λ no. absurd (false≢true (sym no)))
    by false true e order = absurd (unbuilt so.front so.back one e so.unended (ap have_builders_ended (sym so.found) ∙ order.1 refl))
    by was false e order =
        let built : have_builders_ended ins ≡ true = rw e at so.side in
        (refl, λ no. ap have_builders_ended so.after_it ∙ still-built so.front so.back one so.now e (ap (λ (s : Upstream). s.builds) so.is) (ap have_builders_ended (sym so.found) ∙ built))
in_order-batch (operator_state.Group state) building taken ins after one batch so order = order
in_order-batch operator_state.Sink building taken ins after one batch so order = tt

pub in_order-settled : (d : OperatorState) (building : Bool) (taken : ℕ) (ins later : List Upstream) → have_builders_ended later ≡ have_builders_ended ins
    → IsInOrder d building taken ins → IsInOrder d building taken later
in_order-settled operator_state.Scan building taken ins later same order = tt
in_order-settled (operator_state.Filter cond) building taken ins later same order = tt
in_order-settled (operator_state.Project from) building taken ins later same order = tt
in_order-settled (operator_state.Join state) building taken ins later same order = (order.0, λ no. same ∙ order.1 no)
in_order-settled (operator_state.Group state) building taken ins later same order = order
in_order-settled operator_state.Sink building taken ins later same order = tt
