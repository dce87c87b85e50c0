-- What a worker becomes of which the rows of a line were fed to groups, or given to a join.
use Rattle.std.proofs.Common.{◌≡◌, ◌≢◌, ℕ, ◌+◌, ◌-◌, ◌≤◌, ◌^◌, Bool, true, false, cond, if◌then◌else◌, filter, List, [], ◌∷◌, ◌++◌, length, map, take, drop, Option, Some, None, Result, Ok, Err, refl, sym, ap, ◌∙◌, append-nil, arith, subst}
use Rattle.std.specs.Option.{IfSome}
use Rattle.std.specs.Result.{IfOk}
use Rattle.std.proofs.lemmas.Bool.{false≢true}
use Rattle.std.specs.Prelude.{MatchBool}
use Rattle.std.proofs.lemmas.List.{drop-map, take-map}
use Rattle.amber_rows.specs.Suits.{suits_of}
use Rattle.amber_rows.specs.declared.value.Value.{Value}
use Rattle.amber_rows.specs.declared.column.Column.{Column}
use Rattle.amber_group.specs.Feeding.{FeedsEach}
use Rattle.amber_group.specs.Group.{FeedsRow, Group, IsFedWith}
use Rattle.amber_log.specs.declared.entry.Entry.{Entry}
use Rattle.amber_meaning.specs.Refused.{refused_in}
use Rattle.amber_meaning.specs.Task.{Arrival, row_in}
use Rattle.amber_scan.specs.Shares.{ShareState}
use Rattle.amber_link.specs.declared.downstreams.Downstream.{Downstream}
use Rattle.amber_link.specs.declared.upstreams.Upstream.{Upstream}
use Rattle.amber_operators.specs.Handed.{arrivals_in, rest_in, row_from}
use Rattle.amber_worker.specs.RedoneRows.{BecomesTaking, MayGoFrom, MayGoOn, MayNotGo, Offer, ends_with, offered, yielded}
use Rattle.amber_operators.specs.ManyRows.{FeedsGroups, BecomesWith, kept_by, yielded_by}
use Rattle.amber_operators.specs.Kept.{Closes, is_group}
use Rattle.amber_operators.specs.Kept.{IsInOrder}
use Rattle.amber_operators.specs.Keeping.{Feeds, GivesGroups}
use Rattle.amber_worker.specs.Steps.{columns_at_hand}
use Rattle.amber_operators.specs.RowsTaken.{gives_if, keeps_if}
use Rattle.amber_worker.specs.WorkerState.{WorkerState}
use Rattle.amber_operators.specs.declared.operator_state.OperatorState.{OperatorState}
use Rattle.amber_operators.specs.declared.operator_state.OperatorState.TheVariants as operator_state
use Rattle.amber_operators.specs.declared.taking_rows.Rest.{Rest}
use Rattle.amber_worker.specs.declared.redone_rows.RowsLine.{RowsLine}
use Rattle.amber_operators.proofs.ReadiedFacts.{arrivals-batch, flat-none, rows-refused}
use Rattle.amber_worker.proofs.RowsGone.{given-so}

-- ---- what was answered

pub not-done : {E : Type 0} (r : Result Bool E) (A B : Type 0) (P : Bool → Type 0) → r ≢ Ok true → IfOk r (λ may. MatchBool may A B) → (B → P false) → IfOk r P
not-done (Ok true) A B P other may f = absurd (other refl)
not-done (Ok false) A B P other may f = f may
not-done (Err e) A B P other may f = tt

pub is-done : {E : Type 0} (r : Result Bool E) (P : Bool → Type 0) → r ≡ Ok true → IfOk r P → P true
is-done r P is may = subst (λ s. IfOk s P) is may

-- ---- a line of which these rows come

-- what a line is judged by of which these come
abbrev pub offer_of : ℕ → List (List Value) → WorkerState → Offer
offer_of before made w = record { left = length w.rest; pending = w.pending; before = before; made = made; when = w.when; waved = w.restraint.waved }

-- what comes of a line, and what the worker keeps for its operator then
pub record Makes (line : RowsLine) (w : WorkerState) (before : ℕ) (made : List (List Value)) (now : OperatorState) : Type 0 where
  pub becomes : BecomesTaking line.rows w now
  pub last : List (List Value)
  pub closes : Closes now (ends_with line.rows w) last
  pub made_so : made ≡ yielded line.rows w ++ last
  pub before_so : before ≡ length (yielded (line.rows - 1) w)
  pub refused : refused_in w.op (take line.rows w.rest) ≡ []
  pub kept : kept_by w.operator_state (columns_at_hand w) (take line.rows w.rest) ≡ []

same-offer : (line : RowsLine) (w : WorkerState) (before : ℕ) (made : List (List Value)) (now : OperatorState) (makes : Makes line w before made now) → offer_of before made w ≡ offered makes.last line.rows w
same-offer line w before made now makes = λ i. record (offer_of before made w) { before = makes.before_so i; made = makes.made_so i }

-- it may not be done
pub made-not : (line : RowsLine) (w : WorkerState) (before : ℕ) (made : List (List Value)) (now : OperatorState) → Makes line w before made now → (MayGoOn line (offer_of before made w) → ⊥) → MayNotGo line w
made-not line w before made now makes never = record {
  last = makes.last;
  gives = given-so line.rows w now makes.last makes.becomes makes.closes;
  never = λ may. never (subst (MayGoOn line) (sym (same-offer line w before made now makes)) may);
}

-- it may be done, and so much is there to be emitted then
pub made-may : (line : RowsLine) (w : WorkerState) (before : ℕ) (made : List (List Value)) (now : OperatorState) (makes : Makes line w before made now) → MayGoOn line (offer_of before made w) → MayGoFrom line makes.last w
made-may line w before made now makes may = subst (MayGoOn line) (same-offer line w before made now makes) may

pub made-filled : (line : RowsLine) (w : WorkerState) (before : ℕ) (made : List (List Value)) (now : OperatorState) (makes : Makes line w before made now) → w.pending ++ made ≡ w.pending ++ (yielded line.rows w ++ makes.last)
made-filled line w before made now makes = ap (λ l. w.pending ++ l) makes.made_so

-- nothing is refused or kept for the answer
pub same-behind : {A : Type 0} (old more : List A) → more ≡ [] → old ≡ old ++ more
same-behind old more none = sym (ap (λ l. old ++ l) none ∙ append-nil old)

-- ---- groups

-- one row more
feeds-some : (row : List Value) (old next : Group) → FeedsRow row old next → Feeds (Some row) old next
feeds-some row old next fed = record { keys = fed.keys; aggs = fed.aggs; fed = omega (arith, fed.fed); stands = fed.stands }

feeds-aside : (state : Group) → Feeds None state state
feeds-aside state = record { keys = refl; aggs = refl; fed = omega arith; stands = λ rows fed. subst (IsFedWith state) (sym (append-nil rows)) fed }

-- the groups become what each row that suits makes of them
pub groups-become : (builds : Bool) (columns : List Column) (from : ℕ) (rows : List (List Value)) (old new : Group) → FeedsEach (filter (suits_of columns) rows) old new
    → BecomesWith (operator_state.Group old) builds columns (map (row_from from) rows) (operator_state.Group new)
unfolding FeedsEach BecomesWith
groups-become builds columns from [] old new fed = ap operator_state.Group fed
groups-become builds columns from (row ∷ rows) old new fed = by (suits_of columns row) fed (λ mid end each. groups-become builds columns from rows mid end each)
  where
    by : (t : Bool) → FeedsEach (cond t (row ∷ filter (suits_of columns) rows) (filter (suits_of columns) rows)) old new
        → ((mid end : Group) → FeedsEach (filter (suits_of columns) rows) mid end
        → BecomesWith (operator_state.Group mid) builds columns (map (row_from from) rows) (operator_state.Group end))
        → (next : OperatorState) × ((now : Group) × (next ≡ operator_state.Group now) × Feeds (if t then Some row else None) old now) × BecomesWith next builds columns (map (row_from from) rows) (operator_state.Group new)
    by true fed later = (operator_state.Group fed.0, (fed.0, refl, feeds-some row old fed.0 fed.1), later fed.0 new fed.2)
    by false fed later = (operator_state.Group old, (old, refl, feeds-aside old), later old new fed)

no-gift : (state : Group) (builds : Bool) (found : Option (List Value)) → gives_if (operator_state.Group state) builds found ≡ []
no-gift state builds None = refl
no-gift state builds (Some row) = refl

no-keep : (state : Group) (found : Option (List Value)) → keeps_if (operator_state.Group state) found ≡ []
no-keep state None = refl
no-keep state (Some row) = refl

pub no-yield : (state : Group) (builds : Bool) (columns : List Column) (arrivals : List Arrival) → yielded_by (operator_state.Group state) builds columns arrivals ≡ []
no-yield state builds columns arrivals = flat-none _ (λ one. no-gift state builds (row_in columns one.what)) arrivals

-- what was fed to groups
group-makes : (line : RowsLine) (w : WorkerState) (old new : Group) (from : ℕ) (batch made : List (List Value)) → w.operator_state ≡ operator_state.Group old → w.rest ≡ map (row_from from) batch
    → FeedsEach (filter (suits_of (columns_at_hand w)) (take line.rows batch)) old new → GivesGroups new (ends_with line.rows w) made → Makes line w 0 made (operator_state.Group new)
group-makes line w old new from batch made state rest fed closes =
    let columns = columns_at_hand w in
    let taken : take line.rows w.rest ≡ map (row_from from) (take line.rows batch) = ap (take line.rows) rest ∙ take-map (row_from from) line.rows batch in
    let none : (arrivals : List Arrival) → yielded_by w.operator_state w.building columns arrivals ≡ [] =
    λ arrivals. ap (λ d. yielded_by d w.building columns arrivals) state ∙ no-yield old w.building columns arrivals in
    record {
      becomes = subst (λ d. BecomesWith d w.building columns (take line.rows w.rest) (operator_state.Group new)) (sym state)
          (subst (λ l. BecomesWith (operator_state.Group old) w.building columns l (operator_state.Group new)) (sym taken) (groups-become w.building columns from (take line.rows batch) old new fed));
      last = made;
      closes = closes;
      made_so = sym (ap (λ l. l ++ made) (none (take line.rows w.rest)));
      before_so = sym (ap length (none (take (line.rows - 1) w.rest)));
      refused = ap (λ l. refused_in w.op (take line.rows l)) rest ∙ rows-refused w.op from line.rows batch;
      kept = ap (λ d. kept_by d columns (take line.rows w.rest)) state ∙ flat-none _ (λ one. no-keep old (row_in columns one.what)) (take line.rows w.rest);
    }

pub fed-makes : (line : RowsLine) (w : WorkerState) (now : OperatorState) (from : ℕ) (batch made : List (List Value)) → w.rest ≡ map (row_from from) batch
    → FeedsGroups (filter (suits_of (columns_at_hand w)) (take line.rows batch)) w.operator_state now → Closes now (ends_with line.rows w) made → Makes line w 0 made now
fed-makes line w now from batch made rest feeds closes =
    subst (Makes line w 0 made) (sym feeds.now)
    (group-makes line w feeds.before feeds.after from batch made feeds.was rest feeds.each (subst (λ d. Closes d (ends_with line.rows w) made) feeds.now closes))

-- as few rows more may be fed
pub few-fed : (building : Bool) (taken n : ℕ) (ins : List Upstream) (d : OperatorState) (state : Group) → d ≡ operator_state.Group state → IsInOrder d building taken ins → taken + n ≤ 2 ^ 40 → state.fed + n ≤ 2 ^ 40
few-fed building taken n ins d state is order small = let fed : state.fed ≤ taken = subst (λ d. IsInOrder d building taken ins) is order in omega (arith, fed, small)

-- ---- the fields of a worker

-- one that is no scan has no share
pub no-share-of : (share : Option ShareState) (d : OperatorState) → (d ≡ operator_state.Scan → ⊥) → IfSome share (λ _. d ≡ operator_state.Scan) → share ≡ None
no-share-of None d other scans = refl
no-share-of (Some share) d other scans = absurd (other scans)

-- what is left of a batch
pub rest-dropped : (rest : Rest) (later : List (List Value)) (n : ℕ) → rest.share ≡ None → later ≡ drop n rest.rows.items → rest_in rest.share rest.from later ≡ drop n (arrivals_in rest)
rest-dropped rest later n batch is =
    ap (λ s. rest_in s rest.from later) batch ∙ ap (map (row_from rest.from)) is
    ∙ sym (ap (drop n) (arrivals-batch rest batch) ∙ drop-map (row_from rest.from) n rest.rows.items)

-- nothing was done
pub same-worker : (w now : WorkerState) (d : OperatorState) (outs : List Downstream) (journal : List Entry) (reserved : Bool) → d ≡ w.operator_state → outs ≡ w.outs → journal ≡ w.journal
    → reserved ≡ w.reserved → w ≡ now → record w { operator_state = d; outs = outs; journal = journal; reserved = reserved } ≡ now
same-worker w now d outs journal reserved a b c e is = (λ i. record w { operator_state = a i; outs = b i; journal = c i; reserved = e i }) ∙ is

not-group : (d : OperatorState) (old : Group) → d ≡ operator_state.Group old → d ≡ operator_state.Scan → ⊥
not-group d old is scan = false≢true (ap is_group (sym scan ∙ is))

pub group-batch : (share : Option ShareState) (d : OperatorState) (old : Group) → d ≡ operator_state.Group old → IfSome share (λ _. d ≡ operator_state.Scan) → share ≡ None
group-batch share d old is scans = no-share-of share d (not-group d old is) scans
