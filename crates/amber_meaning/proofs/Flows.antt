-- What a workflow is, operator by operator: the inputs of each, the reader of each, and the sink.
use Rattle.std.proofs.Common.{◌≡◌, ℕ, zero, suc, ◌+◌, ◌-◌, ◌<◌, ◌≤◌, ◌||◌, not, cond, eqb, Bool, true, false, Some, List, [], ◌∷◌, length, take, get_or, slice_get, count_by, refl, sym, ◌∙◌, ap, arith, ◌⊎◌, inl, inr}
use Rattle.std.specs.List.{flat_map, list_any}
use Rattle.std.proofs.lemmas.Bool.{and_parts, eq-eqb, eqb-true, false≢true, not-true, or_cases}
use Rattle.std.proofs.lemmas.List.{length-take}
use Rattle.std.proofs.lemmas.List.Sums.{sum_by-append, sum_by-cons}
use Rattle.amber_rows.specs.Lists.{nth}
use Rattle.amber_rows.specs.Topology.{kind_at, reader_from, reader_of, reads, what_at, worker_count, workers_in}
use Rattle.amber_rows.specs.FlowRules.{IsFlow, IsNext, ends_in_sink, reader_count}
use Rattle.amber_rows.specs.Columns.{HasInput, IsEarlier, columns_at, schema_of}
use Rattle.amber_rows.specs.Kinds.{inputs_of, is_sink, IsKind}
use Rattle.amber_rows.specs.declared.column.Column.{Column}
use Rattle.amber_rows.specs.declared.flow.What.{What}
use Rattle.amber_rows.specs.declared.flow.What.TheVariants as what
use Rattle.amber_rows.specs.declared.flow.Operator.{Operator}
use Rattle.amber_meaning.proofs.Lists.{nth-next}
use Rattle.amber_meaning.proofs.Operators.{next-here, nth-within}

-- ---- each operator

-- the operator with a number
pub record IsThere (flow : List Operator) (op : ℕ) : Type 0 where
  pub operator : Operator
  pub here : nth flow op ≡ Some operator
  pub at : operator ≡ get_or flow (op - 1) operator
  pub next : IsNext (take (op - 1) flow) operator

found_at : (flow : List Operator) (place : ℕ) → place < length flow → (o : Operator) × (slice_get flow place ≡ Some o) × (o ≡ get_or flow place o)
found_at [] place h = absurd (omega arith)
found_at (o ∷ flow) zero h = (o, refl, refl)
found_at (o ∷ flow) (suc place) h = found_at flow place (omega arith)

pub there : (flow : List Operator) → IsFlow flow → (op : ℕ) → 0 < op → op ≤ length flow → IsThere flow op
there flow is op some within =
    let found = found_at flow (op - 1) (omega arith) in
    let back : op ≡ op - 1 + 1 = omega arith in
    record {
      operator = found.0;
      here = ap (nth flow) back ∙ nth-next flow (op - 1) ∙ found.1;
      at = found.2;
      next = next-here flow is (op - 1) found.0 (omega arith) found.2;
    }

pub kind-there : (flow : List Operator) (op : ℕ) (at : IsThere flow op) → what_at flow op ≡ at.operator.what
kind-there flow op at = ap kind_at at.here

pub columns-there : (flow : List Operator) (op : ℕ) (at : IsThere flow op) → columns_at flow op ≡ at.operator.schema
columns-there flow op at = ap schema_of at.here

pub count-there : (flow : List Operator) (op : ℕ) (at : IsThere flow op) → worker_count flow op ≡ at.operator.workers
count-there flow op at = ap workers_in at.here

-- each operator has a worker
pub some-workers : (flow : List Operator) → IsFlow flow → (op : ℕ) → 0 < op → op ≤ length flow → 0 < worker_count flow op
some-workers flow is op some within = let at = there flow is op some within in omega (arith, count-there flow op at, at.next.some_workers)

-- ---- inputs

reads_one : (input op : ℕ) (P : ℕ → Type 0) → list_any (λ one. eqb one op) (input ∷ []) ≡ true → P input → P op
reads_one input op P h p = by (or_cases (eqb input op) false h)
  where
    by : (eqb input op ≡ true) ⊎ (false ≡ true) → P op
    by (inl e) = rw (← eqb-true input op e) p
    by (inr e) = absurd (false≢true e)

has_earlier : (before : List Operator) (input : ℕ) (columns : List Column) → HasInput before input columns → IsEarlier before input
has_earlier before input columns h = nth-within before input (λ earlier. earlier.schema ≡ columns) h

kind_inputs : (before : List Operator) (kind : What) (columns : List Column) (op : ℕ) → IsKind before kind columns → reads kind op ≡ true → IsEarlier before op
kind_inputs before (what.Scan file) columns op h r = absurd (false≢true r)
kind_inputs before (what.Filter input test) columns op h r = reads_one input op (IsEarlier before) r (has_earlier before input columns h.0)
kind_inputs before (what.Project input from) columns op h r = reads_one input op (IsEarlier before) r h.0
kind_inputs before (what.Join build probe build_keys probe_keys) columns op h r = by (or_cases (eqb build op) (list_any (λ one. eqb one op) (probe ∷ [])) r)
  where
    by : (eqb build op ≡ true) ⊎ (list_any (λ one. eqb one op) (probe ∷ []) ≡ true) → IsEarlier before op
    by (inl e) = rw (← eqb-true build op e) h.0
    by (inr e) = reads_one probe op (IsEarlier before) e h.1
kind_inputs before (what.Group input keys aggs) columns op h r = reads_one input op (IsEarlier before) r h.0
kind_inputs before (what.Sink input) columns op h r = reads_one input op (IsEarlier before) r (has_earlier before input columns h)

-- an operator reads from earlier ones
pub input-earlier : (flow : List Operator) → IsFlow flow → (op input : ℕ) → 0 < op → op ≤ length flow → reads (what_at flow op) input ≡ true
    → (0 < input) × (input < op)
input-earlier flow is op input some within r =
    let at = there flow is op some within in
    let earlier = kind_inputs (take (op - 1) flow) at.operator.what at.operator.schema input at.next.kind
    (ap (λ kind. reads kind input) (sym (kind-there flow op at)) ∙ r) in
    (earlier.0, omega (arith, earlier.1, length-take (op - 1) flow))

-- ---- readers

counted : ℕ → List ℕ → ℕ
counted op inputs = count_by (λ input. eqb input op) inputs

counted_some : (op : ℕ) (inputs : List ℕ) → list_any (λ input. eqb input op) inputs ≡ true → 0 < counted op inputs
unfolding counted
counted_some op [] h = absurd (false≢true h)
counted_some op (input ∷ inputs) h =
    by (eqb input op) refl h (counted_some op inputs)
  where
    by : (b : Bool) → eqb input op ≡ b → (b || list_any (λ one. eqb one op) inputs) ≡ true
        → (list_any (λ one. eqb one op) inputs ≡ true → 0 < count_by (λ one. eqb one op) inputs) → 0 < count_by (λ one. eqb one op) (input ∷ inputs)
    by true e k rest = omega (arith, sum_by-cons (λ one. cond (eqb one op) 1 0) input inputs, ap {B = ℕ} (λ b. cond b 1 0) e)
    by false e k rest = omega (arith, sum_by-cons (λ one. cond (eqb one op) 1 0) input inputs, rest k)

read_more : (o : Operator) (flow : List Operator) (op : ℕ) → reader_count (o ∷ flow) op ≡ counted op (inputs_of o.what) + reader_count flow op
unfolding reader_count counted
read_more o flow op = sum_by-append (λ one. cond (eqb one op) 1 0) (inputs_of o.what) (flat_map (λ x. inputs_of x.what) flow)

some_reader : (flow : List Operator) (place op : ℕ) → 0 < op → reads (kind_at (slice_get flow place)) op ≡ true → 0 < reader_count flow op
some_reader [] place op some h = reads_one 0 op (λ n. 0 < n → 0 < reader_count [] n) h (λ e. absurd (omega arith)) some
some_reader (o ∷ flow) zero op some h = omega (arith, read_more o flow op, counted_some op (inputs_of o.what) h)
some_reader (o ∷ flow) (suc place) op some h = omega (arith, read_more o flow op, some_reader flow place op some h)

reader_at : (flow : List Operator) (number place op : ℕ) → 0 < op → reader_count flow op ≡ 1 → reads (kind_at (slice_get flow place)) op ≡ true
    → reader_from number flow op ≡ number + place
unfolding reader_from
reader_at [] number place op some once h = reads_one 0 op (λ n. 0 < n → reader_from number [] n ≡ number + place) h (λ e. absurd (omega arith)) some
reader_at (o ∷ flow) number zero op some once h = rw h (omega arith)
reader_at (o ∷ flow) number (suc place) op some once h =
    by (reads o.what op) refl (λ more. reader_at flow (number + 1) place op some more h)
  where
    later : 0 < reader_count flow op
    later = some_reader flow place op some h

    by : (b : Bool) → reads o.what op ≡ b → (reader_count flow op ≡ 1 → reader_from (number + 1) flow op ≡ number + 1 + place)
        → cond b number (reader_from (number + 1) flow op) ≡ number + suc place
    by true e rest = absurd (omega (arith, later, once, read_more o flow op, counted_some op (inputs_of o.what) e))
    by false e rest = omega (arith, rest (omega (arith, later, once, read_more o flow op)))

-- the operator that reads from an input is its reader
pub reader-is : (flow : List Operator) → IsFlow flow → (op input : ℕ) → 0 < op → op ≤ length flow → reads (what_at flow op) input ≡ true
    → reader_of flow input ≡ op
reader-is flow is op input some within r =
    let earlier = input-earlier flow is op input some within r in
    let back : op ≡ op - 1 + 1 = omega arith in
    let place : reads (kind_at (slice_get flow (op - 1))) input ≡ true =
    ap (λ found. reads (kind_at found) input) (sym (ap (nth flow) back ∙ nth-next flow (op - 1))) ∙ r in
    omega (arith, reader_at flow 1 (op - 1) input earlier.0 (is.read_once input earlier.0 (omega (arith, earlier.1))) place)

counted_at : (flow : List Operator) (place op : ℕ) (o : Operator) → slice_get flow place ≡ Some o → counted op (inputs_of o.what) ≤ reader_count flow op
counted_at [] place op o h = cc
counted_at (x ∷ flow) zero op o h = let same : x ≡ o = cc in rw (← same) (omega (arith, read_more x flow op))
counted_at (x ∷ flow) (suc place) op o h = omega (arith, read_more x flow op, counted_at flow place op o h)

twice : (a : ℕ) → counted a (a ∷ a ∷ []) ≡ 2
unfolding counted
twice a = rw (eq-eqb a a refl) refl

-- the two inputs of a join are two operators
pub sides-differ : (flow : List Operator) → IsFlow flow → (op build probe : ℕ) (build_keys probe_keys : List ℕ) → 0 < op → op ≤ length flow
    → what_at flow op ≡ what.Join build probe build_keys probe_keys → build ≡ probe → ⊥
sides-differ flow is op build probe build_keys probe_keys some within e same =
    let at = there flow is op some within in
    let kind : at.operator.what ≡ what.Join build build build_keys probe_keys =
    sym (kind-there flow op at) ∙ e ∙ ap (λ p. what.Join build p build_keys probe_keys) (sym same) in
    let back : op ≡ op - 1 + 1 = omega arith in
    let place : slice_get flow (op - 1) ≡ Some at.operator = sym (ap (nth flow) back ∙ nth-next flow (op - 1)) ∙ at.here in
    let r : reads (what_at flow op) build ≡ true = rw (e, eq-eqb build build refl) refl in
    let earlier = input-earlier flow is op build some within r in
    let once = is.read_once build earlier.0 (omega (arith, earlier.1)) in
    let two : counted build (inputs_of at.operator.what) ≡ 2 = ap (λ k. counted build (inputs_of k)) kind ∙ twice build in
    omega (arith, two, once, counted_at flow (op - 1) build at.operator place)

-- ---- the sink

sink_at : (flow : List Operator) (place : ℕ) → ends_in_sink flow ≡ true → place + 1 < length flow → is_sink (kind_at (slice_get flow place)) ≡ false
unfolding ends_in_sink
sink_at [] place e h = absurd (omega arith)
sink_at (o ∷ []) place e h = absurd (omega arith)
sink_at (o ∷ p ∷ flow) zero e h = not-true (is_sink o.what) (and_parts (not (is_sink o.what)) (ends_in_sink (p ∷ flow)) e).0
sink_at (o ∷ p ∷ flow) (suc place) e h = sink_at (p ∷ flow) place (and_parts (not (is_sink o.what)) (ends_in_sink (p ∷ flow)) e).1 (omega arith)

last_sink : (flow : List Operator) → ends_in_sink flow ≡ true → is_sink (kind_at (slice_get flow (length flow - 1))) ≡ true
unfolding ends_in_sink
last_sink [] e = absurd (false≢true e)
last_sink (o ∷ []) e = e
last_sink (o ∷ p ∷ flow) e =
    let less : length (o ∷ p ∷ flow) - 1 ≡ suc (length (p ∷ flow) - 1) = omega arith in
    rw less (last_sink (p ∷ flow) (and_parts (not (is_sink o.what)) (ends_in_sink (p ∷ flow)) e).1)

pub no-sink : (flow : List Operator) → IsFlow flow → (op : ℕ) → 0 < op → op < length flow → is_sink (what_at flow op) ≡ false
no-sink flow is op some within =
    let back : op ≡ op - 1 + 1 = omega arith in
    ap (λ found. is_sink (kind_at found)) (ap (nth flow) back ∙ nth-next flow (op - 1)) ∙ sink_at flow (op - 1) is.ends (omega arith)

pub sink-last : (flow : List Operator) → IsFlow flow → is_sink (what_at flow (length flow)) ≡ true
sink-last flow is =
    let some = is.some in
    let back : length flow ≡ length flow - 1 + 1 = omega arith in
    ap (λ found. is_sink (kind_at found)) (ap (nth flow) back ∙ nth-next flow (length flow - 1)) ∙ last_sink flow is.ends
