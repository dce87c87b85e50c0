-- Steps only grow as workers move.
use Rattle.std.proofs.Common.{◌≡◌, ℕ, suc, ◌<◌, ◌≤◌, List, [], ◌∷◌, ◌++◌, length, get_or, replicate, Bool, true, false, if◌then◌else◌, ap, arith, length-append}
use Rattle.std.specs.List.{sum_by}
use Rattle.std.proofs.lemmas.List.Sums.{sum_by-append, sum_by-cons}
use Rattle.amber_log.specs.declared.entry.Entry.{Entry}
use Rattle.amber_log.specs.declared.entry.Entry.TheVariants as entry
use Rattle.amber_meaning.specs.Position.{Position, Taken, emitted_count, is_emitted, one_if, origin, steps_of}
use Rattle.amber_meaning.specs.Rules.{Leads, Moves, Orders, assigned, with_rows}
use Rattle.amber_meaning.specs.State.{State, position_at, steps_in}
use Rattle.amber_meaning.specs.Task.{Role}
use Rattle.amber_meaning.proofs.OneState.{position-get_or}

emitted-more : (outcomes more : List Bool) → emitted_count outcomes ≤ emitted_count (outcomes ++ more)
emitted-more outcomes more = let parts = sum_by-append (λ outcome. if is_emitted outcome then 1 else 0) outcomes more in omega arith

with_rows-steps : (orders : Orders) (p : Position) (rows outs : ℕ) → steps_of p ≤ steps_of (with_rows orders rows outs p)
with_rows-steps orders p rows outs =
    let taken = length-append p.constants (replicate rows orders.constants) in
    let gone = emitted-more p.outcomes (replicate outs true) in
    omega arith

with_batch-steps : (p : Position) (t : Taken) → steps_of p ≤ steps_of (record p { taken = p.taken ++ t ∷ [] })
with_batch-steps p t = let taken = length-append p.taken (t ∷ []) in omega arith

finish-steps : (p : Position) → p.finished ≡ false → steps_of p ≤ steps_of (record p { finished = true })
finish-steps p e = let none : one_if p.finished ≡ 0 = ap one_if e in omega arith

no_fewer : (n : ℕ) → n ≤ n
no_fewer n = omega arith

moved-steps : (role : Role) (orders : Orders) (p q : Position) (one : Entry) → Moves (assigned role orders) p one q → steps_of p ≤ steps_of q
moved-steps role orders p q (entry.Take from number) h = rw h.2 (with_batch-steps p (record { from = from; batch = h.0 }))
moved-steps role orders p q (entry.Go rows outs) h = rw h.2 (with_rows-steps orders p rows outs)
moved-steps role orders p q (entry.Grant n) h = rw h.2 (no_fewer (steps_of p))
moved-steps role orders p q (entry.Back n) h = rw h.2 (no_fewer (steps_of p))
moved-steps role orders p q entry.Pause h = rw h.2 (no_fewer (steps_of p))
moved-steps role orders p q entry.Resume h = rw h.2 (no_fewer (steps_of p))
moved-steps role orders p q entry.Hold h = rw h.2 (no_fewer (steps_of p))
moved-steps role orders p q entry.Finish h = rw h.2 (finish-steps p h.1.free.unfinished)

led-steps : (role : Role) (orders : Orders) (p q : Position) (entries : List Entry) → Leads (assigned role orders) p entries q → steps_of p ≤ steps_of q
unfolding Leads
led-steps role orders p q [] h = let same = ap steps_of h in omega arith
led-steps role orders p q (one ∷ more) h =
    let first = moved-steps role orders p h.0 one h.1 in
    let later = led-steps role orders h.0 q more h.2 in
    omega arith

sums-below : (ps qs : List Position) → length ps ≡ length qs → ((n : ℕ) → n < length ps → steps_of (get_or ps n origin) ≤ steps_of (get_or qs n origin))
    → sum_by steps_of ps ≤ sum_by steps_of qs
sums-below [] [] e h = omega arith
sums-below [] (q ∷ qs) e h = absurd (omega arith)
sums-below (p ∷ ps) [] e h = absurd (omega arith)
sums-below (p ∷ ps) (q ∷ qs) e h =
    let first : steps_of p ≤ steps_of q = h 0 (omega arith) in
    let later = sums-below ps qs (omega arith) (λ n less. h (suc n) (omega arith)) in
    let left = sum_by-cons steps_of p ps in
    let right = sum_by-cons steps_of q qs in
    omega arith

-- where each worker's entries lead on, the steps are no fewer
pub steps-grow : (before after : State) → length before.positions ≡ length after.positions
    → ((worker : ℕ) → worker < length before.positions → (role : Role) × ((orders : Orders) × ((entries : List Entry)
    × Leads (assigned role orders) (position_at before.positions worker) entries (position_at after.positions worker)))) → steps_in before ≤ steps_in after
unfolding steps_in
steps-grow before after size h =
    sums-below before.positions after.positions size (λ n less.
    let led = h n less in
    rw (← position-get_or before.positions n, ← position-get_or after.positions n)
    (led-steps led.0 led.1.0 (position_at before.positions n) (position_at after.positions n) led.1.1.0 led.1.1.1))
