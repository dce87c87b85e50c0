-- Entries after entries.
use Rattle.std.proofs.Common.{List, [], ◌∷◌, ◌++◌, false, refl}
use Rattle.amber_rows.specs.declared.batch.Batch.{Batch}
use Rattle.amber_log.specs.declared.entry.Entry.{Entry}
use Rattle.amber_meaning.specs.Position.{Position}
use Rattle.amber_meaning.specs.Rules.{Leads, Moves, Orders, assigned}
use Rattle.amber_meaning.specs.Task.{Role}

-- the batch that is offered to an entry that takes none
abbrev pub no_batch : Batch
no_batch = record { seq = 0; rows = []; last = false }

-- an entry more
pub Leads-push : (role : Role) (orders : Orders) (start : Position) (journal : List Entry) (m : Position) (one : Entry) (q : Position)
    → Leads (assigned role orders) start journal m → Moves (assigned role orders) m one q → Leads (assigned role orders) start (journal ++ one ∷ []) q
unfolding Leads
Leads-push role orders start [] m one q leads moves = (q, rw leads moves, refl)
Leads-push role orders start (first ∷ more) m one q leads moves = (leads.0, leads.1, Leads-push role orders leads.0 more m one q leads.2 moves)

-- the position between the first entries and the others
pub Leads-parts : (role : Role) (orders : Orders) (start q : Position) (journal later : List Entry) → Leads (assigned role orders) start (journal ++ later) q
    → (m : Position) × Leads (assigned role orders) start journal m × Leads (assigned role orders) m later q
unfolding Leads
Leads-parts role orders start q [] later leads = (start, refl, leads)
Leads-parts role orders start q (first ∷ more) later leads =
    let rest = Leads-parts role orders leads.0 q more later leads.2 in
    (rest.0, (leads.0, leads.1, rest.1), rest.2)
