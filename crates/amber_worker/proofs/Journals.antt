-- Journals that grow.
use Rattle.std.proofs.Common.{◌≡◌, ℕ, suc, ◌+◌, ◌^◌, ◌<◌, ◌&&◌, ◌||◌, not, List, [], ◌∷◌, ◌++◌, All, Option, Bool, true, false, refl, sym, ◌∙◌, arith}
use Rattle.amber_rows.specs.declared.value.Value.{Value}
use Rattle.amber_rows.specs.declared.cond.Cond.{Cond}
use Rattle.amber_log.specs.Grammar.{AreEntries, IsEntry, is_go}
use Rattle.amber_log.specs.declared.entry.Entry.{Entry}
use Rattle.amber_log.specs.declared.entry.Entry.TheVariants as entry
use Rattle.amber_meaning.specs.Position.{Position}
use Rattle.amber_meaning.specs.Rules.{Leads, MayGo, Orders, assigned, is_watched, pass_by, with_rows}
use Rattle.amber_meaning.specs.Task.{Role}
use Rattle.amber_meaning.proofs.Going.{go-both, with_rows-both}
use Rattle.amber_meaning.proofs.Led.{no_batch}
use Rattle.amber_worker.specs.Fields.{rows_moved}
use Rattle.amber_worker.specs.Steps.{gone_on, with_go}

-- ---- one entry more

-- an entry that moves no row may stand at the end
pub AreEntries-push : (gone : Bool) (journal : List Entry) (one : Entry) → AreEntries gone journal → IsEntry one → is_go one ≡ false → AreEntries gone (journal ++ one ∷ [])
unfolding AreEntries
AreEntries-push gone [] one text entry other = (entry, rw other (by gone), tt)
  where
    by : (b : Bool) → (b && false) ≡ false
    by true = refl
    by false = refl
AreEntries-push gone (first ∷ more) one text entry other = (text.0, text.1, AreEntries-push (is_go first) more one text.2 entry other)

-- ---- conditions

-- a first row that is let through passes
pub first-passes : (when : Option Cond) (waved : Bool) (row : List Value) → (waved || not (is_watched when row)) ≡ true → pass_by when waved (row ∷ []) ≡ true
first-passes when true row h = refl
first-passes when false row h = rw h refl

-- ---- rows more

-- rows more at the end of a journal lead on
pub Leads-go : (role : Role) (orders : Orders) (start : Position) (journal : List Entry) (p : Position) (rows outs : ℕ)
    → Leads (assigned role orders) start journal p → MayGo (assigned role orders) p rows outs → Leads (assigned role orders) start (with_go journal rows outs) (with_rows orders rows outs p)
unfolding Leads with_go
Leads-go role orders start [] p rows outs leads may = (with_rows orders rows outs p, (no_batch, rw leads may, rw leads refl), refl)
Leads-go role orders start (entry.Take sender batch ∷ []) p rows outs leads may =
    (leads.0, leads.1, (with_rows orders rows outs p, (no_batch, rw leads.2 may, rw leads.2 refl), refl))
Leads-go role orders start (entry.Go before given ∷ []) p rows outs leads may =
    let same : p ≡ with_rows orders before given start = sym leads.2 ∙ leads.1.2 in
    (with_rows orders rows outs p, (no_batch, go-both role orders start before given rows outs leads.1.1 (rw same at may), rw same (with_rows-both orders start before given rows outs)), refl)
Leads-go role orders start (entry.Grant n ∷ []) p rows outs leads may = (leads.0, leads.1, (with_rows orders rows outs p, (no_batch, rw leads.2 may, rw leads.2 refl), refl))
Leads-go role orders start (entry.Back n ∷ []) p rows outs leads may = (leads.0, leads.1, (with_rows orders rows outs p, (no_batch, rw leads.2 may, rw leads.2 refl), refl))
Leads-go role orders start (entry.Pause ∷ []) p rows outs leads may = (leads.0, leads.1, (with_rows orders rows outs p, (no_batch, rw leads.2 may, rw leads.2 refl), refl))
Leads-go role orders start (entry.Resume ∷ []) p rows outs leads may = (leads.0, leads.1, (with_rows orders rows outs p, (no_batch, rw leads.2 may, rw leads.2 refl), refl))
Leads-go role orders start (entry.Hold ∷ []) p rows outs leads may = (leads.0, leads.1, (with_rows orders rows outs p, (no_batch, rw leads.2 may, rw leads.2 refl), refl))
Leads-go role orders start (entry.Finish ∷ []) p rows outs leads may = (leads.0, leads.1, (with_rows orders rows outs p, (no_batch, rw leads.2 may, rw leads.2 refl), refl))
Leads-go role orders start (first ∷ next ∷ more) p rows outs leads may =
    (leads.0, leads.1, Leads-go role orders leads.0 (next ∷ more) p rows outs leads.2 may)

-- the entry of a row more is one, where no entry speaks of very many
one_more : (one : Entry) (gone : Bool) (rows outs : ℕ) → AreEntries gone (one ∷ []) → rows_moved one < 2 ^ 63 → rows + outs ≡ 1 → AreEntries gone (gone_on one rows outs)
unfolding AreEntries
one_more (entry.Take sender batch) gone rows outs text few sum = (text.0, text.1, ((omega arith, omega arith, omega arith), refl, tt))
one_more (entry.Go before given) gone rows outs text few sum = ((omega arith, omega arith, omega arith), text.1, tt)
one_more (entry.Grant n) gone rows outs text few sum = (text.0, text.1, ((omega arith, omega arith, omega arith), refl, tt))
one_more (entry.Back n) gone rows outs text few sum = (text.0, text.1, ((omega arith, omega arith, omega arith), refl, tt))
one_more entry.Pause gone rows outs text few sum = (text.0, text.1, ((omega arith, omega arith, omega arith), refl, tt))
one_more entry.Resume gone rows outs text few sum = (text.0, text.1, ((omega arith, omega arith, omega arith), refl, tt))
one_more entry.Hold gone rows outs text few sum = (text.0, text.1, ((omega arith, omega arith, omega arith), refl, tt))
one_more entry.Finish gone rows outs text few sum = (text.0, text.1, ((omega arith, omega arith, omega arith), refl, tt))

go_on : (gone : Bool) (first : Entry) (more : List Entry) (rows outs : ℕ) → AreEntries gone (first ∷ more) → All (λ one. rows_moved one < 2 ^ 63) (first ∷ more)
    → rows + outs ≡ 1 → AreEntries gone (with_go (first ∷ more) rows outs)
unfolding AreEntries with_go
go_on gone first [] rows outs text few sum = one_more first gone rows outs text (few 0 first (omega arith)) sum
go_on gone first (next ∷ more) rows outs text few sum = (text.0, text.1, go_on (is_go first) next more rows outs text.2 (λ k d less. few (suc k) d (omega arith)) sum)

-- a row more at the end of entries
pub AreEntries-with_go : (journal : List Entry) (rows outs : ℕ) → AreEntries false journal → All (λ one. rows_moved one < 2 ^ 63) journal
    → rows + outs ≡ 1 → AreEntries false (with_go journal rows outs)
unfolding AreEntries with_go
AreEntries-with_go [] rows outs text few sum = ((omega arith, omega arith, omega arith), refl, tt)
AreEntries-with_go (first ∷ more) rows outs text few sum = go_on false first more rows outs text few sum
