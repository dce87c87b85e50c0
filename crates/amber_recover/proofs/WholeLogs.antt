-- What a walk along the items of a log says of the log.
use Rattle.std.proofs.Common.{◌≡◌, ℕ, List, Option, Some, None, Err, refl, sym, ap, ◌∙◌}
use Rattle.amber_log.specs.declared.log.Item.{Item}
use Rattle.amber_meaning.specs.Legal.{Query}
use Rattle.amber_lines.specs.Lines.{illegal_line}
use Rattle.amber_home.specs.HomeState.{HomeState, query_of}
use Rattle.amber_recover.specs.declared.error.RebuildErr.{RebuildErr}
use Rattle.amber_recover.specs.declared.error.RebuildErr.TheVariants as rebuild_err
use Rattle.amber_recover.specs.Recovering.{JudgesLines, Recorded, Recovers, bad_behind_head, header_in, recorded_query}
use Rattle.amber_recover.proofs.Walked.{behind-head}

illegal-is : (r : Recorded) (home : HomeState) (items : List Item) (bad : Option ℕ) → query_of home ≡ recorded_query r → items ≡ r.log.items
    → bad_behind_head (query_of home) items ≡ bad → illegal_line (recorded_query r) r.log ≡ bad
illegal-is r home items bad query same e =
    behind-head (recorded_query r) r.log refl ∙ ap (λ (xs : List Item). bad_behind_head (recorded_query r) xs) (sym same)
    ∙ ap (λ (q : Query). bad_behind_head q items) (sym query) ∙ e

pub recovers-all : (r : Recorded) (home : HomeState) (items : List Item) → query_of home ≡ recorded_query r → items ≡ r.log.items → header_in r ≡ None
    → bad_behind_head (query_of home) items ≡ None → (header_in r ≡ None) × (illegal_line (recorded_query r) r.log ≡ None)
recovers-all r home items query same header e = (header, illegal-is r home items None query same e)

pub recovers-not : (r : Recorded) (home : HomeState) (items : List Item) (error : RebuildErr) → query_of home ≡ recorded_query r → items ≡ r.log.items
    → header_in r ≡ None → JudgesLines {A = ℕ} (Err error) (bad_behind_head (query_of home) items) → Recovers {A = ℕ} (Err error) r
recovers-not r home items (rebuild_err.Header op) query same header h = absurd h
recovers-not r home items (rebuild_err.Illegal line) query same header h = (header, illegal-is r home items (Some line) query same h)
recovers-not r home items rebuild_err.NoMemory query same header h = h
