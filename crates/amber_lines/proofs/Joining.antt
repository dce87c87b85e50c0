-- Rows moved in two entries may stand as one.
use Rattle.std.proofs.Common.{◌≡◌, ◌+◌, [], ◌∷◌, ◌++◌, sym, ap, ◌∙◌}
use Rattle.amber_log.specs.declared.entry.Entry.TheVariants as entry
use Rattle.amber_meaning.specs.Position.{Position}
use Rattle.amber_meaning.specs.Rules.{Leads, MayGo, with_rows}
use Rattle.amber_meaning.proofs.Going.{go-both, with_rows-both}
use Rattle.amber_meaning.proofs.Led.{Leads-parts, Leads-push, no_batch}
use Rattle.amber_lines.specs.MovingLaws.{GoesJoin}

pub goes_join : GoesJoin
unfolding Leads
goes_join it start p q done rows outs more others leads moves =
    let parts = Leads-parts it.role it.orders start p done (entry.Go rows outs ∷ []) leads in
    joined parts.0 parts.1 parts.2.1.1 (sym parts.2.2 ∙ parts.2.1.2)
  where
    joined : (m : Position) → Leads it start done m → MayGo it m rows outs → p ≡ with_rows it.orders rows outs m
        → Leads it start (done ++ entry.Go (rows + more) (outs + others) ∷ []) q
    joined m before may is =
        let second : MayGo it (with_rows it.orders rows outs m) more others = rw is at moves.1 in
        let now : q ≡ with_rows it.orders (rows + more) (outs + others) m = moves.2 ∙ ap (with_rows it.orders more others) is ∙ with_rows-both it.orders m rows outs more others in
        Leads-push it.role it.orders start done m (entry.Go (rows + more) (outs + others)) q before (no_batch, go-both it.role it.orders m rows outs more others may second, now)
