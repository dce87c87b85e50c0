-- Byte by byte.
use Rattle.std.proofs.Common.{◌∙◌, cond, drop, sym, ap}
use Rattle.amber_cut.proofs.Places.{bom-long, bom-short}
use Rattle.amber_cut.proofs.finding.mark_length.Goals as goal

pub returns-then-file-lt3-clause-rest : goal.returns-then-file-lt3-clause-rest
returns-then-file-lt3-clause-rest c = bom-short c.args.file.now c.if-file-lt3.true

pub returns-then-found-clause-rest : goal.returns-then-found-clause-rest
returns-then-found-clause-rest c =
    let bytes = c.args.file.now in
    sym (bom-long bytes c.if-file-lt3.false ∙ ap (λ b. cond b (drop 3 bytes) bytes) (sym c.is_mark-found.ensures ∙ c.if-found.true))

pub returns-else-found-clause-rest : goal.returns-else-found-clause-rest
returns-else-found-clause-rest c =
    let bytes = c.args.file.now in
    sym (bom-long bytes c.if-file-lt3.false ∙ ap (λ b. cond b (drop 3 bytes) bytes) (sym c.is_mark-found.ensures ∙ c.if-found.false))
