-- One byte more is one step more.
use Rattle.std.proofs.Common.{◌∙◌, ap, fold, get_or, sym}
use Rattle.std.proofs.lemmas.List.{take_all}
use Rattle.std.proofs.lemmas.List.Sums.{fold_more}
use Rattle.amber_rows.specs.Routing.{fnv_step}
use Rattle.amber_rows.proofs.routing.hash_bytes.Goals as goal

pub loop-byte-preserved : goal.loop-byte-preserved
loop-byte-preserved c =
    let bytes = c.args.bytes.now in
    let i = c.loop-byte.byte-index in
    c.hash_byte-hash.ensures
    ∙ ap (λ hash. fnv_step hash (get_or bytes i 0)) c.loop-byte.invariant
    ∙ sym (fold_more fnv_step c.args.before bytes i 0 c.loop-byte-test.true)

pub returns : goal.returns
returns c = c.loop-byte.invariant ∙ ap (fold fnv_step c.args.before) (take_all c.loop-byte.byte-index c.args.bytes.now c.loop-byte-test.false)
