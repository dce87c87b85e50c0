-- The seven lines are the definition's seven steps.
use Rattle.amber_rows.proofs.Keys.{front_seven}
use Rattle.amber_rows.proofs.sort_key.front.Goals as goal

pub returns-clause-value : goal.returns-clause-value
returns-clause-value c =
    let b0 = c.byte-number.ensures in
    let b1 = c.byte.ensures in
    let b2 = c.byte-2.ensures in
    let b3 = c.byte-3.ensures in
    let b4 = c.byte-4.ensures in
    let b5 = c.byte-5.ensures in
    let b6 = c.byte-6.ensures in
    front_seven c.args.bytes.now _ _ _ _ _ _ _ b0.value b1.value b2.value b3.value b4.value b5.value b6.value b0.small b1.small b2.small b3.small b4.small b5.small b6.small
