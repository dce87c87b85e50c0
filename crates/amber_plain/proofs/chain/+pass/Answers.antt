-- Stage by stage, and row by row.
use Rattle.std.proofs.Common.{◌≡◌, ◌∷◌, ◌++◌, [], Err, append_assoc, arith, sym, ap, ◌∙◌, rules}
use Rattle.std.proofs.lemmas.List.{nil_from_length}
use Rattle.amber_plain.specs.Stages.{count_through, rows_through}
use Rattle.amber_plain.proofs.Passing.{Takes-more, Takes-none, count_some, count_through-append, count_through-none, count_within, given-by, passed, rows_through-append, rows_through-none, short_after, short_of_more, spent}
use Rattle.amber_plain.proofs.chain.+pass.Goals as goal

pub pass-returns-in_err-spend-clause-left : goal.pass-returns-in_err-spend-clause-left
pass-returns-in_err-spend-clause-left t c =
    let e : c.from_residual.result ≡ Err c.in_err-spend.field-0.0 = search rules in
    rw e (short_of_more c.in_err-spend.field-0.0 c.args.left.now 1 _ c.in_err-spend.ensures (count_some c.args.stages.now c.args.row.now))

pub pass-returns-in_default-clause-taken : goal.pass-returns-in_default-clause-taken
unfolding rows_through
pass-returns-in_default-clause-taken t c =
    let none = nil_from_length c.args.stages.now c.in_default.ensures.cases in
    rw none c.in_ok-take.ensures

pub pass-returns-in_default-clause-left : goal.pass-returns-in_default-clause-left
unfolding count_through
pass-returns-in_default-clause-left t c =
    let none = nil_from_length c.args.stages.now c.in_default.ensures.cases in
    rw none c.in_ok-spend.ensures

pub pass-returns-in-Nothing-clause-taken : goal.pass-returns-in-Nothing-clause-taken
pass-returns-in-Nothing-clause-taken t c =
    let later = c.in-Some.later.now in
    let whole = c.in-Some.ensures.cases.0 in
    let s = given-by c.in-Some.stage.now later c.args.row.now [] (rw c.in-Nothing.is at c.in_ok-give.ensures) in
    rw (whole, s.rows, rows_through-none later) (Takes-none c.args.holder.now)

pub pass-returns-in-Nothing-clause-left : goal.pass-returns-in-Nothing-clause-left
pass-returns-in-Nothing-clause-left t c =
    let later = c.in-Some.later.now in
    let whole = c.in-Some.ensures.cases.0 in
    let s = given-by c.in-Some.stage.now later c.args.row.now [] (rw c.in-Nothing.is at c.in_ok-give.ensures) in
    rw (whole, s.count, count_through-none later) c.in_ok-spend.ensures

pub pass-returns-in-Same-clause-taken : goal.pass-returns-in-Same-clause-taken
pass-returns-in-Same-clause-taken t c =
    let later = c.in-Some.later.now in
    let whole = c.in-Some.ensures.cases.0 in
    let s = given-by c.in-Some.stage.now later c.args.row.now (c.args.row.now ∷ []) (rw c.in-Same.is at c.in_ok-give.ensures) in
    rw whole (passed c.pass.result c.args.holder.now c.pass.new.holder _ later c.args.row.now _ s c.pass.ensures.taken)

pub pass-returns-in-Same-clause-left : goal.pass-returns-in-Same-clause-left
pass-returns-in-Same-clause-left t c =
    let later = c.in-Some.later.now in
    let whole = c.in-Some.ensures.cases.0 in
    let s = given-by c.in-Some.stage.now later c.args.row.now (c.args.row.now ∷ []) (rw c.in-Same.is at c.in_ok-give.ensures) in
    rw whole (spent c.pass.result _ later c.args.row.now _ c.args.left.now c.spend.new.left c.pass.new.left s c.in_ok-spend.ensures c.pass.ensures.left)

pub pass-returns-in-Other-clause-taken : goal.pass-returns-in-Other-clause-taken
pass-returns-in-Other-clause-taken t c =
    let later = c.in-Some.later.now in
    let whole = c.in-Some.ensures.cases.0 in
    let s = given-by c.in-Some.stage.now later c.args.row.now (c.in-Other.made ∷ []) (rw c.in-Other.is at c.in_ok-give.ensures) in
    rw whole (passed c.pass-in-Other.result c.args.holder.now c.pass-in-Other.new.holder _ later c.args.row.now _ s c.pass-in-Other.ensures.taken)

pub pass-returns-in-Other-clause-left : goal.pass-returns-in-Other-clause-left
pass-returns-in-Other-clause-left t c =
    let later = c.in-Some.later.now in
    let whole = c.in-Some.ensures.cases.0 in
    let s = given-by c.in-Some.stage.now later c.args.row.now (c.in-Other.made ∷ []) (rw c.in-Other.is at c.in_ok-give.ensures) in
    rw whole (spent c.pass-in-Other.result _ later c.args.row.now _ c.args.left.now c.spend.new.left c.pass-in-Other.new.left s c.in_ok-spend.ensures c.pass-in-Other.ensures.left)

pub pass-returns-in-Many-clause-taken : goal.pass-returns-in-Many-clause-taken
pass-returns-in-Many-clause-taken t c =
    let later = c.in-Some.later.now in
    let whole = c.in-Some.ensures.cases.0 in
    let s = given-by c.in-Some.stage.now later c.args.row.now c.in-Many.made (rw c.in-Many.is at c.in_ok-give.ensures) in
    rw whole (passed c.pass_all.result c.args.holder.now c.pass_all.new.holder _ later c.args.row.now _ s (rw c.into_inner.ensures at c.pass_all.ensures.taken))

pub pass-returns-in-Many-clause-left : goal.pass-returns-in-Many-clause-left
pass-returns-in-Many-clause-left t c =
    let later = c.in-Some.later.now in
    let whole = c.in-Some.ensures.cases.0 in
    let s = given-by c.in-Some.stage.now later c.args.row.now c.in-Many.made (rw c.in-Many.is at c.in_ok-give.ensures) in
    rw whole (spent c.pass_all.result _ later c.args.row.now _ c.args.left.now c.spend.new.left c.pass_all.new.left s c.in_ok-spend.ensures (rw c.into_inner.ensures at c.pass_all.ensures.left))

pub pass_all-loop-row-init : goal.pass_all-loop-row-init
pass_all-loop-row-init t c = record {
  taken = rw (rows_through-none c.args.stages.now) (Takes-none c.args.holder.now);
  whole = search rules;
  spent = omega (arith, count_through-none c.args.stages.now);
}

pub pass_all-returns-in_err-pass-clause-left : goal.pass_all-returns-in_err-pass-clause-left
pass_all-returns-in_err-pass-clause-left t c =
    let e : c.from_residual.result ≡ Err c.in_err-pass.field-0.0 = search rules in
    let here : c.loop-row.row-iterator.rest.items ≡ c.in-Some.row ∷ c.next.new.self.rest.items = search rules in
    let split = sym c.loop-row.invariant.whole ∙ ap (λ rest. c.loop-row.yielded ++ rest) here in
    rw e (short_after c.in_err-pass.field-0.0 c.args.left.now c.loop-row.left _ _ _ c.loop-row.invariant.spent c.in_err-pass.ensures.left
    (count_within c.args.stages.now c.args.rows.items c.loop-row.yielded c.next.new.self.rest.items c.in-Some.row split))

pub pass_all-loop-row-preserved : goal.pass_all-loop-row-preserved
pass_all-loop-row-preserved t c =
    let stages = c.args.stages.now in
    let before = c.loop-row.yielded in
    let row = c.in-Some.row in
    let here : c.loop-row.row-iterator.rest.items ≡ row ∷ c.next.new.self.rest.items = search rules in record {
      whole = append_assoc before (row ∷ []) c.next.new.self.rest.items ∙ ap (λ rest. before ++ rest) (sym here) ∙ c.loop-row.invariant.whole;
      taken = rw (rows_through-append stages before (row ∷ [])) (Takes-more c.args.holder.now c.loop-row.holder c.pass.new.holder _ _ c.loop-row.invariant.taken c.in_ok-pass.ensures.taken);
      spent = omega (arith, c.loop-row.invariant.spent, c.in_ok-pass.ensures.left, count_through-append stages before (row ∷ []));
    }
