-- What is ready is taken.
use Rattle.std.proofs.Common.{◌≡◌, ◌++◌, ◌∙◌, None, Some, ap, append-nil, drop, map, refl, subst, sym, take}
use Rattle.std.proofs.lemmas.List.{drop-map}
use Rattle.amber_meaning.specs.Refused.{refused_in}
use Rattle.amber_scan.specs.Shares.{ShareState}
use Rattle.amber_operators.specs.Handed.{arrival_of, arrivals_in, row_from}
use Rattle.amber_operators.specs.ReadiedRows.{AreBuiltReady, AreKeptReady, AreMadeReady, AreRecordsReady, AreRowsReady, HasBuilt, IsUnfed, yielded_to}
use Rattle.amber_operators.specs.ManyRows.{kept_among, kept_by, scan_refused, yielded_records}
use Rattle.amber_operators.specs.Kept.{is_plain}
use Rattle.amber_operators.specs.declared.operator_state.OperatorState.{OperatorState}
use Rattle.amber_operators.specs.declared.operator_state.OperatorState.TheVariants as operator_state
use Rattle.amber_operators.specs.declared.taking_rows.Rest.{Rest}
use Rattle.amber_operators.proofs.ReadiedFacts.{arrivals-batch, arrivals-shared, built-are, joins-kept, kept-are, made-are, plain-kept, records-are, records-refused, rows-are, rows-refused, sink-kept, some-same}
use Rattle.amber_operators.proofs.taking_ready.take_rows.Goals as goal

pub returns-in-Some-clause-taken : goal.returns-in-Some-clause-taken
returns-in-Some-clause-taken c how before state count columns ready fed =
    let share = c.in-Some.share in
    let unfed : IsUnfed how before c.args.rest.now state = rw c.in-Records.is at fed in
    let r : AreRecordsReady how before c.in-Records.before c.in-Records.made = rw c.in-Records.is at ready in
    let shared : before.share ≡ Some share = ap (λ (x : Rest). x.share) (sym unfed.rest) ∙ c.in-Some.is in
    let typed = ap (λ (s : ShareState). s.columns) (some-same share r.share (sym shared ∙ r.shared)) ∙ r.typed in
    let all = arrivals-shared before share shared in
    record {
      left = ap (map arrival_of) (c.take_records.ensures.left ∙ ap (λ n. drop n share.left) (sym count)) ∙ sym (drop-map arrival_of how.count share.left) ∙ ap (drop how.count) (sym all);
      pending = c.take_records.ensures.pending ∙ ap (λ l. c.args.rows.now.items ++ l)
          ((λ i. yielded_records (typed i) (take (sym count i) share.left)) ∙ sym (records-are how before how.count share shared r.scan));
      same = refl;
      refused = c.take_records.ensures.refused ∙ ap (λ l. c.args.gains.now.refused.items ++ l)
          (ap (λ n. scan_refused c.args.op (take n share.left)) (sym count) ∙ sym (ap (λ l. refused_in c.args.op (take how.count l)) all ∙ records-refused c.args.op how.count share.left));
      kept = sym (append-nil c.args.gains.now.kept.items) ∙ ap (λ l. c.args.gains.now.kept.items ++ l) (sym (plain-kept how.state how.columns (take how.count (arrivals_in before)) (ap is_plain r.scan)));
    }

pub returns-in-Rows-clause-taken : goal.returns-in-Rows-clause-taken
returns-in-Rows-clause-taken c how before state count columns ready fed =
    let rest = c.args.rest.now in
    let unfed : IsUnfed how before rest state = rw c.in-Rows.is at fed in
    let r : AreRowsReady how rest c.in-Rows.fates = subst (λ x. AreRowsReady how x c.in-Rows.fates) (sym unfed.rest) (rw c.in-Rows.is at ready) in
    let all = sym (ap arrivals_in unfed.rest) ∙ arrivals-batch rest r.batch in
    record {
      left = arrivals-batch (record rest { rows = c.take_all.new.rows }) r.batch
          ∙ ap (map (row_from rest.from)) (c.take_all.ensures.rows ∙ ap (λ n. drop n rest.rows.items) r.each)
          ∙ sym (drop-map (row_from rest.from) how.count rest.rows.items) ∙ ap (drop how.count) (sym all);
      pending = c.take_all.ensures.pending
          ∙ ap (λ l. c.args.rows.now.items ++ l) (r.yields ∙ sym (rows-are how rest how.count r.batch r.plain) ∙ ap (λ (x : Rest). yielded_to how (arrivals_in x)) unfed.rest);
      same = refl;
      refused = sym (append-nil c.args.gains.now.refused.items) ∙ ap (λ l. c.args.gains.now.refused.items ++ l)
          (sym (ap (λ l. refused_in c.args.op (take how.count l)) all ∙ rows-refused c.args.op rest.from how.count rest.rows.items));
      kept = sym (append-nil c.args.gains.now.kept.items) ∙ ap (λ l. c.args.gains.now.kept.items ++ l) (sym (plain-kept how.state how.columns (take how.count (arrivals_in before)) r.plain));
    }

pub returns-in-Kept-clause-taken : goal.returns-in-Kept-clause-taken
returns-in-Kept-clause-taken c how before state count columns ready fed =
    let rest = c.args.rest.now in
    let unfed : IsUnfed how before rest state = rw c.in-Kept.is at fed in
    let r : AreKeptReady how before = rw c.in-Kept.is at ready in
    let batch : rest.share ≡ None = ap (λ (x : Rest). x.share) unfed.rest ∙ r.batch in
    let all = sym (ap arrivals_in unfed.rest) ∙ arrivals-batch rest batch in
    record {
      left = arrivals-batch (record rest { rows = c.keep_all.new.rows }) batch
          ∙ ap (map (row_from rest.from)) (c.keep_all.ensures.rows ∙ ap (λ n. drop n rest.rows.items) (sym count))
          ∙ sym (drop-map (row_from rest.from) how.count rest.rows.items) ∙ ap (drop how.count) (sym all);
      pending = sym (append-nil c.args.rows.now.items) ∙ ap (λ l. c.args.rows.now.items ++ l) (sym (kept-are how before how.count r.sink));
      same = refl;
      refused = sym (append-nil c.args.gains.now.refused.items) ∙ ap (λ l. c.args.gains.now.refused.items ++ l)
          (sym (ap (λ l. refused_in c.args.op (take how.count l)) all ∙ rows-refused c.args.op rest.from how.count rest.rows.items));
      kept = c.keep_all.ensures.kept ∙ ap (λ l. c.args.gains.now.kept.items ++ l)
          ((λ i. kept_among operator_state.Sink (sym columns i) (take (sym count i) rest.rows.items))
          ∙ sym (ap (λ (d : OperatorState). kept_by d how.columns (take how.count (arrivals_in before))) r.sink
          ∙ ap (λ l. kept_by operator_state.Sink how.columns (take how.count l)) all ∙ sink-kept how.columns rest.from how.count rest.rows.items));
    }

pub returns-in-Made-clause-taken : goal.returns-in-Made-clause-taken
returns-in-Made-clause-taken c how before state count columns ready fed =
    let rest = c.args.rest.now in
    let unfed : IsUnfed how before rest state = rw c.in-Made.is at fed in
    let r : AreMadeReady how before c.in-Made.made = rw c.in-Made.is at ready in
    let batch : rest.share ≡ None = ap (λ (x : Rest). x.share) unfed.rest ∙ r.batch in
    let all = sym (ap arrivals_in unfed.rest) ∙ arrivals-batch rest batch in
    record {
      left = arrivals-batch (record rest { rows = c.drop_all.new.rows }) batch
          ∙ ap (map (row_from rest.from)) (c.drop_all.ensures ∙ ap (λ n. drop n rest.rows.items) (sym count))
          ∙ sym (drop-map (row_from rest.from) how.count rest.rows.items) ∙ ap (drop how.count) (sym all);
      pending = c.join_rows.ensures ∙ ap (λ l. c.args.rows.now.items ++ l) (r.yields ∙ sym (made-are how before how.count r.batch r.still));
      same = refl;
      refused = sym (append-nil c.args.gains.now.refused.items) ∙ ap (λ l. c.args.gains.now.refused.items ++ l)
          (sym (ap (λ l. refused_in c.args.op (take how.count l)) all ∙ rows-refused c.args.op rest.from how.count rest.rows.items));
      kept = sym (append-nil c.args.gains.now.kept.items) ∙ ap (λ l. c.args.gains.now.kept.items ++ l) (sym (joins-kept how.state how.columns (take how.count (arrivals_in before)) r.probes));
    }

pub returns-in-Built-clause-taken : goal.returns-in-Built-clause-taken
returns-in-Built-clause-taken c how before state count columns ready fed =
    let built : HasBuilt how before c.args.rest.now state = rw c.in-Built.is at fed in
    let r : AreBuiltReady how before = rw c.in-Built.is at ready in
    let all = arrivals-batch before r.batch in
    record {
      left = built.left;
      pending = sym (append-nil c.args.rows.now.items) ∙ ap (λ l. c.args.rows.now.items ++ l) (sym (built-are how (take how.count (arrivals_in before)) r.joins r.side));
      same = refl;
      refused = sym (append-nil c.args.gains.now.refused.items) ∙ ap (λ l. c.args.gains.now.refused.items ++ l)
          (sym (ap (λ l. refused_in c.args.op (take how.count l)) all ∙ rows-refused c.args.op before.from how.count before.rows.items));
      kept = sym (append-nil c.args.gains.now.kept.items) ∙ ap (λ l. c.args.gains.now.kept.items ++ l) (sym (joins-kept how.state how.columns (take how.count (arrivals_in before)) r.joins));
    }
