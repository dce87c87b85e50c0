-- What a worker counts stays within its steps as it takes and emits several rows.
use Rattle.std.proofs.Common.{◌≡◌, ℕ, ◌+◌, ◌^◌, ◌≤◌, List, [], ◌∷◌, ◌++◌, length, All, Option, Some, None, Bool, false, sym, ◌∙◌, arith, subst}
use Rattle.std.specs.Option.{IfSome, is_some}
use Rattle.amber_rows.specs.declared.value.Value.{Value}
use Rattle.amber_rows.specs.declared.column.Column.{Column}
use Rattle.amber_meaning.specs.Task.{Arrival, row_in}
use Rattle.std.proofs.lemmas.List.Elements.{All-push}
use Rattle.amber_log.specs.declared.entry.Entry.TheVariants as entry
use Rattle.amber_meaning.specs.Position.{one_if}
use Rattle.amber_scan.specs.Shares.{ShareState}
use Rattle.amber_link.specs.declared.upstreams.Upstream.{Upstream}
use Rattle.amber_link.specs.declared.downstreams.Downstream.{Downstream}
use Rattle.amber_worker.specs.Fields.{AreFew, WorkerFields, rows_moved}
use Rattle.amber_operators.specs.Kept.{IsInOrder}
use Rattle.amber_operators.specs.States.{Becomes}
use Rattle.amber_operators.specs.ManyRows.{BecomesWith}
use Rattle.amber_operators.specs.declared.operator_state.OperatorState.{OperatorState}
use Rattle.amber_operators.specs.declared.operator_state.OperatorState.TheVariants as operator_state
use Rattle.amber_worker.proofs.Bounds.{same-some}
use Rattle.amber_operators.proofs.States.{in_order-row}

-- what is kept stays in order
in_order-taking : (d now : OperatorState) (building : Bool) (columns : List Column) (arrivals : List Arrival) (taken : ℕ) (ins : List Upstream) → BecomesWith d building columns arrivals now
    → IsInOrder d building taken ins → IsInOrder now building (taken + length arrivals) ins
unfolding BecomesWith
in_order-taking d now building columns [] taken ins becomes order =
    let same : taken ≡ taken + 0 = omega arith in
    subst (λ n. IsInOrder now building n ins) same (subst (λ (s : OperatorState). IsInOrder s building taken ins) (sym becomes) order)
in_order-taking d now building columns (one ∷ more) taken ins (next, becomes, later) order =
    let same : (taken + 1) + length more ≡ taken + length (one ∷ more) = omega arith in
    subst (λ n. IsInOrder now building n ins) same
    (in_order-taking next now building columns more (taken + 1) ins later (in_order-row d next building (row_in columns one.what) taken ins becomes order))

one-scan : (d next : OperatorState) (builds : Bool) (found : Option (List Value)) → Becomes d builds found next → d ≡ operator_state.Scan → next ≡ operator_state.Scan
one-scan d next builds found becomes scan = subst (λ (s : OperatorState). Becomes s builds found next) scan becomes

-- a scan's worker stays one
scan-taking : (d now : OperatorState) (builds : Bool) (columns : List Column) (arrivals : List Arrival) → BecomesWith d builds columns arrivals now → d ≡ operator_state.Scan → now ≡ operator_state.Scan
unfolding BecomesWith
scan-taking d now builds columns [] becomes scan = becomes ∙ scan
scan-taking d now builds columns (one ∷ more) (next, becomes, later) scan = scan-taking next now builds columns more later (one-scan d next builds (row_in columns one.what) becomes scan)

scans-so : (d now : OperatorState) (o : Option ShareState) → (d ≡ operator_state.Scan → now ≡ operator_state.Scan) → IfSome o (λ _. d ≡ operator_state.Scan) → IfSome o (λ _. now ≡ operator_state.Scan)
scans-so d now None f h = h
scans-so d now (Some x) f h = f h

pub few-rows : (f : WorkerFields) (rows outs : ℕ) (now : OperatorState) (columns : List Column) (arrivals : List Arrival) (later : Option ShareState) (after : List Downstream)
    → f.finished ≡ false → AreFew f → BecomesWith f.operator_state f.building columns arrivals now → length arrivals ≡ rows
    → f.taken + f.emitted + f.batches + one_if f.finished + rows + outs ≤ 2 ^ 40 → is_some later ≡ is_some f.share → IfSome later (λ share. share.columns ≡ f.columns)
    → ((n : ℕ) → All (λ one. one.link.kept.made ≤ n) f.outs → All (λ one. one.link.kept.made ≤ n + outs) after) → All (λ one. one.link.kept.ended ≡ false) after
    → AreFew (record f { operator_state = now; share = later; taken = f.taken + rows; emitted = f.emitted + outs; outs = after; journal = f.journal ++ entry.Go rows outs ∷ [] })
few-rows f rows outs now columns arrivals later after unfinished few becomes long within same typed made over = record {
  in_order = subst (λ n. IsInOrder now f.building (f.taken + n) f.ins) long (in_order-taking f.operator_state now f.building columns arrivals f.taken f.ins becomes few.in_order);
  scans = scans-so f.operator_state now later (scan-taking f.operator_state now f.building columns arrivals becomes) (same-some (f.operator_state ≡ operator_state.Scan) f.share later same few.scans);
  shares = same-some (f.ins ≡ []) f.share later same few.shares;
  typed = typed;
  steps = omega (arith, within);
  unfinished = few.unfinished;
  received = few.received;
  sent = λ e. made f.emitted (few.sent e);
  over = λ k d below. over k d below ∙ sym unfinished;
  routed = few.routed;
  moved = All-push (λ one. rows_moved one ≤ f.taken + rows + (f.emitted + outs)) f.journal (entry.Go rows outs) (λ k d below. let own = few.moved k d below in omega (arith, own)) (omega arith);
}
