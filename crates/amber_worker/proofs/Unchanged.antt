-- A worker that stays as it was after an error.
use Rattle.std.proofs.Common.{◌≡◌, ◌+◌, ◌<◌, ◌^◌, ℕ, List, All, Option, Bool, false, Result, Ok, Err, ap, sym, ◌∙◌, arith, subst}
use Rattle.std.specs.Option.{IfSome, is_some}
use Rattle.std.specs.Result.{OnErr}
use Rattle.amber_rows.specs.declared.value.Value.{Value}
use Rattle.amber_scan.specs.Shares.{ShareState}
use Rattle.amber_meaning.specs.Position.{one_if}
use Rattle.amber_meaning.specs.Task.{Arrival}
use Rattle.amber_meaning.specs.declared.answer.Refusal.{Refusal}
use Rattle.amber_log.specs.declared.entry.Entry.{Entry}
use Rattle.amber_link.specs.declared.downstreams.Downstream.{Downstream}
use Rattle.amber_worker.specs.WorkerState.{WorkerState, steps_made}
use Rattle.amber_worker.specs.Fields.{AreFew, WorkerFields, rows_moved}
use Rattle.amber_operators.specs.declared.operator_state.OperatorState.{OperatorState}
use Rattle.amber_operators.specs.declared.operator_state.OperatorState.TheVariants as operator_state
use Rattle.amber_worker.proofs.Bounds.{same-some}

pub err_so : {T E : Type 0} (r : Result T E) (P : Type 0) → P → OnErr r P
err_so (Ok x) P h = tt
err_so (Err x) P h = h

-- its journal alone was written anew
pub same-journal : (w now : WorkerState) (journal : List Entry) (reserved : Bool) → journal ≡ w.journal → reserved ≡ w.reserved → w ≡ now
    → record w { journal = journal; reserved = reserved } ≡ now
same-journal w now journal reserved e f is = ap (λ l. record w { journal = l; reserved = reserved }) e ∙ ap (λ b. record w { reserved = b }) f ∙ is

-- its receivers too
pub same-outs : (w now : WorkerState) (journal : List Entry) (reserved : Bool) (outs : List Downstream) → journal ≡ w.journal → reserved ≡ w.reserved → outs ≡ w.outs → w ≡ now
    → record w { outs = outs; journal = journal; reserved = reserved } ≡ now
same-outs w now journal reserved outs e f g is = ap (λ l. record w { outs = l; journal = journal; reserved = reserved }) g ∙ same-journal w now journal reserved e f is

-- what it is about to take, and what rows have given
pub same-taking : (w now : WorkerState) (does : OperatorState) (rest : List Arrival) (pending : List (List Value)) (refused : List Refusal) (kept : List (List Value)) (journal : List Entry) (reserved : Bool)
    → does ≡ w.operator_state → rest ≡ w.rest → pending ≡ w.pending → refused ≡ w.refused → kept ≡ w.kept → journal ≡ w.journal → reserved ≡ w.reserved → w ≡ now
    → record w { operator_state = does; rest = rest; pending = pending; refused = refused; kept = kept; journal = journal; reserved = reserved } ≡ now
same-taking w now does rest pending refused kept journal reserved a b c d e f g is =
    ap (λ x. record w { operator_state = x; rest = rest; pending = pending; refused = refused; kept = kept; journal = journal; reserved = reserved }) a
    ∙ ap (λ x. record w { rest = x; pending = pending; refused = refused; kept = kept; journal = journal; reserved = reserved }) b
    ∙ ap (λ x. record w { pending = x; refused = refused; kept = kept; journal = journal; reserved = reserved }) c
    ∙ ap (λ x. record w { refused = x; kept = kept; journal = journal; reserved = reserved }) d
    ∙ ap (λ x. record w { kept = x; journal = journal; reserved = reserved }) e ∙ same-journal w now journal reserved f g is

-- what is within bounds stays so
pub few-same : (f : WorkerFields) (now : OperatorState) (later : Option ShareState) → now ≡ f.operator_state → is_some later ≡ is_some f.share
    → IfSome later (λ share. share.columns ≡ f.columns) → AreFew f
    → AreFew (record f { operator_state = now; share = later })
few-same f now later e same typed few =
    subst (λ x. AreFew (record f { operator_state = x; share = later })) (sym e)
    (record {
      in_order = few.in_order;
      scans = same-some (f.operator_state ≡ operator_state.Scan) f.share later same few.scans;
      shares = same-some (f.ins ≡ _) f.share later same few.shares;
      typed = typed;
      steps = few.steps;
      unfinished = few.unfinished;
      received = few.received;
      sent = few.sent;
      over = few.over;
      routed = few.routed;
      moved = few.moved;
    })

-- a batch more may be made, and a row more be noted
pub few-made : (f : WorkerFields) → AreFew f → f.finished ≡ false → f.taken + f.emitted + f.batches + one_if f.finished < 2 ^ 40 → All (λ one. one.link.kept.made < 2 ^ 40) f.outs
few-made f few unfinished less k d there = let h = few.sent unfinished k d there in omega arith

pub few-noted : (f : WorkerFields) (rows outs : ℕ) → AreFew f → rows + outs ≡ 1 → f.taken + f.emitted + f.batches + one_if f.finished < 2 ^ 40 → All (λ one. rows_moved one + rows + outs < 2 ^ 64) f.journal
few-noted f rows outs few one less k d there = let h = few.moved k d there in omega arith

pub few-taken : (f : WorkerFields) → AreFew f → All (λ one. one.taken + 1 < 2 ^ 64) f.ins
few-taken f few k d there =
    let h = few.received k d there in
    let steps = few.steps in
    omega arith

pub steps-few : {w now : WorkerState} {n : ℕ} → w ≡ now → steps_made now < n → steps_made w < n
steps-few {n = n} is less = subst (λ w. steps_made w < n) (sym is) less
