-- The scans that read a log.
use Rattle.std.proofs.Common.{◌≡◌, ℕ, ◌+◌, ◌<◌, ◌≤◌, true, false, List, ◌∷◌, length, get_or, drop, None, Some, refl, sym, ap, ◌∙◌}
use Rattle.std.proofs.lemmas.List.{drop_more, drop_all}
use Rattle.amber_rows.specs.declared.flow.Operator.{Operator}
use Rattle.amber_course.specs.Course.{log_scan, is_scan_of}

scan-at : (log : List ℕ) (flow : List Operator) (i : ℕ) (o : Operator) → i < length flow → o ≡ get_or flow i o
    → log_scan (i + 1) log (drop i flow) ≡ log_scan (i + 1) log (o ∷ drop (i + 1) flow)
scan-at log flow i o h is = ap (log_scan (i + 1) log) (drop_more flow i o h ∙ ap (λ x. x ∷ drop (i + 1) flow) (sym is))

-- an operator that does not read the log
pub log-more : (log : List ℕ) (flow : List Operator) (i : ℕ) (o : Operator) → i < length flow → o ≡ get_or flow i o → is_scan_of log o.what ≡ false
    → log_scan 1 log flow ≡ log_scan (i + 1) log (drop i flow) → log_scan 1 log flow ≡ log_scan (i + 1 + 1) log (drop (i + 1) flow)
unfolding log_scan
log-more log flow i o h is other sofar = sofar ∙ scan-at log flow i o h is ∙ rw other refl

-- one that does
pub log-here : (log : List ℕ) (flow : List Operator) (i : ℕ) (o : Operator) → i < length flow → o ≡ get_or flow i o → is_scan_of log o.what ≡ true
    → log_scan 1 log flow ≡ log_scan (i + 1) log (drop i flow) → log_scan 1 log flow ≡ Some (i + 1)
unfolding log_scan
log-here log flow i o h is same sofar = sofar ∙ scan-at log flow i o h is ∙ rw same refl

-- past the last operator
pub log-end : (log : List ℕ) (flow : List Operator) (i : ℕ) → length flow ≤ i → log_scan 1 log flow ≡ log_scan (i + 1) log (drop i flow) → log_scan 1 log flow ≡ None
unfolding log_scan
log-end log flow i h sofar = sofar ∙ rw (drop_all i flow h) refl
