-- One more is appended to the others.
use Rattle.std.proofs.Common.{◌≡◌, ◌∙◌, ◌++◌, ◌∷◌, [], None, ap, append-nil, append_assoc, replicate, sym, arith}
use Rattle.std.proofs.lemmas.List.{replicate-append-replicate}
use Rattle.amber_dataflow.proofs.shares.push_none.Goals as goal

pub workers-init : goal.workers-init
workers-init c = record { more = sym (append-nil c.args.shares.now.items) }

pub workers-preserved : goal.workers-preserved
workers-preserved c =
    let old = c.args.shares.now.items in
    let n = c.workers.counter in
    record {
      more = c.in_ok-push.ensures.items ∙ ap (λ shares. shares ++ None ∷ []) c.workers.invariant.more ∙ append_assoc old (replicate n None) (None ∷ [])
          ∙ ap (λ none. old ++ none) (replicate-append-replicate n 1 None);
    }

pub returns : goal.returns
returns c =
    let all : c.workers.counter ≡ c.args.workers = omega arith in
    c.workers.invariant.more ∙ ap (λ n. c.args.shares.now.items ++ replicate n None) all
