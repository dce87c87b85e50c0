-- What an operator keeps and does that was handed nothing, by its kind.
use Rattle.std.proofs.Common.{◌≡◌, is_some, List, [], true, refl, sym, ap, arith}
use Rattle.std.proofs.lemmas.Bool.{false≢true}
use Rattle.amber_rows.specs.Kinds.{build_input, is_scan}
use Rattle.amber_rows.specs.declared.flow.What.{What}
use Rattle.amber_rows.specs.declared.flow.What.TheVariants as what
use Rattle.amber_meaning.specs.State.{first_constants}
use Rattle.amber_meaning.specs.Task.{Role, Task, built_of}
use Rattle.amber_join.specs.Join.{Join}
use Rattle.amber_link.specs.declared.upstreams.Upstream.{Upstream}
use Rattle.amber_operators.specs.Kept.{IsInOrder, KeepsRows}
use Rattle.amber_operators.specs.States.{IsOperatorStateOf, DoesKind}
use Rattle.amber_operators.specs.declared.operator_state.OperatorState.{OperatorState}
use Rattle.amber_operators.specs.declared.operator_state.OperatorState.TheVariants as operator_state

-- what a new worker does under the orders before any command
pub does-first : (d : OperatorState) (kind : What) (role : Role) → IsOperatorStateOf d kind → (is_scan kind ≡ true → role.senders ≡ []) → DoesKind d kind (first_constants kind) role
does-first operator_state.Scan (what.Scan file) role is none = none refl
does-first (operator_state.Filter cond) (what.Filter input own) role is none = is
does-first (operator_state.Project from) (what.Project input columns) role is none = is
does-first (operator_state.Join state) (what.Join build probe build_keys probe_keys) role is none = (ap (λ (s : Join). s.build_keys) is, ap (λ (s : Join). s.probe_keys) is)
does-first (operator_state.Group state) (what.Group input keys aggs) role is none = (is.0, is.1)
does-first operator_state.Sink (what.Sink input) role is none = tt
does-first d kind role is none = absurd is

-- a new worker keeps nothing
pub has-first : (d : OperatorState) (kind : What) (task : Task) → IsOperatorStateOf d kind → KeepsRows d task []
unfolding built_of
has-first operator_state.Scan kind task is = tt
has-first (operator_state.Filter cond) kind task is = tt
has-first (operator_state.Project from) kind task is = tt
has-first (operator_state.Join state) (what.Join build probe build_keys probe_keys) task is = ap (λ (s : Join). s.rows) is
has-first (operator_state.Group state) (what.Group input keys aggs) task is = is.2
has-first operator_state.Sink kind task is = tt
has-first d kind task is = absurd is

pub scan-operator_state : (d : OperatorState) (kind : What) → IsOperatorStateOf d kind → is_scan kind ≡ true → d ≡ operator_state.Scan
scan-operator_state operator_state.Scan kind is scans = refl
scan-operator_state (operator_state.Filter cond) (what.Filter input own) is scans = absurd (false≢true scans)
scan-operator_state (operator_state.Project from) (what.Project input columns) is scans = absurd (false≢true scans)
scan-operator_state (operator_state.Join state) (what.Join build probe build_keys probe_keys) is scans = absurd (false≢true scans)
scan-operator_state (operator_state.Group state) (what.Group input keys aggs) is scans = absurd (false≢true scans)
scan-operator_state operator_state.Sink (what.Sink input) is scans = absurd (false≢true scans)
scan-operator_state d kind is scans = absurd is

-- what a new worker keeps is in order
pub order-first : (d : OperatorState) (kind : What) (ins : List Upstream) → IsOperatorStateOf d kind → IsInOrder d (is_some (build_input kind)) 0 ins
order-first operator_state.Scan kind ins is = tt
order-first (operator_state.Filter cond) kind ins is = tt
order-first (operator_state.Project from) kind ins is = tt
order-first (operator_state.Join state) (what.Join build probe build_keys probe_keys) ins is = (ap (λ (s : Join). s.sealed) is, λ no. absurd (false≢true (sym no)))
order-first (operator_state.Group state) (what.Group input keys aggs) ins is = let none = is.2.0 in omega arith
order-first operator_state.Sink kind ins is = tt
order-first d kind ins is = absurd is
