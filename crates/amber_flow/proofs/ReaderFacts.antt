-- How often an operator is read.
use Rattle.std.proofs.Common.{◌≡◌, ℕ, suc, ◌+◌, ◌<◌, ◌==◌, List, [], length, get_or, take, count_by, cond, refl, append-nil, arith}
use Rattle.std.proofs.Math.Seq.{take-suc}
use Rattle.std.proofs.lemmas.Grind.{flat_map-append}
use Rattle.std.proofs.lemmas.List.Sums.{sum_by-append}
use Rattle.std.specs.List.{flat_map}
use Rattle.amber_rows.specs.FlowRules.{reader_count}
use Rattle.amber_rows.specs.Kinds.{inputs_of}
use Rattle.amber_rows.specs.declared.flow.Operator.{Operator}

pub readers-none : (op : ℕ) → reader_count [] op ≡ 0
unfolding reader_count
readers-none op = refl

pub readers-more : (operators : List Operator) (i : ℕ) (x : Operator) (op : ℕ) → i < length operators → x ≡ get_or operators i x
    → reader_count (take (i + 1) operators) op ≡ reader_count (take i operators) op + count_by (λ input. input == op) (inputs_of x.what)
unfolding reader_count
readers-more operators i x op h is =
    let next : i + 1 ≡ suc i = omega arith in
    rw (next, take-suc operators i x, ← is, flat_map-append, append-nil) (sum_by-append (λ input. cond (input == op) 1 0) (flat_map (λ operator. inputs_of operator.what) (take i operators)) (inputs_of x.what))
